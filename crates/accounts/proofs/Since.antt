-- A reservation since it was made.
use Rattle.std.proofs.Common.{◌≡◌, ◌≢◌, ◌≤◌, ◌<◌, ◌==◌, nat_le, ◌&&◌, not, ℕ, ◌+◌, ◌-◌, Bool, true, false, cond, List, [], ◌∷◌, ◌++◌, Option, Some, None, refl, sym, ap, ◌∙◌, arith, inl, inr, ⊎_elim, ◌⊎◌}
use Rattle.std.proofs.lemmas.Bool.{cases_eq}
use Rattle.std.proofs.lemmas.Bool.Decides.{nat_tests}
use Rattle.std.specs.Ordering.{eq_by_cmp, is_eq}
use Rattle.std.specs.Cmp.{tied_itself, eq_by_cmp_equiv}
use Rattle.std.specs.FinMap as map
use Rattle.accounts.specs.declared.reservation.Key.{Key}
use Rattle.accounts.specs.declared.reservation.Reservation.{Reservation}
use Rattle.accounts.specs.Endings.{Ending, without_at}
use Rattle.accounts.specs.Endings.{Session, Until}
use Rattle.accounts.specs.Reservations.{at, key_eq, key_cmp, keys_total, ReservationMap, left_of, keys_tied}
use Rattle.accounts.specs.Endings.{is_passed, ends, without}
use Rattle.accounts.specs.Ledger.{State}
use Rattle.accounts.specs.Moves.{Move, Added, ToppedUp, Charged, Reserved, Released, ReleasedAll, Expired, lessened_at, lessened, after, state_of}
use Rattle.accounts.specs.Since.{charge_of, charged, leaves, all_leave, sets_nothing, all_set_nothing, HasLeft, OwesNothing, HasNone}

-- what stands there with this much left
abbrev standing : ℕ → Option ℕ → ℕ → Option Reservation
standing a d r = cond (r == 0) None (Some (record { account = a; left = r; deadline = d }))

left_standing : (a r : ℕ) (d : Option ℕ) → left_of (standing a d r) ≡ r
left_standing a r d = ⊎_elim
    (λ (e : r ≡ 0). ap (λ b. left_of (cond b None (Some (record { account = a; left = r; deadline = d })))) (yes r e) ∙ sym e)
    (λ (n : r ≢ 0). ap (λ b. left_of (cond b None (Some (record { account = a; left = r; deadline = d })))) (no r n))
    (cases_eq r 0)
  where
    yes : (r : ℕ) → r ≡ 0 → (r == 0) ≡ true
    yes r e = grind (arith, nat_tests)

    no : (r : ℕ) → r ≢ 0 → (r == 0) ≡ false
    no r e = grind (arith, nat_tests)

pub tied : (k : Key) → eq_by_cmp key_cmp k k ≡ true
tied k = ap is_eq (tied_itself keys_total k)

pub tests : (j k : Key) → eq_by_cmp key_cmp k j ≡ key_eq j k
tests j k = (eq_by_cmp_equiv keys_total).symm k j ∙ keys_tied j k

-- after a charge to another key
pub less_apart : (m : ReservationMap) (j k : Key) (y : ℕ) → key_eq j k ≡ false → map.get (lessened m j y) k ≡ map.get m k
less_apart m j k y n = by_case (map.get m j)
  where
    by_case : (w : Option Reservation) → map.get (lessened_at m j y w) k ≡ map.get m k
    by_case None = refl
    by_case (Some h) = elim (nat_le h.left y) as (λ b. map.get (cond b (map.remove m j) (map.insert m j (record { account = h.account; left = h.left - y; deadline = h.deadline }))) k ≡ map.get m k) [
      | true ↦ map.get-remove keys_total m j k ∙ ap (λ b. cond b None (map.get m k)) (tests j k ∙ n)
      | false ↦ map.get-insert keys_total m j _ k ∙ ap (λ b. cond b (Some (record { account = h.account; left = h.left - y; deadline = h.deadline })) (map.get m k)) (tests j k ∙ n)
    ]

-- after a charge to it
less_here : (m : ReservationMap) (k : Key) (y a r : ℕ) (d : Option ℕ) → map.get m k ≡ standing a d r → map.get (lessened m k y) k ≡ standing a d (r - y)
less_here m k y a r d e = ap (λ w. map.get (lessened_at m k y w) k) e ∙ by_left (cases_eq r 0)
  where
    yes : (r : ℕ) → r ≡ 0 → (r == 0) ≡ true
    yes r e = grind (arith, nat_tests)

    no : (r : ℕ) → r ≢ 0 → (r == 0) ≡ false
    no r e = grind (arith, nat_tests)

    low : (r y : ℕ) → r ≤ y → nat_le r y ≡ true
    low r y e = grind (arith, nat_tests)

    high : (r y : ℕ) → y < r → nat_le r y ≡ false
    high r y e = grind (arith, nat_tests)

    put : ℕ → Reservation
    put n = record { account = a; left = n; deadline = d }

    whole : ReservationMap → Option Reservation → Option Reservation
    whole n w = map.get (lessened_at m k y w) k

    by_left : (r ≡ 0) ⊎ (r ≢ 0) → map.get (lessened_at m k y (standing a d r)) k ≡ standing a d (r - y)
    by_left (inl z) = ap (λ b. map.get (lessened_at m k y (cond b None (Some (record { account = a; left = r; deadline = d })))) k) (yes r z) ∙ e ∙ ap (standing a d) (let h : r ≡ r - y = omega arith in h)
    by_left (inr z) = ap (λ b. map.get (lessened_at m k y (cond b None (Some (record { account = a; left = r; deadline = d })))) k) (no r z) ∙ ⊎_elim
        (λ (w : r - y ≡ 0). ap (λ b. map.get (cond b (map.remove m k) (map.insert m k (record { account = a; left = r - y; deadline = d }))) k) (low r y (omega arith)) ∙ map.get-remove keys_total m k k ∙ ap (λ b. cond b None (map.get m k)) (tied k) ∙ sym (ap (λ b. cond b None (Some (record { account = a; left = r - y; deadline = d }))) (yes (r - y) w)))
        (λ (w : r - y ≢ 0). ap (λ b. map.get (cond b (map.remove m k) (map.insert m k (record { account = a; left = r - y; deadline = d }))) k) (high r y (omega arith)) ∙ map.get-insert keys_total m k _ k ∙ ap (λ b. cond b (Some (record { account = a; left = r - y; deadline = d })) (map.get m k)) (tied k) ∙ sym (ap (λ b. cond b None (Some (record { account = a; left = r - y; deadline = d }))) (no (r - y) w)))
        (cases_eq (r - y) 0)

not_true : (b : Bool) → not b ≡ true → b ≡ false
not_true true e = cc
not_true false e = refl

both_true : (a b : Bool) → (a && b) ≡ true → (a ≡ true) × (b ≡ true)
both_true true b e = (refl, e)
both_true false b e = absurd (cc)

kept_by : (m : ReservationMap) (g : Ending) (k : Key) (a r : ℕ) (d : Option ℕ) → map.get m k ≡ standing a d r → ends g k (standing a d r) ≡ false → map.get (without m g) k ≡ standing a d r
kept_by m g k a r d e n = without_at m g k ∙ ap (λ w. cond (not (ends g k w)) w None) e ∙ ap (λ b. cond (not b) (standing a d r) None) n

ends_standing : (g : Ending) (k : Key) (a r : ℕ) (d : Option ℕ) → ends g k (Some (record { account = a; left = r; deadline = d })) ≡ false → ends g k (standing a d r) ≡ false
ends_standing g k a r d e = elim (r == 0) as (λ b. ends g k (cond b None (Some (record { account = a; left = r; deadline = d }))) ≡ false) [ true ↦ refl | false ↦ e ]

-- one more move
stands_after : (s : State) (m : Move) (k : Key) (a r : ℕ) (d : Option ℕ) → map.get s.reservations k ≡ standing a d r → leaves k d m ≡ true → map.get (after m s).reservations k ≡ standing a d (r - charge_of k m)
stands_after s Added k a r d e l = e ∙ ap (standing a d) (let h : r ≡ r - 0 = omega arith in h)
stands_after s (ToppedUp b x) k a r d e l = e ∙ ap (standing a d) (let h : r ≡ r - 0 = omega arith in h)
stands_after s (Charged b t g lsn y) k a r d e l =
    elim (key_eq (at t g) k) as (λ c. key_eq (at t g) k ≡ c → map.get (lessened s.reservations (at t g) y) k ≡ standing a d (r - cond c y 0)) [
      | true ↦ λ w. let j : at t g ≡ k = Rattle.accounts.proofs.Tables.same_key (at t g) k w in ap (λ z. map.get (lessened s.reservations z y) k) j ∙ less_here s.reservations k y a r d e
      | false ↦ λ w. less_apart s.reservations (at t g) k y w ∙ e ∙ ap (standing a d) (let h : r ≡ r - 0 = omega arith in h)
    ] refl
stands_after s (Reserved b t g y f) k a r d e l =
    let n = not_true (key_eq (at t g) k) l in
    elim (y == 0) as (λ c. map.get (cond c s.reservations (map.insert s.reservations (at t g) (record { account = b; left = y; deadline = f }))) k ≡ standing a d (r - 0)) [
      | true ↦ e ∙ ap (standing a d) (let h : r ≡ r - 0 = omega arith in h)
      | false ↦ map.get-insert keys_total s.reservations (at t g) _ k ∙ ap (λ c. cond c (Some (record { account = b; left = y; deadline = f })) (map.get s.reservations k)) (tests (at t g) k ∙ n) ∙ e ∙ ap (standing a d) (let h : r ≡ r - 0 = omega arith in h)
    ]
stands_after s (Released t g) k a r d e l =
    map.get-remove keys_total s.reservations (at t g) k ∙ ap (λ c. cond c None (map.get s.reservations k)) (tests (at t g) k ∙ not_true (key_eq (at t g) k) l) ∙ e ∙ ap (standing a d) (let h : r ≡ r - 0 = omega arith in h)
stands_after s (ReleasedAll t) k a r d e l = kept_by s.reservations (Session t) k a r d e (ends_standing (Session t) k a r d (not_true (k.session == t) l)) ∙ ap (standing a d) (let h : r ≡ r - 0 = omega arith in h)
stands_after s (Expired m) k a r d e l = kept_by s.reservations (Until m) k a r d e (ends_standing (Until m) k a r d (not_true (is_passed m d) l)) ∙ ap (standing a d) (let h : r ≡ r - 0 = omega arith in h)

stands : (before later : List Move) (a t g x : ℕ) (d : Option ℕ) → map.get (state_of before).reservations (at t g) ≡ None → all_leave (at t g) d later ≡ true
    → map.get (state_of (later ++ Reserved a t g x d ∷ before)).reservations (at t g) ≡ standing a d (x - charged (at t g) later)
stands before [] a t g x d n l = new (cases_eq x 0)
  where
    yes : (r : ℕ) → r ≡ 0 → (r == 0) ≡ true
    yes r e = grind (arith, nat_tests)

    no : (r : ℕ) → r ≢ 0 → (r == 0) ≡ false
    no r e = grind (arith, nat_tests)

    same : x ≡ x - 0
    same = omega arith

    new : (x ≡ 0) ⊎ (x ≢ 0) → map.get (after (Reserved a t g x d) (state_of before)).reservations (at t g) ≡ standing a d (x - 0)
    new (inl z) = ap (λ b. map.get (cond b (state_of before).reservations (map.insert (state_of before).reservations (at t g) (record { account = a; left = x; deadline = d }))) (at t g)) (yes x z) ∙ n ∙ sym (ap (λ b. cond b None (Some (record { account = a; left = x; deadline = d }))) (yes x z)) ∙ ap (standing a d) same
    new (inr z) = ap (λ b. map.get (cond b (state_of before).reservations (map.insert (state_of before).reservations (at t g) (record { account = a; left = x; deadline = d }))) (at t g)) (no x z) ∙ map.get-insert keys_total (state_of before).reservations (at t g) _ (at t g) ∙ ap (λ b. cond b (Some (record { account = a; left = x; deadline = d })) (map.get (state_of before).reservations (at t g))) (tied (at t g)) ∙ sym (ap (λ b. cond b None (Some (record { account = a; left = x; deadline = d }))) (no x z)) ∙ ap (standing a d) same
stands before (m ∷ later) a t g x d n l =
    let p = both_true (leaves (at t g) d m) (all_leave (at t g) d later) l in
    stands_after (state_of (later ++ Reserved a t g x d ∷ before)) m (at t g) a (x - charged (at t g) later) d (stands before later a t g x d n p.1) p.0
    ∙ ap (standing a d) (let h : x - charged (at t g) later - charge_of (at t g) m ≡ x - (charged (at t g) later + charge_of (at t g) m) = omega arith in h)

pub has_left : HasLeft
has_left before later a t g x d n l = ap left_of (stands before later a t g x d n l) ∙ left_standing a (x - charged (at t g) later) d

pub owes_nothing : OwesNothing
owes_nothing before later a t g x y d n l le =
    let h = has_left before later a t g x d n l in
    omega arith

-- a move that sets nothing aside leaves nothing where there was nothing
none_after : (s : State) (m : Move) (k : Key) → map.get s.reservations k ≡ None → sets_nothing k m ≡ true → map.get (after m s).reservations k ≡ None
none_after s Added k e n = e
none_after s (ToppedUp a x) k e n = e
none_after s (Charged a t g lsn y) k e n =
    elim (key_eq (at t g) k) as (λ c. key_eq (at t g) k ≡ c → map.get (lessened s.reservations (at t g) y) k ≡ None) [
      | true ↦ λ w. let j : at t g ≡ k = Rattle.accounts.proofs.Tables.same_key (at t g) k w in ap (λ z. map.get (lessened s.reservations z y) k) j ∙ ap (λ o. map.get (lessened_at s.reservations k y o) k) e ∙ e
      | false ↦ λ w. less_apart s.reservations (at t g) k y w ∙ e
    ] refl
none_after s (Reserved a t g x d) k e n =
    elim (x == 0) as (λ c. map.get (cond c s.reservations (map.insert s.reservations (at t g) (record { account = a; left = x; deadline = d }))) k ≡ None) [
      | true ↦ e
      | false ↦ map.get-insert keys_total s.reservations (at t g) _ k ∙ ap (λ c. cond c (Some (record { account = a; left = x; deadline = d })) (map.get s.reservations k)) (tests (at t g) k ∙ not_true (key_eq (at t g) k) n) ∙ e
    ]
none_after s (Released t g) k e n =
    map.get-remove keys_total s.reservations (at t g) k ∙ elim (eq_by_cmp key_cmp k (at t g)) as (λ b. cond b None (map.get s.reservations k) ≡ None) [ true ↦ refl | false ↦ e ]
none_after s (ReleasedAll t) k e n = without_at s.reservations (Session t) k ∙ ap (λ w. cond (not (ends (Session t) k w)) w None) e
none_after s (Expired m) k e n = without_at s.reservations (Until m) k ∙ ap (λ w. cond (not (ends (Until m) k w)) w None) e

pub has_none : HasNone
has_none before [] k e n = e
has_none before (m ∷ later) k e n =
    let p = both_true (sets_nothing k m) (all_set_nothing k later) n in
    none_after (state_of (later ++ before)) m k (has_none before later k e p.1) p.0
