-- The kept numbers after a change to one account.
use Rattle.std.proofs.Common.{◌≡◌, ◌≢◌, ◌≤◌, ◌<◌, ℕ, ◌+◌, ◌-◌, min, Bool, true, false, cond, nat_le, ◌==◌, List, [], ◌∷◌, ◌++◌, length, Option, Some, None, IfSome, refl, sym, ap, ◌∙◌, subst, arith, sum_by, slice_index_or, slice_set, map as each, ⊎_elim}
use Rattle.std.proofs.lemmas.Bool.{cases_eq}
use Rattle.std.proofs.lemmas.List.{get_or-set_same, get_or-set_other, map-set, length-map, get_or_default, set-get_or, length-set}
use Rattle.std.specs.declared.cmp.Ordering.{Ordering}
use Rattle.std.specs.declared.cmp.Ordering.TheVariants.{Less, Equal, Greater}
use Rattle.std.specs.Ordering.{eq_by_cmp, is_eq}
use Rattle.std.proofs.lemmas.Bool.Decides.{nat_tests}
use Rattle.accounts.proofs.FinSums.{weight, sum-insert, sum-remove}
use Rattle.std.specs.Cmp.{tied_itself}
use Rattle.std.proofs.Math.ListN.{get_or-map}
use Rattle.std.specs.FinMap as map
use Rattle.accounts.proofs.Sound.{sound_topup, sound_charge, lessened_own, lessened_other}
use Rattle.accounts.specs.declared.reservation.Key.{Key}
use Rattle.accounts.specs.declared.reservation.Reservation.{Reservation}
use Rattle.accounts.specs.declared.line.Line.{Line}
use Rattle.accounts.specs.declared.account.Account.{Account}
use Rattle.accounts.specs.Reservations.{at, key_cmp, keys_total, ReservationMap, left_of, keys_exact}
use Rattle.accounts.specs.Ledger.{Numbers, State, nothing, numbers, left, share, reserved, free, from_own, from_free, uncovered}
use Rattle.accounts.specs.Moves.{ToppedUp, Charged, Reserved, Released, topped_up, debited, lessened_at, lessened, after}
use Rattle.accounts.specs.Numbers.{numbers_of}
use Rattle.accounts.specs.Caches.{IsStanding, no_account, state_seen, IsSound, AreKept}

pub read_is : (xs : List Account) (a : ℕ) (x : Account) → a < length xs → x ≡ slice_index_or xs a x → slice_index_or xs a no_account ≡ x
read_is xs a x lt e = get_or_default xs a no_account x lt ∙ sym e

pub seen_length : (xs : List Account) → length (each numbers_of xs) ≡ length xs
seen_length xs = simp length-map

pub numbers_seen : (xs : List Account) (m : ReservationMap) (ls : List Line) (a : ℕ) → numbers (state_seen xs m ls) a ≡ numbers_of (slice_index_or xs a no_account)
numbers_seen xs m ls a = get_or-map numbers_of xs a no_account

at_account : (xs : List Account) (a b : ℕ) (n : Account) (P : Account → Type 0) → a < length xs → (b ≡ a → P n) → (b ≢ a → P (slice_index_or xs b no_account)) → P (slice_index_or (slice_set xs a n) b no_account)
at_account xs a b n P lt same other = ⊎_elim
    (λ (e : b ≡ a). subst (λ j. P (slice_index_or (slice_set xs a n) j no_account)) (sym e) (subst P (sym (get_or-set_same xs a n no_account lt)) (same e)))
    (λ (e : b ≢ a). subst P (sym (get_or-set_other xs a b n no_account e)) (other e))
    (cases_eq b a)

-- the kept fields now stand for this state
pub record Stands (xs : List Account) (m : ReservationMap) (ls : List Line) (s : State) : Type 0 where
  pub kept : AreKept xs m ls
  pub state : state_seen xs m ls ≡ s

is_tied : (r : Ordering) → is_eq r ≡ true → r ≡ Equal
is_tied Less e = cc
is_tied Equal e = refl
is_tied Greater e = cc

abbrev pub AreKnown : ℕ → ReservationMap → Type 0
AreKnown n m = (k : Key) → IfSome (map.get m k) (IsStanding n)

either : (c : Bool) (v w : Option Reservation) (P : Reservation → Type 0) → IfSome v P → IfSome w P → IfSome (cond c v w) P
either true v w P p q = p
either false v w P p q = q

pub known_insert : (n : ℕ) (m : ReservationMap) (k : Key) (h : Reservation) → AreKnown n m → IsStanding n h → AreKnown n (map.insert m k h)
known_insert n m k h a p q = subst (λ v. IfSome v (IsStanding n)) (sym (map.get-insert keys_total m k h q)) (either (eq_by_cmp key_cmp q k) (Some h) (map.get m q) (IsStanding n) p (a q))

pub known_remove : (n : ℕ) (m : ReservationMap) (k : Key) → AreKnown n m → AreKnown n (map.remove m k)
known_remove n m k a q = subst (λ v. IfSome v (IsStanding n)) (sym (map.get-remove keys_total m k q)) (either (eq_by_cmp key_cmp q k) None (map.get m q) (IsStanding n) tt (a q))

pub known_less : (n : ℕ) (m : ReservationMap) (k : Key) (x : ℕ) → AreKnown n m → AreKnown n (lessened m k x)
known_less n m k x a = by_case (map.get m k) (a k)
  where
    by_case : (w : Option Reservation) → IfSome w (IsStanding n) → AreKnown n (lessened_at m k x w)
    by_case None p = a
    by_case (Some h) p = elim (nat_le h.left x) as (λ b. nat_le h.left x ≡ b → AreKnown n (cond b (map.remove m k) (map.insert m k (record { account = h.account; left = h.left - x; deadline = h.deadline })))) [
      | true ↦ λ t. known_remove n m k a
      | false ↦ λ t. known_insert n m k _ a (p.0, (let q : x < h.left = grind (arith, nat_tests) in omega arith))
    ] refl

set_length : (xs : List Account) (a : ℕ) (one : Account) → length (slice_set xs a one) ≡ length xs
set_length xs a one = simp length-set

changed : (xs : List Account) (a : ℕ) (one : Account) (n : ReservationMap) (ks : List Line) (s : State) → state_seen (slice_set xs a one) n ks ≡ s → ((b : ℕ) → IsSound s b) → ((b : ℕ) → (slice_index_or (slice_set xs a one) b no_account).reserved ≡ sum_by (share b) (map.values n)) → AreKnown (length xs) n
    → Stands (slice_set xs a one) n ks s
changed xs a one n ks s e h r q = record { kept = record { sums = r; sound = λ b. subst (λ z. IsSound z b) (sym e) (h b); known = subst (λ l. AreKnown l n) (sym (set_length xs a one)) q }; state = e }

pub topup_stands : (xs : List Account) (m : ReservationMap) (ls : List Line) (a x : ℕ) (old one : Account) → AreKept xs m ls → a < length xs → old ≡ slice_index_or xs a old
    → numbers_of one ≡ topped_up (numbers_of old) x → one.reserved ≡ old.reserved → Stands (slice_set xs a one) m ls (after (ToppedUp a x) (state_seen xs m ls))
topup_stands xs m ls a x old one k lt is e r =
    let s = state_seen xs m ls in
    let was : slice_index_or xs a no_account ≡ old = read_is xs a old lt is in
    let n : numbers s a ≡ numbers_of old = numbers_seen xs m ls a ∙ ap numbers_of was in
    let state : state_seen (slice_set xs a one) m ls ≡ after (ToppedUp a x) s =
    ap (λ (l : List Numbers). record { accounts = l; reservations = m; lines = ls }) (map-set numbers_of xs a one ∙ ap (slice_set (each numbers_of xs) a) (e ∙ ap (λ v. topped_up v x) (sym n))) in
    changed xs a one m ls _ state (λ b. sound_topup s a x b (subst (λ l. a < l) (sym (seen_length xs)) lt) (k.sound b))
    (λ b. at_account xs a b one (λ z. z.reserved ≡ sum_by (share b) (map.values m)) lt
    (λ e. r ∙ sym (ap (λ z. z.reserved) was) ∙ subst (λ j. (slice_index_or xs a no_account).reserved ≡ sum_by (share j) (map.values m)) (sym e) (k.sums a))
    (λ _. k.sums b))
    k.known

pub charge_stands : (xs : List Account) (m : ReservationMap) (ls : List Line) (a t g lsn x : ℕ) (old one : Account) → AreKept xs m ls → a < length xs → old ≡ slice_index_or xs a old
    → IfSome (map.get m (at t g)) (λ h. h.account ≡ a) → numbers_of one ≡ debited (numbers_of old) (min x (left_of (map.get m (at t g))) + min (x - left_of (map.get m (at t g))) (old.topups - old.taken - old.reserved)) (x - left_of (map.get m (at t g)) - (old.topups - old.taken - old.reserved))
    → one.reserved + min x (left_of (map.get m (at t g))) ≡ old.reserved
    → Stands (slice_set xs a one) (lessened m (at t g) x) (ls ++ record { account = a; session = t; lsn = lsn; amount = x } ∷ []) (after (Charged a t g lsn x) (state_seen xs m ls))
charge_stands xs m ls a t g lsn x old one k lt is own e r =
    let s = state_seen xs m ls in
    let l : Line = record { account = a; session = t; lsn = lsn; amount = x } in
    let was : slice_index_or xs a no_account ≡ old = read_is xs a old lt is in
    let n : numbers s a ≡ numbers_of old = numbers_seen xs m ls a ∙ ap numbers_of was in
    let set_aside : old.reserved ≡ reserved s a = sym (ap (λ z. z.reserved) was) ∙ k.sums a in
    let same : debited (numbers_of old) (min x (left_of (map.get m (at t g))) + min (x - left_of (map.get m (at t g))) (old.topups - old.taken - old.reserved)) (x - left_of (map.get m (at t g)) - (old.topups - old.taken - old.reserved))
    ≡ debited (numbers s a) (from_own s (at t g) x + from_free s a (at t g) x) (uncovered s a (at t g) x) =
    ap (λ (w : Numbers × ℕ). debited w.0 (min x (left s (at t g)) + min (x - left s (at t g)) (w.0.topups - w.0.taken - w.1)) (x - left s (at t g) - (w.0.topups - w.0.taken - w.1))) {x = (numbers_of old, old.reserved)} {y = (numbers s a, reserved s a)} (λ i. (sym n i, set_aside i)) in
    let state : state_seen (slice_set xs a one) (lessened m (at t g) x) (ls ++ l ∷ []) ≡ after (Charged a t g lsn x) s =
    ap (λ (z : List Numbers). record { accounts = z; reservations = lessened m (at t g) x; lines = ls ++ l ∷ [] }) (map-set numbers_of xs a one ∙ ap (slice_set (each numbers_of xs) a) (e ∙ same)) in
    let all = k.sums a in
    changed xs a one (lessened m (at t g) x) (ls ++ l ∷ []) _ state (λ b. sound_charge s a t g lsn x b (subst (λ l. a < l) (sym (seen_length xs)) lt) own (k.sound b))
    (λ b. at_account xs a b one (λ z. z.reserved ≡ sum_by (share b) (map.values (lessened m (at t g) x))) lt
    (λ e. let q = lessened_own m (at t g) x a own in subst (λ j. one.reserved ≡ sum_by (share j) (map.values (lessened m (at t g) x))) (sym e) (omega arith))
    (λ e. k.sums b ∙ sym (lessened_other m (at t g) x a b own e)))
    (known_less (length xs) m (at t g) x k.known)

-- the same, from what the parts of a charge are
pub charge_done : (xs : List Account) (m : ReservationMap) (ls : List Line) (a t g lsn x : ℕ) (old one : Account) (lf own free owed : ℕ) → AreKept xs m ls → a < length xs → old ≡ slice_index_or xs a old
    → IfSome (map.get m (at t g)) (λ h. h.account ≡ a) → lf ≡ left_of (map.get m (at t g)) → own ≡ min x lf → free ≡ min (x - lf) (old.topups - old.taken - old.reserved) → owed ≡ x - lf - (old.topups - old.taken - old.reserved)
    → numbers_of one ≡ debited (numbers_of old) (own + free) owed → one.reserved + own ≡ old.reserved
    → Stands (slice_set xs a one) (lessened m (at t g) x) (ls ++ record { account = a; session = t; lsn = lsn; amount = x } ∷ []) (after (Charged a t g lsn x) (state_seen xs m ls))
charge_done xs m ls a t g lsn x old one lf own free owed k lt is o el e1 e2 e3 n r =
    charge_stands xs m ls a t g lsn x old one k lt is o
    (n ∙ parts)
    (ap (λ z. one.reserved + z) (sym (e1 ∙ ap (min x) el)) ∙ r)
  where
    rest : ℕ
    rest = old.topups - old.taken - old.reserved

    parts : debited (numbers_of old) (own + free) owed ≡ debited (numbers_of old) (min x (left_of (map.get m (at t g))) + min (x - left_of (map.get m (at t g))) (old.topups - old.taken - old.reserved)) (x - left_of (map.get m (at t g)) - (old.topups - old.taken - old.reserved))
    parts = λ i. debited (numbers_of old) ((e1 ∙ ap (min x) el) i + (e2 ∙ ap (λ z. min (x - z) (old.topups - old.taken - old.reserved)) el) i) ((e3 ∙ ap (λ z. x - z - (old.topups - old.taken - old.reserved)) el) i)

-- what is left of a reservation is within what is set aside
pub own_within : (xs : List Account) (m : ReservationMap) (ls : List Line) (a t g x : ℕ) (old : Account) (lf own : ℕ) → AreKept xs m ls → a < length xs → old ≡ slice_index_or xs a old
    → IfSome (map.get m (at t g)) (λ h. h.account ≡ a) → lf ≡ left_of (map.get m (at t g)) → own ≡ min x lf → own ≤ old.reserved
own_within xs m ls a t g x old lf own k lt is o el e1 =
    let was = read_is xs a old lt is in
    let r : old.reserved ≡ sum_by (share a) (map.values m) = sym (ap (λ z. z.reserved) was) ∙ k.sums a in
    let q = lessened_own m (at t g) x a o in
    omega arith

pub free_within : (xs : List Account) (m : ReservationMap) (ls : List Line) (a : ℕ) (old : Account) → AreKept xs m ls → a < length xs → old ≡ slice_index_or xs a old → old.reserved + old.taken ≤ old.topups
free_within xs m ls a old k lt is =
    let was : slice_index_or xs a no_account ≡ old = read_is xs a old lt is in
    let n : numbers (state_seen xs m ls) a ≡ numbers_of old = numbers_seen xs m ls a ∙ ap numbers_of was in
    let r : old.reserved ≡ sum_by (share a) (map.values m) = sym (ap (λ z. z.reserved) was) ∙ k.sums a in
    let b = (k.sound a).balance in
    let t : (numbers (state_seen xs m ls) a).taken ≡ old.taken = ap (λ z. z.taken) n in
    let u : (numbers (state_seen xs m ls) a).topups ≡ old.topups = ap (λ z. z.topups) n in
    omega arith

pub none_set_aside : (a : ℕ) → sum_by (share a) (map.values (map.empty {R = key_cmp})) ≡ 0
none_set_aside a = ap (λ es. sum_by (share a) (each (λ (e : Key × Reservation). e.1) es)) (no_entries (map.entries (map.empty {R = key_cmp})) (sym (map.len-entries map.empty) ∙ map.len-empty key_cmp Reservation))
  where
    no_entries : (es : List (Key × Reservation)) → length es ≡ 0 → es ≡ []
    no_entries [] e = refl
    no_entries (x ∷ es) e = absurd (omega arith)

pub empty_kept : AreKept [] map.empty []
empty_kept = record { sums = λ a. sym (none_set_aside a); sound = λ a. record { balance = let n = none_set_aside a in omega arith; debits = refl }; known = λ q. subst (λ v. IfSome v (IsStanding 0)) (sym (map.get-empty key_cmp q)) tt }

-- a change of reservations alone, where each other account's are as before
pub reservations_stand : (xs : List Account) (m n : ReservationMap) (ls : List Line) (a : ℕ) (old one : Account) → AreKept xs m ls → a < length xs → old ≡ slice_index_or xs a old
    → numbers_of one ≡ numbers_of old → one.reserved ≡ sum_by (share a) (map.values n) → one.reserved + one.taken ≤ one.topups → ((b : ℕ) → b ≢ a → sum_by (share b) (map.values n) ≡ sum_by (share b) (map.values m)) → AreKnown (length xs) n
    → Stands (slice_set xs a one) n ls (record (state_seen xs m ls) { reservations = n })
reservations_stand xs m n ls a old one k lt is e r w o kn =
    let s = state_seen xs m ls in
    let was : slice_index_or xs a no_account ≡ old = read_is xs a old lt is in
    let v : numbers s a ≡ numbers_of old = numbers_seen xs m ls a ∙ ap numbers_of was in
    let same : slice_set (each numbers_of xs) a (numbers_of one) ≡ each numbers_of xs = ap (slice_set (each numbers_of xs) a) (e ∙ sym v) ∙ set-get_or (each numbers_of xs) a nothing in
    let state : state_seen (slice_set xs a one) n ls ≡ record s { reservations = n } = ap (λ (l : List Numbers). record { accounts = l; reservations = n; lines = ls }) (map-set numbers_of xs a one ∙ same) in
    changed xs a one n ls _ state
    (λ b. record {
      balance = ⊎_elim
          (λ (q : b ≡ a). subst (λ j. sum_by (share j) (map.values n) + (numbers s j).taken ≤ (numbers s j).topups) (sym q)
          (let t : (numbers s a).taken ≡ one.taken = ap (λ z. z.taken) (v ∙ sym e) in let u : (numbers s a).topups ≡ one.topups = ap (λ z. z.topups) (v ∙ sym e) in omega arith))
          (λ (q : b ≢ a). let t = o b q in let u = (k.sound b).balance in omega arith)
          (cases_eq b a);
      debits = (k.sound b).debits;
    })
    (λ b. at_account xs a b one (λ z. z.reserved ≡ sum_by (share b) (map.values n)) lt
    (λ q. subst (λ j. one.reserved ≡ sum_by (share j) (map.values n)) (sym q) r)
    (λ q. k.sums b ∙ sym (o b q)))
    kn

share_is : (h : Reservation) (b : ℕ) → h.account ≡ b → share b h ≡ h.left
share_is h b e = grind (arith, nat_tests)

share_not : (h : Reservation) (b : ℕ) → h.account ≢ b → share b h ≡ 0
share_not h b e = grind (arith, nat_tests)

-- a new reservation
pub inserted_own : (m : ReservationMap) (k : Key) (a x : ℕ) (d : Option ℕ) → map.get m k ≡ None → sum_by (share a) (map.values (map.insert m k (record { account = a; left = x; deadline = d }))) ≡ sum_by (share a) (map.values m) + x
inserted_own m k a x d e =
    let h : Reservation = record { account = a; left = x; deadline = d } in
    let i = sum-insert keys_total (share a) m k h in
    let w : weight (share a) (map.get m k) ≡ 0 = ap (weight (share a)) e in
    let s : share a h ≡ x = share_is h a refl in
    omega arith

pub inserted_other : (m : ReservationMap) (k : Key) (a x b : ℕ) (d : Option ℕ) → map.get m k ≡ None → b ≢ a → sum_by (share b) (map.values (map.insert m k (record { account = a; left = x; deadline = d }))) ≡ sum_by (share b) (map.values m)
inserted_other m k a x b d e n =
    let h : Reservation = record { account = a; left = x; deadline = d } in
    let i = sum-insert keys_total (share b) m k h in
    let w : weight (share b) (map.get m k) ≡ 0 = ap (weight (share b)) e in
    let s : share b h ≡ 0 = share_not h b (λ z. n (sym z)) in
    omega arith

pub removed_own : (m : ReservationMap) (k : Key) (h : Reservation) → map.get m k ≡ Some h → sum_by (share h.account) (map.values (map.remove m k)) + h.left ≡ sum_by (share h.account) (map.values m)
removed_own m k h e =
    let i = sum-remove keys_total (share h.account) keys_exact m k in
    let w : weight (share h.account) (map.get m k) ≡ h.left = ap (weight (share h.account)) e ∙ share_is h h.account refl in
    omega arith

pub removed_other : (m : ReservationMap) (k : Key) (h : Reservation) (b : ℕ) → map.get m k ≡ Some h → b ≢ h.account → sum_by (share b) (map.values (map.remove m k)) ≡ sum_by (share b) (map.values m)
removed_other m k h b e n =
    let i = sum-remove keys_total (share b) keys_exact m k in
    let w : weight (share b) (map.get m k) ≡ 0 = ap (weight (share b)) e ∙ share_not h b (λ z. n (sym z)) in
    omega arith

within : (xs : List Account) (m : ReservationMap) (ls : List Line) (k : Key) (h : Reservation) (old : Account) → AreKept xs m ls → map.get m k ≡ Some h → old ≡ slice_index_or xs h.account old → (h.account < length xs) × (h.left ≤ old.reserved)
within xs m ls k h old kept e is =
    let lt : h.account < length xs = (subst (λ w. IfSome w (IsStanding (length xs))) e (kept.known k)).0 in
    let was = read_is xs h.account old lt is in
    let r : old.reserved ≡ sum_by (share h.account) (map.values m) = sym (ap (λ z. z.reserved) was) ∙ kept.sums h.account in
    let q = removed_own m k h e in
    (lt, omega arith)

pub release_fits : (xs : List Account) (m : ReservationMap) (ls : List Line) (k : Key) (h : Reservation) (old : Account) → AreKept xs m ls → map.get m k ≡ Some h → old ≡ slice_index_or xs h.account old → h.left ≤ old.reserved
release_fits xs m ls k h old kept e is = (within xs m ls k h old kept e is).1

pub release_stands : (xs : List Account) (m : ReservationMap) (ls : List Line) (t g : ℕ) (h : Reservation) (old one : Account) → AreKept xs m ls → map.get m (at t g) ≡ Some h → old ≡ slice_index_or xs h.account old
    → numbers_of one ≡ numbers_of old → one.reserved ≡ old.reserved - h.left → Stands (slice_set xs h.account one) (map.remove m (at t g)) ls (after (Released t g) (state_seen xs m ls))
release_stands xs m ls t g h old one kept e is n r =
    let w = within xs m ls (at t g) h old kept e is in
    let lt = w.0 in
    let le = w.1 in
    let was = read_is xs h.account old lt is in
    let s : old.reserved ≡ sum_by (share h.account) (map.values m) = sym (ap (λ z. z.reserved) was) ∙ kept.sums h.account in
    let q = removed_own m (at t g) h e in
    let f = free_within xs m ls h.account old kept lt is in
    let t1 : one.taken ≡ old.taken = ap (λ z. z.taken) n in
    let t2 : one.topups ≡ old.topups = ap (λ z. z.topups) n in
    reservations_stand xs m (map.remove m (at t g)) ls h.account old one kept lt is n (omega arith) (omega arith) (λ b ne. removed_other m (at t g) h b e ne) (known_remove (length xs) m (at t g) kept.known)

-- to remove what is not there changes nothing
pub remove_none : (m : ReservationMap) (k : Key) → map.get m k ≡ None → map.remove m k ≡ m
remove_none m k e = map.same_map keys_total keys_exact _ _ (λ q. map.get-remove keys_total m k q ∙ missing q)
  where
    missing : (q : Key) → cond (eq_by_cmp key_cmp q k) None (map.get m q) ≡ map.get m q
    missing q = elim (eq_by_cmp key_cmp q k) as (λ b. eq_by_cmp key_cmp q k ≡ b → cond b None (map.get m q) ≡ map.get m q) [
      | true ↦ λ t. sym (ap (map.get m) (keys_exact q k (is_tied _ t)) ∙ e)
      | false ↦ λ t. refl
    ] refl

pub release_none : (s : State) (t g : ℕ) → map.get s.reservations (at t g) ≡ None → s ≡ after (Released t g) s
release_none s t g e = ap (λ (m : ReservationMap). record s { reservations = m }) (sym (remove_none s.reservations (at t g) e))

pub reserve_stands : (xs : List Account) (m : ReservationMap) (ls : List Line) (a t g x : ℕ) (d : Option ℕ) (old one : Account) → AreKept xs m ls → a < length xs → old ≡ slice_index_or xs a old → map.get m (at t g) ≡ None
    → x ≤ old.topups - old.taken - old.reserved → x ≢ 0 → numbers_of one ≡ numbers_of old → one.reserved ≡ old.reserved + x
    → Stands (slice_set xs a one) (map.insert m (at t g) (record { account = a; left = x; deadline = d })) ls (after (Reserved a t g x d) (state_seen xs m ls))
reserve_stands xs m ls a t g x d old one kept lt is e le nz n r =
    let h : Reservation = record { account = a; left = x; deadline = d } in
    let was = read_is xs a old lt is in
    let s : old.reserved ≡ sum_by (share a) (map.values m) = sym (ap (λ z. z.reserved) was) ∙ kept.sums a in
    let q = inserted_own m (at t g) a x d e in
    let f = free_within xs m ls a old kept lt is in
    let t1 : one.taken ≡ old.taken = ap (λ z. z.taken) n in
    let t2 : one.topups ≡ old.topups = ap (λ z. z.topups) n in
    let st = reservations_stand xs m (map.insert m (at t g) h) ls a old one kept lt is n (omega arith) (omega arith) (λ b ne. inserted_other m (at t g) a x b d e ne) (known_insert (length xs) m (at t g) h kept.known (lt, omega arith)) in
    let z : ◌==◌ x 0 ≡ false = grind (arith, nat_tests) in
    record { kept = st.kept; state = st.state ∙ ap (λ b. record (state_seen xs m ls) { reservations = cond b m (map.insert m (at t g) h) }) (sym z) }

get_less_own : (m : ReservationMap) (k : Key) (x a : ℕ) → IfSome (map.get m k) (λ h. h.account ≡ a) → weight (share a) (map.get (lessened m k x) k) ≡ left_of (map.get m k) - x
get_less_own m k x a = by_case (map.get m k) refl
  where
    by_case : (w : Option Reservation) → map.get m k ≡ w → IfSome w (λ h. h.account ≡ a) → weight (share a) (map.get (lessened_at m k x w) k) ≡ left_of w - x
    by_case None e o = let z : weight (share a) (map.get m k) ≡ 0 = ap (weight (share a)) e in omega arith
    by_case (Some h) e o =
        let g : Reservation = record { account = h.account; left = h.left - x; deadline = h.deadline } in
        let tied : eq_by_cmp key_cmp k k ≡ true = ap is_eq (tied_itself keys_total k) in
        let r : weight (share a) (map.get (map.remove m k) k) ≡ 0 = ap (weight (share a)) (map.get-remove keys_total m k k ∙ ap (λ b. cond b None (map.get m k)) tied) in
        let i : weight (share a) (map.get (map.insert m k g) k) ≡ h.left - x = ap (weight (share a)) (map.get-insert keys_total m k g k ∙ ap (λ b. cond b (Some g) (map.get m k)) tied) ∙ share_is g a o in
        elim (nat_le h.left x) as (λ b. nat_le h.left x ≡ b → weight (share a) (map.get (cond b (map.remove m k) (map.insert m k g)) k) ≡ h.left - x) [
          | true ↦ λ t. let q : h.left ≤ x = grind (arith, nat_tests) in omega arith
          | false ↦ λ t. i
        ] refl
