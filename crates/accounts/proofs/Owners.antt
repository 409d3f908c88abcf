-- What holds of each reservation, and stays.
use Rattle.std.proofs.Common.{◌≡◌, ◌≢◌, ◌<◌, ◌==◌, nat_le, ℕ, ◌-◌, Bool, true, false, cond, not, [], ◌∷◌, Option, Some, None, IfSome, refl, sym, subst, arith}
use Rattle.std.proofs.lemmas.Bool.Decides.{nat_tests}
use Rattle.std.specs.declared.cmp.Ordering.{Ordering}
use Rattle.std.specs.declared.cmp.Ordering.TheVariants.{Less, Equal, Greater}
use Rattle.std.specs.Ordering.{eq_by_cmp, is_eq}
use Rattle.std.specs.Prelude.{⊤}
use Rattle.std.specs.FinMap as map
use Rattle.accounts.specs.declared.reservation.Key.{Key}
use Rattle.accounts.specs.declared.reservation.Reservation.{Reservation}
use Rattle.accounts.specs.Reservations.{at, key_cmp, keys_total, ReservationMap, keys_exact}
use Rattle.accounts.specs.Endings.{Ending, Session, Until, ends, without, without_at}
use Rattle.accounts.specs.Ledger.{State}
use Rattle.accounts.specs.Moves.{Move, Added, ToppedUp, Charged, Reserved, Released, ReleasedAll, Expired, after, lessened, lessened_at, state_of}
use Rattle.accounts.specs.Steps.{keeps_owners, OwnersStay, SomeIsLeft}

is_equal : (r : Ordering) → is_eq r ≡ true → r ≡ Equal
is_equal Less e = cc
is_equal Equal e = refl
is_equal Greater e = cc

either : (c : Bool) (v w : Option Reservation) (P : Reservation → Type 0) → (c ≡ true → IfSome v P) → IfSome w P → IfSome (cond c v w) P
either true v w P p q = p refl
either false v w P p q = q

module _ (P : Key → Reservation → Type 0) where
  abbrev All : ReservationMap → Type 0
  All m = (k : Key) → IfSome (map.get m k) (P k)

  all_insert : (m : ReservationMap) (k : Key) (r : Reservation) → All m → P k r → All (map.insert m k r)
  all_insert m k r a p q = subst (λ v. IfSome v (P q)) (sym (map.get-insert keys_total m k r q)) (either (eq_by_cmp key_cmp q k) (Some r) (map.get m q) (P q) (λ e. subst (λ j. P j r) (sym (keys_exact q k (is_equal _ e))) p) (a q))

  all_remove : (m : ReservationMap) (k : Key) → All m → All (map.remove m k)
  all_remove m k a q = subst (λ v. IfSome v (P q)) (sym (map.get-remove keys_total m k q)) (either (eq_by_cmp key_cmp q k) None (map.get m q) (P q) (λ e. tt) (a q))

  all_without : (m : ReservationMap) (g : Ending) → All m → All (without m g)
  all_without m g a q = subst (λ v. IfSome v (P q)) (sym (without_at m g q)) (kept (not (ends g q (map.get m q))))
    where
      kept : (c : Bool) → IfSome (cond c (map.get m q) None) (P q)
      kept true = a q
      kept false = tt

  -- a reservation of which something was taken is still such a one
  abbrev IsClosed : Type 0
  IsClosed = (k : Key) (r : Reservation) (x : ℕ) → P k r → x < r.left → P k (record { account = r.account; left = r.left - x; deadline = r.deadline })

  all_lessened : IsClosed → (m : ReservationMap) (k : Key) (x : ℕ) → All m → All (lessened m k x)
  all_lessened closed m k x a = by_case (map.get m k) (a k)
    where
      by_case : (w : Option Reservation) → IfSome w (P k) → All (lessened_at m k x w)
      by_case None p = a
      by_case (Some r) p = elim (nat_le r.left x) as (λ b. nat_le r.left x ≡ b → All (cond b (map.remove m k) (map.insert m k (record { account = r.account; left = r.left - x; deadline = r.deadline })))) [
        | true ↦ λ t. all_remove m k a
        | false ↦ λ t. all_insert m k _ a (closed k r x p (let q : x < r.left = grind (arith, nat_tests) in q))
      ] refl

  -- a new reservation is such a one
  abbrev IsNew : Move → Type 0
  IsNew (Reserved a t g x d) = x ≢ 0 → P (at t g) (record { account = a; left = x; deadline = d })
  IsNew Added = ⊤
  IsNew (ToppedUp a x) = ⊤
  IsNew (Charged a t g lsn x) = ⊤
  IsNew (Released t g) = ⊤
  IsNew (ReleasedAll t) = ⊤
  IsNew (Expired m) = ⊤

  all_after : IsClosed → (s : State) (m : Move) → All s.reservations → IsNew m → All (after m s).reservations
  all_after closed s Added a n = a
  all_after closed s (ToppedUp b x) a n = a
  all_after closed s (Charged b t g lsn x) a n = all_lessened closed s.reservations (at t g) x a
  all_after closed s (Reserved b t g x d) a n = elim (x == 0) as (λ c. ◌==◌ x 0 ≡ c → All (cond c s.reservations (map.insert s.reservations (at t g) (record { account = b; left = x; deadline = d })))) [
    | true ↦ λ e. a
    | false ↦ λ e. all_insert s.reservations (at t g) _ a (n (let z : x ≢ 0 = grind (arith, nat_tests) in z))
  ] refl
  all_after closed s (Released t g) a n = all_remove s.reservations (at t g) a
  all_after closed s (ReleasedAll t) a n = all_without s.reservations (Session t) a
  all_after closed s (Expired m) a n = all_without s.reservations (Until m) a

pub owners_stay : OwnersStay
owners_stay owner s m a keeps = all_after (λ k r. owner k r.account ≡ true) (λ k r x p lt. p) s m a (new m keeps)
  where
    new : (m : Move) → keeps_owners owner m ≡ true → IsNew (λ k r. owner k r.account ≡ true) m
    new Added e = tt
    new (ToppedUp b x) e = tt
    new (Charged b t g lsn x) e = tt
    new (Reserved b t g x d) e = λ _. e
    new (Released t g) e = tt
    new (ReleasedAll t) e = tt
    new (Expired m) e = tt

pub some_is_left : SomeIsLeft
some_is_left [] k = subst (λ v. IfSome v (λ (r : Reservation). 0 < r.left)) (sym (map.get-empty key_cmp k)) tt
some_is_left (m ∷ ms) k = all_after (λ _ r. 0 < r.left) (λ k r x p lt. omega arith) (state_of ms) m (some_is_left ms) (new m) k
  where
    new : (m : Move) → IsNew (λ _ (r : Reservation). 0 < r.left) m
    new Added = tt
    new (ToppedUp b x) = tt
    new (Charged b t g lsn x) = tt
    new (Reserved b t g x d) = λ n. omega arith
    new (Released t g) = tt
    new (ReleasedAll t) = tt
    new (Expired m) = tt
