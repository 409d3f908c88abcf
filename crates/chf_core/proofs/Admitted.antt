-- What a move leaves of reservations and sums.
use Rattle.std.proofs.Common.{◌≡◌, nat_le, min, ℕ, ◌+◌, ◌-◌, Bool, true, false, cond, List, length, Option, Some, None, IfSome, slice_set, sym, subst, arith}
use Rattle.std.proofs.lemmas.List.{length-set}
use Rattle.std.specs.Ordering.{eq_by_cmp}
use Rattle.std.specs.FinMap as map
use Rattle.accounts.specs.declared.reservation.Key.{Key as Pair}
use Rattle.accounts.specs.declared.reservation.Reservation.{Reservation}
use Rattle.accounts.specs.Reservations.{ReservationMap, key_cmp, keys_total}
use Rattle.accounts.specs.Ledger.{Numbers}
use Rattle.accounts.specs.Moves.{debited, lessened, lessened_at}

pub length_set : {X : Type 0} (xs : List X) (i : ℕ) (x : X) → length (slice_set xs i x) ≡ length xs
length_set xs i x = simp length-set

pub either : {X : Type 0} (b : Bool) (v w : Option X) (P : X → Type 0) → IfSome v P → IfSome w P → IfSome (cond b v w) P
either true v w P p q = p
either false v w P p q = q

pub owner_removed : (m : ReservationMap) (k q : Pair) (n : ℕ) → IfSome (map.get m q) (λ r. r.account ≡ n) → IfSome (map.get (map.remove m k) q) (λ r. r.account ≡ n)
owner_removed m k q n h = subst (λ v. IfSome v (λ r. r.account ≡ n)) (sym (map.get-remove keys_total m k q)) (either (eq_by_cmp key_cmp q k) None (map.get m q) (λ r. r.account ≡ n) tt h)

pub owner_inserted : (m : ReservationMap) (k q : Pair) (r : Reservation) (n : ℕ) → r.account ≡ n → IfSome (map.get m q) (λ r. r.account ≡ n) → IfSome (map.get (map.insert m k r) q) (λ r. r.account ≡ n)
owner_inserted m k q r n e h = subst (λ v. IfSome v (λ r. r.account ≡ n)) (sym (map.get-insert keys_total m k r q)) (either (eq_by_cmp key_cmp q k) (Some r) (map.get m q) (λ r. r.account ≡ n) e h)

pub owner_lessened : (m : ReservationMap) (k q : Pair) (x n : ℕ) → IfSome (map.get m k) (λ r. r.account ≡ n) → IfSome (map.get m q) (λ r. r.account ≡ n) → IfSome (map.get (lessened m k x) q) (λ r. r.account ≡ n)
owner_lessened m k q x n one h = by_case (map.get m k) one
  where
    by_case : (w : Option Reservation) → IfSome w (λ r. r.account ≡ n) → IfSome (map.get (lessened_at m k x w) q) (λ r. r.account ≡ n)
    by_case None p = h
    by_case (Some r) p = elim (nat_le r.left x) as (λ b. IfSome (map.get (cond b (map.remove m k) (map.insert m k (record { account = r.account; left = r.left - x; deadline = r.deadline }))) q) (λ r. r.account ≡ n)) [
      | true ↦ owner_removed m k q n h
      | false ↦ owner_inserted m k q (record { account = r.account; left = r.left - x; deadline = r.deadline }) n p h
    ]

-- after a charge
pub charged_sums : (n : Numbers) (amount lf fr : ℕ) → (debited n (min amount lf + min (amount - lf) fr) (amount - lf - fr)).taken + (debited n (min amount lf + min (amount - lf) fr) (amount - lf - fr)).owed ≡ n.taken + n.owed + amount
charged_sums n amount lf fr = omega arith
