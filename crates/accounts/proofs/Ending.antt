-- Whether something ends, by one reservation that ends.
use Rattle.std.proofs.Common.{◌≡◌, ◌≤◌, ◌==◌, ◌-◌, not, ℕ, true, false, Option, Some, None, is_some, sym, ap, ◌∙◌, arith}
use Rattle.std.proofs.lemmas.Bool.Decides.{nat_tests}
use Rattle.std.specs.FinMap as map
use Rattle.accounts.specs.declared.reservation.Key.{Key}
use Rattle.accounts.specs.Reservations.{ReservationMap}
use Rattle.accounts.specs.Endings.{Ending, IsOneEnding, without, count_ending}
use Rattle.accounts.proofs.Tables.{without_removed, without_none, len_removed}
use Rattle.accounts.proofs.Books.{fewer_without}

is_zero : (n : ℕ) → n ≡ 0 → not (n == 0) ≡ false
is_zero n e = grind (arith, nat_tests)

is_more : (n : ℕ) → (n ≡ 0 → ⊥) → not (n == 0) ≡ true
is_more n e = grind (arith, nat_tests)

pub due_is : (m : ReservationMap) (g : Ending) (o : Option Key) → IsOneEnding m g o → is_some o ≡ not (count_ending m g == 0)
due_is m g None h = let e = ap map.len (without_none m g h) in sym (is_zero (count_ending m g) (omega arith))
due_is m g (Some k) h =
    let n = len_removed m g k h in
    let fewer = fewer_without g (map.remove m k) in
    let same = ap map.len (without_removed m g k h) in
    sym (is_more (count_ending m g) (λ z. let y : map.len m - map.len (without m g) ≡ 0 = z in omega arith))
