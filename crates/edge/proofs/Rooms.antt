-- The room of a disk in memory after a call that makes nothing.
use Rattle.std.proofs.Common.{◌≡◌, ℕ, ◌≤◌, ◌<◌, ◌+◌, length, Bool, IsTrue, Some, refl, sym, ◌∙◌, ap, arith}
use Rattle.std.specs.Prelude.{⊤}
use Rattle.edge.specs.Disk.{KeepsRoom, Room}
use Rattle.edge.specs.MemDisks.{HasPassed}
use Rattle.edge.specs.Stored.{Stored}

abbrev told : Stored → Bool → Room
told s ready = record { size = s.size; ranges = length s.spans; ready = ready }

some_room : (a b : Room) → Some a ≡ Some b → a ≡ b
some_room a b e = cc

pub room_passed : (old new : Stored) (before now : ℕ) (goes ready ready_now : Bool) → HasPassed old new before now goes ready ready_now → KeepsRoom before now (Some (told old ready)) (Some (told new ready_now)) (λ r. ⊤) 0
room_passed old new before now goes ready ready_now p = record {
  told = refl;
  size = λ r s ro so. ap (λ (x : Room). x.size) (sym (some_room _ _ so)) ∙ p.size ∙ ap (λ (x : Room). x.size) (some_room _ _ ro);
  ranges = λ r s ro so. omega (arith, ap (λ (x : Room). x.ranges) (some_room _ _ so), ap (λ (x : Room). x.ranges) (some_room _ _ ro), p.ranges);
  ready = λ r s ro so is. ap (λ (x : Room). x.ready) (sym (some_room _ _ so)) ∙ (p.goes_on (ap (λ (x : Room). x.ready) (some_room _ _ ro) ∙ is)).1;
  no_fault = λ r ro is may. (p.same (p.goes_on (ap (λ (x : Room). x.ready) (some_room _ _ ro) ∙ is)).0).1;
}

-- and after a write for which there was no room
pub room_overrun : (old new : Stored) (before now at n : ℕ) (ready ready_now : Bool) → new.size ≡ old.size → length new.spans ≤ length old.spans → (IsTrue ready → IsTrue ready_now)
    → (at + n ≤ old.size → length old.spans < 16 → ⊥) → KeepsRoom before now (Some (told old ready)) (Some (told new ready_now)) (λ r. (at + n ≤ r.size) × (r.ranges < 16)) 1
room_overrun old new before now at n ready ready_now size ranges goes_on full = record {
  told = refl;
  size = λ r s ro so. ap (λ (x : Room). x.size) (sym (some_room _ _ so)) ∙ size ∙ ap (λ (x : Room). x.size) (some_room _ _ ro);
  ranges = λ r s ro so. omega (arith, ap (λ (x : Room). x.ranges) (some_room _ _ so), ap (λ (x : Room). x.ranges) (some_room _ _ ro), ranges);
  ready = λ r s ro so is. ap (λ (x : Room). x.ready) (sym (some_room _ _ so)) ∙ goes_on (ap (λ (x : Room). x.ready) (some_room _ _ ro) ∙ is);
  no_fault = λ r ro is may. absurd (full (omega (arith, may.0, ap (λ (x : Room). x.size) (some_room _ _ ro))) (omega (arith, may.1, ap (λ (x : Room). x.ranges) (some_room _ _ ro))));
}
