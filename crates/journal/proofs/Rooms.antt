-- The room of a disk over several calls.
use Rattle.std.proofs.Common.{◌≡◌, ℕ, ◌+◌, ◌≤◌, ◌<◌, sym, ◌∙◌, ap, arith, Option, Some, is_some, true}
use Rattle.std.specs.Prelude.{⊤}
use Rattle.edge.specs.Disk.{Room, KeepsRoom}
use Rattle.journal.proofs.Steps.{told}

told_before : (o p : Option Room) → is_some p ≡ is_some o → (s : Room) → p ≡ Some s → (r : Room) × (o ≡ Some r)
told_before o p same s is = let some : is_some o ≡ true = sym same ∙ ap is_some is in told o some

-- one call more, of which the room after it is known
pub then : (b m n : ℕ) (o p q : Option Room) (A B C : Room → Type 0) (k l t : ℕ) → KeepsRoom b m o p A k → KeepsRoom m n p q B l
    → ((r : Room) → o ≡ Some r → C r → A r)
    → ((r s : Room) → o ≡ Some r → p ≡ Some s → s.size ≡ r.size → C r → B s)
    → ((r s u : Room) → o ≡ Some r → p ≡ Some s → q ≡ Some u → s.ranges ≤ r.ranges + k → u.ranges ≤ s.ranges + l → u.ranges ≤ r.ranges + t)
    → KeepsRoom b n o q C t
then b m n o p q A B C k l t first second fits goes bound = record {
  told = second.told ∙ first.told;
  size = λ r u ro uq.
      let s = told_before p q second.told u uq in
      second.size s.0 u s.1 uq ∙ first.size r s.0 ro s.1;
  ranges = λ r u ro uq.
      let s = told_before p q second.told u uq in
      bound r s.0 u ro s.1 uq (first.ranges r s.0 ro s.1) (second.ranges s.0 u s.1 uq);
  ready = λ r u ro uq is.
      let s = told_before p q second.told u uq in
      second.ready s.0 u s.1 uq (first.ready r s.0 ro s.1 is);
  no_fault = λ r ro is may.
      let some : is_some p ≡ true = first.told ∙ ap is_some ro in
      let s = told p some in
      second.no_fault s.0 s.1 (first.ready r s.0 ro s.1 is) (goes r s.0 ro s.1 (first.size r s.0 ro s.1) may) ∙ first.no_fault r ro is (fits r ro may);
}

module _ (f0 f1 f2 : ℕ) (r0 r1 r2 : Option Room) (limit size : ℕ) where
  abbrev Fits : Room → Type 0
  Fits r = (limit ≤ r.size) × (r.ranges < 16)

  -- a write and a sync
  pub write_sync : size ≤ limit → KeepsRoom f0 f1 r0 r1 (λ r. (size ≤ r.size) × (r.ranges < 16)) 1 → KeepsRoom f1 f2 r1 r2 (λ r. ⊤) 0 → KeepsRoom f0 f2 r0 r2 Fits 1
  write_sync below first second = then f0 f1 f2 r0 r1 r2 (λ r. (size ≤ r.size) × (r.ranges < 16)) (λ r. ⊤) Fits 1 0 1 first second
      (λ r is may. (omega (arith, below, may.0), may.1)) (λ r s ro sp same may. tt) (λ r s u ro sp uq a b. omega (arith, a, b))

  module _ (f3 : ℕ) (r3 : Option Room) where
    -- these, the sync with success, and a write
    pub write_sync_write : (last : ℕ) → last ≤ limit → ((s : Room) → r2 ≡ Some s → s.ranges ≡ 0) → KeepsRoom f0 f2 r0 r2 Fits 1 → KeepsRoom f2 f3 r2 r3 (λ r. (last ≤ r.size) × (r.ranges < 16)) 1 → KeepsRoom f0 f3 r0 r3 Fits 1
    write_sync_write last below clean first second = then f0 f2 f3 r0 r2 r3 Fits (λ r. (last ≤ r.size) × (r.ranges < 16)) Fits 1 1 1 first second
        (λ r is may. may) (λ r s ro sp same may. (omega (arith, below, same, may.0), omega (arith, clean s sp))) (λ r s u ro sp uq a b. omega (arith, clean s sp, b))

    pub and_sync : (f4 : ℕ) (r4 : Option Room) → KeepsRoom f0 f3 r0 r3 Fits 1 → KeepsRoom f3 f4 r3 r4 (λ r. ⊤) 0 → KeepsRoom f0 f4 r0 r4 Fits 1
    and_sync f4 r4 first second = then f0 f3 f4 r0 r3 r4 Fits (λ r. ⊤) Fits 1 0 1 first second
        (λ r is may. may) (λ r s ro sp same may. tt) (λ r s u ro sp uq a b. omega (arith, a, b))

-- two calls that write nothing
pub quiet : (b m n : ℕ) (o p q : Option Room) → KeepsRoom b m o p (λ r. ⊤) 0 → KeepsRoom m n p q (λ r. ⊤) 0 → KeepsRoom b n o q (λ r. ⊤) 0
quiet b m n o p q first second = then b m n o p q (λ r. ⊤) (λ r. ⊤) (λ r. ⊤) 0 0 0 first second (λ r is may. tt) (λ r s ro sp same may. tt) (λ r s u ro sp uq x y. omega (arith, x, y))

-- and under any condition
pub weaken : (b n : ℕ) (o q : Option Room) (A : Room → Type 0) → KeepsRoom b n o q (λ r. ⊤) 0 → KeepsRoom b n o q A 1
weaken b n o q A s = record { told = s.told; size = s.size; ranges = λ r u ro uq. omega (arith, s.ranges r u ro uq); ready = s.ready; no_fault = λ r ro is may. s.no_fault r ro is tt }
