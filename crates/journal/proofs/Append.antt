-- The four calls of an append, one after the other.
use Rattle.std.proofs.Common.{◌≡◌, ◌⊎◌, inl, inr, ⊎_elim, ℕ, zero, suc, ◌+◌, ◌≤◌, ◌<◌, ◌^◌, List, [], ◌∷◌, ◌++◌, length, refl, sym, ◌∙◌, ap, subst, arith, append-nil, Option, Some, is_some, true}
use Rattle.std.specs.Prelude.{⊤}
use Rattle.edge.specs.Disk.{Torn, overwritten, EachFollows, KeepsImages, IsOnlyImage}
use Rattle.journal.specs.Bytes.{front, sized, Spells}
use Rattle.journal.specs.Lists.{MayStandFor, EachStandsFor, Extends, IsTied}
use Rattle.journal.specs.Stages.{Staged}
use Rattle.journal.specs.State.{State}
use Rattle.journal.proofs.Torn.{torn_behind, torn_gate, written_behind, written_gate, ends_with, with_or_without}
use Rattle.journal.proofs.Steps.{Holds, follows, stands_under, told, unchanged, as_before}

pub below_or_not : (a b : ℕ) → (a ≤ b) ⊎ (b < a)
below_or_not zero b = inl (omega arith)
below_or_not (suc a) zero = inr (omega arith)
below_or_not (suc a) (suc b) = ⊎_elim (λ le. inl (omega (arith, le))) (λ lt. inr (omega (arith, lt))) (below_or_not a b)

-- an exit, by whether the disk's epoch is above the journal's
pub at_exit : (under : ℕ) (epoch epoch_now : Option ℕ) (old now : List ℕ → Type 0) (added : List (List ℕ)) → epoch_now ≡ epoch → EachStandsFor epoch old (λ _. ⊤)
    → ((c : List ℕ) → now c → (e : ℕ) × (epoch_now ≡ Some e))
    → ((e : ℕ) → epoch ≡ Some e → under < e → KeepsImages old now)
    → ((e : ℕ) → epoch ≡ Some e → e ≤ under → Extends epoch old epoch now added 0)
    → Extends epoch old epoch_now now added 0
at_exit under epoch epoch_now old now added same stand law above within = subst (λ o. Extends epoch old o now added 0) (sym same) (record {
  each = λ c im. let t = law c im in let is : epoch ≡ Some t.0 = sym same ∙ t.1 in
      elim (below_or_not t.0 under) [
        | inl le ↦ (within t.0 is le).each c im
        | inr lt ↦ (unchanged epoch epoch old now added refl stand (above t.0 is lt)).each c im
      ];
})

-- the same at Ok, where the disk's epoch is not above
pub at_ok : (under : ℕ) (epoch epoch_now : Option ℕ) (old now : List ℕ → Type 0) (added : List (List ℕ)) (least : ℕ) → epoch_now ≡ epoch
    → ((c : List ℕ) → now c → (e : ℕ) × (epoch_now ≡ Some e))
    → ((e : ℕ) → epoch ≡ Some e → under < e → ⊥)
    → ((e : ℕ) → epoch ≡ Some e → e ≤ under → Extends epoch old epoch now added least)
    → Extends epoch old epoch_now now added least
at_ok under epoch epoch_now old now added least same law above within = subst (λ o. Extends epoch old o now added least) (sym same) (record {
  each = λ c im. let t = law c im in let is : epoch ≡ Some t.0 = sym same ∙ t.1 in
      elim (below_or_not t.0 under) [
        | inl le ↦ (within t.0 is le).each c im
        | inr lt ↦ absurd (above t.0 is lt)
      ];
})

-- what was told before and is told now
pub from_told : {f : List ℕ → List ℕ} (before now : Option (List ℕ)) → is_some now ≡ is_some before → ((b : List ℕ) → before ≡ Some b → now ≡ Some (f b)) → (c : List ℕ) → now ≡ Some c
    → (b : List ℕ) × (before ≡ Some b) × (c ≡ f b)
from_told {f} before now tells written c is =
    let some : is_some before ≡ true = sym tells ∙ ap is_some is in
    let b = told before some in
    let w = written b.0 b.1 in
    (b.0, b.1, cc)

module _ (j : State) (content : Option (List ℕ)) (epoch : Option ℕ) (old : List ℕ → Type 0) (list : List (List ℕ)) (tied : IsTied j content epoch old list) (e : ℕ) (is : epoch ≡ Some e) (le : e ≤ j.epoch) where
  abbrev pub First : Type 0
  First = MayStandFor epoch old list

  pub at_first : Holds old old (λ c. Spells c list) First
  at_first = record {
    each = λ c im. tied.each e c is le im;
    first = λ c im. (c, im, stands_under epoch e c list is (tied.claimed e is) (tied.each e c is le im));
  }

  -- while what is behind the gate may be torn
  pub behind : (now : List ℕ → Type 0) (k : ℕ) → EachFollows (Torn j.length k) old now → Holds old now (λ c. Spells c list) First
  behind now k crash = follows (Torn j.length k) at_first crash (λ d c at torn. torn_behind j.length k list d c tied.ends at torn)

  pub extends_before : (now : List ℕ → Type 0) (added : List (List ℕ)) → Holds old now (λ c. Spells c list) First → Extends epoch old epoch now added 0
  extends_before now added h = as_before epoch old now list added (λ c im. (stands_under epoch e c list is (tied.claimed e is) (h.each c im), h.first c im))

  -- once it is on the disk
  pub staged : (now after : List ℕ → Type 0) (written : Option (List ℕ)) (entry : List ℕ)
      → Holds old now (λ c. Spells c list) First → is_some written ≡ is_some content → ((b : List ℕ) → content ≡ Some b → written ≡ Some (overwritten j.length entry b))
      → IsOnlyImage written after → KeepsImages now after → Holds old after (λ c. Staged c list entry) First
  staged now after written entry h tells puts only goes = record {
    each = λ c im. let from = from_told content written tells puts c (only c im) in
        subst (λ b. Staged b list entry) (sym from.2) (written_behind j.length list from.0 entry tied.ends (tied.disk e from.0 is le from.1));
    first = λ c im. h.first c (goes c im);
  }

  -- while the gate may be torn
  pub gate_torn : (now after : List ℕ → Type 0) (entry : List ℕ) (a : ℕ) → length (front list) ≡ a → Holds old now (λ c. Staged c list entry) First → EachFollows (Torn a 1) now after → Holds old after (λ c. Staged c list entry) First
  gate_torn now after entry a size h crash = follows (Torn a 1) h crash (λ d c st torn. torn_gate a list entry d c size st torn)

  module _ (payload : List ℕ) (within : j.length + (length payload + 5) ≤ 2 ^ 30) where
    pub extends_staged : (now : List ℕ → Type 0) → Holds old now (λ c. Staged c list (sized payload ++ 0 ∷ [])) First → Extends epoch old epoch now (payload ∷ []) 0
    extends_staged now h = record {
      each = λ c im. elim (with_or_without j.length list payload c tied.ends within (h.each c im)) [
        | inl s ↦ (list, stands_under epoch e c list is (tied.claimed e is) s, (list, 0, omega arith, h.first c im, sym (append-nil list)))
        | inr s ↦ (list ++ payload ∷ [], stands_under epoch e c (list ++ payload ∷ []) is (tied.claimed e is) s, (list, 1, omega arith, h.first c im, refl))
      ];
    }

    -- the gate is open
    pub open_gate : (b : List ℕ) (a : ℕ) → length (front list) ≡ a → Staged b list (sized payload ++ 0 ∷ []) → Spells (overwritten a (1 ∷ []) b) (list ++ payload ∷ [])
    open_gate b a here st = let w = written_gate a list (sized payload ++ 0 ∷ []) b here st in ends_with j.length list payload (overwritten a (1 ∷ []) b) w.0 tied.ends within w.1

    pub extends_all : (now : List ℕ → Type 0) → Holds old now (λ c. Spells c (list ++ payload ∷ [])) First → Extends epoch old epoch now (payload ∷ []) 1
    extends_all now h = record {
      each = λ c im. (list ++ payload ∷ [], stands_under epoch e c (list ++ payload ∷ []) is (tied.claimed e is) (h.each c im), (list, 1, omega arith, h.first c im, refl));
    }

    -- once the open gate is on the disk
    pub tied_after : (now after : List ℕ → Type 0) (a : ℕ) → length (front list) ≡ a → Holds old now (λ c. Staged c list (sized payload ++ 0 ∷ [])) First
        → (told written : Option (List ℕ)) → ((b : List ℕ) → told ≡ Some b → now b) → is_some written ≡ is_some told → ((b : List ℕ) → told ≡ Some b → written ≡ Some (overwritten a (1 ∷ []) b))
        → IsOnlyImage written after → (c : List ℕ) → after c → Spells c (list ++ payload ∷ [])
    tied_after now after a size h told written reads tells puts only c im =
        let from = from_told told written tells puts c (only c im) in
        subst (λ b. Spells b (list ++ payload ∷ [])) (sym from.2) (open_gate from.0 a size (h.each from.0 (reads from.0 from.1)))
