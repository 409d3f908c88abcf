-- An empty journal is made.
use Rattle.std.proofs.Common.{◌≡◌, ℕ, ◌+◌, ◌≤◌, ◌<◌, List, [], ◌∷◌, ◌++◌, length, drop, refl, sym, ◌∙◌, ap, subst, arith, Option, Some, is_some, true}
use Rattle.edge.specs.Disk.{overwritten, EachFollows, IsOnlyImage}
use Rattle.journal.specs.Bytes.{front, header, Spells, StandsFor}
use Rattle.journal.specs.Lists.{Extends}
use Rattle.journal.proofs.Append.{from_told}
use Rattle.journal.proofs.Steps.{told}

pub empty_made : (b : List ℕ) → Spells (overwritten 0 (header ++ 0 ∷ []) b) []
unfolding front
empty_made b = record { gate = 0; closed = λ e. absurd (omega (arith, e)); rest = drop (0 + 17) b; is = refl; within = omega arith }

pub front_nil : length (front []) + 1 ≡ 17
unfolding front
front_nil = refl

pub zero_stands : (epoch : Option ℕ) (c : List ℕ) (e : ℕ) → epoch ≡ Some e → e ≡ 0 → StandsFor epoch c []
zero_stands epoch c e is none = let same : Some 0 ≡ epoch = sym (is ∙ ap (λ (k : ℕ). Some k) none) in subst (λ o. StandsFor o c []) same refl

pub one_stands : (epoch : Option ℕ) (c : List ℕ) → epoch ≡ Some 1 → Spells c [] → StandsFor epoch c []
one_stands epoch c is s = subst (λ o. StandsFor o c []) (sym is) s

module _ (epoch : Option ℕ) (old : List ℕ → Type 0) (none : (e : ℕ) → epoch ≡ Some e → e ≡ 0) (law : (c : List ℕ) → old c → (e : ℕ) × (epoch ≡ Some e)) where
  -- each image stands for nothing, as before
  pub stays_empty : (epoch_now : Option ℕ) (now : List ℕ → Type 0) → ((c : List ℕ) → now c → (d : List ℕ) × old d) → ((c : List ℕ) → now c → StandsFor epoch_now c []) → Extends epoch old epoch_now now [] 0
  stays_empty epoch_now now from stands = record {
    each = λ c im.
        let d = from c im in
        let t = law d.0 d.1 in
        ([], stands c im, ([], 0, omega arith, (d.0, d.1, zero_stands epoch d.0 t.0 t.1 (none t.0 t.1)), refl));
  }

  pub stays_zero : (epoch_now : Option ℕ) (now : List ℕ → Type 0) → epoch_now ≡ epoch → ((c : List ℕ) → now c → (d : List ℕ) × old d) → Extends epoch old epoch_now now [] 0
  stays_zero epoch_now now same from = stays_empty epoch_now now from (λ c im.
      let d = from c im in
      let t = law d.0 d.1 in
      zero_stands epoch_now c t.0 (same ∙ t.1) (none t.0 t.1))

pub torn_from : {old now : List ℕ → Type 0} (step : List ℕ → List ℕ → Type 0) → EachFollows step old now → (c : List ℕ) → now c → (d : List ℕ) × old d
torn_from step goes c im = let f = goes c im in (f.0, f.1)

-- what is on the disk after the sync
pub on_disk : (content written : Option (List ℕ)) (bytes : List ℕ) (after : List ℕ → Type 0) → bytes ≡ header ++ 0 ∷ [] → is_some written ≡ is_some content → ((b : List ℕ) → content ≡ Some b → written ≡ Some (overwritten 0 bytes b))
    → IsOnlyImage written after → (c : List ℕ) → after c → Spells c []
on_disk content written bytes after is tells puts only c im =
    let from = from_told content written tells puts c (only c im) in
    subst (λ l. Spells l []) (sym (from.2 ∙ ap (λ (l : List ℕ). overwritten 0 l from.0) is)) (empty_made from.0)

pub claimed_one : (before now : Option ℕ) → is_some now ≡ is_some before → ((e : ℕ) → before ≡ Some e → (e < 1) × (now ≡ Some 1)) → (e : ℕ) → now ≡ Some e → 1 ≤ e
claimed_one before now tells made e is =
    let some : is_some before ≡ true = sym tells ∙ ap is_some is in
    let t = told before some in
    let one : e ≡ 1 = some_is e 1 (sym is ∙ (made t.0 t.1).1) in
    omega (arith, one)
  where
    some_is : (a b : ℕ) → Some a ≡ Some b → a ≡ b
    some_is a b e = cc
