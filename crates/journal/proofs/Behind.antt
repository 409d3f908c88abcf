-- An entry comes behind the list to which the journal is tied.
use Rattle.std.proofs.Common.{◌≡◌, ℕ, zero, suc, ◌+◌, ◌≤◌, ◌<◌, ◌⊎◌, inl, inr, ⊎_elim, List, [], ◌∷◌, ◌++◌, length, take, refl, sym, ◌∙◌, ap, subst, arith, append-nil, Option, Some, None}
use Rattle.std.proofs.lemmas.Bool.{cases_lt}
use Rattle.journal.specs.Bytes.{StandsFor, Spells}
use Rattle.journal.specs.Lists.{AddsNothing, Extends, Grows, IsTied, MayAdd, MayStandFor}
use Rattle.journal.specs.State.{State}
use Rattle.journal.proofs.One.{one_list}

take_none : (n : ℕ) → take {A = List ℕ} n [] ≡ []
take_none zero = refl
take_none (suc n) = refl

-- a call that adds nothing
pub nothing_behind : (e f : Option ℕ) (i k : List ℕ → Type 0) → Extends e i f k [] 0 → Grows e i f k AddsNothing
nothing_behind e f i k ext = record {
  each = λ c im.
      let s = ext.each c im in
      (s.0, s.1, (s.2.0, [], s.2.3, refl, s.2.4 ∙ ap (λ (t : List (List ℕ)). s.2.0 ++ t) (take_none s.2.1)));
}

spelled : (n : ℕ) (c : List ℕ) (list : List (List ℕ)) → 1 ≤ n → Spells c list → StandsFor (Some n) c list
spelled zero c list h s = absurd (omega arith)
spelled (suc n) c list h s = s

same_list : (e : Option ℕ) (n : ℕ) (c : List ℕ) (before list : List (List ℕ)) → e ≡ Some n → 1 ≤ n → StandsFor e c before → Spells c list → before ≡ list
same_list e n c before list told h stands s = one_list e c before list stands (subst (λ x. StandsFor x c list) (sym told) (spelled n c list h s))

-- an image after an append was there before, or each list that an image stood for is the one of the tie
either : (o : Option ℕ) (j : State) (b : Option (List ℕ)) (e f : Option ℕ) (i k : List ℕ → Type 0) (c : List ℕ) (memory list : List (List ℕ))
    → IsTied j b e i memory → f ≡ e → e ≡ o → ((n : ℕ) → e ≡ Some n → j.epoch < n → (c : List ℕ) → k c → i c) → k c → StandsFor f c list
    → (i c) ⊎ ((before : List (List ℕ)) → MayStandFor e i before → before ≡ memory)
either None j b e f i k c memory list tied epoch told kept im stands = absurd (subst (λ x. StandsFor x c list) (epoch ∙ told) stands)
either (Some n) j b e f i k c memory list tied epoch told kept im stands =
    ⊎_elim (λ lt. inl (kept n told lt c im))
    (λ le. inr (λ before may. same_list e n may.0 before memory told (tied.claimed n told) may.2 (tied.each n may.0 told le may.1)))
    (cases_lt j.epoch n)

Stands : List (List ℕ) → List ℕ → Option ℕ → (List ℕ → Type 0) → List (List ℕ) → Type 0
Stands memory payload e i list = (before : List (List ℕ)) × (more : List (List ℕ)) × MayStandFor e i before × MayAdd memory payload before more × (list ≡ before ++ more)

as_before : (memory : List (List ℕ)) (payload : List ℕ) (e : Option ℕ) (i : List ℕ → Type 0) (list : List (List ℕ)) → MayStandFor e i list → Stands memory payload e i list
unfolding Stands
as_before memory payload e i list may = (list, [], may, inl refl, sym (append-nil list))

by_count : (memory : List (List ℕ)) (payload : List ℕ) (e : Option ℕ) (i : List ℕ → Type 0) (list before : List (List ℕ)) (n : ℕ)
    → MayStandFor e i before → list ≡ before ++ take n (payload ∷ []) → before ≡ memory → Stands memory payload e i list
unfolding Stands
by_count memory payload e i list before zero may is same = (before, [], may, inl refl, is)
by_count memory payload e i list before (suc n) may is same =
    (before, payload ∷ [], may, inr (refl, same), is ∙ ap (λ (t : List (List ℕ)). before ++ payload ∷ t) (take_none n))

-- an append
pub entry_behind : (j : State) (b : Option (List ℕ)) (e f : Option ℕ) (i k : List ℕ → Type 0) (memory : List (List ℕ)) (payload : List ℕ)
    → IsTied j b e i memory → ((n : ℕ) → e ≡ Some n → j.epoch < n → (c : List ℕ) → k c → i c) → f ≡ e
    → Extends e i f k (payload ∷ []) 0 → Grows e i f k (MayAdd memory payload)
unfolding Stands
entry_behind j b e f i k memory payload tied kept epoch ext = record {
  each = λ c im.
      let s = ext.each c im in
      let stands : Stands memory payload e i s.0 = ⊎_elim
      (λ was. as_before memory payload e i s.0 (c, was, subst (λ x. StandsFor x c s.0) epoch s.1))
      (λ all. by_count memory payload e i s.0 s.2.0 s.2.1 s.2.3 s.2.4 (all s.2.0 s.2.3))
      (either e j b e f i k c memory s.0 tied epoch refl kept im s.1) in
      (s.0, s.1, stands);
}
