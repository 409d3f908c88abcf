-- How a node's call is put together from those of the journal.
use Rattle.std.specs.Prelude.{⊤}
use Rattle.std.proofs.Common.{◌≡◌, ℕ, zero, suc, ◌+◌, ◌≤◌, List, [], ◌∷◌, ◌++◌, length, take, refl, sym, ◌∙◌, ap, arith, append_assoc, Option}
use Rattle.journal.specs.Lists.{EachStandsFor, Extends, EachBeginsWith}
use Rattle.journal.proofs.One.{one_list}

take_beyond : (xs ys : List (List ℕ)) (n : ℕ) → take (length xs + n) (xs ++ ys) ≡ xs ++ take n ys
take_beyond [] ys n = let e : 0 + n ≡ n = omega arith in ap (λ (k : ℕ). take k ys) e
take_beyond (x ∷ xs) ys n = let e : suc (length xs) + n ≡ suc (length xs + n) = omega arith in ap (λ (k : ℕ). take k (x ∷ (xs ++ ys))) e ∙ ap (λ (l : List (List ℕ)). x ∷ l) (take_beyond xs ys n)

take_over : (xs : List (List ℕ)) (n : ℕ) → length xs ≤ n → take n xs ≡ xs
take_over [] zero le = refl
take_over [] (suc n) le = refl
take_over (x ∷ xs) zero le = absurd (omega arith)
take_over (x ∷ xs) (suc n) le = ap (λ (l : List (List ℕ)). x ∷ l) (take_over xs n (omega arith))

-- entries that are all there, and then more of them
pub goes_on : (e0 e1 e2 : Option ℕ) (i0 i1 i2 : List ℕ → Type 0) (xs ys : List (List ℕ)) (least : ℕ)
    → Extends e0 i0 e1 i1 xs (length xs) → Extends e1 i1 e2 i2 ys least → Extends e0 i0 e2 i2 (xs ++ ys) (length xs + least)
goes_on e0 e1 e2 i0 i1 i2 xs ys least first second = record {
  each = λ c im.
      let s = second.each c im in
      let list = s.0 in
      let b = s.2.0 in
      let n = s.2.1 in
      let d = s.2.3 in
      let f = first.each d.0 d.1 in
      let same : b ≡ f.0 = one_list e1 d.0 b f.0 d.2 f.1 in
      let all : take f.2.1 xs ≡ xs = take_over xs f.2.1 f.2.2 in
      let is : list ≡ f.2.0 ++ take (length xs + n) (xs ++ ys) =
      s.2.4 ∙ ap (λ (l : List (List ℕ)). l ++ take n ys) (same ∙ f.2.4 ∙ ap (λ (l : List (List ℕ)). f.2.0 ++ l) all) ∙ append_assoc f.2.0 xs (take n ys) ∙ ap (λ (l : List (List ℕ)). f.2.0 ++ l) (sym (take_beyond xs ys n)) in
      (list, s.1, (f.2.0, length xs + n, omega (arith, s.2.2), f.2.3, is));
}

shorter : (xs ys : List (List ℕ)) (n : ℕ) → (m : ℕ) × (take n xs ≡ take m (xs ++ ys))
shorter [] ys zero = (0, refl)
shorter [] ys (suc n) = (0, refl)
shorter (x ∷ xs) ys zero = (0, refl)
shorter (x ∷ xs) ys (suc n) = let s = shorter xs ys n in (suc s.0, ap (λ (l : List (List ℕ)). x ∷ l) s.1)

-- of a longer list of entries only the first ones were added
pub of_more : (e0 e1 : Option ℕ) (i0 i1 : List ℕ → Type 0) (xs ys : List (List ℕ)) → Extends e0 i0 e1 i1 xs 0 → Extends e0 i0 e1 i1 (xs ++ ys) 0
of_more e0 e1 i0 i1 xs ys first = record {
  each = λ c im.
      let f = first.each c im in
      let s = shorter xs ys f.2.1 in
      (f.0, f.1, (f.2.0, s.0, omega arith, f.2.3, f.2.4 ∙ ap (λ (l : List (List ℕ)). f.2.0 ++ l) s.1));
}

-- each image stands for some list
pub stands_now : (e0 e1 : Option ℕ) (i0 i1 : List ℕ → Type 0) (xs : List (List ℕ)) (least : ℕ) → Extends e0 i0 e1 i1 xs least → EachStandsFor e1 i1 (λ _. ⊤)
stands_now e0 e1 i0 i1 xs least first = λ c im. let f = first.each c im in (f.0, f.1, tt)

-- of fewer entries for certain
pub weaker : (e0 e1 : Option ℕ) (i0 i1 : List ℕ → Type 0) (xs : List (List ℕ)) (least : ℕ) → Extends e0 i0 e1 i1 xs least → Extends e0 i0 e1 i1 xs 0
weaker e0 e1 i0 i1 xs least first = record {
  each = λ c im. let f = first.each c im in (f.0, f.1, (f.2.0, f.2.1, omega arith, f.2.3, f.2.4));
}

-- what each image began with it still begins with
pub begins_kept : (e0 e1 : Option ℕ) (i0 i1 : List ℕ → Type 0) (xs : List (List ℕ)) (least : ℕ) (list : List (List ℕ)) → Extends e0 i0 e1 i1 xs least → EachBeginsWith e0 i0 list → EachBeginsWith e1 i1 list
begins_kept e0 e1 i0 i1 xs least list ext begins = λ c im.
    let f = ext.each c im in
    let b = f.2.0 in
    let d = f.2.3 in
    let w = begins d.0 d.1 in
    let same : b ≡ w.0 = one_list e0 d.0 b w.0 d.2 w.1 in
    let is : f.0 ≡ list ++ (w.2.0 ++ take f.2.1 xs) = f.2.4 ∙ ap (λ (l : List (List ℕ)). l ++ take f.2.1 xs) (same ∙ w.2.1) ∙ append_assoc list w.2.0 (take f.2.1 xs) in
    (f.0, f.1, (w.2.0 ++ take f.2.1 xs, is))
