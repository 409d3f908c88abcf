-- The place of each session, as sessions are added.
use Rattle.std.proofs.Common.{◌≡◌, ℕ, ◌+◌, ◌==◌, ◌||◌, List, [], ◌∷◌, ◌++◌, length, refl, sym, ◌∙◌, ap, subst, arith, Bool, true, false, cond, add-zero, Option, Some, None}
use Rattle.std.specs.List.{list_any, position_from}
use Rattle.std.specs.Result.{IsOk, OnOk}
use Rattle.std.specs.Prelude.{Result, Ok, Err}
use Rattle.std.proofs.lemmas.Bool.{eqb-true}
use Rattle.std.proofs.lemmas.List.Folds.{list_any-append}
use Rattle.smf_core.specs.Index.{place_in, AreApart, IsIndexed}

absent_by : (b : Bool) (i : ℕ) (o : Option ℕ) → cond b (Some i) o ≡ None → (b ≡ false) × (o ≡ None)
absent_by true i o h = cc
absent_by false i o h = (refl, h)

pub absent : (t : ℕ → Bool) (i : ℕ) (xs : List ℕ) → position_from t i xs ≡ None → list_any t xs ≡ false
absent t i [] h = refl
absent t i (x ∷ xs) h = let k = absent_by (t x) i (position_from t (i + 1) xs) h in ap (λ b. b || list_any t xs) k.0 ∙ absent t (i + 1) xs k.1

-- with one more at the end
or_last : Option ℕ → Bool → ℕ → Option ℕ
or_last None b i = cond b (Some i) None
or_last (Some j) b i = Some j

or_cond : (a b : Bool) (i j : ℕ) (o : Option ℕ) → cond a (Some i) (or_last o b j) ≡ or_last (cond a (Some i) o) b j
unfolding or_last
or_cond true b i j o = refl
or_cond false b i j o = refl

last_at : (t : ℕ → Bool) (x i : ℕ) → cond (t x) (Some i) None ≡ or_last None (t x) (i + 0)
unfolding or_last
last_at t x i = ap (λ j. cond (t x) (Some j) None) (sym (add-zero i))

push_from : (t : ℕ → Bool) (x i : ℕ) (xs : List ℕ) → position_from t i (xs ++ x ∷ []) ≡ or_last (position_from t i xs) (t x) (i + length xs)
push_from t x i [] = last_at t x i
push_from t x i (y ∷ xs) =
    ap (cond (t y) (Some i)) (push_from t x (i + 1) xs ∙ ap (or_last (position_from t (i + 1) xs) (t x)) (omega arith)) ∙ or_cond (t y) (t x) i (i + length (y ∷ xs)) (position_from t (i + 1) xs)

found_push : (b : Bool) (o : Option ℕ) (n : ℕ) → (b ≡ true → o ≡ None) → or_last o b n ≡ cond b (Some n) o
unfolding or_last
found_push true o n h = ap (λ p. or_last p true n) (h refl)
found_push false None n h = refl
found_push false (Some j) n h = refl

-- the place of each number after a fresh one is added
pub place-push : (xs : List ℕ) (x q : ℕ) → place_in xs x ≡ None → place_in (xs ++ x ∷ []) q ≡ cond (x == q) (Some (length xs)) (place_in xs q)
place-push xs x q fresh =
    push_from (λ n. n == q) x 0 xs ∙ ap (or_last (place_in xs q) (x == q)) (omega arith)
    ∙ found_push (x == q) (place_in xs q) (length xs) (λ e. subst (λ k. place_in xs k ≡ None) (eqb-true x q e) fresh)

same_any : (x y : ℕ) → (x == y) ≡ (y == x)
same_any x y = grind arith

pub apart-push : (xs : List ℕ) (x : ℕ) → AreApart xs → list_any (λ m. m == x) xs ≡ false → AreApart (xs ++ x ∷ [])
apart-push [] x h none = (refl, tt)
apart-push (y ∷ xs) x h none = at (y == x) (list_any (λ m. m == x) xs) refl refl none (λ k. apart-push xs x h.1 k)
  where
    at : (a b : Bool) → (y == x) ≡ a → list_any (λ m. m == x) xs ≡ b → (a || b) ≡ false → (list_any (λ m. m == x) xs ≡ false → AreApart (xs ++ x ∷ [])) → AreApart (y ∷ (xs ++ x ∷ []))
    at true b e f none ih = cc
    at false true e f none ih = cc
    at false false e f none ih = (list_any-append (λ m. m == y) xs (x ∷ []) ∙ ap (λ c. c || ((x == y) || false)) h.0 ∙ ap (λ c. c || false) (same_any x y ∙ e), ih f)

pub indexed_push : (table next : ℕ → Option ℕ) (xs : List ℕ) (x : ℕ) → IsIndexed table xs → place_in xs x ≡ None → ((q : ℕ) → next q ≡ cond (x == q) (Some (length xs)) (table q)) → IsIndexed next (xs ++ x ∷ [])
indexed_push table next xs x h fresh more = record {
  found = λ q. more q ∙ ap (cond (x == q) (Some (length xs))) (h.found q) ∙ sym (place-push xs x q fresh);
  apart = apart-push xs x h.apart (absent (λ m. m == x) 0 xs fresh);
}

pub same_indexed : (table next : ℕ → Option ℕ) (xs : List ℕ) → IsIndexed table xs → ((q : ℕ) → next q ≡ table q) → IsIndexed next xs
same_indexed table next xs h same = record { found = λ q. same q ∙ h.found q; apart = h.apart }

pub from_ok : {T E : Type 0} (r : Result T E) (P : Type 0) → IsOk r → OnOk r P → P
from_ok (Ok x) P h p = p
from_ok (Err e) P h p = absurd (cc)
