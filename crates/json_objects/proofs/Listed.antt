-- A list of texts as a field of an object.
use Rattle.std.proofs.Common.{◌≡◌, ◌≤◌, ◌==◌, ℕ, true, false, List, [], ◌∷◌, ◌++◌, map, take, length, Result, OnOk, refl, sym, ◌∙◌, ap, arith}
use Rattle.std.specs.Prelude.{fold}
use Rattle.std.proofs.lemmas.Bool.Decides.{nat_tests}
use Rattle.std.proofs.lemmas.List.{take_all}
use Rattle.std.proofs.lemmas.List.Folds.{fold-map}
use Rattle.json.specs.Token.{Token, key, begin_array}
use Rattle.serde_json.specs.Data.{Data, array}
use Rattle.serde_json.specs.View.{items_of}
use Rattle.json_objects.specs.Objects.{listed}
use Rattle.json_objects.specs.Tokens.{tokens_of, field_after, values_after}

some_item : {T : Type 0} (x : T) (xs : List T) → (length (x ∷ xs) == 0) ≡ true → ⊥
some_item x xs e = let none : length (x ∷ xs) ≡ 0 = grind (arith, nat_tests, e) in omega (arith, none)

no_item : (n : ℕ) → (n == 0) ≡ false → n ≡ 0 → ⊥
no_item n e z = let h = e in grind (arith, nat_tests)

pub none_listed : {T : Type 0} (f : T → Data) (xs : List T) (ts : List Token) (name : List ℕ) → true ≡ (length xs == 0) → ts ≡ field_after ts name (listed (map f xs))
unfolding field_after
none_listed f [] ts name e = refl
none_listed f (x ∷ xs) ts name e = absurd (some_item x xs (sym e))

pub some_listed : {T E : Type 0} (r : Result (Unit {0}) E) (f : T → Data) (xs : List T) (ts new : List Token) (name : List ℕ) → false ≡ (length xs == 0)
    → OnOk r (new ≡ (ts ++ key name ∷ []) ++ tokens_of (array (items_of (map f xs)))) → OnOk r (new ≡ field_after ts name (listed (map f xs)))
unfolding field_after
some_listed r f [] ts new name e h = absurd (no_item 0 (sym e) refl)
some_listed r f (x ∷ xs) ts new name e h = h

pub all_written : {T : Type 0} (f : T → Data) (xs : List T) (i : ℕ) (ts named begun now : List Token) (name : List ℕ) → length xs ≤ i → named ≡ ts ++ key name ∷ [] → begun ≡ named ++ begin_array ∷ []
    → now ≡ fold (λ before x. before ++ tokens_of (f x)) begun (take i xs) → now ≡ values_after ((ts ++ key name ∷ []) ++ begin_array ∷ []) (map f xs)
all_written f xs i ts named begun now name all e0 e1 e2 =
    e2 ∙ ap (fold (λ before x. before ++ tokens_of (f x)) begun) (take_all i xs all)
    ∙ ap (λ (start : List Token). fold (λ before x. before ++ tokens_of (f x)) start xs) (e1 ∙ ap (λ (t : List Token). t ++ begin_array ∷ []) e0)
    ∙ sym (fold-map (λ before v. before ++ tokens_of v) f ((ts ++ key name ∷ []) ++ begin_array ∷ []) xs)
