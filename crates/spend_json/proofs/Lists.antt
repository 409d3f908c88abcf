-- Lists of texts that read back.
use Rattle.std.proofs.Common.{◌≡◌, ◌≤◌, ℕ, Bool, true, List, [], ◌∷◌, map, length, nat_le, Option, Some, None, option_map, refl, ap, arith}
use Rattle.std.specs.List.{AllByRecursion}
use Rattle.std.proofs.lemmas.Bool.Decides.{nat_tests}
use Rattle.serde_json.specs.Data.{Data, string}
use Rattle.serde_json.specs.View.{items_of}
use Rattle.json_objects.specs.Fields.{unless_null, each, name, or_empty, text_that}
use Rattle.json_objects.specs.Objects.{listed}
use Rattle.json_objects.specs.ReadBack.{ItemsCanBeRead, ReadBackLaws}
use Rattle.spend_json.specs.Context.{few, counters_of}
use Rattle.spend_json.specs.Ranges.{IsName}

-- a list as an optional field has it
abbrev pub unless_empty : List (List ℕ) → Option (List (List ℕ))
unless_empty [] = None
unless_empty (x ∷ xs) = Some (x ∷ xs)

pub empty_again : (xs : List (List ℕ)) → or_empty (unless_empty xs) ≡ xs
empty_again [] = refl
empty_again (x ∷ xs) = refl

pub not_null : (values : List Data) → unless_null (listed values) ≡ listed values
not_null [] = refl
not_null (v ∷ values) = refl

pub text_back : (test : List ℕ → Bool) (text : List ℕ) → test text ≡ true → text_that test (string text) ≡ Some text
text_back test text h = rw h refl

each_back : (xs : List (List ℕ)) → AllByRecursion IsName xs → each name (items_of (map string xs)) ≡ Some xs
each_back [] all = refl
each_back (x ∷ xs) all = rw (text_back _ x all.0, each_back xs all.1) refl

are_few : (xs : List (List ℕ)) → length xs ≤ 100 → few xs ≡ Some xs
are_few xs le = let test : nat_le (length xs) 100 ≡ true = grind (arith, nat_tests, le) in rw test refl

pub counters_back : (xs : List (List ℕ)) → AllByRecursion IsName xs → length xs ≤ 100 → option_map counters_of (listed (map string xs)) ≡ option_map Some (unless_empty xs)
counters_back [] all le = refl
counters_back (x ∷ xs) all le = ap Some (rw (each_back (x ∷ xs) all) (are_few (x ∷ xs) le))

pub texts_readable : ReadBackLaws → (levels : ℕ) (xs : List (List ℕ)) → ItemsCanBeRead levels (map string xs)
texts_readable laws levels [] = tt
texts_readable laws levels (x ∷ xs) = (laws.texts levels x, texts_readable laws levels xs)
