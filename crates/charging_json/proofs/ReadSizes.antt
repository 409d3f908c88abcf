-- The fields that are read of an object take at most the object.
use Rattle.std.proofs.Common.{◌≡◌, ◌≤◌, ◌+◌, ℕ, Bool, true, false, not, ◌&&◌, ◌||◌, List, [], ◌∷◌, length, Option, Some, None, bytes_eq, refl, sym, ap, ◌∙◌, arith, Ordering, Less, Equal, Greater}
use Rattle.std.specs.Ordering.{nat_cmp, match_ordering, is_eq}
use Rattle.std.specs.Cmp.Lexicographic.{slice_cmp}
use Rattle.std.proofs.lemmas.Bool.{true≢false}
use Rattle.std.proofs.lemmas.Map.Text.{is_eq-slice_cmp}
use Rattle.std.proofs.lemmas.Slice.Eq.{bytes_eq-Decides}
use Rattle.serde_json.specs.Data.{Data, null, boolean, number, string, array, object, Members, no_members, member}
use Rattle.serde_json.specs.Find.{get_member}
use Rattle.json_objects.specs.Fields.{unless_null, given}
use Rattle.json_objects.specs.Sizes.{size, members_size}

-- how much a field takes of its object
abbrev pub field_size : List ℕ → Option Data → ℕ
field_size name None = 0
field_size name (Some value) = length name + 4 + size value

-- the field of this name, of a value
abbrev pub part : List ℕ → Data → ℕ
part name value = field_size name (given name value)

-- and the fields of these names
abbrev pub fields_size : List (List ℕ) → Data → ℕ
fields_size [] value = 0
fields_size (name ∷ names) value = part name value + fields_size names value

abbrev is_among : List ℕ → List (List ℕ) → Bool
is_among name [] = false
is_among name (other ∷ names) = bytes_eq name other || is_among name names

abbrev pub are_distinct : List (List ℕ) → Bool
are_distinct [] = true
are_distinct (name ∷ names) = not (is_among name names) && are_distinct names

-- ---- among the members of an object

abbrev found_size : List (List ℕ) → Members → ℕ
found_size [] ms = 0
found_size (name ∷ names) ms = field_size name (get_member name ms) + found_size names ms

pub same_name : (a b : List ℕ) → slice_cmp nat_cmp a b ≡ Equal → a ≡ b
same_name a b e = (bytes_eq-Decides a b).0 (sym (is_eq-slice_cmp a b) ∙ ap is_eq e)

not_there : (o : Ordering) (name other k : List ℕ) (d : Data) (later : Option Data) → slice_cmp nat_cmp other k ≡ o
    → name ≡ k → bytes_eq name other ≡ false
    → field_size other (match_ordering o later (Some d) later) ≤ field_size other later
not_there Less name other k d later e is differs = omega arith
not_there Equal name other k d later e is differs =
    absurd (true≢false (sym ((bytes_eq-Decides name other).1 (is ∙ sym (same_name other k e))) ∙ differs))
not_there Greater name other k d later e is differs = omega arith

first_false : (a b : Bool) → (a || b) ≡ false → (a ≡ false) × (b ≡ false)
first_false true b e = absurd (cc)
first_false false b e = (refl, e)

none_there : (name : List ℕ) (names : List (List ℕ)) (k : List ℕ) (d : Data) (ms : Members)
    → is_among name names ≡ false → name ≡ k → found_size names (member k d ms) ≤ found_size names ms
none_there name [] k d ms none is = omega arith
none_there name (other ∷ names) k d ms none is =
    let parts = first_false (bytes_eq name other) (is_among name names) none in
    let a = not_there (slice_cmp nat_cmp other k) name other k d (get_member other ms) refl is parts.0 in
    let b = none_there name names k d ms parts.1 is in
    omega (arith, a, b)

both_true : (a b : Bool) → (not a && b) ≡ true → (a ≡ false) × (b ≡ true)
both_true true b e = absurd (cc)
both_true false b e = (refl, e)

first_name : (o : Ordering) (name k : List ℕ) (names : List (List ℕ)) (d : Data) (ms : Members)
    → slice_cmp nat_cmp name k ≡ o → is_among name names ≡ false
    → found_size names (member k d ms) ≤ length k + 4 + size d + found_size names ms
    → field_size name (match_ordering o (get_member name ms) (Some d) (get_member name ms)) + found_size names
    (member k d ms) ≤ length k + 4 + size d + (field_size name (get_member name ms) + found_size names ms)
first_name Less name k names d ms e none h = omega (arith, h)
first_name Equal name k names d ms e none h =
    let is = same_name name k e in
    let l : length name ≡ length k = ap length is in
    let rest = none_there name names k d ms none is in
    omega (arith, l, rest)
first_name Greater name k names d ms e none h = omega (arith, h)

one_member : (names : List (List ℕ)) (k : List ℕ) (d : Data) (ms : Members) → are_distinct names ≡ true
    → found_size names (member k d ms) ≤ length k + 4 + size d + found_size names ms
one_member [] k d ms distinct = omega arith
one_member (name ∷ names) k d ms distinct =
    let parts = both_true (is_among name names) (are_distinct names) distinct in
    first_name (slice_cmp nat_cmp name k) name k names d ms refl parts.0 (one_member names k d ms parts.1)

nothing : (names : List (List ℕ)) → found_size names no_members ≤ 0
nothing [] = omega arith
nothing (name ∷ names) = let h = nothing names in omega (arith, h)

found_fit : (names : List (List ℕ)) (ms : Members) → are_distinct names ≡ true → found_size names ms ≤ members_size ms
found_fit names no_members distinct = nothing names
found_fit names (member k d ms) distinct =
    let a = one_member names k d ms distinct in let b = found_fit names ms distinct in omega (arith, a, b)

-- ---- of a value

unless_null_size : (name : List ℕ) (o : Option Data) → field_size name (unless_null o) ≤ field_size name o
unless_null_size name None = omega arith
unless_null_size name (Some null) = omega arith
unless_null_size name (Some (boolean b)) = omega arith
unless_null_size name (Some (number n)) = omega arith
unless_null_size name (Some (string s)) = omega arith
unless_null_size name (Some (array ds)) = omega arith
unless_null_size name (Some (object ms)) = omega arith

given_fit : (names : List (List ℕ)) (ms : Members) → fields_size names (object ms) ≤ found_size names ms
given_fit [] ms = omega arith
given_fit (name ∷ names) ms =
    let a = unless_null_size name (get_member name ms) in let b = given_fit names ms in omega (arith, a, b)

pub positive : (value : Data) → 1 ≤ size value
positive null = omega arith
positive (boolean b) = omega arith
positive (number n) = omega arith
positive (string s) = omega arith
positive (array ds) = omega arith
positive (object ms) = omega arith

absent : (names : List (List ℕ)) (value : Data) → ((name : List ℕ) → given name value ≡ None)
    → fields_size names value ≤ 0
absent [] value none = omega arith
absent (name ∷ names) value none =
    let a : part name value ≡ 0 = ap (field_size name) (none name) in
    let b = absent names value none in omega (arith, a, b)

pub fields_fit : (names : List (List ℕ)) (value : Data) → are_distinct names ≡ true
    → fields_size names value + 1 ≤ size value
fields_fit names null distinct = let h = absent names null (λ name. refl) in omega (arith, h)
fields_fit names (boolean b) distinct = let h = absent names (boolean b) (λ name. refl) in omega (arith, h)
fields_fit names (number n) distinct = let h = absent names (number n) (λ name. refl) in omega (arith, h)
fields_fit names (string s) distinct = let h = absent names (string s) (λ name. refl) in omega (arith, h)
fields_fit names (array ds) distinct = let h = absent names (array ds) (λ name. refl) in omega (arith, h)
fields_fit names (object ms) distinct =
    let a = given_fit names ms in let b = found_fit names ms distinct in omega (arith, a, b)
