-- Lists and optional values that read back.
use Rattle.std.proofs.Common.{◌≡◌, ◌≤◌, ℕ, Bool, true, false, List, [], ◌∷◌, map, length, nat_le, Option, Some, None, Ok, option_map, option_and_then, refl, sym, ◌∙◌, ap, arith, if◌then◌else◌, bytes_eq, inl, inr}
use Rattle.std.proofs.lemmas.Bool.{cases_Bool, both_ways, true≢false}
use Rattle.std.specs.Option.{is_some}
use Rattle.std.proofs.lemmas.Bool.Decides.{nat_tests}
use Rattle.std.specs.List.{AllByRecursion}
use Rattle.serde_json.specs.Data.{Data, Members, no_members}
use Rattle.serde_json.specs.View.{items_of}
use Rattle.json_objects.specs.Fields.{unless_null, given, optional, each, list_of, or_empty, allowed, required_if}
use Rattle.units.specs.Ranges.{IfGiven}
use Rattle.charging_json.specs.Usage.{count, short, short_list_of}
use Rattle.json_objects.specs.Objects.{put_if, with_fields, object_of, listed}

-- ---- lists

-- a list as an optional field has it
abbrev pub unless_empty : {T : Type 0} → List T → Option (List T)
unless_empty [] = None
unless_empty (x ∷ xs) = Some (x ∷ xs)

pub empty_again : {T : Type 0} (xs : List T) → or_empty (unless_empty xs) ≡ xs
empty_again [] = refl
empty_again (x ∷ xs) = refl

pub not_null : (values : List Data) → unless_null (listed values) ≡ listed values
not_null [] = refl
not_null (v ∷ values) = refl

pub each_back : {T : Type 0} (reads : Data → Option T) (writes : T → Data) (P : T → Type 0) (xs : List T) → ((x : T) → P x → reads (writes x) ≡ Some x) → AllByRecursion P xs → each reads (items_of (map writes xs)) ≡ Some xs
each_back reads writes P [] back all = refl
each_back reads writes P (x ∷ xs) back all = rw (back x all.0, each_back reads writes P xs back all.1) refl

pub list_back : {T : Type 0} (reads : Data → Option T) (writes : T → Data) (P : T → Type 0) (xs : List T) → ((x : T) → P x → reads (writes x) ≡ Some x) → AllByRecursion P xs → option_map (list_of reads) (listed (map writes xs)) ≡ option_map Some (unless_empty xs)
list_back reads writes P [] back all = refl
list_back reads writes P (x ∷ xs) back all = ap Some (each_back reads writes P (x ∷ xs) back all)

pub optional_is : {T : Type 0} (reads : Data → Option T) (o : Option Data) (t : Option T) → option_map reads o ≡ option_map Some t → optional reads o ≡ Some t
optional_is reads None None e = refl
optional_is reads None (Some x) e = cc
optional_is reads (Some d) None e = cc
optional_is reads (Some d) (Some x) e = let is : reads d ≡ Some x = cc in rw is refl

count_map : {T : Type 0} (writes : T → Data) (xs : List T) → count (items_of (map writes xs)) ≡ length xs
count_map writes [] = refl
count_map writes (x ∷ xs) = let rest = count_map writes xs in omega arith

short_back : {T : Type 0} (reads : Data → Option T) (writes : T → Data) (P : T → Type 0) (xs : List T) → ((x : T) → P x → reads (writes x) ≡ Some x) → AllByRecursion P xs → length xs ≤ 1000 → option_and_then (each reads) (short (items_of (map writes xs))) ≡ Some xs
short_back reads writes P xs back all few =
    let size = count_map writes xs in
    let test : nat_le (count (items_of (map writes xs))) 1000 ≡ true = grind (arith, nat_tests, size, few) in
    rw test (each_back reads writes P xs back all)

pub short_list_back : {T : Type 0} (reads : Data → Option T) (writes : T → Data) (P : T → Type 0) (xs : List T) → ((x : T) → P x → reads (writes x) ≡ Some x) → AllByRecursion P xs → length xs ≤ 1000 → option_map (short_list_of reads) (listed (map writes xs)) ≡ option_map Some (unless_empty xs)
short_list_back reads writes P [] back all few = refl
short_list_back reads writes P (x ∷ xs) back all few = ap Some (short_back reads writes P (x ∷ xs) back all few)

-- ---- optional values

pub given_back : {T : Type 0} (reads : Data → Option T) (writes : T → Data) (P : T → Type 0) (o : Option T) → ((x : T) → P x → reads (writes x) ≡ Some x) → IfGiven P o → option_map reads (option_map writes o) ≡ option_map Some o
given_back reads writes P None back all = refl
given_back reads writes P (Some x) back all = ap Some (back x all)

pub present : {T : Type 0} (writes : T → Data) (o : Option T) → ((x : T) → unless_null (Some (writes x)) ≡ Some (writes x)) → unless_null (option_map writes o) ≡ option_map writes o
present writes None there = refl
present writes (Some x) there = there x

pub allowed_is : {T : Type 0} (label : List ℕ) (found : Option (Option T)) (o : Option T) → found ≡ option_map Some o → allowed label found ≡ Ok o
allowed_is label found None e = rw e refl
allowed_is label found (Some x) e = rw e refl

pub required_if_is : {T : Type 0} (must : Bool) (label : List ℕ) (found : Option (Option T)) (o : Option T) → found ≡ option_map Some o → (must ≡ true → is_some o ≡ true) → required_if must label found ≡ Ok o
required_if_is must label found (Some x) e there = rw e refl
required_if_is true label found None e there = absurd (true≢false (sym (there refl)))
required_if_is false label found None e there = rw e refl
