-- A written request has a byte at least for each of its containers.
use Rattle.std.proofs.Common.{◌≡◌, ◌≤◌, ◌+◌, ◌++◌, ℕ, suc, Bool, true, false, List, [], ◌∷◌, map, length, sum_by, Option, Some, None, ap, arith, codes}
use Rattle.std.proofs.lemmas.List.{length-append}
use Rattle.std.proofs.lemmas.List.Sums.{sum_by-cons}
use Rattle.std.specs.Ordering.{nat_cmp, match_ordering}
use Rattle.std.specs.Cmp.Lexicographic.{slice_cmp}
use Rattle.std.specs.declared.cmp.Ordering.{Ordering}
use Rattle.std.specs.declared.cmp.Ordering.TheVariants.{Less, Equal, Greater}
use Rattle.json.specs.Print.{quoted}
use Rattle.serde_json.specs.Data.{Data, null, boolean, number, string, array, object, Items, no_items, item, Members, no_members, member}
use Rattle.serde_json.specs.Find.{get_member}
use Rattle.serde_json.specs.View.{items_of}
use Rattle.serde_json.specs.Written.{compact_text, items_text, members_text, comma_if}
use Rattle.units.specs.declared.request.Used.{Used}
use Rattle.units.specs.declared.request.UnitUsage.{UnitUsage}
use Rattle.units.specs.declared.request.Request.{Request}
use Rattle.json_objects.specs.Fields.{unless_null, given}
use Rattle.json_objects.specs.Objects.{listed, with_fields}
use Rattle.json_objects.specs.ReadBack.{ReadBackLaws}
use Rattle.charging_json.specs.RequestWritten.{used_data, usage_data, usage_fields, request_data, request_fields, container_count}

-- how many objects a value has
abbrev mutual
  objects : Data → ℕ
  objects null = 0
  objects (boolean b) = 0
  objects (number n) = 0
  objects (string s) = 0
  objects (array ds) = items_objects ds
  objects (object ms) = suc (members_objects ms)

  items_objects : Items → ℕ
  items_objects no_items = 0
  items_objects (item d ds) = objects d + items_objects ds

  members_objects : Members → ℕ
  members_objects no_members = 0
  members_objects (member k d ms) = objects d + members_objects ms

-- what follows a name
after_name : (comma name value rest : List ℕ) (n m : ℕ) → n ≤ length value → m ≤ length rest → n + m ≤ length (comma ++ (name ++ 58 ∷ (value ++ rest)))
after_name comma name value rest n m a b =
    let e1 = length-append comma (name ++ 58 ∷ (value ++ rest)) in
    let e2 = length-append name (58 ∷ (value ++ rest)) in
    let e3 = length-append value rest in
    omega (arith, a, b, e1, e2, e3)

-- each has a byte
mutual
  text_long : (d : Data) → objects d ≤ length (compact_text d)
  text_long null = omega arith
  text_long (boolean b) = omega arith
  text_long (number n) = omega arith
  text_long (string s) = omega arith
  text_long (array ds) = let l = items_long false ds in omega (arith, l)
  text_long (object ms) = let l = members_long false ms in omega (arith, l)

  items_long : (later : Bool) (ds : Items) → items_objects ds ≤ length (items_text later ds)
  items_long later no_items = omega arith
  items_long later (item d ds) =
      let a = text_long d in
      let b = items_long true ds in
      let e1 = length-append (comma_if later) (compact_text d ++ items_text true ds) in
      let e2 = length-append (compact_text d) (items_text true ds) in
      omega (arith, a, b, e1, e2)

  members_long : (later : Bool) (ms : Members) → members_objects ms ≤ length (members_text later ms)
  members_long later no_members = omega arith
  members_long later (member k d ms) = after_name (comma_if later) (quoted k) (compact_text d) (members_text true ms) (objects d) (members_objects ms) (text_long d) (members_long true ms)

-- a field of an object has no more objects than it
member_by : (o : Ordering) (later : Option Data) (d v : Data) (n : ℕ) → (later ≡ Some v → objects v ≤ n) → match_ordering o later (Some d) later ≡ Some v → objects v ≤ objects d + n
member_by Less later d v n less e = let l = less e in omega (arith, l)
member_by Equal later d v n less e = let same : objects d ≡ objects v = let is : d ≡ v = cc in ap objects is in omega (arith, same)
member_by Greater later d v n less e = let l = less e in omega (arith, l)

member_less : (name : List ℕ) (ms : Members) (v : Data) → get_member name ms ≡ Some v → objects v ≤ members_objects ms
member_less name no_members v e = absurd (cc)
member_less name (member l d ms) v e = member_by (slice_cmp nat_cmp name l) (get_member name ms) d v (members_objects ms) (member_less name ms v) e

there : (o : Option Data) (v : Data) → unless_null o ≡ Some v → o ≡ Some v
there None v e = e
there (Some null) v e = absurd (cc)
there (Some (boolean b)) v e = e
there (Some (number n)) v e = e
there (Some (string s)) v e = e
there (Some (array ds)) v e = e
there (Some (object ms)) v e = e

field_less : (name : List ℕ) (ms : Members) (v : Data) → given name (object ms) ≡ Some v → objects v ≤ objects (object ms)
field_less name ms v e = let l = member_less name ms v (there (get_member name ms) v e) in omega (arith, l)

-- a container is an object
used_long : (used : List Used) → length used ≤ items_objects (items_of (map used_data used))
used_long [] = omega arith
used_long (c ∷ used) = let l = used_long used in omega (arith, l)

usage_long : ReadBackLaws → (usage : UnitUsage) → length usage.used ≤ objects (usage_data usage)
usage_long laws usage = by usage.used (laws.look_up (codes "usedUnitContainer") (usage_fields usage))
  where
    by : (used : List Used) → given (codes "usedUnitContainer") (usage_data usage) ≡ unless_null (listed (map used_data used)) → length used ≤ objects (usage_data usage)
    by [] e = omega arith
    by (c ∷ used) e = let l = field_less (codes "usedUnitContainer") (with_fields (usage_fields usage) no_members) (array (items_of (map used_data (c ∷ used)))) e in let m = used_long (c ∷ used) in omega (arith, l, m)

usages_long : ReadBackLaws → (usage : List UnitUsage) → sum_by (λ u. length u.used) usage ≤ items_objects (items_of (map usage_data usage))
usages_long laws [] = omega arith
usages_long laws (u ∷ usage) = let l = usage_long laws u in let m = usages_long laws usage in let s = sum_by-cons (λ (v : UnitUsage). length v.used) u usage in omega (arith, l, m, s)

pub request_long : ReadBackLaws → (request : Request) → container_count request ≤ length (compact_text (request_data request))
request_long laws request = let l = text_long (request_data request) in let m = by request.usage (laws.look_up (codes "multipleUnitUsage") (request_fields request)) in omega (arith, l, m)
  where
    by : (usage : List UnitUsage) → given (codes "multipleUnitUsage") (request_data request) ≡ unless_null (listed (map usage_data usage)) → sum_by (λ u. length u.used) usage ≤ objects (request_data request)
    by [] e = omega arith
    by (u ∷ usage) e = let l = field_less (codes "multipleUnitUsage") (with_fields (request_fields request) no_members) (array (items_of (map usage_data (u ∷ usage)))) e in let m = usages_long laws (u ∷ usage) in omega (arith, l, m)
