-- What is written reads back.
use Rattle.std.proofs.Common.{◌≡◌, ◌≤◌, ℕ, suc, IsTrue, List, [], ◌∷◌, Option, Some, None, option_and_then, refl, sym, ap, ◌∙◌, arith, append-nil}
use Rattle.json.specs.Token.{Token}
use Rattle.json.specs.Lex.{tokens}
use Rattle.json.specs.Json as json
use Rattle.json.specs.Tree as tree
use Rattle.json.specs.Print.{print}
use Rattle.json.proofs.Printed.Trees.{value-json_tokens}
use Rattle.serde_json.specs.Data.{Data, null, boolean, number, string, array, object, Items, no_items, item, Members, no_members, member, depth, items_depth, members_depth}
use Rattle.serde_json.specs.Read.{read, max_depth, of_json, of_items, of_members}
use Rattle.serde_json.specs.View.{items_of}
use Rattle.serde_json.specs.Written.{outline, items_outline, members_outline, compact_text}
use Rattle.serde_json.proofs.Numbers.{number_of-decimal}
use Rattle.serde_json.proofs.Texts.{print-outline}
use Rattle.json_objects.specs.Objects.{put_if, with_fields, object_of, listed}
use Rattle.json_objects.specs.Tokens.{tokens_of, do_ascend}
use Rattle.json_objects.specs.ReadBack.{CanBeRead, IfThere, FieldsCanBeRead, ItemsCanBeRead, ReadBackLaws}
use Rattle.json_objects.proofs.LookUp.{look_up}
use Rattle.json_objects.proofs.InOrder.{in_order, before, ordered}

-- ---- the text of a value

mutual
  shallow : (d : Data) → tree.depth (outline d) ≤ depth d
  shallow null = omega arith
  shallow (boolean b) = omega arith
  shallow (number n) = omega arith
  shallow (string s) = omega arith
  shallow (array ds) = let h = items_shallow ds in omega (arith, h)
  shallow (object ms) = let h = members_shallow ms in omega (arith, h)

  items_shallow : (ds : Items) → tree.items_depth (items_outline ds) ≤ items_depth ds
  items_shallow no_items = omega arith
  items_shallow (item d ds) = let h = shallow d in let k = items_shallow ds in omega (arith, h, k)

  members_shallow : (ms : Members) → tree.members_depth (members_outline ms) ≤ members_depth ms
  members_shallow no_members = omega arith
  members_shallow (member k d ms) = let h = shallow d in let l = members_shallow ms in omega (arith, h, l)

pub text_is : (value : Data) (ts : List Token) → ts ≡ tokens_of value → print ts ≡ compact_text value
unfolding tokens_of
text_is value ts e = ap print e ∙ print-outline value

abbrev value_in : Option (json.Json × List Token) → Option Data
value_in found = option_and_then of_json (option_and_then (λ p. json.if_last p.0 p.1) found)

pub reads_as : (value : Data) (ts : List Token) → tokens (print ts) ≡ ts → ts ≡ tokens_of value → CanBeRead max_depth value → read (print ts) ≡ Some value
unfolding tokens_of
reads_as value ts same e can =
    let few : tree.depth (outline value) ≤ max_depth = let h = shallow value in let k = can.deep in omega (arith, h, k) in
    ap (λ (t : List Token). value_in (json.value max_depth t)) (same ∙ e ∙ sym (append-nil (tokens_of value)))
    ∙ ap value_in (value-json_tokens (outline value) max_depth [] few) ∙ can.exact

-- ---- the laws

first_back : (levels : ℕ) (name : List ℕ) (o : Option Data) (rest : List (List ℕ × Option Data)) (ms : Members) → IfThere levels o
    → ((more : Members) → of_members (members_outline (in_order rest)) more ≡ Some (with_fields rest more)) → of_members (members_outline (before name o (in_order rest))) ms ≡ Some (with_fields rest (put_if name o ms))
first_back levels name None rest ms here later = later ms
first_back levels name (Some v) rest ms here later = rw here.exact (later (put_if name (Some v) ms))

fields_back : (levels : ℕ) (fields : List (List ℕ × Option Data)) (ms : Members) → FieldsCanBeRead levels fields → of_members (members_outline (in_order fields)) ms ≡ Some (with_fields fields ms)
fields_back levels [] ms h = refl
fields_back levels (f ∷ rest) ms h = first_back levels f.0 f.1 rest ms h.0 (λ more. fields_back levels rest more h.1)

first_deep : (levels : ℕ) (name : List ℕ) (o : Option Data) (rest : List (List ℕ × Option Data)) → IfThere levels o → members_depth (in_order rest) ≤ levels → members_depth (before name o (in_order rest)) ≤ levels
first_deep levels name None rest here later = later
first_deep levels name (Some v) rest here later = let k = here.deep in omega (arith, k, later)

fields_deep : (levels : ℕ) (fields : List (List ℕ × Option Data)) → FieldsCanBeRead levels fields → members_depth (in_order fields) ≤ levels
fields_deep levels [] h = omega arith
fields_deep levels (f ∷ rest) h = first_deep levels f.0 f.1 rest h.0 (fields_deep levels rest h.1)

object_back : (levels : ℕ) (fields : List (List ℕ × Option Data)) → IsTrue (do_ascend fields) → FieldsCanBeRead levels fields → CanBeRead (suc levels) (object_of fields)
object_back levels fields up h = record {
  exact =
      ap (λ ms. of_json (outline (object ms))) (ordered fields up)
      ∙ rw (fields_back levels fields no_members h) refl;
  deep = let k = fields_deep levels fields h in let e : members_depth (with_fields fields no_members) ≡ members_depth (in_order fields) = ap members_depth (ordered fields up) in omega (arith, k, e);
}

items_back : (levels : ℕ) (values : List Data) → ItemsCanBeRead levels values → of_items (items_outline (items_of values)) ≡ Some (items_of values)
items_back levels [] h = refl
items_back levels (v ∷ values) h = rw (h.0.exact, items_back levels values h.1) refl

items_deep : (levels : ℕ) (values : List Data) → ItemsCanBeRead levels values → items_depth (items_of values) ≤ levels
items_deep levels [] h = omega arith
items_deep levels (v ∷ values) h = let k = h.0.deep in let l = items_deep levels values h.1 in omega (arith, k, l)

list_back : (levels : ℕ) (values : List Data) → ItemsCanBeRead levels values → IfThere (suc levels) (listed values)
list_back levels [] h = tt
list_back levels (v ∷ values) h = record {
  exact = rw (items_back levels (v ∷ values) h) refl;
  deep = let k = items_deep levels (v ∷ values) h in omega (arith, k);
}

pub read_back_laws : ReadBackLaws
read_back_laws = record {
  texts = λ levels text. record { exact = refl; deep = omega arith };
  numbers = λ levels n small. record { exact = rw (number_of-decimal n small) refl; deep = omega arith };
  objects = object_back;
  lists = list_back;
  deeper = λ levels more value le can. record { exact = can.exact; deep = let h = can.deep in omega (arith, h, le) };
  look_up = look_up;
}
