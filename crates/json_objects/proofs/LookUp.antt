-- What stands under a name in what is written.
use Rattle.std.proofs.Common.{◌≡◌, ℕ, List, [], ◌∷◌, Option, Some, None, refl, sym, ◌∙◌, ap, bytes_eq, inl, inr}
use Rattle.std.proofs.lemmas.Bool.{cases_Bool, both_ways}
use Rattle.std.proofs.lemmas.Slice.Eq.{bytes_eq-Decides}
use Rattle.serde_json.specs.Data.{Data, Members, no_members}
use Rattle.serde_json.specs.Find.{get_member}
use Rattle.serde_json.proofs.Views.{get_member-put, get_member-put_other}
use Rattle.json_objects.specs.Fields.{unless_null, given}
use Rattle.json_objects.specs.Objects.{put_if, with_fields, object_of}
use Rattle.json_objects.specs.ReadBack.{or_else, found}

or_none : (o : Option Data) → or_else o None ≡ o
or_none None = refl
or_none (Some d) = refl

or_assoc : (a b c : Option Data) → or_else a (or_else b c) ≡ or_else (or_else a b) c
or_assoc None b c = refl
or_assoc (Some d) b c = refl

put_same : (name : List ℕ) (o : Option Data) (ms : Members) → get_member name (put_if name o ms) ≡ or_else o (get_member name ms)
put_same name None ms = refl
put_same name (Some d) ms = get_member-put name d ms

put_other : (name other : List ℕ) (o : Option Data) (ms : Members) → (name ≡ other → ⊥) → get_member name (put_if other o ms) ≡ get_member name ms
put_other name other None ms differs = refl
put_other name other (Some d) ms differs = get_member-put_other name other d ms differs

look_in : (name : List ℕ) (fields : List (List ℕ × Option Data)) (ms : Members) → get_member name (with_fields fields ms) ≡ or_else (found name fields) (get_member name ms)
look_in name [] ms = refl
look_in name (f ∷ rest) ms = elim (cases_Bool (bytes_eq name f.0)) [
  | inl here ↦ let same : name ≡ f.0 = (bytes_eq-Decides name f.0).0 here in
      look_in name rest (put_if f.0 f.1 ms) ∙ ap (or_else (found name rest)) (ap (λ n. get_member name (put_if n f.1 ms)) (sym same) ∙ put_same name f.1 ms)
      ∙ or_assoc (found name rest) f.1 (get_member name ms) ∙ rw here refl
  | inr differs ↦ look_in name rest (put_if f.0 f.1 ms) ∙ ap (or_else (found name rest)) (put_other name f.0 f.1 ms (λ e. both_ways (bytes_eq name f.0) differs ((bytes_eq-Decides name f.0).1 e))) ∙ rw differs refl
]

pub look_up : (name : List ℕ) (fields : List (List ℕ × Option Data)) → given name (object_of fields) ≡ unless_null (found name fields)
look_up name fields = ap unless_null (look_in name fields no_members ∙ or_none (found name fields))
