-- Whether a body is a JSON object.
use Rattle.std.proofs.Common.{◌≡◌, ℕ, Bool, true, false, List, Some, None, Result, IfOk, IsUtf8, inl, inr, refl, sym, subst, if◌then◌else◌}
use Rattle.std.specs.Str.{is_utf8}
use Rattle.std.proofs.lemmas.Str.{IsUtf8-from_is_utf8, is_utf8-from_IsUtf8}
use Rattle.serde_json.specs.Data.{Data}
use Rattle.serde_json.specs.Read.{read}
use Rattle.units.specs.Answers.{IsOrNoMemory}
use Rattle.json_objects.specs.Fields.{is_object}
use Rattle.json_objects.specs.Body.{object_within, object_in}

pub object_is : (body : List ℕ) (value : Data) → IsUtf8 body → read body ≡ Some value → is_object value ≡ true → object_in body ≡ Some value
object_is body value utf8 reads object = rw (is_utf8-from_IsUtf8 body utf8, reads, object) refl

pub other_value : (body : List ℕ) (value : Data) → IsUtf8 body → read body ≡ Some value → is_object value ≡ false → object_in body ≡ None
other_value body value utf8 reads other = rw (is_utf8-from_IsUtf8 body utf8, reads, other) refl

pub no_value : (body : List ℕ) → (IsUtf8 body → read body ≡ None) → object_in body ≡ None
no_value body none = by (is_utf8 body) refl
  where
    by : (b : Bool) → is_utf8 body ≡ b → (if b then object_within (read body) else None) ≡ None
    by true t = rw (none (IsUtf8-from_is_utf8 body t)) refl
    by false t = refl

pub ruleset objects = (object_is, other_value, no_value)

-- what holds of an answer holds of what is given
pub holds : {A E : Type 0} (P : A → Type 0) (no_memory : E) (result told : Result A E) → IsOrNoMemory no_memory result told → IfOk told P → IfOk result P
holds P no_memory result told (inl e) h = subst (λ r. IfOk r P) (sym e) h
holds P no_memory result told (inr e) h = subst (λ r. IfOk r P) (sym e) tt
