-- Text as a test and as a fact.
use Rattle.std.proofs.Common.{◌≡◌, ℕ, List, Bool, true, false, Some, None, refl}
use Rattle.std.specs.Str.{IsUtf8, is_utf8}
use Rattle.std.proofs.lemmas.Str.{IsUtf8-from_is_utf8, is_utf8-from_IsUtf8}
use Rattle.records.specs.Fields.{text_of}

pub some_text : (bs : List ℕ) → IsUtf8 bs → text_of bs ≡ Some bs
some_text bs h = rw (is_utf8-from_IsUtf8 bs h) refl

pub no_text : (bs : List ℕ) → (IsUtf8 bs → ⊥) → text_of bs ≡ None
no_text bs h = by (is_utf8 bs) refl where
  by : (b : Bool) → is_utf8 bs ≡ b → text_of bs ≡ None
  by true is = absurd (h (IsUtf8-from_is_utf8 bs is))
  by false is = rw is refl
