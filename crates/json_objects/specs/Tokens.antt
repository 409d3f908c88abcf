-- The tokens of JSON values, one after another, as they are written (RFC 8259).
use Rattle.std.specs.Prelude.{ℕ, ◌&&◌, Bool, true, List, [], ◌∷◌, ◌++◌, Option, Some, None, fold}
use Rattle.std.specs.Ordering.{nat_cmp, is_gt}
use Rattle.std.specs.Cmp.Lexicographic.{slice_cmp}
use Rattle.json.specs.Token.{Token, key}
use Rattle.json.specs.Tree.{json_tokens}
use Rattle.serde_json.specs.Data.{Data}
use Rattle.serde_json.specs.Written.{outline}

-- the tokens of a value
unfoldable pub tokens_of : Data → List Token
tokens_of value = json_tokens (outline value)

-- tokens, and then a field, where it has a value
unfoldable pub field_after : List Token → List ℕ → Option Data → List Token
field_after tokens name None = tokens
field_after tokens name (Some value) = (tokens ++ key name ∷ []) ++ tokens_of value

-- tokens, and then these fields
abbrev pub fields_after : List Token → List (List ℕ × Option Data) → List Token
fields_after tokens [] = tokens
fields_after tokens (f ∷ rest) = fields_after (field_after tokens f.0 f.1) rest

-- tokens, and then these values
abbrev pub values_after : List Token → List Data → List Token
values_after tokens values = fold (λ before value. before ++ tokens_of value) tokens values

-- whether each of these fields has a name above this one
abbrev pub are_above : List ℕ → List (List ℕ × Option Data) → Bool
are_above name [] = true
are_above name (f ∷ rest) = is_gt (slice_cmp nat_cmp f.0 name) && are_above name rest

-- whether the names of these fields ascend, byte by byte
abbrev pub do_ascend : List (List ℕ × Option Data) → Bool
do_ascend [] = true
do_ascend (f ∷ rest) = are_above f.0 rest && do_ascend rest
