-- The bytes of what was written after nothing.
use Rattle.std.proofs.Common.{◌≡◌, ◌≤◌, ℕ, IsTrue, List, [], ◌++◌, Some, ap, ◌∙◌, arith}
use Rattle.json.specs.Token.{Token}
use Rattle.json.specs.Print.{print}
use Rattle.serde_json.specs.Data.{Data}
use Rattle.serde_json.specs.Read.{max_depth}
use Rattle.json_objects.specs.Body.{object_in}
use Rattle.json_objects.specs.Fields.{is_object}
use Rattle.json_objects.specs.Tokens.{tokens_of}
use Rattle.json_objects.specs.ReadBack.{CanBeRead}

-- an object that was written alone reads as itself
pub reads_alone : (before result : List ℕ) (fresh now : List Token) (value : Data) (levels : ℕ) → levels ≤ 127 → CanBeRead levels value → IsTrue (is_object value)
    → before ≡ [] → fresh ≡ [] → now ≡ fresh ++ tokens_of value → result ≡ before ++ print now
    → ((d : Data) → now ≡ tokens_of d → CanBeRead max_depth d → IsTrue (is_object d) → object_in (print now) ≡ Some d)
    → object_in result ≡ Some value
reads_alone before result fresh now value levels low can object empty none tokens bytes reads =
    let same : now ≡ tokens_of value = tokens ∙ ap (λ (ts : List Token). ts ++ tokens_of value) none in
    let shallow : CanBeRead max_depth value = record { exact = can.exact; deep = let h = can.deep in omega (arith, h, low) } in
    ap object_in (bytes ∙ ap (λ (b : List ℕ). b ++ print now) empty) ∙ reads value same shallow object
