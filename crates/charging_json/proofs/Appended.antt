-- A buffer to which a value was appended.
use Rattle.std.proofs.Common.{◌≡◌, ◌≤◌, ℕ, IsTrue, List, [], ◌++◌, Some, Result, Ok, Err, OnOk, sym, ap, ◌∙◌, arith}
use Rattle.json.specs.Token.{Token}
use Rattle.json.specs.Print.{print}
use Rattle.serde_json.specs.Data.{Data}
use Rattle.serde_json.specs.Read.{max_depth}
use Rattle.serde_json.specs.Written.{compact_text}
use Rattle.json_objects.specs.Body.{object_in}
use Rattle.json_objects.specs.Fields.{is_object}
use Rattle.json_objects.specs.Tokens.{tokens_of}
use Rattle.json_objects.specs.ReadBack.{CanBeRead}

all_tokens : (fresh now : List Token) (value : Data) → fresh ≡ [] → now ≡ fresh ++ tokens_of value → now ≡ tokens_of value
all_tokens fresh now value e0 e1 = e1 ∙ ap (λ (ts : List Token). ts ++ tokens_of value) e0

pub appended : (old buffer first last result : List ℕ) (fresh now : List Token) (value : Data) → buffer ≡ old → first ≡ buffer → last ≡ first → fresh ≡ [] → now ≡ fresh ++ tokens_of value → result ≡ last ++ print now
    → ((d : Data) → now ≡ tokens_of d → print now ≡ compact_text d) → result ≡ old ++ compact_text value
appended old buffer first last result fresh now value e0 e1 e2 f0 f1 bytes text =
    bytes ∙ ap (λ (b : List ℕ). b ++ print now) (e2 ∙ e1 ∙ e0) ∙ ap (λ (b : List ℕ). old ++ b) (text value (all_tokens fresh now value f0 f1))

pub reads_as_object : (fresh now : List Token) (value : Data) (levels : ℕ) → levels ≤ 127 → CanBeRead levels value → IsTrue (is_object value) → fresh ≡ [] → now ≡ fresh ++ tokens_of value
    → ((d : Data) → now ≡ tokens_of d → print now ≡ compact_text d)
    → ((d : Data) → now ≡ tokens_of d → CanBeRead max_depth d → IsTrue (is_object d) → object_in (print now) ≡ Some d)
    → object_in (compact_text value) ≡ Some value
reads_as_object fresh now value levels few can object f0 f1 text reads =
    let same = all_tokens fresh now value f0 f1 in
    let shallow : CanBeRead max_depth value = record { exact = can.exact; deep = let h = can.deep in omega (arith, h, few) } in
    ap object_in (sym (text value same)) ∙ reads value same shallow object

pub either_way : {E : Type 0} (r : Result (Unit {0}) E) (P : Type 0) → P → OnOk r P
either_way (Ok x) P h = h
either_way (Err e) P h = tt
