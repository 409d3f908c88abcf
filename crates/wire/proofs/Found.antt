-- A head that was found in some first bytes stands at the front of all.
use Rattle.std.proofs.Common.{◌≡◌, ℕ, ◌<◌, ◌≤◌, List, ◌++◌, length, take, drop, inl, inr, false, IsTrue, arith, sym, ◌∙◌, ap, subst, append_assoc, length-append}
use Rattle.std.proofs.lemmas.List.{take-append-drop, take-append-le, take_all, length-take}
use Rattle.std.proofs.lemmas.List.Elements.{All-weaker}
use Rattle.std.proofs.lemmas.Bool.{cases_Bool}
use Rattle.std.proofs.lemmas.Bool.Decides.{nat_tests}
use Rattle.std.proofs.lemmas.Str.Ascii.{IsAscii-from_all}
use Rattle.std.proofs.lemmas.Str.{IsUtf8-from_ascii, IsUtf8-from_is_utf8}
use Rattle.std.specs.Prelude.{IsUtf8}
use Rattle.std.specs.Str.{is_utf8}
use Rattle.httparse.specs.Grammar.{IsToken, is_token_byte}
use Rattle.wire.specs.Front.{front, line_feeds}
use Rattle.wire.specs.Heads.{Head}
use Rattle.wire.specs.Starts.{IsFound}
use Rattle.wire.specs.declared.framed.FoundHead.{FoundHead}
use Rattle.wire.proofs.Fronts.{front_has}

token_is_ascii : (b : ℕ) → IsTrue (is_token_byte b) → b < 128
unfolding is_token_byte
token_is_ascii b h = grind (arith, nat_tests)

-- a method is text
pub token_is_text : (bytes : List ℕ) → IsToken bytes → IsUtf8 bytes
token_is_text bytes h = IsUtf8-from_ascii bytes (IsAscii-from_all bytes (All-weaker (λ b. IsTrue (is_token_byte b)) (λ b. b < 128) token_is_ascii bytes h.1))

pub not_text : (bytes : List ℕ) → (IsUtf8 bytes → ⊥) → is_utf8 bytes ≡ false
not_text bytes none = elim (cases_Bool (is_utf8 bytes)) [ inl is ↦ absurd (none (IsUtf8-from_is_utf8 bytes is)) | inr not_so ↦ not_so ]

-- the first bytes of text that is known to begin with others
pub first_is : (near head rest : List ℕ) (size : ℕ) → near ≡ head ++ rest → size ≡ length head → take size near ≡ head
first_is near head rest size is all = ap (take size) is ∙ take-append-le size head rest (omega (arith, all)) ∙ take_all size head (omega (arith, all))

-- a short head in the first bytes stands at the front
pub found_at_front : {M P : Type 0} (At : List ℕ → Head M → Type 0) (Parts : P → List ℕ → Head M → Type 0) (bytes : List ℕ) (count : ℕ) (found : FoundHead P) → count ≤ 16384
    → IsFound At Parts (take count bytes) found → line_feeds (take found.size (take count bytes)) < 66 → IsFound At Parts (front bytes) found
found_at_front At Parts bytes count found small is few =
    let near = take count bytes in
    let p = take found.size near in
    let counted = length-take count bytes in
    let sized = length-take found.size near in
    let rest = drop found.size near ++ drop count bytes in
    let whole : bytes ≡ p ++ rest = sym (take-append-drop count bytes) ∙ ap (λ t. t ++ drop count bytes) (sym (take-append-drop found.size near)) ∙ append_assoc p (drop found.size near) (drop count bytes) in
    let stands = front_has p rest (omega (arith, is.within, counted, sized)) few in
    let front_is : front bytes ≡ p ++ stands.0 = ap front whole ∙ stands.1 in
    let same : take found.size (front bytes) ≡ p = first_is (front bytes) p stands.0 found.size front_is (omega (arith, is.within, sized)) in
    record {
      head = is.head;
      stands = λ more. subst (λ b. At (b ++ more) is.head) (sym same) (is.stands more);
      within = omega (arith, ap length front_is, length-append p stands.0, is.within, sized);
      all = is.all;
      follows = is.follows;
      parts_are = subst (λ b. Parts found.parts b is.head) (sym same) is.parts_are;
    }
