-- The bytes of fields.
use Rattle.std.proofs.Common.{◌≡◌, ◌==◌, ◌&&◌, ◌+◌, ◌<◌, ◌≤◌, ◌^◌, ℕ, not, nat_le, Bool, true, false, List, [], ◌∷◌, ◌++◌, length, refl, sym, ap, ◌∙◌, arith, decimal, Some}
use Rattle.std.specs.List.{flat_map, list_all}
use Rattle.std.specs.Char.{is_ascii_digit}
use Rattle.std.specs.Str.{IsAscii, IsUtf8, is_utf8}
use Rattle.std.proofs.lemmas.Bool.{and_from, and_parts}
use Rattle.std.proofs.lemmas.Bool.Decides.{nat_tests}
use Rattle.std.proofs.lemmas.List.Folds.{list_all-append}
use Rattle.std.proofs.lemmas.Str.{IsUtf8-from_ascii, is_utf8-from_IsUtf8}
use Rattle.std.proofs.lemmas.Str.Ascii.{IsAscii-cons, IsAscii-nil}
use Rattle.units.specs.Names.{is_name_byte, spells_name}
use Rattle.row_texts.specs.ReadBack.{is_field, is_field_byte, is_row}
use Rattle.row_texts.proofs.Separated.{AllLack, Lacks, lacks}

-- what passes one test passes a weaker one
pub weaker : (p q : ℕ → Bool) → ((b : ℕ) → p b ≡ true → q b ≡ true) → (text : List ℕ) → list_all p text ≡ true → list_all q text ≡ true
weaker p q h [] all = refl
weaker p q h (b ∷ t) all = let both = and_parts (p b) (list_all p t) all in and_from (q b) (list_all q t) (h b both.0) (weaker p q h t both.1)

-- so of each of some texts
pub weaker_each : (p q : List ℕ → Bool) → ((t : List ℕ) → p t ≡ true → q t ≡ true) → (texts : List (List ℕ)) → list_all p texts ≡ true → list_all q texts ≡ true
weaker_each p q h [] all = refl
weaker_each p q h (t ∷ ts) all = let both = and_parts (p t) (list_all p ts) all in and_from (q t) (list_all q ts) (h t both.0) (weaker_each p q h ts both.1)

-- two texts pass where both do
pub both_pass : (p : ℕ → Bool) (a b : List ℕ) → list_all p a ≡ true → list_all p b ≡ true → list_all p (a ++ b) ≡ true
both_pass p a b ha hb = list_all-append p a b ∙ and_from (list_all p a) (list_all p b) ha hb

-- ---- what a field lacks

no_comma : (b : ℕ) → is_field_byte b ≡ true → lacks 44 b ≡ true
no_comma b h = (and_parts (nat_le b 126) (not (b == 44)) (and_parts (nat_le 32 b) (nat_le b 126 && not (b == 44)) h).1).1

no_line_feed : (b : ℕ) → is_field_byte b ≡ true → lacks 10 b ≡ true
no_line_feed b h = let low = (and_parts (nat_le 32 b) (nat_le b 126 && not (b == 44)) h).0 in grind (arith, nat_tests, low)

pub field_commas : (text : List ℕ) → is_field text ≡ true → Lacks 44 text
field_commas text h = record { all = weaker is_field_byte (lacks 44) no_comma text h }

pub field_lines : (text : List ℕ) → is_field text ≡ true → Lacks 10 text
field_lines text h = record { all = weaker is_field_byte (lacks 10) no_line_feed text h }

pub fields_commas : (fields : List (List ℕ)) → list_all is_field fields ≡ true → AllLack 44 (λ field. field) fields
fields_commas fields h = record { all = weaker_each is_field (λ t. list_all (lacks 44) t) (λ t f. (field_commas t f).all) fields h }

-- ---- a field is UTF-8

ascii : (text : List ℕ) → is_field text ≡ true → IsAscii text
ascii [] h = IsAscii-nil
ascii (b ∷ t) h =
    let both = and_parts (is_field_byte b) (list_all is_field_byte t) h in
    let high = (and_parts (nat_le b 126) (not (b == 44)) (and_parts (nat_le 32 b) (nat_le b 126 && not (b == 44)) both.0).1).0 in
    IsAscii-cons b t (grind (arith, nat_tests, high)) (ascii t both.1)

pub field_utf8 : (text : List ℕ) → is_field text ≡ true → is_utf8 text ≡ true
field_utf8 text h = is_utf8-from_IsUtf8 text (IsUtf8-from_ascii text (ascii text h))

-- ---- which texts are fields

name_byte : (b : ℕ) → is_name_byte b ≡ true → is_field_byte b ≡ true
name_byte b h = grind (arith, nat_tests, h)

pub name_field : (text : List ℕ) → spells_name text ≡ true → is_field text ≡ true
name_field text h = weaker is_name_byte is_field_byte name_byte text (and_parts (nat_le 1 (length text) && nat_le (length text) 255) (list_all is_name_byte text) h).1

digit_byte : (b : ℕ) → is_ascii_digit b ≡ true → is_field_byte b ≡ true
digit_byte b h = grind (arith, nat_tests, h)

pub digits_field : (text : List ℕ) → list_all is_ascii_digit text ≡ true → is_field text ≡ true
digits_field text h = weaker is_ascii_digit is_field_byte digit_byte text h

digit_no_space : (b : ℕ) → is_ascii_digit b ≡ true → lacks 32 b ≡ true
digit_no_space b h = grind (arith, nat_tests, h)

pub digits_spaces : (text : List ℕ) → list_all is_ascii_digit text ≡ true → Lacks 32 text
digits_spaces text h = record { all = weaker is_ascii_digit (lacks 32) digit_no_space text h }
