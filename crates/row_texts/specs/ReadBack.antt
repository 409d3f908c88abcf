-- What of a row can be read again, and what has one spelling (this product's own).
use Rattle.std.specs.Prelude.{◌≡◌, ◌+◌, ◌≤◌, ◌<◌, ◌^◌, ◌==◌, ◌&&◌, ◌++◌, ◌∷◌, ℕ, length, sum_by, not, nat_le, Bool, true, false, List, [], Some, codes, decimal}
use Rattle.std.specs.List.{AllByRecursion, list_all}
use Rattle.std.specs.Str.{is_utf8}
use Rattle.units.specs.Names.{spells_name}
use Rattle.rows.specs.Number.{number_of}
use Rattle.row_fields.specs.Fields.{groups_of, row_size}
use Rattle.row_texts.specs.RowTexts.{groups_text, row_in, row_text, rows_in, rows_text}
use Rattle.row_texts.specs.Words.{after_space, first_word, number_before}

-- a byte that a field may have: 0x20 to 0x7E without the comma
abbrev pub is_field_byte : ℕ → Bool
is_field_byte byte = nat_le 32 byte && (nat_le byte 126 && not (byte == 44))

-- a field has those bytes alone
abbrev pub is_field : List ℕ → Bool
is_field text = list_all is_field_byte text

-- a row has a field at least
abbrev pub is_row : List (List ℕ) → Bool
is_row [] = false
is_row (first ∷ fields) = is_field first && list_all is_field fields

-- rows read back
pub record RowsReadBack : Type 0 where
  pub row : (row : List (List ℕ)) → is_row row ≡ true → row_in (row_text row) ≡ Some row
  pub rows : (rows : List (List (List ℕ))) → list_all is_row rows ≡ true → rows_in (rows_text rows) ≡ Some rows

-- names, numbers and lists of rating groups are fields, and fields are UTF-8
pub record AreFields : Type 0 where
  pub name : (text : List ℕ) → spells_name text ≡ true → is_field text ≡ true
  pub number : (most n : ℕ) (text : List ℕ) → number_of most text ≡ Some n → is_field text ≡ true
  pub groups : (text groups : List ℕ) → groups_of text ≡ Some groups → is_field text ≡ true
  pub utf8 : (text : List ℕ) → is_field text ≡ true → is_utf8 text ≡ true

-- a number of at most 2 ^ 128 reads back, also before a space
pub record NumbersReadBack : Type 0 where
  pub field : (most n : ℕ) → n ≤ most → n ≤ 2 ^ 128 → number_of most (decimal n) ≡ Some n
  pub before_space : (most n : ℕ) (text : List ℕ) → n ≤ most → n ≤ 2 ^ 128 → number_before most (decimal n ++ codes " " ++ text) ≡ Some n
  pub after_space : (n : ℕ) (text : List ℕ) → n ≤ 2 ^ 128 → after_space (decimal n ++ codes " " ++ text) ≡ text

-- a word has no space
abbrev pub is_word : List ℕ → Bool
is_word text = list_all (λ byte. not (byte == 32)) text

-- a word before a space is the first one, and a number is a word
pub record WordsReadBack : Type 0 where
  pub first : (word text : List ℕ) → is_word word ≡ true → first_word (word ++ codes " " ++ text) ≡ word
  pub rest : (word text : List ℕ) → is_word word ≡ true → after_space (word ++ codes " " ++ text) ≡ text
  pub number : (n : ℕ) → n ≤ 2 ^ 128 → is_word (decimal n) ≡ true

-- a row has as many bytes as its size says, with a line feed
pub record HaveSizes : Type 0 where
  pub row : (row : List (List ℕ)) → is_row row ≡ true → length (row_text row) + 1 ≡ row_size row
  pub rows : (rows : List (List (List ℕ))) → list_all is_row rows ≡ true → length (rows_text rows) ≡ sum_by row_size rows

-- a number of 64 bits and a list of rating groups have one spelling
pub record AreSpelledOnce : Type 0 where
  pub number : (most n : ℕ) (text : List ℕ) → most < 2 ^ 64 → number_of most text ≡ Some n → decimal n ≡ text
  pub groups : (text groups : List ℕ) → groups_of text ≡ Some groups → groups_text groups ≡ text
