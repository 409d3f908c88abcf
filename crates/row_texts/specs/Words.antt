-- Words and numbers that spaces end (this product's own).
use Rattle.std.specs.Prelude.{ℕ, ◌+◌, bytes_eq, List, length, take, drop, Option, Some, None, if◌then◌else◌}
use Rattle.rows.specs.Number.{number_of}
use Rattle.rows.specs.Pieces.{piece_length}

-- what follows a word that a text begins with
abbrev pub after_word : List ℕ → List ℕ → Option (List ℕ)
after_word text word = if bytes_eq (take (length word) text) word then Some (drop (length word) text) else None

-- the first word of a text: what stands before the first space, all where there is none
abbrev pub first_word : List ℕ → List ℕ
first_word text = take (piece_length 32 text) text

-- what follows the first space
abbrev pub after_space : List ℕ → List ℕ
after_space text = drop (piece_length 32 text + 1) text

-- the number of at most `most` that the first word is
abbrev pub number_before : ℕ → List ℕ → Option ℕ
number_before most text = number_of most (first_word text)
