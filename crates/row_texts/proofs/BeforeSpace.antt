-- Numbers before a space.
use Rattle.std.proofs.Common.{◌≡◌, true, ◌+◌, ◌<◌, ◌≤◌, ◌^◌, ℕ, List, [], ◌∷◌, ◌++◌, length, take, drop, refl, sym, ap, ◌∙◌, Some, arith, decimal, codes, append_assoc, add-one}
use Rattle.std.proofs.lemmas.List.{drop-drop, drop_at, take_at}
use Rattle.rows.specs.Number.{number_of}
use Rattle.rows.specs.Pieces.{piece_length}
use Rattle.row_texts.specs.Words.{after_space, first_word, number_before}
use Rattle.row_texts.specs.ReadBack.{is_word}
use Rattle.row_texts.proofs.Separated.{first_length}
use Rattle.row_texts.proofs.Numerals.{number_back, shortest}
use Rattle.row_texts.proofs.FieldBytes.{digits_spaces}

word_length : (n : ℕ) (text : List ℕ) → n < 10 ^ 64 → piece_length 32 (decimal n ++ 32 ∷ text) ≡ length (decimal n)
word_length n text fits = first_length 32 (decimal n) text (digits_spaces (decimal n) (shortest n fits).digits)

pub number_word : (most n : ℕ) (text : List ℕ) → n ≤ most → n < 10 ^ 64 → number_before most (decimal n ++ codes " " ++ text) ≡ Some n
number_word most n text high fits =
    ap (number_before most) (append_assoc (decimal n) (32 ∷ []) text)
    ∙ ap (λ k. number_of most (take k (decimal n ++ 32 ∷ text))) (word_length n text fits)
    ∙ ap (number_of most) (take_at (decimal n) (32 ∷ text) (length (decimal n)) refl)
    ∙ number_back most n high fits

one_past : (text rest : List ℕ) (b : ℕ) → drop (length text + 1) (text ++ b ∷ rest) ≡ rest
one_past text rest b = sym (drop-drop 1 (length text) (text ++ b ∷ rest)) ∙ ap (drop 1) (drop_at text (b ∷ rest) (length text) refl)

pub after_word : (n : ℕ) (text : List ℕ) → n < 10 ^ 64 → after_space (decimal n ++ codes " " ++ text) ≡ text
after_word n text fits =
    ap after_space (append_assoc (decimal n) (32 ∷ []) text)
    ∙ ap (λ k. drop (k + 1) (decimal n ++ 32 ∷ text)) (word_length n text fits)
    ∙ one_past (decimal n) text 32

-- ---- words

pub first_back : (word text : List ℕ) → is_word word ≡ true → first_word (word ++ codes " " ++ text) ≡ word
first_back word text h =
    ap first_word (append_assoc word (32 ∷ []) text)
    ∙ ap (λ k. take k (word ++ 32 ∷ text)) (first_length 32 word text (record { all = h }))
    ∙ take_at word (32 ∷ text) (length word) refl

pub rest_back : (word text : List ℕ) → is_word word ≡ true → after_space (word ++ codes " " ++ text) ≡ text
rest_back word text h =
    ap after_space (append_assoc word (32 ∷ []) text)
    ∙ ap (λ k. drop (k + 1) (word ++ 32 ∷ text)) (first_length 32 word text (record { all = h }))
    ∙ one_past word text 32

pub number_word_is : (n : ℕ) → n < 10 ^ 64 → is_word (decimal n) ≡ true
number_word_is n fits = (digits_spaces (decimal n) (shortest n fits).digits).all
