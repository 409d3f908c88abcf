-- The fields of a plain line, one after another.
use Rattle.std.proofs.Common.{◌≡◌, ◌<◌, ◌≤◌, ◌+◌, ◌&&◌, nat_lt, ℕ, true, false, List, [], ◌∷◌, ◌++◌, length, take, drop, refl, sym, ap, ◌∙◌, arith, append_assoc}
use Rattle.std.proofs.lemmas.Bool.Decides.{nat_tests}
use Rattle.std.specs.List.{list_all}
use Rattle.std.specs.Str.{is_utf8}
use Rattle.rows.specs.Pieces.{pieces}
use Rattle.charging.specs.declared.item.Item.TheVariants.{Row, Bad}
use Rattle.charging.specs.Items.{row_item}

-- the field before the first comma, and the last field
abbrev pub FirstOf : List ℕ → ℕ → Type 0
FirstOf text n = n < length text → pieces 44 text ≡ take n text ∷ pieces 44 (drop (n + 1) text)

abbrev pub LastOf : List ℕ → ℕ → Type 0
LastOf text n = length text ≤ n → pieces 44 text ≡ take n text ∷ []

-- a field that is no text
bad_here : (text : List ℕ) (field : List ℕ) (more : List (List ℕ)) → pieces 44 text ≡ field ∷ more → is_utf8 field ≡ false → list_all is_utf8 (pieces 44 text) ≡ false
bad_here text field more e bad = ap (list_all is_utf8) e ∙ ap (λ b. b && list_all is_utf8 more) bad

bad_text : (text : List ℕ) (n : ℕ) → FirstOf text n → LastOf text n → is_utf8 (take n text) ≡ false → list_all is_utf8 (pieces 44 text) ≡ false
bad_text text n first last bad = elim (nat_lt n (length text)) as (λ b. nat_lt n (length text) ≡ b → list_all is_utf8 (pieces 44 text) ≡ false) [
  | true ↦ λ t. let less : n < length text = grind (arith, nat_tests) in bad_here text (take n text) (pieces 44 (drop (n + 1) text)) (first less) bad
  | false ↦ λ t. let most : length text ≤ n = grind (arith, nat_tests) in bad_here text (take n text) [] (last most) bad
] refl

pub bad_line : (line text : List ℕ) (n : ℕ) → FirstOf text n → LastOf text n → list_all is_utf8 (pieces 44 line) ≡ list_all is_utf8 (pieces 44 text) → is_utf8 (take n text) ≡ false → Bad ≡ row_item (pieces 44 line)
bad_line line text n first last same bad =
    let none : list_all is_utf8 (pieces 44 line) ≡ false = same ∙ bad_text text n first last bad in
    rw none refl

pub whole_line : (line text field : List ℕ) (n : ℕ) (fields pushed : List (List ℕ)) → LastOf text n → length text ≤ n
    → pieces 44 line ≡ fields ++ pieces 44 text → list_all is_utf8 (pieces 44 line) ≡ list_all is_utf8 (pieces 44 text) → is_utf8 (take n text) ≡ true → field ≡ take n text → pushed ≡ fields ++ field ∷ []
    → Row pushed ≡ row_item (pieces 44 line)
whole_line line text field n fields pushed last_is most taken same good text_is pushed_is =
    let last = last_is most in
    let all : list_all is_utf8 (pieces 44 line) ≡ true = same ∙ ap (list_all is_utf8) last ∙ ap (λ b. b && true) good in
    let these : pieces 44 line ≡ pushed = taken ∙ ap (λ k. fields ++ k) last ∙ sym (pushed_is ∙ ap (λ k. fields ++ k ∷ []) text_is) in
    rw all (ap Row (sym these))

-- what goes on
pub record GoesOn (line text : List ℕ) (pushed : List (List ℕ)) : Type 0 where
  pub taken : pieces 44 line ≡ pushed ++ pieces 44 text
  pub utf8 : list_all is_utf8 (pieces 44 line) ≡ list_all is_utf8 (pieces 44 text)

pub goes_on : (line text field : List ℕ) (n : ℕ) (fields pushed : List (List ℕ)) → FirstOf text n → n < length text
    → pieces 44 line ≡ fields ++ pieces 44 text → list_all is_utf8 (pieces 44 line) ≡ list_all is_utf8 (pieces 44 text) → is_utf8 (take n text) ≡ true → field ≡ take n text → pushed ≡ fields ++ field ∷ []
    → GoesOn line (drop (n + 1) text) pushed
goes_on line text field n fields pushed first less taken same good text_is pushed_is =
    let next = first less in
    record {
      taken =
          taken ∙ ap (λ k. fields ++ k) next ∙ ap (λ (k : List ℕ). fields ++ k ∷ pieces 44 (drop (n + 1) text)) (sym text_is)
          ∙ sym (ap (λ k. k ++ pieces 44 (drop (n + 1) text)) pushed_is ∙ append_assoc fields (field ∷ []) (pieces 44 (drop (n + 1) text)));
      utf8 = same ∙ ap (list_all is_utf8) next ∙ ap (λ b. b && list_all is_utf8 (pieces 44 (drop (n + 1) text))) good;
    }
