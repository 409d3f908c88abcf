-- Rows read back.
use Rattle.std.proofs.Common.{◌≡◌, ◌&&◌, ℕ, Bool, true, false, List, [], ◌∷◌, ◌++◌, refl, sym, ap, ◌∙◌, Option, Some, None, map, append_assoc, if◌then◌else◌}
use Rattle.std.specs.List.{flat_map, list_all}
use Rattle.std.specs.Str.{is_utf8}
use Rattle.std.proofs.lemmas.Bool.{and_from, and_parts}
use Rattle.std.proofs.lemmas.List.{map-id}
use Rattle.rows.specs.Pieces.{pieces}
use Rattle.row_texts.specs.RowTexts.{before_rows, later_field, row_in, row_text, rows_in, rows_of, rows_text, texts_of}
use Rattle.row_texts.specs.ReadBack.{is_field, is_row}
use Rattle.row_texts.proofs.Separated.{Lacks, first_piece, lacks, pieces_of}
use Rattle.row_texts.proofs.FieldBytes.{both_pass, field_commas, field_lines, field_utf8, fields_commas, weaker_each}
use Rattle.row_texts.proofs.Lines.{has_pieces}

texts : (fields : List (List ℕ)) → list_all is_field fields ≡ true → texts_of fields ≡ Some fields
texts fields h = let all : list_all is_utf8 fields ≡ true = weaker_each is_field is_utf8 field_utf8 fields h in rw all refl

pub row_back : (row : List (List ℕ)) → is_row row ≡ true → row_in (row_text row) ≡ Some row
row_back [] h = absurd (cc)
row_back (first ∷ fields) h =
    let both = and_parts (is_field first) (list_all is_field fields) h in
    ap texts_of (pieces_of 44 (λ field. field) first fields (field_commas first both.0) (fields_commas fields both.1) ∙ ap (λ k. first ∷ k) (map-id fields))
    ∙ texts (first ∷ fields) h

later_lines : (fields : List (List ℕ)) → list_all is_field fields ≡ true → list_all (lacks 10) (flat_map later_field fields) ≡ true
later_lines [] h = refl
later_lines (field ∷ fields) h =
    let both = and_parts (is_field field) (list_all is_field fields) h in
    both_pass (lacks 10) (44 ∷ field) (flat_map later_field fields) (field_lines field both.0).all (later_lines fields both.1)

row_lines : (row : List (List ℕ)) → is_row row ≡ true → Lacks 10 (row_text row)
row_lines [] h = absurd (cc)
row_lines (first ∷ fields) h =
    let both = and_parts (is_field first) (list_all is_field fields) h in
    record { all = both_pass (lacks 10) first (flat_map later_field fields) (field_lines first both.0).all (later_lines fields both.1) }

one_more : (line text : List ℕ) (row : List (List ℕ)) (rows : List (List (List ℕ))) → row_in line ≡ Some row → rows_in text ≡ Some rows → rows_of (line ∷ pieces 10 text) ≡ Some (row ∷ rows)
one_more line text row rows is more =
    let some = has_pieces 10 text in
    ap (λ k. rows_of (line ∷ k)) some.2
    ∙ ap (λ k. before_rows k (rows_of (some.0 ∷ some.1))) is
    ∙ ap (λ k. before_rows (Some row) (rows_of k)) (sym some.2)
    ∙ ap (λ k. before_rows (Some row) k) more

pub rows_back : (rows : List (List (List ℕ))) → list_all is_row rows ≡ true → rows_in (rows_text rows) ≡ Some rows
rows_back [] h = refl
rows_back (row ∷ rows) h =
    let both = and_parts (is_row row) (list_all is_row rows) h in
    ap rows_in (append_assoc (row_text row) (10 ∷ []) (rows_text rows))
    ∙ ap rows_of (first_piece 10 (row_text row) (rows_text rows) (row_lines row both.0))
    ∙ one_more (row_text row) (rows_text rows) row rows (row_back row both.0) (rows_back rows both.1)
