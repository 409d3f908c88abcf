-- Lists of rating groups, read back and spelled once.
use Rattle.std.proofs.Common.{◌≡◌, ◌&&◌, ◌-◌, ◌<◌, ◌≤◌, ◌^◌, ℕ, Bool, true, false, List, [], ◌∷◌, ◌++◌, length, refl, sym, ap, ◌∙◌, Option, Some, None, option_map, arith, decimal, codes}
use Rattle.std.specs.Prelude.{option_and_then}
use Rattle.std.specs.List.{flat_map, list_all}
use Rattle.std.proofs.lemmas.Option.{option_and_then_some}
use Rattle.rows.specs.Number.{number_of}
use Rattle.rows.specs.Pieces.{pieces}
use Rattle.row_fields.specs.Fields.{groups_in, groups_of}
use Rattle.row_texts.specs.RowTexts.{groups_text, later_group}
use Rattle.row_texts.specs.ReadBack.{is_field, is_field_byte}
use Rattle.row_texts.proofs.Separated.{glued, glued_pieces}
use Rattle.row_texts.proofs.Numerals.{number_once, read_parts, shortest}
use Rattle.row_texts.proofs.FieldBytes.{both_pass, digits_field}

-- the groups after the first, with a space before each
abbrev later : List (List ℕ) → List ℕ
later pieces = flat_map (λ piece. 32 ∷ piece) pieces

record IsFirst (piece : List ℕ) (pieces : List (List ℕ)) (groups : List ℕ) : Type 0 where
  first : ℕ
  rest : List ℕ
  is : groups ≡ first ∷ rest
  here : decimal first ≡ piece
  field : is_field piece ≡ true
  more : groups_in pieces ≡ Some rest

first_of : (piece : List ℕ) (pieces : List (List ℕ)) (groups : List ℕ) → groups_in (piece ∷ pieces) ≡ Some groups → IsFirst piece pieces groups
first_of piece pieces groups h = by (number_of (2 ^ 32 - 1) piece) (groups_in pieces) refl refl h
  where
    by : (n : Option ℕ) (m : Option (List ℕ)) → number_of (2 ^ 32 - 1) piece ≡ n → groups_in pieces ≡ m → option_and_then (λ group. option_map (λ groups. group ∷ groups) m) n ≡ Some groups → IsFirst piece pieces groups
    by None m n_is m_is e = absurd (cc)
    by (Some n) None n_is m_is e = absurd (cc)
    by (Some n) (Some m) n_is m_is e = record {
      first = n;
      rest = m;
      is = cc;
      here = number_once (2 ^ 32 - 1) n piece (omega arith) n_is;
      field = digits_field piece (read_parts (2 ^ 32 - 1) n piece n_is).digits;
      more = m_is;
    }

-- pieces that are groups are written as they stand
record AreWritten (pieces : List (List ℕ)) (groups : List ℕ) : Type 0 where
  text : flat_map later_group groups ≡ later pieces
  fields : list_all is_field_byte (later pieces) ≡ true

written : (pieces : List (List ℕ)) (groups : List ℕ) → groups_in pieces ≡ Some groups → AreWritten pieces groups
written [] groups h = let none : groups ≡ [] = cc in record { text = ap (flat_map later_group) none; fields = refl }
written (piece ∷ pieces) groups h =
    let one = first_of piece pieces groups h in
    let more = written pieces one.rest one.more in
    record {
      text = ap (flat_map later_group) one.is ∙ ap (λ k. 32 ∷ (k ++ flat_map later_group one.rest)) one.here ∙ ap (λ k. 32 ∷ (piece ++ k)) more.text;
      fields = both_pass is_field_byte (32 ∷ piece) (later pieces) one.field more.fields;
    }

-- so of all pieces
pub record AreGroups (pieces : List (List ℕ)) (groups : List ℕ) : Type 0 where
  pub text : groups_text groups ≡ glued 32 pieces
  pub field : is_field (glued 32 pieces) ≡ true

are_groups : (pieces : List (List ℕ)) (groups : List ℕ) → groups_in pieces ≡ Some groups → AreGroups pieces groups
are_groups [] groups h = let none : groups ≡ [] = cc in record { text = ap groups_text none; field = refl }
are_groups (piece ∷ pieces) groups h =
    let one = first_of piece pieces groups h in
    let more = written pieces one.rest one.more in
    record {
      text = ap groups_text one.is ∙ ap (λ k. k ++ flat_map later_group one.rest) one.here ∙ ap (λ k. piece ++ k) more.text;
      field = both_pass is_field_byte piece (later pieces) one.field more.fields;
    }

pub record IsGroups (text groups : List ℕ) : Type 0 where
  pub written : groups_text groups ≡ text
  pub field : is_field text ≡ true

pub groups_once : (text groups : List ℕ) → groups_of text ≡ Some groups → IsGroups text groups
groups_once [] groups h = let none : groups ≡ [] = cc in record { written = ap groups_text none; field = refl }
groups_once (b ∷ t) groups h =
    let are = are_groups (pieces 32 (b ∷ t)) groups h in
    record { written = are.text ∙ glued_pieces 32 (b ∷ t); field = ap is_field (sym (glued_pieces 32 (b ∷ t))) ∙ are.field }
