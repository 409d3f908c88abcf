-- One row more of a reading.
use Rattle.std.proofs.Common.{◌≡◌, ℕ, suc, ◌+◌, ◌<◌, Bool, true, false, List, [], ◌∷◌, ◌++◌, length, take, drop, get_or, Some, None, if◌then◌else◌, refl, sym, ◌∙◌, ap, add-one, drop-cons}
use Rattle.std.specs.List.{cons_option}
use Rattle.std.proofs.Math.Seq.{take-suc}
use Rattle.std.proofs.lemmas.List.Elements.{filter_map-append}
use Rattle.rating.specs.declared.row.TariffRow.{TariffRow}
use Rattle.rating.specs.Row.{tariff_row}
use Rattle.rating.specs.Tariff.{tariff_rows}
use Rattle.rating.specs.Grammar.{first_bad, read_on, may_follow}

-- a row that was taken may follow, and comes after those before
record Follows (before next : List TariffRow) (row : TariffRow) : Type 0 where
  may : may_follow before row ≡ true
  is : next ≡ before ++ row ∷ []

follows : (before next : List TariffRow) (row : TariffRow) → Some next ≡ (if may_follow before row then Some (before ++ row ∷ []) else None) → Follows before next row
follows before next row h = by (may_follow before row) refl h
  where
    by : (b : Bool) → may_follow before row ≡ b → Some next ≡ (if b then Some (before ++ row ∷ []) else None) → Follows before next row
    by true e i = record { may = e; is = cc }
    by false e i = absurd (cc)

pub record Stepped (before next : List TariffRow) (i : ℕ) (rows : List (List (List ℕ))) : Type 0 where
  pub run : first_bad before (drop i rows) ≡ first_bad next (drop (i + 1) rows)
  pub read : next ≡ tariff_rows (take (i + 1) rows)

bad_on : (before next : List TariffRow) (fields : List (List ℕ)) (row : TariffRow) (rest : List (List (List ℕ))) → tariff_row fields ≡ Some row → Follows before next row → first_bad before (fields ∷ rest) ≡ first_bad next rest
bad_on before next fields row rest e f = ap (λ o. read_on before o (λ more. first_bad more rest)) e ∙ (rw f.may refl) ∙ ap (λ more. first_bad more rest) (sym f.is)

pub read_step : (before next : List TariffRow) (i : ℕ) (rows : List (List (List ℕ))) (fields : List (List ℕ)) (row : TariffRow) → i < length rows → fields ≡ get_or rows i fields → tariff_row fields ≡ Some row
    → Some next ≡ (if may_follow before row then Some (before ++ row ∷ []) else None) → before ≡ tariff_rows (take i rows) → Stepped before next i rows
read_step before next i rows fields row l is e h read =
    let f = follows before next row h in
    record {
      run = ap (first_bad before) (drop-cons rows i fields l ∙ ap (λ k. k ∷ drop (suc i) rows) (sym is)) ∙ bad_on before next fields row (drop (suc i) rows) e f ∙ ap (λ k. first_bad next (drop k rows)) (sym (add-one i));
      read = f.is ∙ ap (λ rs. rs ++ row ∷ []) read ∙ sym (ap (λ k. tariff_rows (take k rows)) (add-one i) ∙ ap tariff_rows (take-suc rows i fields l ∙ ap (λ k. take i rows ++ k ∷ []) (sym is)) ∙ filter_map-append tariff_row (take i rows) (fields ∷ []) ∙ ap (λ o. tariff_rows (take i rows) ++ cons_option o []) e);
    }
