-- One row more of a reading.
use Rattle.std.proofs.Common.{◌≡◌, ℕ, suc, ◌+◌, ◌<◌, true, List, [], ◌∷◌, ◌++◌, length, take, drop, get_or, Some, if◌then◌else◌, sym, ◌∙◌, ap, add-one, drop-cons, length-append}
use Rattle.std.specs.List.{cons_option}
use Rattle.std.proofs.Math.Seq.{take-suc}
use Rattle.std.proofs.lemmas.List.Elements.{filter_map-append}
use Rattle.counters.specs.declared.row.CounterRow.{CounterRow}
use Rattle.counters.specs.Row.{counter_row, counter_rows}
use Rattle.counters.specs.Grammar.{first_bad, read_on, may_follow}

-- the rows up to the next one, and what is bad among those from it on
pub record Stepped (i : ℕ) (row : CounterRow) (rows : List (List (List ℕ))) : Type 0 where
  pub read : counter_rows (take (i + 1) rows) ≡ counter_rows (take i rows) ++ row ∷ []
  pub run : first_bad (counter_rows (take i rows)) (drop i rows) ≡ first_bad (counter_rows (take (i + 1) rows)) (drop (i + 1) rows)
  pub count : length (counter_rows (take (i + 1) rows)) ≡ length (counter_rows (take i rows)) + 1

pub stepped : (i : ℕ) (row : CounterRow) (fields : List (List ℕ)) (rows : List (List (List ℕ))) → i < length rows → fields ≡ get_or rows i fields → counter_row fields ≡ Some row → true ≡ may_follow (counter_rows (take i rows)) row → Stepped i row rows
stepped i row fields rows l is e may =
    let before : List CounterRow = counter_rows (take i rows) in
    let read : counter_rows (take (i + 1) rows) ≡ counter_rows (take i rows) ++ row ∷ [] =
    ap (λ k. counter_rows (take k rows)) (add-one i) ∙ ap counter_rows (take-suc rows i fields l ∙ ap (λ k. take i rows ++ k ∷ []) (sym is)) ∙ filter_map-append counter_row (take i rows) (fields ∷ []) ∙ ap (λ o. counter_rows (take i rows) ++ cons_option o []) e in
    record {
      read = read;
      run = ap (first_bad before) (drop-cons rows i fields l ∙ ap (λ k. k ∷ drop (suc i) rows) (sym is)) ∙ ap (λ o. read_on before o (λ more. first_bad more (drop (suc i) rows))) e
          ∙ ap (λ b. if b then first_bad (before ++ row ∷ []) (drop (suc i) rows) else Some (length before + 1)) (sym may) ∙ (λ j. first_bad (sym read j) (drop (sym (add-one i) j) rows));
      count = ap length read ∙ length-append (counter_rows (take i rows)) (row ∷ []);
    }

-- a row that is none, or may not follow, is the bad one
pub stopped : (i : ℕ) (fields : List (List ℕ)) (rows : List (List (List ℕ))) → i < length rows → fields ≡ get_or rows i fields → first_bad (counter_rows (take i rows)) (drop i rows) ≡ read_on (counter_rows (take i rows)) (counter_row fields) (λ more. first_bad more (drop (suc i) rows))
stopped i fields rows l is = ap (first_bad (counter_rows (take i rows))) (drop-cons rows i fields l ∙ ap (λ k. k ∷ drop (suc i) rows) (sym is))
