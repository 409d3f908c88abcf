-- The rows of the command `meter`: `moment,up,down,seconds`, each a usage report of group 0, numbered from 1 (this product's own).
use Rattle.std.specs.Prelude.{ℕ, ◌≡◌, ◌+◌, ◌-◌, ◌^◌, List, [], ◌∷◌, Option, Some, None, Result, Ok, Err, option_and_then}
use Rattle.units.specs.Limits.{greatest_moment}
use Rattle.units.specs.Cut.{AreWidestCuts, whole_hour}
use Rattle.units.specs.declared.report.Report.{Report}
use Rattle.meter.specs.Admission.{answer_of}
use Rattle.meter.specs.Contents.{Contents, nothing_yet}
use Rattle.meter.specs.Joining.{after_report}
use Rattle.meter.specs.declared.refusal.Seen.{Seen}
use Rattle.meter.specs.declared.refusal.Seen.TheVariants as seen
use Rattle.meter.specs.declared.refusal.MeterRefusal.{MeterRefusal}
use Rattle.rows.specs.Number.{number_of}
use Rattle.charging.specs.Rows.{AreRows}

-- the report that these fields give, where each is a numeral in its range
abbrev pub report_from : ℕ → List ℕ → List ℕ → List ℕ → List ℕ → Option Report
report_from number moment up down seconds =
    option_and_then (λ m. option_and_then (λ u. option_and_then (λ d. option_and_then (λ s.
    Some (record { number = number; group = 0; up = u; down = d; seconds = s; moment = m }))
    (number_of (2 ^ 32 - 1) seconds)) (number_of (2 ^ 64 - 1) down)) (number_of (2 ^ 64 - 1) up)) (number_of greatest_moment moment)

-- the report that a row gives: it has four fields
abbrev pub report_of : ℕ → List (List ℕ) → Option Report
report_of number (moment ∷ up ∷ down ∷ seconds ∷ []) = report_from number moment up down seconds
report_of number _ = None

-- what follows an answer of the meter: it goes on where the report is new
abbrev pub if_new : Result Seen MeterRefusal → Contents → Option Contents
if_new (Ok seen.New) after = Some after
if_new (Ok seen.Known) after = None
if_new (Err refusal) after = None

-- the contents after a row, where the row is accepted
abbrev pub after_row : ℕ → Contents → List (List ℕ) → Option Contents
after_row number contents row =
    option_and_then (λ report. if_new (answer_of contents report) (after_report contents report)) (report_of number row)

-- on with the contents, or the number of the row that is not accepted
abbrev pub or_bad_row : Option Contents → ℕ → (Contents → Result Contents ℕ) → Result Contents ℕ
or_bad_row None number more = Err number
or_bad_row (Some contents) number more = more contents

-- the contents after all rows from this number on, or the number of the first that is not accepted
abbrev pub outcome_from : ℕ → Contents → List (List (List ℕ)) → Result Contents ℕ
outcome_from number contents [] = Ok contents
outcome_from number contents (row ∷ rows) = or_bad_row (after_row number contents row) number (λ after. outcome_from (number + 1) after rows)

-- the reports of rows, in order
abbrev pub with_report : Option Report → List Report → List Report
with_report None reports = reports
with_report (Some report) reports = report ∷ reports

-- the reports that rows give, the first of which has this number
abbrev pub reports_from : ℕ → List (List (List ℕ)) → List Report
reports_from number [] = []
reports_from number (row ∷ rows) = with_report (report_of number row) (reports_from (number + 1) rows)

-- the meter comes to this outcome over the rows of an input
pub record Comes (bytes : List ℕ) (outcome : Result Contents ℕ) : Type 0 where
  pub rows : List (List (List ℕ))
  pub of_input : AreRows bytes rows
  pub run : outcome_from 1 nothing_yet rows ≡ outcome

-- the meter comes to these contents over the rows of an input, and their containers are the one hourly cut of the rows' reports that the rule for joining makes
pub record IsMetered (bytes : List ℕ) (contents : Contents) : Type 0 where
  pub comes : Comes bytes (Ok contents)
  pub cut : AreWidestCuts whole_hour (reports_from 1 comes.rows) contents.containers
