-- One row more of a run.
use Rattle.std.proofs.Common.{append_assoc, subst, ◌++◌, ◌≡◌, ◌≢◌, ℕ, ◌+◌, List, [], ◌∷◌, refl, sym, ◌∙◌, ap, Some, None, Result, Ok, Err}
use Rattle.std.proofs.lemmas.List.{append-nil}
use Rattle.csv.specs.Machine.{Read, next_record}
use Rattle.csv.specs.Reading.{AreRecords, default_config, strip_bom}
use Rattle.csv.specs.declared.parser.State.{State}
use Rattle.csv.specs.declared.parser.State.TheVariants as st
use Rattle.units.specs.Cut.{AreWidestCuts, whole_hour}
use Rattle.units.specs.declared.report.Report.{Report}
use Rattle.meter.specs.declared.refusal.Seen.{Seen}
use Rattle.meter.specs.declared.refusal.Seen.TheVariants.{New, Known}
use Rattle.meter.specs.declared.refusal.MeterRefusal.{MeterRefusal}
use Rattle.meter.specs.Admission.{answer_of}
use Rattle.meter.specs.Contents.{Contents, IsUndisturbed, nothing_yet}
use Rattle.meter.specs.Joining.{after_report}
use Rattle.charging.specs.Rows.{AreRows}
use Rattle.charging.specs.MeterRows.{Comes, IsMetered, if_new, outcome_from, report_of, reports_from, with_report}
use Rattle.charging.proofs.Readings.{first_record, no_record, some_rows}

pub row_taken : (n : ℕ) (contents : Contents) (row : List (List ℕ)) (rest : List (List (List ℕ))) (report : Report) → report_of n row ≡ Some report → answer_of contents report ≡ Ok New → outcome_from n contents (row ∷ rest) ≡ outcome_from (n + 1) (after_report contents report) rest
row_taken n contents row rest report e a = rw (e, a) refl

pub row_without_report : (n : ℕ) (contents : Contents) (row : List (List ℕ)) (rest : List (List (List ℕ))) → report_of n row ≡ None → outcome_from n contents (row ∷ rest) ≡ Err n
row_without_report n contents row rest e = rw e refl

not_new : (answer : Result Seen MeterRefusal) (after : Contents) → answer ≢ Ok New → if_new answer after ≡ None
not_new (Ok New) after h = absurd (h refl)
not_new (Ok Known) after h = refl
not_new (Err refusal) after h = refl

pub row_refused : (n : ℕ) (contents : Contents) (row : List (List ℕ)) (rest : List (List (List ℕ))) (report : Report) → report_of n row ≡ Some report → answer_of contents report ≢ Ok New → outcome_from n contents (row ∷ rest) ≡ Err n
row_refused n contents row rest report e h = rw (e, not_new (answer_of contents report) (after_report contents report) h) refl

-- the rows that are left lead from these contents to the outcome of all rows, and their reports follow those so far
abbrev pub LeadsOn : List ℕ → State → List ℕ → ℕ → Contents → List Report → Type 0
LeadsOn bytes state left count contents so_far = (rows : List (List (List ℕ))) → AreRows bytes rows
    → (rest : List (List (List ℕ))) × AreRecords default_config state left rest × (outcome_from 1 nothing_yet rows ≡ outcome_from count contents rest) × (reports_from 1 rows ≡ so_far ++ reports_from count rest)

-- so at the first row
pub leads_from_the_first : (bytes : List ℕ) → LeadsOn bytes st.StartRecord (strip_bom bytes) 1 nothing_yet []
leads_from_the_first bytes rows are = (rows, are, refl, refl)

pub none_is_cut : AreWidestCuts whole_hour [] []
none_is_cut group = refl

pub nothing_is_undisturbed : IsUndisturbed nothing_yet
nothing_is_undisturbed = record { no_horizon = refl; all_open = λ group. refl }

pub leads_past_a_row : (bytes : List ℕ) (state : State) (left : List ℕ) (count : ℕ) (contents : Contents) (so_far : List Report) (read : Read) (report : Report) → LeadsOn bytes state left count contents so_far → next_record default_config state [] [] left ≡ Some read
    → report_of count read.0 ≡ Some report → answer_of contents report ≡ Ok New → LeadsOn bytes read.1 read.2 (count + 1) (after_report contents report) (so_far ++ report ∷ [])
leads_past_a_row bytes state left count contents so_far read report leads e gives answer = λ rows are.
    let here = leads rows are in
    let first = first_record state left read here.0 here.1 e in
    let outcome = here.2 ∙ ap (λ k. outcome_from count contents k) first.1 ∙ row_taken count contents read.0 first.0 report gives answer in
    let next : reports_from count (read.0 ∷ first.0) ≡ report ∷ reports_from (count + 1) first.0 = ap (λ k. with_report k (reports_from (count + 1) first.0)) gives in
    let reports = here.3 ∙ ap (λ k. so_far ++ reports_from count k) first.1 ∙ ap (λ k. so_far ++ k) next ∙ sym (append_assoc so_far (report ∷ []) (reports_from (count + 1) first.0)) in
    (first.0, first.2, outcome, reports)

pub comes_to_a_bad_row : (bytes : List ℕ) (state : State) (left : List ℕ) (count : ℕ) (contents : Contents) (so_far : List Report) (read : Read) → LeadsOn bytes state left count contents so_far → next_record default_config state [] [] left ≡ Some read
    → ((rest : List (List (List ℕ))) → outcome_from count contents (read.0 ∷ rest) ≡ Err count) → Comes bytes (Err count)
comes_to_a_bad_row bytes state left count contents so_far read leads e bad =
    let all = some_rows bytes in
    let here = leads all.0 all.1 in
    let first = first_record state left read here.0 here.1 e in
    record { rows = all.0; of_input = all.1; run = here.2 ∙ ap (λ k. outcome_from count contents k) first.1 ∙ bad first.0 }

pub comes_to_the_end : (bytes : List ℕ) (state : State) (left : List ℕ) (count : ℕ) (contents : Contents) (so_far : List Report) → LeadsOn bytes state left count contents so_far → next_record default_config state [] [] left ≡ None
    → AreWidestCuts whole_hour so_far contents.containers → IsMetered bytes contents
comes_to_the_end bytes state left count contents so_far leads e cut =
    let all = some_rows bytes in
    let here = leads all.0 all.1 in
    let none = no_record state left here.0 here.1 e in
    let reports : reports_from 1 all.0 ≡ so_far = here.3 ∙ ap (λ k. so_far ++ reports_from count k) none ∙ append-nil so_far in
    record {
      comes = record { rows = all.0; of_input = all.1; run = here.2 ∙ ap (λ k. outcome_from count contents k) none };
      cut = subst (λ (k : List Report). AreWidestCuts whole_hour k contents.containers) (sym reports) cut;
    }
