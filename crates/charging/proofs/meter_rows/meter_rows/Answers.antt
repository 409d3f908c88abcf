use Rattle.std.proofs.Common.{subst, ◌++◌, ◌∷◌, [], ◌≡◌, ◌≢◌, ◌∙◌, ◌+◌, ap, sym, rules, arith, true, false, Ok, Err, Some, None}
use Rattle.csv.specs.Reading.{strip_bom}
use Rattle.csv.specs.declared.parser.State.TheVariants as st
use Rattle.units.specs.Cut.{AreWidestCuts, whole_hour}
use Rattle.meter.specs.Admission.{answer_of}
use Rattle.meter.specs.Contents.{Contents, IsUndisturbed, report_total}
use Rattle.meter.specs.Joining.{after_report}
use Rattle.meter.specs.declared.refusal.Seen.TheVariants.{New}
use Rattle.charging.specs.MeterRows.{Comes, report_of}
use Rattle.charging.proofs.Runs.{LeadsOn, comes_to_a_bad_row, comes_to_the_end, leads_from_the_first, leads_past_a_row, none_is_cut, nothing_is_undisturbed, row_refused, row_without_report}
use Rattle.charging.proofs.meter_rows.meter_rows.Goals as goal

pub returns-in_default-clause-bad : goal.returns-in_default-clause-bad
returns-in_default-clause-bad c = λ row e.
    let at = c.loop-row.invariant.reads in
    let found : c.next_row.result ≡ Ok true = search rules in
    let read = c.next_row.ensures.more at.0 at.1 at.3 found in
    let none : report_of c.loop-row.count read.0.0 ≡ None = ap (report_of c.loop-row.count) (sym read.2) ∙ search rules in
    let here : Comes c.args.bytes.now (Err c.loop-row.count) =
    comes_to_a_bad_row c.args.bytes.now at.0 at.1 c.loop-row.count c.loop-row.meter.contents at.2 read.0 at.4 read.1
    (λ rest. row_without_report c.loop-row.count c.loop-row.meter.contents read.0.0 rest none) in
    let same : c.loop-row.count ≡ row = cc in
    rw (← same) here

pub loop-row-preserved : goal.loop-row-preserved
loop-row-preserved c =
    let at = c.loop-row.invariant.reads in
    let found : c.next_row.result ≡ Ok true = search rules in
    let read = c.next_row.ensures.more at.0 at.1 at.3 found in
    let same : c.make_room.new.self.contents ≡ c.loop-row.meter.contents = c.in_ok-make_room.ensures.same in
    let took : c.report.result ≡ Ok New = search rules in
    let gives : report_of c.loop-row.count read.0.0 ≡ Some c.in-Some.report = ap (report_of c.loop-row.count) (sym read.2) ∙ search rules in
    let answer : answer_of c.loop-row.meter.contents c.in-Some.report ≡ Ok New = ap (λ k. answer_of k c.in-Some.report) (sym same) ∙ sym c.report.ensures.answer ∙ took in
    let after : c.report.new.self.contents ≡ after_report c.loop-row.meter.contents c.in-Some.report = c.report.ensures.new took ∙ ap (λ k. after_report k c.in-Some.report) same in
    let total = ap (λ (k : Contents). report_total k.containers) same in
    let undisturbed = subst (λ (k : Contents). IsUndisturbed k) (sym same) c.loop-row.invariant.undisturbed in
    let cut = subst (λ (k : Contents). AreWidestCuts whole_hour at.2 k.containers) (sym same) at.5 in
    record {
      count = omega (arith, total, c.report.ensures.counted took, c.loop-row.invariant.count);
      few = omega (arith, c.report.ensures.counted took, c.report.ensures.few took);
      reads = (
        read.0.1,
        read.0.2,
        at.2 ++ c.in-Some.report ∷ [],
        read.3,
        subst (λ (k : Contents). LeadsOn c.args.bytes.now read.0.1 read.0.2 (c.loop-row.count + 1) k (at.2 ++ c.in-Some.report ∷ [])) (sym after)
            (leads_past_a_row c.args.bytes.now at.0 at.1 c.loop-row.count c.loop-row.meter.contents at.2 read.0 c.in-Some.report at.4 read.1 gives answer),
        c.report.ensures.widest at.2 undisturbed cut took,
      );
      undisturbed = c.report.ensures.undisturbed undisturbed took;
    }

pub returns-in_default-report-clause-bad : goal.returns-in_default-report-clause-bad
returns-in_default-report-clause-bad c = λ row e.
    let at = c.loop-row.invariant.reads in
    let found : c.next_row.result ≡ Ok true = search rules in
    let read = c.next_row.ensures.more at.0 at.1 at.3 found in
    let contents : c.make_room.new.self.contents ≡ c.loop-row.meter.contents = c.in_ok-make_room.ensures.same in
    let gives : report_of c.loop-row.count read.0.0 ≡ Some c.in-Some.report = ap (report_of c.loop-row.count) (sym read.2) ∙ search rules in
    let other : c.report.result ≢ Ok New = search rules in
    let answer : answer_of c.loop-row.meter.contents c.in-Some.report ≢ Ok New = λ new. other (c.report.ensures.answer ∙ ap (λ k. answer_of k c.in-Some.report) contents ∙ new) in
    let here : Comes c.args.bytes.now (Err c.loop-row.count) =
    comes_to_a_bad_row c.args.bytes.now at.0 at.1 c.loop-row.count c.loop-row.meter.contents at.2 read.0 at.4 read.1
    (λ rest. row_refused c.loop-row.count c.loop-row.meter.contents read.0.0 rest c.in-Some.report gives answer) in
    let same : c.loop-row.count ≡ row = cc in
    rw (← same) here

pub returns-clause-ok : goal.returns-clause-ok
returns-clause-ok c =
    let at = c.loop-row.invariant.reads in
    let none : c.next_row.result ≡ Ok false = search rules in
    comes_to_the_end c.args.bytes.now at.0 at.1 c.loop-row.count c.loop-row.meter.contents at.2 at.4 (c.next_row.ensures.end at.0 at.1 at.3 none) at.5

pub loop-row-init : goal.loop-row-init
loop-row-init c =
    let start = sym c.requires in
    let total = ap (λ (k : Contents). report_total k.containers) c.requires in
    record {
      count = omega (arith, total);
      few = omega (arith, total);
      reads = (
        st.StartRecord,
        strip_bom c.args.bytes.now,
        [],
        c.rows_of-reader.ensures,
        subst (λ (k : Contents). LeadsOn c.args.bytes.now st.StartRecord (strip_bom c.args.bytes.now) 1 k []) start (leads_from_the_first c.args.bytes.now),
        subst (λ (k : Contents). AreWidestCuts whole_hour [] k.containers) start none_is_cut,
      );
      undisturbed = subst (λ (k : Contents). IsUndisturbed k) start nothing_is_undisturbed;
    }
