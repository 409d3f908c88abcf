use Rattle.std.proofs.Common.{◌≡◌, ◌<◌, ◌∙◌, length, set, take, sym, ap, subst, arith}
use Rattle.std.proofs.Math.Seq.{take-set-lt}
use Rattle.std.proofs.lemmas.List.{with_items_is}
use Rattle.agenda.specs.Rows.{Marked, IsRoomy, first_row, set_rows}
use Rattle.agenda.proofs.Roomy.{length_roomy, set_roomy, set_marks}
use Rattle.agenda.proofs.agenda.Agenda.set.Goals as goal

pub invariant_of-self : goal.invariant_of-self
invariant_of-self c =
    let rows = c.self.inside.rows.items in
    let long = length_roomy rows c.self.inside.count c.self.invariant in
    let within = subst (λ (x : Marked). c.args.place < length x.marks) (sym c.self.view_is) c.requires in
    subst (λ xs. IsRoomy xs c.self.inside.count) (sym (with_items_is c.self.inside.rows c.set_all.new.rows (omega arith) ∙ c.set_all.ensures ∙ ap (λ xs. set_rows xs c.args.place c.args.mark) c.as_mut_slice.ensures.value))
    (set_roomy rows c.self.inside.count c.args.place c.args.mark c.self.invariant (omega (arith, long, within)))

pub returns-clause-value : goal.returns-clause-value
returns-clause-value c =
    let rows = c.self.inside.rows.items in
    let long = length_roomy rows c.self.inside.count c.self.invariant in
    let within = subst (λ (x : Marked). c.args.place < length x.marks) (sym c.self.view_is) c.requires in
    ap (λ xs. take c.self.inside.count (first_row xs)) (with_items_is c.self.inside.rows c.set_all.new.rows (omega arith) ∙ c.set_all.ensures ∙ ap (λ xs. set_rows xs c.args.place c.args.mark) c.as_mut_slice.ensures.value)
    ∙ set_marks rows c.self.inside.count c.args.place c.args.mark (omega (arith, long, within))
    ∙ ap (λ (x : Marked). set x.marks c.args.place c.args.mark) c.self.view_is

pub returns-then-has_at-clause-value : goal.returns-then-has_at-clause-value
returns-then-has_at-clause-value c =
    let rows = c.self.inside.rows.items in
    let long = length_roomy rows c.self.inside.count c.self.invariant in
    let within = subst (λ (x : Marked). c.args.place < length x.marks) (sym c.self.view_is) c.requires in
    let same : set (first_row rows) c.args.place c.args.mark ≡ first_row rows = subst (λ xs. set (first_row xs) c.args.place c.args.mark ≡ first_row xs) c.as_slice.ensures.value c.if-has_at.ensures in
    subst (λ (x : Marked). x.marks ≡ set x.marks c.args.place c.args.mark) c.self.view_is
    (ap (take c.self.inside.count) (sym same) ∙ take-set-lt c.self.inside.count (first_row rows) c.args.place c.args.mark (omega (arith, long, within)))
