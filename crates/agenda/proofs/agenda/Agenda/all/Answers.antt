use Rattle.std.proofs.Common.{◌∙◌, ap}
use Rattle.agenda.specs.Marks.{all_of}
use Rattle.agenda.specs.Rows.{Marked, top}
use Rattle.agenda.proofs.Pairs.{top_all}
use Rattle.agenda.proofs.Roomy.{all_roomy}
use Rattle.agenda.proofs.agenda.Agenda.all.Goals as goal

pub returns : goal.returns
returns c =
    let rows = c.self.inside.rows.items in
    c.top_of.ensures ∙ ap top c.as_slice.ensures.value ∙ top_all rows c.self.invariant.over ∙ all_roomy rows c.self.inside.count c.self.invariant ∙ ap (λ (x : Marked). all_of x.marks) c.self.view_is
