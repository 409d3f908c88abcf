use Rattle.std.proofs.Common.{◌<◌, ◌-◌, ◌+◌, ◌∙◌, length, sym, ap, subst, arith}
use Rattle.std.proofs.lemmas.List.{with_items_is}
use Rattle.agenda.specs.Rows.{Marked, IsRoomy, first_row, set_rows}
use Rattle.agenda.proofs.Roomy.{add_roomy}
use Rattle.agenda.proofs.agenda.Agenda.add.Goals as goal

pub invariant_of-self : goal.invariant_of-self
invariant_of-self c =
    let rows = c.self.inside.rows.items in
    let room : 0 < length (first_row rows) - c.self.inside.count = subst (λ (x : Marked). 0 < x.room) (sym c.self.view_is) c.requires in
    subst (λ xs. IsRoomy xs (c.self.inside.count + 1)) (sym (with_items_is c.self.inside.rows c.set_all.new.rows (omega arith) ∙ c.set_all.ensures ∙ ap (λ xs. set_rows xs c.self.inside.count c.args.mark) c.as_mut_slice.ensures.value))
    (add_roomy rows c.self.inside.count c.args.mark c.self.invariant (omega (arith, room)))
