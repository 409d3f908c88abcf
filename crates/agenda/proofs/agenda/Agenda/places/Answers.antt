use Rattle.std.proofs.Common.{◌≡◌, ◌∙◌, sym, ap}
use Rattle.agenda.specs.Marks.{finds, places_from}
use Rattle.agenda.specs.Rows.{Marked, first_row}
use Rattle.agenda.proofs.Finding.{none_found}
use Rattle.agenda.proofs.Roomy.{places_roomy, if_ok}
use Rattle.agenda.proofs.agenda.Agenda.places.Goals as goal

pub returns-then-is_found : goal.returns-then-is_found
returns-then-is_found c =
    let rows = c.self.inside.rows.items in
    let same = ap (λ xs. places_from c.args.search.now 0 (first_row xs)) c.as_slice.ensures.value ∙ places_roomy c.args.search.now rows c.self.inside.count c.self.invariant ∙ ap (λ (x : Marked). places_from c.args.search.now 0 x.marks) c.self.view_is in
    if_ok c.found_down.result (λ v. v.items ≡ places_from c.args.search.now 0 (first_row c.as_slice.result.now)) (λ v. v.items ≡ places_from c.args.search.now 0 c.args.self.now.marks) (λ v e. e ∙ same) c.found_down.ensures

pub returns-else-is_found : goal.returns-else-is_found
returns-else-is_found c =
    c.new-else-is_found.ensures.items ∙ sym (none_found c.args.search.now c.args.self.now.marks (ap (finds c.args.search.now) (sym c.all-together.ensures) ∙ sym c.is_found.ensures ∙ c.if-is_found.false))
