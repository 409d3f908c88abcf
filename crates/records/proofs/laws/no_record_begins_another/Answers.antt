use Rattle.std.proofs.Common.{ap, sym, ◌∙◌}
use Rattle.records.specs.Reading.{read_in}
use Rattle.records.proofs.laws.no_record_begins_another.Goals as goal

pub returns : goal.returns
returns c = λ a b x y r s within spells-r spells-s same.
    let one = c.prefix_free.ensures a b x y spells-r.0 spells-s.0 within spells-r.1 spells-s.1 same in
    (one.0, spells-r.3 ∙ ap read_in one.1 ∙ sym spells-s.3)
