use Rattle.std.proofs.Common.{◌∙◌, sym}
use Rattle.records.proofs.reading.read_record.Goals as goal

pub returns-in-Some-clause-only : goal.returns-in-Some-clause-only
returns-in-Some-clause-only c = λ r n unknown within spells. sym (c.ordered.ensures.only r n unknown within spells) ∙ c.in-Some.ensures.exact
