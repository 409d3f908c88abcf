use Rattle.records.proofs.Grouped.{all_apart}
use Rattle.records.proofs.grouping.by_group.Goals as goal

pub returns-clause-apart : goal.returns-clause-apart
returns-clause-apart c = all_apart c.grouped.result c.args.usage.now c.grouped.ensures
