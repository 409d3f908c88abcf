use Rattle.records.proofs.Ascending.{record_read, if_read}
use Rattle.records.proofs.ordered.ordered.Goals as goal

pub returns-clause-exact : goal.returns-clause-exact
returns-clause-exact c = if_read c.spelled_are_read.ensures c.args.bytes.now c.record.result c.record.ensures.bound c.record.ensures.spelled

pub returns-clause-only : goal.returns-clause-only
returns-clause-only c = λ r n unknown within spells. record_read c.spelled_are_read.ensures c.args.bytes.now (r, unknown) n c.record.ensures.bound within spells
