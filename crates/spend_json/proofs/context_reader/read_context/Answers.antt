use Rattle.serde_json.specs.View.{view}
use Rattle.spend_json.proofs.InRange.{in_range}
use Rattle.spend_json.proofs.context_reader.read_context.Goals as goal

pub returns-in-Ok-clause-range : goal.returns-in-Ok-clause-range
returns-in-Ok-clause-range c = in_range (view c.in-Ok.value) c.read_fields.result c.read_fields.ensures
