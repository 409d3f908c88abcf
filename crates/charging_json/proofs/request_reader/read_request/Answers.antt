use Rattle.serde_json.specs.View.{view}
use Rattle.units.specs.Ranges.{FitsRequest}
use Rattle.units.specs.declared.refusal.JsonRefusal.TheVariants as refusal
use Rattle.charging_json.specs.Request.{request_of}
use Rattle.charging_json.proofs.Held.{holds}
use Rattle.charging_json.proofs.InRange.{request_of_fits}
use Rattle.charging_json.proofs.request_reader.read_request.Goals as goal

pub returns-in-Ok-clause-range : goal.returns-in-Ok-clause-range
returns-in-Ok-clause-range c = holds FitsRequest refusal.OutOfMemory c.read_fields.result (request_of c.args.operation (view c.in-Ok.value)) c.read_fields.ensures (request_of_fits c.args.operation (view c.in-Ok.value))
