use Rattle.std.proofs.Common.{refl}
use Rattle.charging_json.specs.RequestWritten.{ask_fields}
use Rattle.charging_json.proofs.request_writer.put_units.Goals as goal

pub returns-clause-ok : goal.returns-clause-ok
returns-clause-ok c = c.end_object.ensures.ok c.args.out.now.tokens (ask_fields c.args.ask.now) (rw (c.in_ok-number.ensures.ok, c.in_ok-number_32.ensures.ok, c.in_ok-begin_object.ensures.ok) refl) refl
