use Rattle.std.proofs.Common.{refl}
use Rattle.charging_json.specs.RequestWritten.{usage_fields}
use Rattle.charging_json.proofs.request_writer.put_usage.Goals as goal

pub returns-clause-ok : goal.returns-clause-ok
returns-clause-ok c = c.end_object.ensures.ok c.args.out.now.tokens (usage_fields c.args.usage.now) (rw (c.in_ok-put_containers.ensures.ok, c.as_slice.ensures, c.in_ok-put_ask.ensures.ok, c.in_ok-number_32.ensures.ok, c.in_ok-begin_object.ensures.ok) refl) refl
