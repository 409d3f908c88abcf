use Rattle.std.proofs.Common.{refl}
use Rattle.charging_json.specs.RequestWritten.{trigger_fields}
use Rattle.charging_json.proofs.request_writer.put_trigger.Goals as goal

pub returns-clause-ok : goal.returns-clause-ok
returns-clause-ok c = c.end_object.ensures.ok c.args.out.now.tokens (trigger_fields c.args.kind.now) (rw (c.in_ok-text-2.ensures.ok, c.as_str.ensures, c.in_ok-text.ensures.ok, c.name_of_category.ensures, c.in_ok-begin_object.ensures.ok) refl) refl
