use Rattle.std.proofs.Common.{refl}
use Rattle.charging_json.specs.RequestWritten.{used_fields}
use Rattle.charging_json.proofs.request_writer.put_used.Goals as goal

pub returns-clause-ok : goal.returns-clause-ok
returns-clause-ok c = c.end_object.ensures.ok c.args.out.now.tokens (used_fields c.args.used.now) (rw (c.in_ok-number-3.ensures.ok, c.in_ok-put_triggers.ensures.ok, c.as_slice.ensures, c.in_ok-time.ensures.ok, c.in_ok-number-2.ensures.ok, c.saturating_add-total.ensures, c.in_ok-number_32-2.ensures.ok, c.in_ok-put_span.ensures.ok, c.in_ok-number_32.ensures.ok, c.in_ok-number.ensures.ok, c.in_ok-begin_object.ensures.ok) refl) refl
