use Rattle.std.proofs.Common.{refl}
use Rattle.charging_json.specs.RequestWritten.{request_fields}
use Rattle.charging_json.proofs.request_writer.put_request.Goals as goal

pub returns-clause-ok : goal.returns-clause-ok
returns-clause-ok c = c.end_object.ensures.ok c.args.out.now.tokens (request_fields c.args.request.now) (rw (c.in_ok-put_triggers.ensures.ok, c.as_slice-2.ensures, c.in_ok-text_if-2.ensures.ok, c.in_ok-put_again.ensures.ok, c.in_ok-text_if.ensures.ok, c.in_ok-put_consumer.ensures.ok, c.in_ok-put_entries.ensures.ok, c.as_slice.ensures, c.in_ok-put_invocation.ensures.ok, c.in_ok-begin_object.ensures.ok) refl) refl
