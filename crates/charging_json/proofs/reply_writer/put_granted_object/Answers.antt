use Rattle.std.proofs.Common.{refl}
use Rattle.charging_json.specs.ReplyWritten.{granted_fields}
use Rattle.charging_json.proofs.reply_writer.put_granted_object.Goals as goal

pub returns-clause-ok : goal.returns-clause-ok
returns-clause-ok c = c.end_object.ensures.ok c.args.out.now.tokens (granted_fields c.args.grant c.args.switch) (rw (c.in_ok-number.ensures.ok, c.octets_of.ensures, c.in_ok-number_32.ensures.ok, c.seconds_of.ensures, c.in_ok-time.ensures.ok, c.in_ok-begin_object.ensures.ok) refl) refl
