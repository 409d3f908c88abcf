use Rattle.std.proofs.Common.{◌≡◌, ◌==◌, false, option_map, arith}
use Rattle.std.proofs.lemmas.Bool.Decides.{nat_tests}
use Rattle.serde_json.specs.View.{view}
use Rattle.units.specs.ReplyRanges.{FitsReply}
use Rattle.units.specs.declared.refusal.JsonRefusal.TheVariants as refusal
use Rattle.charging_json.specs.Reply.{reply_of}
use Rattle.charging_json.proofs.Held.{holds}
use Rattle.charging_json.proofs.ReplyInRange.{value_in}
use Rattle.charging_json.proofs.reply_reader.read_reply.Goals as goal

pub returns-in-Ok-clause-range : goal.returns-in-Ok-clause-range
returns-in-Ok-clause-range c =
    let other : (c.args.status == 204) ≡ false = grind (arith, nat_tests, c.if-status-eq204.false) in
    holds FitsReply refusal.OutOfMemory c.read_value.result (reply_of c.args.status (option_map (λ t. t.now) c.args.location) (view c.in-Ok.value)) c.read_value.ensures (value_in c.args.status (option_map (λ t. t.now) c.args.location) (view c.in-Ok.value) other)
