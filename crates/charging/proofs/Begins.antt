-- A run begins with its setup, and has no other.
use Rattle.std.proofs.Common.{◌≡◌, ◌≢◌, ◌+◌, ◌==◌, ℕ, false, arith, Option, Some, None, Result, Ok, Err}
use Rattle.std.proofs.lemmas.Bool.Decides.{nat_tests}
use Rattle.units.specs.declared.reply.Reply.{Reply}
use Rattle.chf_core.specs.declared.command.Command.{Command}
use Rattle.chf_core.specs.declared.decision.Verdict.{Verdict}
use Rattle.chf_core.specs.declared.decision.Verdict.TheVariants.{Kept, Known, Refused, Fresh}
use Rattle.chf_core.specs.State.{State}
use Rattle.chf_core.specs.Deciding.{decision}
use Rattle.chf_rows.specs.OperatorRow.{command_of}
use Rattle.charging.specs.declared.item.Item.{Item}
use Rattle.charging.specs.declared.item.Item.TheVariants.{Blank, Row, Message, Bad}
use Rattle.charging.specs.Answering.{after_command, after_item}
use Rattle.chf_messages.specs.Answering.{after_message, decided}
use Rattle.chf_messages.specs.Routing.{command_at}

-- a number that was counted up is not 0
one_more : (n : ℕ) → (n + 1 == 0) ≡ false
one_more n = no (n + 1) 0 (λ z. let h : n + 1 ≡ 0 = z in omega arith)
  where
    no : (a b : ℕ) → a ≢ b → (a == b) ≡ false
    no a b e = grind (arith, nat_tests)

decided_goes_on : (s : State) (c : Command) (v : Verdict) → (s.count == 0) ≡ false → ((decided s c v).count == 0) ≡ false
decided_goes_on s c (Kept place) e = e
decided_goes_on s c Known e = e
decided_goes_on s c (Refused refusal) e = e
decided_goes_on s c (Fresh outcome) e = one_more s.count

command_goes_on : (s : State) (c : Option Command) → (s.count == 0) ≡ false → ((after_command s c).count == 0) ≡ false
command_goes_on s None e = e
command_goes_on s (Some c) e = decided_goes_on s c (decision s c) e

message_goes_on : (s : State) (m : Result Command Reply) → (s.count == 0) ≡ false → ((after_message s m).count == 0) ≡ false
message_goes_on s (Err reply) e = e
message_goes_on s (Ok c) e = decided_goes_on s c (decision s c) e

-- after each item there are commands, where there were some before
pub goes_on : (s : State) (item : Item) → (s.count == 0) ≡ false → ((after_item s item).count == 0) ≡ false
goes_on s Blank e = e
goes_on s Bad e = e
goes_on s (Row fields) e = command_goes_on s (command_of fields) e
goes_on s (Message method path body) e = message_goes_on s (command_at method path body) e
