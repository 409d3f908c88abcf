-- What a command does to subscriptions to spending limits and their notices, from the state before it (TS 29.594, 4.2;
-- this product's own).
use Rattle.std.specs.Prelude.{List, ℕ, Option, Some, None}
use Rattle.accounts.specs.Ledger.{State as Money}
use Rattle.accounts.specs.Making.{made}
use Rattle.notices.specs.Steps.{Step, Modified, Ended, Sent}
use Rattle.chf_core.specs.declared.command.Command.{Command}
use Rattle.chf_core.specs.declared.command.Command.TheVariants.{Charge, Subscriber, Subscribe, Modify, Unsubscribe, NoticeSent}
use Rattle.chf_core.specs.State.{State, at_text}
use Rattle.chf_core.specs.CommandMoves.{target_of, moves_of}
use Rattle.chf_core.specs.Stepping.{spending, moving_to, subscribing}

-- the money after a command
abbrev pub money_after : State → Command → Money
money_after s c = made (moves_of s c) s.money

-- the step that a command takes, if it takes one
abbrev pub step_of : State → Command → Option Step
step_of s (Charge q) = spending s.money (money_after s (Charge q)) (target_of s q)
step_of s (Subscriber supi account barred) =
    moving_to s.names s.money (money_after s (Subscriber supi account barred)) supi account (at_text s.subscribers supi)
step_of s (Subscribe context) = subscribing s.names context (at_text s.subscribers context.supi)
step_of s (Modify id context) = Some (Modified id context)
step_of s (Unsubscribe id) = Some (Ended id)
step_of s (NoticeSent id number) = Some (Sent id)
step_of s other = None
