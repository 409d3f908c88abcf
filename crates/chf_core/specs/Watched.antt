-- Subscriptions to the spending limits of subscribers after a list of commands, the newest first, with the accounts that
-- they watch and their notices (TS 29.594, 4.2 and 5.3).
use Rattle.std.specs.Prelude.{ℕ, List, [], ◌∷◌, Option, Some, None}
use Rattle.units.specs.declared.spending.SpendContext.{SpendContext}
use Rattle.notices.specs.Watched.{Watched, nothing_watched}
use Rattle.notices.specs.Steps.{Step, Modified, Ended, Sent}
use Rattle.chf_core.specs.declared.command.Command.{Command}
use Rattle.chf_core.specs.declared.command.Command.TheVariants.{Charge, Subscriber, Subscribe, Modify, Unsubscribe, NoticeSent}
use Rattle.chf_core.specs.Operator.{setup_of, account_names, subscription_of}
use Rattle.chf_core.specs.Money.{money, target_of}
use Rattle.chf_core.specs.Spending.{counters_in}
use Rattle.chf_core.specs.Stepping.{spending, moving_to, subscribing, stepped}

-- the step that a command takes after those before it, if it takes one
abbrev pub step_in : List Command → Command → Option Step
step_in before (Charge q) = spending (money before) (money (Charge q ∷ before)) (target_of before q)
step_in before (Subscriber supi account barred) =
    moving_to (account_names before) (money before) (money (Subscriber supi account barred ∷ before)) supi account
    (subscription_of before supi)
step_in before (Subscribe context) =
    subscribing (account_names before) context (subscription_of before context.supi)
step_in before (Modify id context) = Some (Modified id context)
step_in before (Unsubscribe id) = Some (Ended id)
step_in before (NoticeSent id number) = Some (Sent id)
step_in before other = None

-- what is watched after the commands, under the counters of the setup before each
abbrev pub watched : List Command → Watched
watched [] = nothing_watched
watched (c ∷ before) = stepped (counters_in (setup_of before)) (watched before) (step_in before c)

-- of each subscription that was ever made, in the order of their numbers from 1, the context that it was last given; none
-- once it ended (TS 29.594, 5.3)
abbrev pub contexts : List Command → List (Option SpendContext)
contexts commands = (watched commands).contexts
