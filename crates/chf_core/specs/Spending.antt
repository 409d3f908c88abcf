-- What was spent on accounts, and what a subscription to the spending limits of a subscriber is told of it after a list of
-- commands, the newest first (TS 29.594, 4.2.2).
use Rattle.std.specs.Prelude.{ℕ, ◌+◌, List, [], Option, Some, None}
use Rattle.units.specs.declared.spending.SpendContext.{SpendContext}
use Rattle.units.specs.declared.spending.SpendStatus.{SpendStatus}
use Rattle.accounts.specs.Ledger.{State as Money, numbers}
use Rattle.counters.specs.Watching.{statuses}
use Rattle.chf_core.specs.declared.setup.ChfSetup.{ChfSetup}
use Rattle.chf_core.specs.declared.command.Command.{Command}
use Rattle.chf_core.specs.Operator.{setup_of, account_of}
use Rattle.chf_core.specs.Money.{money}

-- the rows of the policy counters of a setup, none before it (this product's own)
abbrev pub counters_in : Option ChfSetup → List (List (List ℕ))
counters_in None = []
counters_in (Some setup) = setup.counters

-- what was spent on an account: what was taken of it and what it owes; nothing where there is none (this product's own)
abbrev pub spent_on : Money → Option ℕ → ℕ
spent_on s None = 0
spent_on s (Some account) = (numbers s account).taken + (numbers s account).owed

-- the statuses that watched counters have once that much is spent (TS 29.594, 5.6.2.3)
abbrev pub status_by : List (List (List ℕ)) → ℕ → SpendContext → SpendStatus
status_by rows spent context = record { supi = context.supi; infos = statuses rows context.counters spent }

-- what was spent on the account of a subscriber, by its latest row (this product's own)
abbrev pub spent_of : List Command → List ℕ → ℕ
spent_of commands supi = spent_on (money commands) (account_of commands supi)

-- the statuses that a subscription with a context is told (TS 29.594, 4.2.2.2)
abbrev pub status_for : List Command → SpendContext → SpendStatus
status_for commands context = status_by (counters_in (setup_of commands)) (spent_of commands context.supi) context
