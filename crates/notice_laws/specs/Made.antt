-- The notices of subscriptions to spending limits that a list of commands, the newest first, made, and those of them that
-- left (TS 29.594, 4.2.4).
use Rattle.std.specs.Prelude.{ℕ, List, [], ◌∷◌, ◌++◌, Option, Some, None}
use Rattle.notices.specs.declared.notice.Notice.{Notice}
use Rattle.notices.specs.Watched.{Watched}
use Rattle.notices.specs.Steps.{Step, of_subscription, leaves}
use Rattle.chf_core.specs.declared.command.Command.{Command}
use Rattle.chf_core.specs.Operator.{setup_of}
use Rattle.chf_core.specs.Spending.{counters_in}
use Rattle.chf_core.specs.Stepping.{notices_by}
use Rattle.chf_core.specs.Watched.{step_in, watched}

-- the notices that a command makes, after those before it
abbrev pub made_by : List Command → Command → List Notice
made_by before c = notices_by (counters_in (setup_of before)) (watched before) (step_in before c)

-- all notices of a subscription that the commands made, in the order in which they did
abbrev pub made_in : List Command → ℕ → List Notice
made_in [] id = []
made_in (c ∷ before) id = made_in before id ++ of_subscription id (made_by before c)

-- the notice of a subscription that leaves by a step, if there is a step
abbrev pub leaves_by : Watched → Option Step → ℕ → List Notice
leaves_by w None id = []
leaves_by w (Some step) id = leaves w step id

-- those that left, in the order in which they did
abbrev pub left_in : List Command → ℕ → List Notice
left_in [] id = []
left_in (c ∷ before) id = left_in before id ++ leaves_by (watched before) (step_in before c) id
