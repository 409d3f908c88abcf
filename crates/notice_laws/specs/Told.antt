-- Which notice of a subscription is to come of a command (TS 29.594, 4.2.4).
use Rattle.std.specs.Prelude.{ℕ, List, ◌∷◌, length, Option, Some, None}
use Rattle.units.specs.declared.spending.SpendContext.{SpendContext}
use Rattle.counters.specs.Subscriptions.{context_of}
use Rattle.counters.specs.Watching.{changes}
use Rattle.notices.specs.declared.notice.Notice.{Notice}
use Rattle.notices.specs.Due.{notice_with}
use Rattle.chf_core.specs.declared.command.Command.{Command}
use Rattle.chf_core.specs.Operator.{setup_of}
use Rattle.chf_core.specs.Spending.{counters_in, spent_of}
use Rattle.chf_core.specs.Watched.{contexts}
use Rattle.notice_laws.specs.Made.{made_in}

-- the notice with the next number, to the address of the subscription's context, that says which of the counters that it
-- watches have another status after the command than before it, by what was spent on the account that the latest row of
-- its subscriber names; none where there is no such counter, or where the subscription is not live
abbrev pub told_by : List Command → Command → ℕ → Option SpendContext → Option Notice
told_by before c id None = None
told_by before c id (Some context) =
    notice_with id (length (made_in before id)) context
    (changes (counters_in (setup_of before)) context.counters (spent_of before context.supi) (spent_of (c ∷ before) context.supi))

-- the notice that is to come of a command for the subscription with a number
abbrev pub notice_for : List Command → Command → ℕ → Option Notice
notice_for before c id = told_by before c id (context_of (contexts before) id)
