-- What each command of a list, the newest first, came to (TS 32.290, 5.3.2; keeping first replies is this product's own).
use Rattle.std.specs.Prelude.{ℕ, ◌+◌, ◌==◌, cond, List, [], ◌∷◌, length, Option, Some, None}
use Rattle.chf_core.specs.declared.command.Command.{Command}
use Rattle.chf_core.specs.declared.command.Command.TheVariants.{Charge, Subscribe, Modify, Unsubscribe}
use Rattle.chf_core.specs.declared.command.Outcome.{Outcome}
use Rattle.chf_core.specs.declared.command.Outcome.TheVariants.{Charged, Done, Spending, Removed}
use Rattle.chf_core.specs.Money.{first_reply}
use Rattle.chf_core.specs.Spending.{status_for}
use Rattle.chf_core.specs.Watched.{contexts}

-- what a command comes to, from the commands before it
abbrev pub outcome_of : List Command → Command → Outcome
outcome_of before (Charge q) = Charged (first_reply before q)
outcome_of before (Subscribe context) = Spending (length (contexts before) + 1) (status_for before context)
outcome_of before (Modify id context) = Spending id (status_for before context)
outcome_of before (Unsubscribe id) = Removed
outcome_of before other = Done

-- of each command of a list
abbrev pub outcomes_of : List Command → List Outcome
outcomes_of [] = []
outcomes_of (c ∷ before) = outcome_of before c ∷ outcomes_of before

-- of the command at a place
abbrev pub outcome_at : List Command → ℕ → Option Outcome
outcome_at [] place = None
outcome_at (c ∷ before) place = cond (length before == place) (Some (outcome_of before c)) (outcome_at before place)
