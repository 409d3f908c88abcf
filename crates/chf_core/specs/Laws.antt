-- Laws of all lists of commands, the newest first (TS 32.290, 5.3.2; this product's own).
use Rattle.std.specs.Prelude.{◌≡◌, ℕ, List, ◌∷◌, ◌++◌, length, Some}
use Rattle.units.specs.declared.request.Request.{Request}
use Rattle.chf_core.specs.declared.command.Command.{Command}
use Rattle.chf_core.specs.declared.command.Command.TheVariants.{Charge}
use Rattle.chf_core.specs.declared.command.Outcome.{Outcome}
use Rattle.chf_core.specs.declared.decision.Verdict.TheVariants.{Kept, Fresh}
use Rattle.chf_core.specs.Decisions.{decision}
use Rattle.chf_core.specs.Outcomes.{outcome_of, outcome_at}

-- The outcome at a place is the one that its command has from the commands before it, whatever came later.
abbrev pub FirstOutcomes : Type 0
FirstOutcomes = (later before : List Command) (c : Command) → outcome_at (later ++ c ∷ before) (length before) ≡ Some (outcome_of before c)

-- A fresh command has the outcome that its place in the list then has.
abbrev pub FreshAreKept : Type 0
FreshAreKept = (commands : List Command) (c : Command) (o : Outcome) → decision commands c ≡ Fresh o → o ≡ outcome_of commands c

-- A request that is kept stays kept at its place, whatever command comes.
abbrev pub KeptForGood : Type 0
KeptForGood = (commands : List Command) (c : Command) (q : Request) (place : ℕ) → decision commands (Charge q) ≡ Kept place → decision (c ∷ commands) (Charge q) ≡ Kept place
