-- Laws of notices over all lists of commands, the newest first, that came to be (TS 29.594, 4.2.4).
use Rattle.std.specs.Prelude.{◌≡◌, ℕ, List, ◌∷◌, ◌++◌, option_to_list}
use Rattle.notices.specs.Steps.{of_subscription, AreNumberedFrom}
use Rattle.chf_core.specs.declared.command.Command.{Command}
use Rattle.chf_core.specs.After.{IsHistory}
use Rattle.chf_core.specs.Watched.{watched}
use Rattle.notice_laws.specs.Made.{made_by, made_in, left_in}
use Rattle.notice_laws.specs.Told.{notice_for}

-- The notices of a subscription have the numbers 1, 2, 3 and so on, in the order in which the commands made them.
abbrev pub AllAreNumbered : Type 0
AllAreNumbered = (commands : List Command) → IsHistory commands → (id : ℕ) → AreNumberedFrom 1 (made_in commands id)

-- They leave in that order, each once: those that were made are those that left, and then those that were not sent yet.
abbrev pub AllLeaveInOrder : Type 0
AllLeaveInOrder = (commands : List Command) → IsHistory commands → (id : ℕ)
    → made_in commands id ≡ left_in commands id ++ of_subscription id (watched commands).unsent

-- The notices of a subscription that a command makes are exactly the one that is to come of it, or none.
abbrev pub ChangesAreTold : Type 0
ChangesAreTold = (before : List Command) (c : Command) (id : ℕ) → IsHistory (c ∷ before)
    → of_subscription id (made_by before c) ≡ option_to_list (notice_for before c id)
