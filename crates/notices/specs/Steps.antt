-- What happens to subscriptions and their notices, step by step, and what holds of all notices of a subscription (TS
-- 29.594, 4.2.4; this product's own).
use Rattle.std.specs.Prelude.{◌≡◌, ⊤, ℕ, suc, ◌==◌, List, [], ◌∷◌, ◌++◌, if◌then◌else◌, filter, option_to_list}
use Rattle.units.specs.declared.spending.SpendContext.{SpendContext}
use Rattle.notices.specs.declared.notice.Notice.{Notice}
use Rattle.notices.specs.Watched.{Watched, nothing_watched, subscribed_on, modified, ended, moved, all_posted, first_of, sent}
use Rattle.notices.specs.Due.{due, notices_of, watching_for}

-- a subscription is made on an account, has another context, or ends; what was spent on an account goes from one sum to
-- another; a subscriber moves from one account to another, on which another sum was spent; the first unsent notice of a
-- subscription is sent
pub data Step : Type 0 where
  Subscribed : SpendContext → ℕ → Step
  Modified : ℕ → SpendContext → Step
  Ended : ℕ → Step
  Spent : ℕ → ℕ → ℕ → Step
  Moved : List ℕ → ℕ → ℕ → ℕ → ℕ → Step
  Sent : ℕ → Step

-- the notices that a step makes
abbrev pub makes : List (List (List ℕ)) → Watched → Step → List Notice
makes rows w (Spent account before after) = due rows w account before after
makes rows w (Moved supi from to before after) = notices_of rows w before after (watching_for w supi from)
makes rows w other = []

-- what a step leaves: its notices are made before a subscriber moves
abbrev pub after : List (List (List ℕ)) → Watched → Step → Watched
after rows w (Subscribed context account) = subscribed_on w context account
after rows w (Modified id context) = modified w id context
after rows w (Ended id) = ended w id
after rows w (Spent account before later) = all_posted w (makes rows w (Spent account before later))
after rows w (Moved supi from to before later) =
    moved (all_posted w (makes rows w (Moved supi from to before later))) (watching_for w supi from) to
after rows w (Sent id) = sent w id

-- what a list of steps leaves, the newest first
abbrev pub state_of : List (List (List ℕ)) → List Step → Watched
state_of rows [] = nothing_watched
state_of rows (step ∷ before) = after rows (state_of rows before) step

-- the notices of a subscription among some
abbrev pub of_subscription : ℕ → List Notice → List Notice
of_subscription id notices = filter (λ n. n.id == id) notices

-- all notices of a subscription that were ever made, in the order in which they were made
abbrev pub made : List (List (List ℕ)) → List Step → ℕ → List Notice
made rows [] id = []
made rows (step ∷ before) id = made rows before id ++ of_subscription id (makes rows (state_of rows before) step)

-- the notice of a subscription that leaves by a step
abbrev pub leaves : Watched → Step → ℕ → List Notice
leaves w (Sent other) id = if other == id then option_to_list (first_of w.unsent id) else []
leaves w other id = []

-- those that left, in the order in which they did
abbrev pub left : List (List (List ℕ)) → List Step → ℕ → List Notice
left rows [] id = []
left rows (step ∷ before) id = left rows before id ++ leaves (state_of rows before) step id

-- notices have the numbers from this one on
abbrev pub AreNumberedFrom : ℕ → List Notice → Type 0
AreNumberedFrom number [] = ⊤
AreNumberedFrom number (n ∷ notices) = (n.number ≡ number) × AreNumberedFrom (suc number) notices

-- The notices of a subscription have the numbers 1, 2, 3 and so on, in the order in which they were made.
abbrev pub NoticesAreNumbered : Type 0
NoticesAreNumbered = (rows : List (List (List ℕ))) (steps : List Step) (id : ℕ) → AreNumberedFrom 1 (made rows steps id)

-- They leave in that order, each once: those that were made are those that left, and then those that were not sent yet.
abbrev pub NoticesLeaveInOrder : Type 0
NoticesLeaveInOrder = (rows : List (List (List ℕ))) (steps : List Step) (id : ℕ)
    → made rows steps id ≡ left rows steps id ++ of_subscription id (state_of rows steps).unsent
