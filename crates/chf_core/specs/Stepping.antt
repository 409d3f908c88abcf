-- What happens to subscriptions to spending limits and to their notices with a change of the money or of a subscriber's
-- row (TS 29.594, 4.2.4; this product's own).
use Rattle.std.specs.Prelude.{ℕ, ◌==◌, if◌then◌else◌, List, [], length, unwrap_or, Option, Some, None}
use Rattle.units.specs.declared.spending.SpendContext.{SpendContext}
use Rattle.accounts.specs.Ledger.{State as Money}
use Rattle.notices.specs.declared.notice.Notice.{Notice}
use Rattle.notices.specs.Watched.{Watched}
use Rattle.notices.specs.Due.{due, watching_for}
use Rattle.notices.specs.Steps.{Step, Subscribed, Spent, Moved, makes, after}
use Rattle.chf_core.specs.declared.target.Target.{Target}
use Rattle.chf_core.specs.declared.subscription.Subscription.{Subscription}
use Rattle.chf_core.specs.Operator.{number_in}
use Rattle.chf_core.specs.Spending.{spent_on}

-- the number that the account with a name has, or gets with the first row that names it; accounts count from 0
abbrev pub number_for : List (List ℕ) → List ℕ → ℕ
number_for names account = unwrap_or (number_in names account) (length names)

-- what was spent on the account that a request charges goes from one sum to another, from the money before it to that
-- after it; a request that charges nobody changes nothing
abbrev pub spending : Money → Money → Option Target → Option Step
spending before after None = None
spending before after (Some t) =
    Some (Spent t.account (spent_on before (Some t.account)) (spent_on after (Some t.account)))

-- a subscriber moves from one account to another, on which another sum was spent
abbrev pub moving : Money → Money → List ℕ → ℕ → ℕ → Option Step
moving before after supi from to =
    if from == to then None
    else Some (Moved supi from to (spent_on before (Some from)) (spent_on after (Some to)))

-- a subscriber's row moves it from the account that its row named before, if it had one
abbrev pub moving_to : List (List ℕ) → Money → Money → List ℕ → List ℕ → Option Subscription → Option Step
moving_to names before after supi account None = None
moving_to names before after supi account (Some row) =
    moving before after supi (number_for names row.account) (number_for names account)

-- a subscription watches the account that the row of its subscriber names
abbrev pub subscribing : List (List ℕ) → SpendContext → Option Subscription → Option Step
subscribing names context None = None
subscribing names context (Some row) = Some (Subscribed context (number_for names row.account))

-- what is watched after a step, if there is one
abbrev pub stepped : List (List (List ℕ)) → Watched → Option Step → Watched
stepped rows w None = w
stepped rows w (Some step) = after rows w step

-- the notices that it makes
abbrev pub notices_by : List (List (List ℕ)) → Watched → Option Step → List Notice
notices_by rows w None = []
notices_by rows w (Some step) = makes rows w step

-- the subscriptions that watch another account after a step
abbrev pub moved_by : Watched → Step → List ℕ
moved_by w (Moved supi from to before after) = watching_for w supi from
moved_by w other = []

-- so with a step, if there is one
abbrev pub ids_by : Watched → Option Step → List ℕ
ids_by w None = []
ids_by w (Some step) = moved_by w step

-- the notices of a request on whose account so much was spent before it and after it
abbrev pub due_of : List (List (List ℕ)) → Watched → Option Target → ℕ → ℕ → List Notice
due_of rows w None before after = []
due_of rows w (Some t) before after = due rows w t.account before after
