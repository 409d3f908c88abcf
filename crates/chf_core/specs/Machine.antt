-- The machine as its callers see it, what it decides, and when a plan may be committed (TS 32.290, 5.3.2; this
-- product's own).
use Rattle.std.specs.Prelude.{◌≡◌, ◌<◌, ◌≤◌, ◌+◌, ◌-◌, ◌^◌, ◌==◌, ◌⊎◌, ⊤, true, ℕ, nat_eq, List, [], All, length, reverse, slice_get, slice_index, Option, Some, None, IfSome}
use Rattle.std.specs.HashSet.{contains}
use Rattle.std.specs.List.Sorted.{IsNonDecreasingBy}
use Rattle.units.specs.declared.request.Operation.{Operation}
use Rattle.units.specs.declared.request.Operation.TheVariants.{Create}
use Rattle.units.specs.declared.request.Request.{Request}
use Rattle.units.specs.declared.request.UnitUsage.{UnitUsage}
use Rattle.units.specs.declared.spending.SpendContext.{SpendContext}
use Rattle.records.specs.Seen.{BookSeen}
use Rattle.counters.specs.Subscriptions.{is_live}
use Rattle.notices.specs.declared.notice.Notice.{Notice}
use Rattle.notices.specs.Watched.{Watched, Kept as Watching}
use Rattle.notices.specs.Steps.{Step}
use Rattle.accounts.specs.Ledger.{State as Money, numbers}
use Rattle.accounts.specs.Making.{AreMakeable}
use Rattle.chf_core.specs.declared.command.Command.{Command}
use Rattle.chf_core.specs.declared.command.Command.TheVariants.{Setup, Charge, Subscriber, TopUp, Expire, CloseRecords, Subscribe, Modify, Unsubscribe, NoticeSent}
use Rattle.chf_core.specs.declared.decision.Change.{Change}
use Rattle.chf_core.specs.declared.decision.Change.TheVariants as change
use Rattle.chf_core.specs.declared.decision.Plan.{Plan}
use Rattle.chf_core.specs.declared.decision.Decision.{Decision}
use Rattle.chf_core.specs.declared.decision.Decision.TheVariants as decided
use Rattle.chf_core.specs.declared.decision.Verdict.TheVariants.{Kept, Known, Refused, Fresh}
use Rattle.chf_core.specs.declared.session.Session.{Session}
use Rattle.chf_core.specs.declared.watching.Moving.{Moving}
use Rattle.chf_core.specs.Sessions.{id_of, supi_of}
use Rattle.chf_core.specs.Barring.{bars}
use Rattle.chf_core.specs.Keys.{key}
use Rattle.chf_core.specs.Decisions.{is_fresh}
use Rattle.chf_core.specs.Named.{IsProvided}
use Rattle.chf_core.specs.Booked.{CanFile, IsFiled, reference_by}
use Rattle.chf_core.specs.Spending.{counters_in}
use Rattle.chf_core.specs.State.{State, at_text, account_for, key_of}
use Rattle.chf_core.specs.CommandMoves.{moves_of}
use Rattle.chf_core.specs.Stepping.{number_for, notices_by, ids_by}
use Rattle.chf_core.specs.CommandSteps.{step_of}
use Rattle.chf_core.specs.Deciding.{decision, outcome_of}
use Rattle.chf_core.specs.After.{is_setup}

-- the state; and what callers need not look at: the book of records and the subscriptions with their room, the names of
-- the consumers, and for how many more commands and moves of money there is room
pub record Machine : Type 0 where
  pub state : State
  pub book : BookSeen
  pub watching : Watching
  pub consumers : List (List ℕ)
  pub places : ℕ
  pub moves : ℕ

-- the name of the account with a number, which counts from 0 in the order in which the accounts came to be
abbrev pub account_name : State → ℕ → Option (List ℕ)
account_name s number = slice_get (reverse s.names) number

-- the session that a Create opens, where its subscriber has an account
abbrev pub new_session : Request → Option ℕ → Option Session
new_session q None = None
new_session q (Some account) = Some (record {
  consumer = q.consumer;
  charging_id = id_of q.charging_id;
  supi = supi_of q.subscriber;
  account = account;
  last = q.number;
  is_open = true;
})

-- the session that a request opens
abbrev pub session_by : Operation → Request → Option ℕ → Option Session
session_by Create q account = new_session q account
session_by other q account = None

-- an account can be topped up by an amount
pub record CanTopUp (s : Money) (account amount : ℕ) : Type 0 where
  pub known : account < length s.accounts
  pub sums : (numbers s account).topups + amount < 2 ^ 128

-- notices are those that a step makes, in the order of their subscriptions
pub record AreMade (rows : List (List (List ℕ))) (w : Watched) (step : Option Step) (notices : List Notice) : Type 0 where
  pub made : notices ≡ notices_by rows w step
  pub order : IsNonDecreasingBy (λ n. n.id) notices

-- the subscriptions that a step moves to an account, which are live, and the notices that it makes
pub record IsMove (rows : List (List (List ℕ))) (w : Watched) (account : ℕ) (step : Option Step) (m : Moving) : Type 0 where
  pub to : m.to ≡ account
  pub ids : m.ids.items ≡ ids_by w step
  pub live : All (λ id. is_live w.contexts id ≡ true) m.ids.items
  pub notices : AreMade rows w step m.notices.items

-- a subscription is to watch the account that the row of its subscriber names
abbrev pub Watches : State → SpendContext → ℕ → Type 0
Watches s context account =
    IfSome (at_text s.subscribers context.supi) (λ row. account ≡ number_for s.names row.account)

-- a change has what a command's commit writes besides what the command says
abbrev pub Writes : Machine → Command → Change → Type 0
Writes m (Setup setup) (change.Setup limits) = limits ≡ setup.limits
Writes m (Charge q) (change.Charge charging_id session consumer names used notices) =
    (key_of m.state q ≡ Some (key q.consumer charging_id q.number))
    × ((session ≡ session_by q.operation q (account_for m.state q.subscriber))
    × (IsProvided m.consumers q.consumer consumer
    × (IsFiled q session names used
    × AreMade (counters_in m.state.setup) m.state.watched (step_of m.state (Charge q)) notices.items)))
Writes m (Subscriber supi account barred) (change.Subscriber name groups moving) =
    IsProvided m.state.names account name
    × (((group : ℕ) → contains nat_eq groups group ≡ bars barred group)
    × IsMove (counters_in m.state.setup) m.state.watched (number_for m.state.names account)
    (step_of m.state (Subscriber supi account barred)) moving)
Writes m (TopUp id account amount) change.TopUp = ⊤
Writes m (Expire moment) change.Expire = ⊤
Writes m (CloseRecords moment) change.CloseRecords = ⊤
Writes m (Subscribe context) (change.Subscribe account) = Watches m.state context account
Writes m (Modify id context) change.Modify = ⊤
Writes m (Unsubscribe id) change.Unsubscribe = ⊤
Writes m (NoticeSent id number) change.NoticeSent = ⊤
Writes m other change = ⊥

-- a plan has what comes of a command: its outcome, its moves, which can be made, and what its commit writes besides
pub record IsWorkedOut (m : Machine) (c : Command) (p : Plan) : Type 0 where
  pub command : p.command ≡ c
  pub outcome : p.outcome ≡ outcome_of m.state c
  pub moves : p.moves ≡ moves_of m.state c
  pub makeable : AreMakeable p.moves m.state.money
  pub change : Writes m c p.change

-- the session in whose records a command files, 0 where it files nothing
abbrev pub filed_reference : State → Command → ℕ
filed_reference s (Charge q) = reference_by q.operation (length s.sessions)
filed_reference s other = 0

-- the containers that a change files
abbrev pub filed_containers : Change → List UnitUsage
filed_containers (change.Charge charging_id session consumer names used notices) = used
filed_containers other = []

-- the account that subscriptions watch from now on
abbrev pub watched_account : Change → ℕ
watched_account (change.Subscriber name groups moving) = moving.to
watched_account (change.Subscribe account) = account
watched_account other = 0

-- how many subscriptions watch another account from now on
abbrev pub watching_more : Change → ℕ
watching_more (change.Subscriber name groups moving) = length moving.ids.items
watching_more (change.Subscribe account) = 1
watching_more other = 0

-- the notices that a change makes
abbrev pub made_notices : Change → List Notice
made_notices (change.Charge charging_id session consumer names used notices) = notices.items
made_notices (change.Subscriber name groups moving) = moving.notices.items
made_notices other = []

-- a subscription can be made, that many can watch the account, and the notices can wait
pub record CanWatch (k : Watching) (c : Change) : Type 0 where
  pub spare : 0 < k.spare
  pub room : watching_more c ≤ slice_index k.rooms (watched_account c)
  pub places : length (made_notices c) ≤ k.places

-- a plan is ready where its command is fresh, and a setup the first one and no other, all that comes of it is worked out, and there is room for it
pub record IsReady (m : Machine) (p : Plan) : Type 0 where
  pub order : is_setup p.command ≡ (m.state.count == 0)
  pub fresh : decision m.state p.command ≡ Fresh p.outcome
  pub worked_out : IsWorkedOut m p.command p
  pub spare : length p.moves ≤ m.moves
  pub places : 0 < m.places
  pub files : CanFile m.book (filed_reference m.state p.command) (filed_containers p.change)
  pub watches : CanWatch m.watching p.change

-- what is answered on a command
abbrev pub Answers : Machine → Command → Decision → Type 0
Answers m c (decided.Kept place) = decision m.state c ≡ Kept place
Answers m c decided.Known = decision m.state c ≡ Known
Answers m c (decided.Refused refusal) = decision m.state c ≡ Refused refusal
Answers m c (decided.Fresh plan) = (plan.command ≡ c) × IsReady m plan

-- where want of memory may be answered: on a fresh command, or where there is no further place
abbrev pub MayWantMemory : State → Command → Type 0
MayWantMemory s c = (2 ^ 32 - 1 ≤ s.count) ⊎ (is_fresh (decision s c) ≡ true)
