-- What holds of each charging session in every list of commands, the newest first: its keys, the requests that are kept of it, decisions by these, its lines in the ledger, and the switches that its replies tell (TS 32.290, 5.3.2; this product's own).
use Rattle.std.specs.Prelude.{◌≡◌, ◌⊎◌, ℕ, ◌==◌, true, All, List, [], ◌∷◌, ◌++◌, filter, Option, Some, None, is_some}
use Rattle.units.specs.declared.request.Operation.TheVariants.{Create}
use Rattle.units.specs.declared.request.Request.{Request}
use Rattle.units.specs.declared.answer.Answer.{Answer}
use Rattle.units.specs.declared.answer.UnitInfo.{UnitInfo}
use Rattle.units.specs.declared.reply.Reply.{Reply}
use Rattle.units.specs.declared.reply.Reply.TheVariants.{Created, Updated}
use Rattle.sessions.specs.Content.{content}
use Rattle.sessions.specs.Kept.{Kept as KeptRequest, accepted}
use Rattle.sessions.specs.Decided.{Decided, Repeats, Passed, Exists, Over, IsNew, decided}
use Rattle.rating.specs.Switch.{next_switch}
use Rattle.accounts.specs.declared.line.Line.{Line}
use Rattle.chf_core.specs.declared.command.Command.{Command}
use Rattle.chf_core.specs.declared.command.Command.TheVariants.{Charge}
use Rattle.chf_core.specs.declared.command.Outcome.TheVariants.{Charged}
use Rattle.chf_core.specs.declared.decision.Verdict.{Verdict}
use Rattle.chf_core.specs.declared.decision.Verdict.TheVariants.{Kept, Refused, Fresh}
use Rattle.chf_core.specs.declared.refusal.ChfRefusal.TheVariants.{SessionExists, SessionClosed, SequencePassed, UnknownReference}
use Rattle.chf_core.specs.declared.session.Session.{Session}
use Rattle.chf_core.specs.declared.key.Name.{Name}
use Rattle.chf_core.specs.Operator.{setup_of}
use Rattle.chf_core.specs.Sessions.{id_of, name, session_at, reference_of}
use Rattle.chf_core.specs.Keys.{key_of}
use Rattle.chf_core.specs.Money.{first_reply, rates_in}
use Rattle.chf_core.specs.Outcomes.{outcome_at}
use Rattle.chf_core.specs.Decisions.{decision}
use Rattle.chf_core.specs.KeptRequests.{kept_of}
use Rattle.chf_core.specs.Ledger.{lines_of, ledger}
use Rattle.chf_core.specs.State.{name_of}
use Rattle.chf_core.specs.After.{IsHistory}

-- ---- keys

-- a request is of a session: its key is that session with its number
abbrev pub HasKey : List Command → Request → Name → Type 0
HasKey commands q n = key_of commands q ≡ Some (record { session = n; number = q.number })

-- A request that has a key has its own consumer and number in it.
abbrev pub KeysAreOwn : Type 0
KeysAreOwn =
    (commands : List Command) (q : Request)
    → (key_of commands q ≡ None) ⊎ ((n : Name) × HasKey commands q n × (n.consumer ≡ q.consumer))

-- A Create has a key, of its own charging id.
abbrev pub CreatesHaveKeys : Type 0
CreatesHaveKeys =
    (commands : List Command) (q : Request) → q.operation ≡ Create
    → HasKey commands q (name q.consumer (id_of q.charging_id))

-- What a reference names stays, whatever comes later.
abbrev pub KeysStand : Type 0
KeysStand =
    (later commands : List Command) (q : Request) (n : Name) → HasKey commands q n → HasKey (later ++ commands) q n

-- a reference names a session
abbrev pub IsReferenceOf : List Command → ℕ → Name → Type 0
IsReferenceOf commands reference n = (z : Session) × (session_at commands reference ≡ Some z) × (name_of z ≡ n)

-- The reference that a kept Create was given names its session.
abbrev pub ReferencesName : Type 0
ReferencesName =
    (commands : List Command) (n : Name)
    → All (λ (k : KeptRequest).
    (reference : ℕ) (answer : Answer) → k.reply ≡ Created reference answer → IsReferenceOf commands reference n)
    (kept_of commands n)

-- ---- kept requests

-- the content of a request with its first reply
abbrev pub with_first : List Command → Request → KeptRequest
with_first commands q = record { request = content q; reply = first_reply commands q }

-- what is kept of a session after one command more: what was kept, or that and the command, a request of that session
abbrev pub IsNextKept : List Command → Command → Name → Type 0
IsNextKept commands c n =
    (kept_of (c ∷ commands) n ≡ kept_of commands n)
    ⊎ ((q : Request) × (c ≡ Charge q) × HasKey commands q n
    × (kept_of (c ∷ commands) n ≡ with_first commands q ∷ kept_of commands n))

-- No other command changes what is kept of a session.
abbrev pub KeptGrow : Type 0
KeptGrow = (commands : List Command) (c : Command) (n : Name) → IsNextKept commands c n

-- A request comes to be kept with its first reply, in its own session.
abbrev pub OwnAreKept : Type 0
OwnAreKept =
    (commands : List Command) (q : Request) (n : Name) → HasKey commands q n
    → kept_of (Charge q ∷ commands) n ≡ with_first commands q ∷ kept_of commands n

-- ---- decisions

-- the verdict on a request, by what its session keeps
abbrev pub IsDecided : List Command → Request → Decided → Verdict → Type 0
IsDecided commands q (Repeats p) v = (place : ℕ) × (v ≡ Kept place) × (outcome_at commands place ≡ Some (Charged p))
IsDecided commands q (Passed last) v = v ≡ Refused (SequencePassed last)
IsDecided commands q Exists v = v ≡ Refused SessionExists
IsDecided commands q (Over last) v = v ≡ Refused (SessionClosed last)
IsDecided commands q IsNew v = v ≡ Fresh (Charged (first_reply commands q))

-- A request of no session is refused.
abbrev pub UnnamedAreRefused : Type 0
UnnamedAreRefused =
    (commands : List Command) (q : Request) → key_of commands q ≡ None
    → decision commands (Charge q) ≡ Refused UnknownReference

-- Each other is decided by what its session keeps alone, in a list that came to be.
abbrev pub DecisionsByKept : Type 0
DecisionsByKept =
    (commands : List Command) (q : Request) (n : Name) → IsHistory commands → HasKey commands q n
    → IsDecided commands q (decided (kept_of commands n) q) (decision commands (Charge q))

-- ---- the ledger

-- the lines of a session
abbrev pub lines_by : ℕ → List Line → List Line
lines_by reference lines = filter (λ l. l.session == reference) lines

-- the lines of requests, the newest first, on an account under a reference; of the lines the oldest comes first
abbrev pub lines_of_all : List (List (List ℕ)) → ℕ → ℕ → List Request → List Line
lines_of_all rates account reference [] = []
lines_of_all rates account reference (q ∷ earlier) =
    lines_of_all rates account reference earlier
    ++ lines_of rates (record { account = account; session = reference }) q.usage

-- a session without reference accepted nothing; the lines of another are those of its accepted requests, on one account
abbrev pub LinesAreOf : List Command → List KeptRequest → Option ℕ → Type 0
LinesAreOf commands kept None = accepted kept ≡ []
LinesAreOf commands kept (Some reference) =
    (account : ℕ)
    × (lines_by reference (ledger commands)
    ≡ lines_of_all (rates_in (setup_of commands)) account reference (accepted kept))

-- So each session of a list that came to be.
abbrev pub LedgerBySessions : Type 0
LedgerBySessions =
    (commands : List Command) (n : Name) → IsHistory commands
    → LinesAreOf commands (kept_of commands n) (reference_of commands n)

-- ---- switches

-- what a reply says of rating groups
abbrev pub units_in : Reply → List UnitInfo
units_in (Created reference answer) = answer.units
units_in (Updated answer) = answer.units
units_in other = []

-- a quota that is granted tells the first switch of its group after a moment
abbrev pub TellsSwitch : List (List (List ℕ)) → ℕ → UnitInfo → Type 0
TellsSwitch rates stamp i = is_some i.grant ≡ true → i.switch ≡ next_switch rates i.group stamp

-- Each quota that is granted in a kept first reply tells the first switch after its request's time stamp, by the tariffs of the setup.
abbrev pub RepliesTellSwitches : Type 0
RepliesTellSwitches =
    (commands : List Command) (n : Name) → IsHistory commands
    → All (λ (k : KeptRequest). All (TellsSwitch (rates_in (setup_of commands)) k.request.stamp) (units_in k.reply))
    (kept_of commands n)
