-- The charging sessions of a list of commands, the newest first (charging session and its reference: TS 32.290, 5.3.2; TS 32.291, 6.1.3.3).
use Rattle.std.specs.Prelude.{ℕ, ◌+◌, ◌-◌, ◌==◌, ◌&&◌, Bool, true, false, cond, if◌then◌else◌, List, [], ◌∷◌, ◌++◌, length, Option, Some, None, is_some, slice_get, slice_set}
use Rattle.units.specs.declared.request.Operation.{Operation}
use Rattle.units.specs.declared.request.Operation.TheVariants.{Create, Update, Release}
use Rattle.units.specs.declared.request.Request.{Request}
use Rattle.chf_core.specs.declared.command.Command.{Command}
use Rattle.chf_core.specs.declared.command.Command.TheVariants.{Charge}
use Rattle.chf_core.specs.declared.session.Session.{Session}
use Rattle.chf_core.specs.declared.key.Name.{Name}
use Rattle.chf_core.specs.Operator.{name_eq, account_of}

-- the subscriber of a Create; one that names none is that of no row
abbrev pub account_for : List Command → Option (List ℕ) → Option ℕ
account_for commands None = None
account_for commands (Some supi) = account_of commands supi

-- the subscriber that a Create names
abbrev pub supi_of : Option (List ℕ) → List ℕ
supi_of None = []
supi_of (Some supi) = supi

-- the charging id of a Create; it is required there, and 0 stands for one that is wanting
abbrev pub id_of : Option ℕ → ℕ
id_of None = 0
id_of (Some id) = id

-- a session after a request under a number
abbrev pub with_last : ℕ → Bool → Session → Session
with_last number is_open s = record s { last = number; is_open = is_open }

-- a known session goes on with this number, open or closed
abbrev pub write_session : List Session → ℕ → ℕ → Bool → Option Session → List Session
write_session sessions reference number is_open None = sessions
write_session sessions reference number is_open (Some s) = slice_set sessions (reference - 1) (with_last number is_open s)

-- the session with a reference, which counts from 1
abbrev pub by_reference : List Session → ℕ → Option Session
by_reference sessions reference = if reference == 0 then None else slice_get sessions (reference - 1)

-- the session that a Create opens, where its subscriber has an account
abbrev pub opened : Request → Option ℕ → List Session → List Session
opened q None sessions = sessions
opened q (Some account) sessions = sessions ++ record { consumer = q.consumer; charging_id = id_of q.charging_id; supi = supi_of q.subscriber; account = account; last = q.number; is_open = true } ∷ []

-- the sessions after an accepted request
abbrev pub sessions_after : Operation → Request → Option ℕ → List Session → List Session
sessions_after Create q account sessions = opened q account sessions
sessions_after (Update reference) q account sessions = write_session sessions reference q.number true (by_reference sessions reference)
sessions_after (Release reference) q account sessions = write_session sessions reference q.number false (by_reference sessions reference)

-- the sessions, in the order of their references
abbrev pub sessions : List Command → List Session
sessions [] = []
sessions (Charge q ∷ before) = sessions_after q.operation q (account_for before q.subscriber) (sessions before)
sessions (c ∷ before) = sessions before

-- the session with a reference after these commands
abbrev pub session_at : List Command → ℕ → Option Session
session_at commands reference = by_reference (sessions commands) reference

-- what tells sessions apart
abbrev pub name : List ℕ → ℕ → Name
name consumer charging_id = record { consumer = consumer; charging_id = charging_id }

-- two names are of one session: one consumer, one charging id
abbrev pub same_session : Name → Name → Bool
same_session m n = name_eq m.consumer n.consumer && m.charging_id == n.charging_id

-- whether a request is a Create that is accepted
abbrev pub opens_by : Operation → Option ℕ → Bool
opens_by Create account = is_some account
opens_by (Update reference) account = false
opens_by (Release reference) account = false

-- whether a request, after these commands, opens a session
abbrev pub opens : List Command → Request → Bool
opens before q = opens_by q.operation (account_for before q.subscriber)

-- the reference of a session: the ordinal of its accepted Create, from 1
abbrev pub reference_of : List Command → Name → Option ℕ
reference_of [] n = None
reference_of (Charge q ∷ before) n = cond (opens before q && same_session (name q.consumer (id_of q.charging_id)) n) (Some (length (sessions before) + 1)) (reference_of before n)
reference_of (c ∷ before) n = reference_of before n

-- the session of a reference, where there is one
abbrev pub session_for : List Command → Option ℕ → Option Session
session_for commands None = None
session_for commands (Some reference) = session_at commands reference

-- the session that a request names
abbrev pub named_by : Operation → List Command → Request → Option Session
named_by Create commands q = session_for commands (reference_of commands (name q.consumer (id_of q.charging_id)))
named_by (Update reference) commands q = session_at commands reference
named_by (Release reference) commands q = session_at commands reference
