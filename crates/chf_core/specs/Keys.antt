-- The keys of charging data requests, and their places in a list of commands, the newest first (TS 32.290, 5.3.2; the key is this product's own).
use Rattle.std.specs.Prelude.{ℕ, ◌==◌, ◌&&◌, Bool, false, cond, if◌then◌else◌, List, [], ◌∷◌, length, Option, Some, None}
use Rattle.std.specs.Option.{option_or}
use Rattle.units.specs.declared.request.Operation.{Operation}
use Rattle.units.specs.declared.request.Operation.TheVariants.{Create, Update, Release}
use Rattle.units.specs.declared.request.Request.{Request}
use Rattle.sessions.specs.Content.{same_content}
use Rattle.chf_core.specs.declared.command.Command.{Command}
use Rattle.chf_core.specs.declared.command.Command.TheVariants.{Charge}
use Rattle.chf_core.specs.declared.session.Session.{Session}
use Rattle.chf_core.specs.declared.key.Key.{Key}
use Rattle.chf_core.specs.Operator.{name_eq}
use Rattle.chf_core.specs.Sessions.{id_of, session_at, same_session, name}

-- the key of a request: its session and its number
abbrev pub key : List ℕ → ℕ → ℕ → Key
key consumer charging_id number = record { session = name consumer charging_id; number = number }

-- two keys are the same: one session, one number
abbrev pub key_eq : Key → Key → Bool
key_eq j k = same_session j.session k.session && j.number == k.number

-- an Update or Release has the charging id of the session of its reference, where that is of its consumer
abbrev pub key_in : Request → Option Session → Option Key
key_in q None = None
key_in q (Some s) = if name_eq s.consumer q.consumer then Some (key q.consumer s.charging_id q.number) else None

-- the key of a request by its operation: a Create has its own charging id
abbrev pub key_by : Operation → List Command → Request → Option Key
key_by Create commands q = Some (key q.consumer (id_of q.charging_id) q.number)
key_by (Update reference) commands q = key_in q (session_at commands reference)
key_by (Release reference) commands q = key_in q (session_at commands reference)

-- the key of a request; it has none where its session is not known
abbrev pub key_of : List Command → Request → Option Key
key_of commands q = key_by q.operation commands q

-- a key is there and is this one
abbrev pub is_key : Option Key → Key → Bool
is_key None k = false
is_key (Some j) k = key_eq j k

-- the place of the first request with a key: how many commands were before it
abbrev pub place_of : List Command → Key → Option ℕ
place_of [] k = None
place_of (Charge q ∷ before) k = option_or (place_of before k) (cond (is_key (key_of before q) k) (Some (length before)) None)
place_of (c ∷ before) k = place_of before k

-- the command at a place
abbrev pub command_at : List Command → ℕ → Option Command
command_at [] place = None
command_at (c ∷ before) place = cond (length before == place) (Some c) (command_at before place)

-- whether a command is a request of this content
abbrev pub is_repeat : Request → Option Command → Bool
is_repeat q (Some (Charge kept)) = same_content kept q
is_repeat q other = false
