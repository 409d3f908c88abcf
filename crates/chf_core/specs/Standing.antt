-- What stands for good in lists of commands, the newest first (TS 32.290, 5.3.2; this product's own).
use Rattle.std.specs.Prelude.{◌≡◌, ◌≢◌, ◌==◌, ℕ, not, true, List, [], ◌∷◌, ◌++◌, length, Option, Some, None, is_some}
use Rattle.std.specs.Option.{option_and_then}
use Rattle.units.specs.Words.{name_of_cause}
use Rattle.units.specs.declared.words.Cause.{Cause}
use Rattle.units.specs.declared.words.Cause.TheVariants as cause
use Rattle.units.specs.declared.request.Request.{Request}
use Rattle.units.specs.declared.reply.Reply.{Reply}
use Rattle.units.specs.declared.reply.Reply.TheVariants as reply
use Rattle.sessions.specs.Content.{content}
use Rattle.sessions.specs.Kept.{accepted, newest_number, has_release}
use Rattle.chf_core.specs.declared.command.Command.{Command}
use Rattle.chf_core.specs.declared.command.Command.TheVariants.{Charge}
use Rattle.chf_core.specs.declared.command.Outcome.{Outcome}
use Rattle.chf_core.specs.declared.command.Outcome.TheVariants as outcome
use Rattle.chf_core.specs.declared.decision.Verdict.{Verdict}
use Rattle.chf_core.specs.declared.decision.Verdict.TheVariants.{Kept, Known, Refused, Fresh}
use Rattle.chf_core.specs.declared.refusal.ChfRefusal.{ChfRefusal}
use Rattle.chf_core.specs.declared.refusal.ChfRefusal.TheVariants.{SessionExists, SessionClosed, SequencePassed, UnknownReference}
use Rattle.chf_core.specs.declared.session.Session.{Session}
use Rattle.chf_core.specs.KeptRequests.{kept_of}
use Rattle.chf_core.specs.State.{State, session_at, name_of, reference_of, kept_at}
use Rattle.chf_core.specs.Deciding.{decision, first_reply}
use Rattle.chf_core.specs.After.{after, state_of, is_setup, IsHistory}

-- ---- histories

-- A list that came to be, with one more command that is fresh, is one: a setup comes first and nowhere else.
abbrev pub HistoriesGrow : Type 0
HistoriesGrow = (commands : List Command) (c : Command) (o : Outcome) → IsHistory commands
    → decision (state_of commands) c ≡ Fresh o → is_setup c ≡ ((state_of commands).count == 0)
    → IsHistory (c ∷ commands)

-- ---- references

-- the same session, at an earlier and a later time: of one name, subscriber and account
pub record IsSameSession (later earlier : Session) : Type 0 where
  pub consumer : later.consumer ≡ earlier.consumer
  pub charging_id : later.charging_id ≡ earlier.charging_id
  pub supi : later.supi ≡ earlier.supi
  pub account : later.account ≡ earlier.account

-- A reference names its own session for good.
abbrev pub ReferencesStand : Type 0
ReferencesStand = (later before : List Command) (reference : ℕ) (z : Session)
    → session_at (state_of before) reference ≡ Some z
    → (y : Session) × (session_at (state_of (later ++ before)) reference ≡ Some y) × IsSameSession y z

-- ---- replies

-- the reply that a request came to; an operator's command has none
abbrev pub reply_of : Outcome → Option Reply
reply_of (outcome.Charged p) = Some p
reply_of other = None

-- problem details that say a cause alone (TS 29.571, 5.2.4.1)
abbrev pub problem : ℕ → Cause → Reply
problem status why = reply.Refused (record { status = status; cause = name_of_cause why; detail = None })

-- the problem that refuses a request (TS 32.291, 6.1.7; the causes are this product's own); what refuses a top-up
-- refuses no request
abbrev pub refusal_reply : ChfRefusal → Option Reply
refusal_reply SessionExists = Some (problem 403 cause.SessionExists)
refusal_reply (SessionClosed last) = Some (problem 403 cause.SessionClosed)
refusal_reply (SequencePassed last) = Some (problem 400 cause.SequencePassed)
refusal_reply UnknownReference = Some (problem 404 cause.UnknownReference)
refusal_reply other = None

-- the reply to what is decided on a request: its first one where it is kept
abbrev pub verdict_reply : State → Verdict → Option Reply
verdict_reply s (Kept place) = option_and_then (λ r. reply_of r.outcome) (kept_at s place)
verdict_reply s (Refused refusal) = refusal_reply refusal
verdict_reply s (Fresh o) = reply_of o
verdict_reply s Known = None

-- the reply to a request
abbrev pub reply_to : State → Request → Option Reply
reply_to s q = verdict_reply s (decision s (Charge q))

-- Each request has one.
abbrev pub RequestsAreAnswered : Type 0
RequestsAreAnswered = (commands : List Command) (q : Request) → is_some (reply_to (state_of commands) q) ≡ true

-- A request that was fresh is kept at its place once it is entered, for each request of its content, marked or not.
abbrev pub EnteredIsKept : Type 0
EnteredIsKept = (commands : List Command) (q r : Request) (o : Outcome)
    → decision (state_of commands) (Charge q) ≡ Fresh o → content r ≡ content q
    → decision (after (state_of commands) (Charge q)) (Charge r) ≡ Kept (state_of commands).count

-- what a repeat of a request gets that has commands before it and later ones: its place, and its first reply
pub record IsRepeated (later before : List Command) (q repeat : Request) : Type 0 where
  pub kept : decision (state_of (later ++ Charge q ∷ before)) (Charge repeat) ≡ Kept (length before)
  pub reply : reply_to (state_of (later ++ Charge q ∷ before)) repeat ≡ Some (first_reply (state_of before) q)

-- So each repeat, whatever came later.
abbrev pub RepeatsStand : Type 0
RepeatsStand = (later before : List Command) (q repeat : Request) → IsHistory (later ++ Charge q ∷ before)
    → content repeat ≡ content q → IsRepeated later before q repeat

-- ---- sessions

-- a session is what its accepted requests say of it: its last number, and that it is open while none is a Release
pub record IsBy (z : Session) (requests : List Request) : Type 0 where
  pub any : requests ≢ []
  pub last : newest_number requests ≡ z.last
  pub goes_on : has_release requests ≡ not z.is_open

-- the session with a reference is the one that has its name, and is what its accepted requests say
pub record IsByKept (commands : List Command) (reference : ℕ) (z : Session) : Type 0 where
  pub named : reference_of (state_of commands) (name_of z) ≡ Some reference
  pub by : IsBy z (accepted (kept_of commands (name_of z)))

-- So each session of a list that came to be.
abbrev pub SessionsAreByKept : Type 0
SessionsAreByKept = (commands : List Command) (reference : ℕ) (z : Session) → IsHistory commands
    → session_at (state_of commands) reference ≡ Some z → IsByKept commands reference z
