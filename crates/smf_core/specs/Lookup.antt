-- An event by its own session: the answer to it, which is that of the whole machine (this product's own).
use Rattle.std.specs.Prelude.{ℕ, nat_lt, Bool, false, if◌then◌else◌, Option, Some, None, option_and_then, List, length, Result, Ok, Err}
use Rattle.units.specs.Limits.{most_groups}
use Rattle.smf_model.specs.declared.session.Peer.{Peer}
use Rattle.smf_model.specs.declared.session.Session.{Session}
use Rattle.smf_model.specs.declared.event.SmfEvent.{SmfEvent}
use Rattle.smf_model.specs.declared.event.SmfEvent.TheVariants.{Attach, Start, Count, Change, Tick, Detach, Answered, Attempt, NotSent, NoReply, Restart}
use Rattle.smf_model.specs.declared.refusal.Seen.{Seen}
use Rattle.smf_model.specs.declared.refusal.Seen.TheVariants.{New}
use Rattle.smf_model.specs.declared.refusal.SmfRefusal.{SmfRefusal}
use Rattle.smf_model.specs.declared.refusal.SmfRefusal.TheVariants.{NoSession, SessionExists, TooManyGroups, MomentBack}
use Rattle.smf_model.specs.Sending.{send_of}
use Rattle.smf_model.specs.Machine.{session_of, start_answer, count_answer, change_answer, detach_answer, reply_answer, attempt_by, loss_answer, restart_answer, any_flies}

-- the session that an event is for; a tick and a restart are for all
abbrev pub subject : SmfEvent → Option ℕ
subject (Attach session subscriber groups moment) = Some session
subject (Start session group moment) = Some session
subject (Count session r) = Some session
subject (Change session trigger moment) = Some session
subject (Tick moment) = None
subject (Detach session abnormal moment) = Some session
subject (Answered session number reply) = Some session
subject (Attempt session peer) = Some session
subject (NotSent session) = Some session
subject (NoReply session) = Some session
subject Restart = None

-- the session that an event names, where it names one
abbrev pub session_for : Option ℕ → List Session → Option Session
session_for number sessions = option_and_then (λ n. session_of n sessions) number

-- the answer where there is a session, and this sends next; a tick and a restart have none
abbrev pub answer_at : ℕ → Option (ℕ × Peer) → SmfEvent → Session → Result Seen SmfRefusal
answer_at now next (Attach session subscriber groups moment) s = Err SessionExists
answer_at now next (Start session group moment) s = start_answer group moment s
answer_at now next (Count session r) s = count_answer r s
answer_at now next (Change session trigger moment) s = change_answer moment s
answer_at now next (Tick moment) s = change_answer moment s
answer_at now next (Detach session abnormal moment) s = detach_answer moment s
answer_at now next (Answered session number reply) s = reply_answer number reply s
answer_at now next (Attempt session peer) s = attempt_by now next peer s
answer_at now next (NotSent session) s = loss_answer s
answer_at now next (NoReply session) s = loss_answer s
answer_at now next Restart s = loss_answer s

-- and where there is none, and an attempt is in flight or not
abbrev pub answer_without : ℕ → Bool → SmfEvent → Result Seen SmfRefusal
answer_without now flies (Attach session subscriber groups moment) = if nat_lt most_groups (length groups) then Err TooManyGroups else Ok New
answer_without now flies (Tick moment) = if nat_lt moment now then Err (MomentBack now) else Ok New
answer_without now flies (Start session group moment) = Err NoSession
answer_without now flies (Count session r) = Err NoSession
answer_without now flies (Change session trigger moment) = Err NoSession
answer_without now flies (Detach session abnormal moment) = Err NoSession
answer_without now flies (Answered session number reply) = Err NoSession
answer_without now flies (Attempt session peer) = Err NoSession
answer_without now flies (NotSent session) = Err NoSession
answer_without now flies (NoReply session) = Err NoSession
answer_without now flies Restart = restart_answer flies

-- the answer to an event, by the session that it names
abbrev pub answer_for : ℕ → Option (ℕ × Peer) → Bool → Option Session → SmfEvent → Result Seen SmfRefusal
answer_for now next flies (Some s) event = answer_at now next event s
answer_for now next flies None event = answer_without now flies event

-- what of the other sessions an event asks for: what sends next, where it is an attempt; whether one is in flight, where it is a restart
abbrev pub next_for : ℕ → List Session → SmfEvent → Option (ℕ × Peer)
next_for now sessions (Attempt session peer) = send_of now sessions
next_for now sessions other = None

abbrev pub flies_for : List Session → SmfEvent → Bool
flies_for sessions Restart = any_flies sessions
flies_for sessions other = false
