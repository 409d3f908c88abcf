-- The machine: its answer to each event, in the order of its checks, and the step that a new event is (TS 32.255, 5.2.1; TS 32.290, 5.3.2).
use Rattle.std.specs.Prelude.{ℕ, ◌+◌, ◌==◌, ◌&&◌, ◌||◌, not, nat_lt, nat_le, Bool, true, false, if◌then◌else◌, max, Option, Some, None, List, [], ◌∷◌, ◌++◌, map, fold, length, Result, Ok, Err}
use Rattle.std.specs.List.{find, list_any}
use Rattle.units.specs.declared.report.Report.{Report}
use Rattle.units.specs.declared.reply.Reply.{Reply}
use Rattle.units.specs.declared.request.Operation.TheVariants.{Create}
use Rattle.units.specs.Limits.{most_groups, most_reports}
use Rattle.meter.specs.Admission.{is_too_large}
use Rattle.quotas.specs.declared.state.Gate.{Gate}
use Rattle.quotas.specs.declared.state.Gate.TheVariants.{Passing, Waiting, Closed}
use Rattle.quotas.specs.Standing.{is_granted, is_unlimited}
use Rattle.quotas.specs.Quota.{is_asked, gate_of}
use Rattle.smf_model.specs.declared.setup.SmfSetup.{SmfSetup}
use Rattle.smf_model.specs.declared.session.Life.{Life}
use Rattle.smf_model.specs.declared.session.Life.TheVariants.{Live, Ended}
use Rattle.smf_model.specs.declared.session.Peer.{Peer}
use Rattle.smf_model.specs.declared.session.Peer.TheVariants.{Primary}
use Rattle.smf_model.specs.declared.session.Loss.TheVariants.{Unsent, Unanswered}
use Rattle.smf_model.specs.declared.session.Entry.{Entry}
use Rattle.smf_model.specs.declared.session.Session.{Session}
use Rattle.smf_model.specs.declared.session.Machine.{Machine}
use Rattle.smf_model.specs.declared.event.SmfEvent.{SmfEvent}
use Rattle.smf_model.specs.declared.event.SmfEvent.TheVariants.{Attach, Start, Count, Change, Tick, Detach, Answered, Attempt, NotSent, NoReply, Restart}
use Rattle.smf_model.specs.declared.refusal.Seen.{Seen}
use Rattle.smf_model.specs.declared.refusal.Seen.TheVariants.{New, Known}
use Rattle.smf_model.specs.declared.refusal.SmfRefusal.{SmfRefusal}
use Rattle.smf_model.specs.declared.refusal.SmfRefusal.TheVariants.{NoSession, SessionExists, TooManyGroups, GateClosed, OutOfStep, TooLarge, MomentBack, TooManyReports}
use Rattle.smf_model.specs.Settle.{entry_of, settled}
use Rattle.smf_model.specs.Freeze.{with_request, freeze_due, dropped}
use Rattle.smf_model.specs.Traffic.{with_asked, counted, started, changed, detached}
use Rattle.smf_model.specs.Sending.{at_rest, may_send, send_of, is_send, attempted}
use Rattle.smf_model.specs.Rounds.{lost}
use Rattle.smf_model.specs.Replies.{is_answer_to, answered_by}

-- a session
abbrev pub session_of : ℕ → List Session → Option Session
session_of number sessions = find (λ s. s.number == number) sessions

-- a session goes on
abbrev pub is_live : Life → Bool
is_live Live = true
is_live other = false

-- a session is over
abbrev pub is_ended : Life → Bool
is_ended Ended = true
is_ended other = false

-- the number of a rating group's next report
abbrev pub expected_in : Option Entry → ℕ
expected_in None = 1
expected_in (Some e) = e.expected

-- the number of the next report of a session's rating group
abbrev pub expected_of : ℕ → Session → ℕ
expected_of group s = expected_in (entry_of group s.groups)

-- what becomes of a rating group's traffic: closed once the session is ending (TS 32.290, quota management)
abbrev pub gate_in : Option Entry → Gate
gate_in None = Waiting
gate_in (Some e) = gate_of e.quota

-- the gate of a session's rating group
abbrev pub gate_for : ℕ → Session → Gate
gate_for group s = if is_live s.life then gate_in (entry_of group s.groups) else Closed

-- traffic passes
abbrev pub is_passing : Gate → Bool
is_passing Passing = true
is_passing other = false

-- a rating group that has quota, needs none, or is asked for already
abbrev pub is_served : Option Entry → Bool
is_served None = false
is_served (Some e) = is_granted e.quota.standing || (is_unlimited e.quota.standing || is_asked e.quota)

-- a new rating group, where there are 16
abbrev pub is_full_for : Option Entry → ℕ → Bool
is_full_for None groups = nat_le most_groups groups
is_full_for (Some e) groups = false

-- the checks of each event, in order; what comes first decides

-- traffic of a rating group begins
abbrev pub start_answer : ℕ → ℕ → Session → Result Seen SmfRefusal
start_answer group moment s =
    if not (is_live s.life) then Err (GateClosed Closed) else
    (if is_served (entry_of group s.groups) then Ok Known else
    (if nat_lt moment s.last then Err (MomentBack s.last) else
    (if is_full_for (entry_of group s.groups) (length s.groups) then Err TooManyGroups else
    Ok New)))

-- a usage report
abbrev pub count_answer : Report → Session → Result Seen SmfRefusal
count_answer r s =
    if nat_le 1 r.number && nat_lt r.number (expected_of r.group s) then Ok Known else
    (if not (is_passing (gate_for r.group s)) then Err (GateClosed (gate_for r.group s)) else
    (if not (r.number == expected_of r.group s) then Err (OutOfStep (expected_of r.group s)) else
    (if is_too_large r then Err TooLarge else
    (if nat_lt r.moment s.last then Err (MomentBack s.last) else
    (if nat_le most_reports s.reports then Err TooManyReports else
    Ok New)))))

-- charging conditions change
abbrev pub change_answer : ℕ → Session → Result Seen SmfRefusal
change_answer moment s =
    if not (is_live s.life) then Err (GateClosed Closed) else
    (if nat_lt moment s.last then Err (MomentBack s.last) else
    Ok New)

-- the PDU session ends
abbrev pub detach_answer : ℕ → Session → Result Seen SmfRefusal
detach_answer moment s =
    if not (is_live s.life) then Ok Known else
    (if nat_lt moment s.last then Err (MomentBack s.last) else
    Ok New)

-- a reply
abbrev pub reply_answer : ℕ → Reply → Session → Result Seen SmfRefusal
reply_answer number reply s = if not (is_ended s.life) && is_answer_to number reply s.request then Ok New else Ok Known

-- an attempt of a session that may send, and is the next to send, to this peer
abbrev pub attempt_by : ℕ → Option (ℕ × Peer) → Peer → Session → Result Seen SmfRefusal
attempt_by now next peer s = if may_send now s && is_send s.number peer next then Ok New else Ok Known

-- where that is what sends next
abbrev pub attempt_answer : ℕ → List Session → Peer → Session → Result Seen SmfRefusal
attempt_answer now sessions peer s = attempt_by now (send_of now sessions) peer s

-- an end of the attempt in flight
abbrev pub loss_answer : Session → Result Seen SmfRefusal
loss_answer s = if s.sending.in_flight then Ok New else Ok Known

-- some attempt is in flight
abbrev pub any_flies : List Session → Bool
any_flies sessions = list_any (λ s. s.sending.in_flight) sessions

-- a restart, where an attempt is in flight
abbrev pub restart_answer : Bool → Result Seen SmfRefusal
restart_answer flies = if flies then Ok New else Ok Known

-- there is a session of this number
abbrev pub on_session : Option Session → (Session → Result Seen SmfRefusal) → Result Seen SmfRefusal
on_session None answer = Err NoSession
on_session (Some s) answer = answer s

-- a PDU session begins
abbrev pub attach_answer : Option Session → ℕ → Result Seen SmfRefusal
attach_answer (Some s) groups = Err SessionExists
attach_answer None groups = if nat_lt most_groups groups then Err TooManyGroups else Ok New

-- each event, by the session that it names
abbrev pub answer_in : ℕ → List Session → SmfEvent → Result Seen SmfRefusal
answer_in now sessions (Attach session subscriber groups moment) = attach_answer (session_of session sessions) (length groups)
answer_in now sessions (Start session group moment) = on_session (session_of session sessions) (start_answer group moment)
answer_in now sessions (Count session r) = on_session (session_of session sessions) (count_answer r)
answer_in now sessions (Change session trigger moment) = on_session (session_of session sessions) (change_answer moment)
answer_in now sessions (Tick moment) = if nat_lt moment now then Err (MomentBack now) else Ok New
answer_in now sessions (Detach session abnormal moment) = on_session (session_of session sessions) (detach_answer moment)
answer_in now sessions (Answered session number reply) = on_session (session_of session sessions) (reply_answer number reply)
answer_in now sessions (Attempt session peer) = on_session (session_of session sessions) (attempt_answer now sessions peer)
answer_in now sessions (NotSent session) = on_session (session_of session sessions) loss_answer
answer_in now sessions (NoReply session) = on_session (session_of session sessions) loss_answer
answer_in now sessions Restart = restart_answer (any_flies sessions)

-- the answer of a machine to an event
abbrev pub answer_of : Machine → SmfEvent → Result Seen SmfRefusal
answer_of m event = answer_in m.moment m.sessions event

-- now: the greatest moment that an accepted event carried
abbrev pub now_after : ℕ → SmfEvent → ℕ
now_after now (Attach session subscriber groups moment) = max now moment
now_after now (Start session group moment) = max now moment
now_after now (Count session r) = max now r.moment
now_after now (Change session trigger moment) = max now moment
now_after now (Tick moment) = max now moment
now_after now (Detach session abnormal moment) = max now moment
now_after now (Answered session number reply) = now
now_after now (Attempt session peer) = now
now_after now (NotSent session) = now
now_after now (NoReply session) = now
now_after now Restart = now

-- the sessions that an event touches: its own, which a detach finds live; a tick all of them; a restart those with an attempt in flight
abbrev pub touches : SmfEvent → Session → Bool
touches (Attach session subscriber groups moment) s = false
touches (Start session group moment) s = s.number == session
touches (Count session r) s = s.number == session
touches (Change session trigger moment) s = s.number == session
touches (Tick moment) s = true
touches (Detach session abnormal moment) s = (s.number == session) && is_live s.life
touches (Answered session number reply) s = s.number == session
touches (Attempt session peer) s = s.number == session
touches (NotSent session) s = s.number == session
touches (NoReply session) s = s.number == session
touches Restart s = s.sending.in_flight

-- what it does to them
abbrev pub effect : SmfSetup → ℕ → SmfEvent → Session → Session
effect setup now (Attach session subscriber groups moment) s = s
effect setup now (Start session group moment) s = started group moment s
effect setup now (Count session r) s = counted r s
effect setup now (Change session trigger moment) s = changed trigger moment s
effect setup now (Tick moment) s = s
effect setup now (Detach session abnormal moment) s = detached abnormal moment s
effect setup now (Answered session number reply) s = answered_by now reply s.request s
effect setup now (Attempt session peer) s = attempted peer s
effect setup now (NotSent session) s = lost setup now Unsent s
effect setup now (NoReply session) s = lost setup now Unanswered s
effect setup now Restart s = lost setup now Unanswered s

-- then each is settled, a request is frozen where one is due, and what waits beyond the greatest number is given up
abbrev pub finished : SmfSetup → ℕ → Session → Session
finished setup now s = dropped setup (freeze_due setup now (settled setup now s))

-- a session after an event
abbrev pub next_session : SmfSetup → ℕ → SmfEvent → Session → Session
next_session setup now event s = if touches event s then finished setup now (effect setup now event s) else s

-- a new session wishes for quota for its groups in a Create
abbrev pub entries_of : List ℕ → List Entry
entries_of groups = fold (λ entries group. with_asked group entries) [] groups

-- a session at its Attach, with no request yet
abbrev pub fresh : SmfSetup → ℕ → List ℕ → List ℕ → ℕ → Session
fresh setup number subscriber groups moment = record { number = number; subscriber = subscriber; reference = None; life = Live; last = moment; count = 0; reports = 0; at_once = false; failover = setup.failover; handling = setup.handling; peer = Primary; sending = at_rest; groups = entries_of groups; holdings = []; rules = []; request = None }

-- the session that an event adds, with its first request
abbrev pub added_by : SmfSetup → ℕ → SmfEvent → List Session
added_by setup now (Attach session subscriber groups moment) = finished setup now (with_request setup now Create (fresh setup session subscriber groups moment)) ∷ []
added_by setup now other = []

-- the machine after an event that is new
abbrev pub stepped : Machine → SmfEvent → Machine
stepped m event = record {
  setup = m.setup;
  moment = now_after m.moment event;
  count = m.count + 1;
  sessions = map (next_session m.setup (now_after m.moment event) event) m.sessions ++ added_by m.setup (now_after m.moment event) event;
}

-- an event that is new is a step; any other changes nothing
abbrev pub after_answer : Machine → SmfEvent → Result Seen SmfRefusal → Machine
after_answer m event (Ok New) = stepped m event
after_answer m event (Ok Known) = m
after_answer m event (Err e) = m

-- the machine after an event
abbrev pub step : Machine → SmfEvent → Machine
step m event = after_answer m event (answer_of m event)

-- a machine without sessions, whose setup is the first entry of its list
abbrev pub empty : SmfSetup → Machine
empty setup = record { setup = setup; moment = 0; count = 1; sessions = [] }

-- the machine after these events, the newest first
abbrev pub machine_after : SmfSetup → List SmfEvent → Machine
machine_after setup [] = empty setup
machine_after setup (event ∷ earlier) = step (machine_after setup earlier) event
