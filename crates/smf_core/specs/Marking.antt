-- What of each session is looked for, which is kept for speed beside it: its mark (this product's own).
use Rattle.std.specs.Prelude.{ℕ, ◌&&◌, not, max, if◌then◌else◌, Option, Some, None, is_some, List, [], map, fold, slice_set, slice_index_or}
use Rattle.smf_model.specs.declared.session.Peer.{Peer}
use Rattle.smf_model.specs.declared.session.Session.{Session}
use Rattle.smf_model.specs.declared.setup.SmfSetup.{SmfSetup}
use Rattle.smf_model.specs.declared.session.Machine.{Machine}
use Rattle.smf_model.specs.declared.event.SmfEvent.{SmfEvent}
use Rattle.smf_model.specs.declared.event.SmfEvent.TheVariants.{Tick, Restart}
use Rattle.smf_model.specs.Sending.{is_past, may_send, next_peer}
use Rattle.smf_model.specs.Resting.{rest_end}
use Rattle.agenda.specs.declared.mark.Mark.{Mark}
use Rattle.agenda.specs.declared.mark.Search.TheVariants.{Waits, Due, Flies}
use Rattle.agenda.specs.Marks.{quiet, places_from}

-- the attempt that a session may make
abbrev pub attempt_at : ℕ → Session → Option (ℕ × Peer)
attempt_at now s = if may_send now s then Some (s.number, next_peer s) else None

-- the moment that has to come before it may
abbrev pub waits_until : ℕ → Session → Option ℕ
waits_until now s = if is_some s.request && (not s.sending.in_flight && not (is_past now s.sending.wait)) then s.sending.wait else None

-- the mark of a session
abbrev pub mark_of : SmfSetup → ℕ → Session → Mark
mark_of setup now s = record { send = attempt_at now s; wait = waits_until now s; due = rest_end setup s; flies = s.sending.in_flight }

-- the marks of sessions
abbrev pub marks_of : SmfSetup → ℕ → List Session → List Mark
marks_of setup now sessions = map (mark_of setup now) sessions

-- the places of the sessions that wait no more once a moment has come
abbrev pub woken_by : ℕ → Machine → List ℕ
woken_by now m = places_from (Waits now) 0 (marks_of m.setup m.moment m.sessions)

-- the places of the sessions that an event for all of them may change: a tick those whose rest ends, a restart those with an attempt in flight
abbrev pub looked_at : Machine → SmfEvent → List ℕ
looked_at m (Tick moment) = places_from (Due (max m.moment moment)) 0 (marks_of m.setup m.moment m.sessions)
looked_at m Restart = places_from Flies 0 (marks_of m.setup m.moment m.sessions)
looked_at m other = []

-- marks, of which those at places are made anew
abbrev pub remarked : List Mark → List ℕ → List Mark → List Mark
remarked anew places marks = fold (λ ms at. slice_set ms at (slice_index_or anew at quiet)) marks places
