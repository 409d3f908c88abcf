-- Sending the unanswered request: the peers of a round, the session that may send next, and its attempt (TS 32.290, failure handling; waiting is this product's own).
use Rattle.std.specs.Prelude.{ℕ, ◌==◌, ◌&&◌, not, nat_lt, nat_le, Bool, true, false, if◌then◌else◌, fold, Option, Some, None, is_some, unwrap_or, List, [], ◌∷◌}
use Rattle.units.specs.declared.answer.Handling.{Handling}
use Rattle.units.specs.declared.answer.Handling.TheVariants.{Terminate, Continue, RetryAndTerminate}
use Rattle.units.specs.declared.request.Request.{Request}
use Rattle.sessions.specs.Content.{content}
use Rattle.smf_model.specs.declared.session.Peer.{Peer}
use Rattle.smf_model.specs.declared.session.Peer.TheVariants.{Primary, Alternate}
use Rattle.smf_model.specs.declared.session.Sending.{Sending}
use Rattle.smf_model.specs.declared.session.Session.{Session}

-- there was no attempt yet
abbrev pub at_rest : Sending
at_rest = record { latest = None; in_flight = false; unsent = true; turn = 0; wait = None }

-- the other CHF
abbrev pub other_peer : Peer → Peer
other_peer Primary = Alternate
other_peer Alternate = Primary

-- the same CHF
abbrev pub same_peer : Peer → Peer → Bool
same_peer Primary Primary = true
same_peer Primary Alternate = false
same_peer Alternate Primary = false
same_peer Alternate Alternate = true

-- the second peer of a round: the other one where the session fails over
abbrev pub second_peer : Bool → Peer → Peer
second_peer failover peer = if failover then other_peer peer else peer

-- the peers of a round, one after another
abbrev pub round_of : Handling → Bool → Peer → List Peer
round_of Terminate failover peer = peer ∷ []
round_of Continue failover peer = peer ∷ second_peer failover peer ∷ []
round_of RetryAndTerminate failover peer = peer ∷ second_peer failover peer ∷ []

-- the next peer of a session's round
abbrev pub next_peer : Session → Peer
next_peer s = if s.sending.turn == 0 then s.peer else second_peer s.failover s.peer

-- a waiting moment, if there is one, has come
abbrev pub is_past : ℕ → Option ℕ → Bool
is_past now None = true
is_past now (Some moment) = nat_le moment now

-- a session may send: it has an unanswered request without an attempt in flight, and waits no more
abbrev pub may_send : ℕ → Session → Bool
may_send now s = is_some s.request && (not s.sending.in_flight && is_past now s.sending.wait)

-- a number is below that of what sends so far
abbrev pub is_below : ℕ → Option (ℕ × Peer) → Bool
is_below number None = true
is_below number (Some best) = nat_lt number best.0

-- what sends so far, with one more session
abbrev pub sooner : ℕ → Option (ℕ × Peer) → Session → Option (ℕ × Peer)
sooner now best s = if may_send now s && is_below s.number best then Some (s.number, next_peer s) else best

-- what sends next: the least session that may send, and the next peer of its round
abbrev pub send_of : ℕ → List Session → Option (ℕ × Peer)
send_of now sessions = fold (sooner now) None sessions

-- it is this session, to this peer
abbrev pub is_send : ℕ → Peer → Option (ℕ × Peer) → Bool
is_send number peer None = false
is_send number peer (Some next) = (number == next.0) && same_peer peer next.1

-- the peer of the attempt that has no end
abbrev pub flight_of : Session → Option Peer
flight_of s = if s.sending.in_flight then s.sending.latest else None

-- a request as it is sent again
abbrev pub marked : Option Request → Option Request
marked None = None
marked (Some q) = Some (record q { again = true })

-- what of a request is frozen: all but the mark
abbrev pub unmarked : Option Request → Option Request
unmarked None = None
unmarked (Some q) = Some (content q)

-- an attempt begins; each attempt after it carries the mark
abbrev pub attempted : Peer → Session → Session
attempted peer s = record s { request = marked s.request; sending = record s.sending { latest = Some peer; in_flight = true } }

-- the peer of the latest attempt of the unanswered request, if there was one
abbrev pub latest_peer : Session → Peer
latest_peer s = unwrap_or s.sending.latest s.peer

-- rounds begin with this peer
abbrev pub with_peer : Peer → Session → Session
with_peer peer s = record s { peer = peer }
