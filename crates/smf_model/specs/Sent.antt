-- How far the sending of a session's unanswered request is, read off the session's moves alone (TS 32.290, 5.3.2).
use Rattle.std.specs.Prelude.{◌≡◌, Bool, true, false, Option, Some, None, is_some, List, [], ◌∷◌}
use Rattle.units.specs.declared.request.Request.{Request}
use Rattle.sessions.specs.Trace.{Move, flight, is_unsent}
use Rattle.sessions.specs.Trace.Move.{Freezes, Attempts}
use Rattle.smf_model.specs.declared.session.Session.{Session}
use Rattle.smf_model.specs.Sending.{unmarked}
use Rattle.smf_model.specs.Trace.{unanswered}

-- the newest request has had an attempt
abbrev pub is_tried : List Move → Bool
is_tried [] = false
is_tried (Freezes q ∷ earlier) = false
is_tried (Attempts ∷ earlier) = true
is_tried (move ∷ earlier) = is_tried earlier

-- the request is the unanswered one as it was frozen, marked as a repeat where it has had an attempt; an attempt is in flight where one has no
-- end; and whether each attempt that ended did not leave
pub record AreSentAsMoved (trace : List Move) (s : Session) : Type 0 where
  pub request : unmarked s.request ≡ unanswered trace
  pub mark : (q : Request) → s.request ≡ Some q → q.again ≡ is_tried trace
  pub in_flight : s.sending.in_flight ≡ is_some (flight trace)
  pub unsent : is_some s.request ≡ true → s.sending.unsent ≡ is_unsent trace

-- so of a session that is there; one that is not has no moves
abbrev pub IsSentAsMoved : List Move → Option Session → Type 0
IsSentAsMoved trace None = trace ≡ []
IsSentAsMoved trace (Some s) = AreSentAsMoved trace s
