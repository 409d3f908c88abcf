-- Each place of a container, exactly where the moves of its session say so (TS 32.290, 5.3.2; what is given up is this product's own).
use Rattle.std.specs.Prelude.{◌≡◌, ℕ, ◌<◌, ◌≤◌, ◌↔◌, Option, Some, None, List, []}
use Rattle.std.specs.List.{AllByRecursion}
use Rattle.units.specs.declared.request.Request.{Request}
use Rattle.sessions.specs.Kept.{occurs_in, uses}
use Rattle.sessions.specs.Trace.{Move, Cause, requests, settled, closed_as, given_up, IsWaiting}
use Rattle.smf_model.specs.declared.session.Place.TheVariants.{Open, Waiting, Frozen, Answered, GivenUp}
use Rattle.smf_model.specs.declared.session.Holding.{Holding}
use Rattle.smf_model.specs.declared.session.Session.{Session}
use Rattle.smf_model.specs.Trace.{unanswered}
use Rattle.smf_model.specs.Places.{why_of}

-- the container stands in the unanswered request
abbrev pub IsAsked : List Move → ℕ → Type 0
IsAsked trace lsn = (q : Request) × (unanswered trace ≡ Some q) × (0 < occurs_in lsn q.usage)

-- it is open exactly until it is closed; it waits exactly where it is closed, in no request and not given up; it is frozen exactly where it
-- stands in the unanswered request; answered exactly where it stands in a request with a final success; given up exactly with the cause
-- that the moves say; and it stands in at most one request
pub record IsPlacedExactly (trace : List Move) (h : Holding) : Type 0 where
  pub open_until : (h.place ≡ Open) ↔ (closed_as trace h.container.lsn ≡ None)
  pub waiting : (h.place ≡ Waiting) ↔ IsWaiting trace h.container.lsn
  pub frozen : (h.place ≡ Frozen) ↔ IsAsked trace h.container.lsn
  pub answered : (h.place ≡ Answered) ↔ (0 < uses h.container.lsn (settled trace))
  pub given_up_with : (cause : Cause) → (h.place ≡ GivenUp (why_of cause)) ↔ (given_up trace h.container.lsn ≡ Some cause)
  pub once : uses h.container.lsn (requests trace) ≤ 1

-- each container of a session is where its moves say
abbrev pub ArePlacedExactly : List Move → Option Session → Type 0
ArePlacedExactly trace None = trace ≡ []
ArePlacedExactly trace (Some s) = AllByRecursion (IsPlacedExactly trace) s.holdings
