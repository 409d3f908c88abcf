-- What an event leaves to be done: nothing is to be frozen, and a session that is not live stays so (TS 32.290, 5.3.2; this product's own).
use Rattle.std.specs.Prelude.{◌≡◌, ℕ, false, Option, Some, None, List}
use Rattle.std.specs.List.{AllByRecursion}
use Rattle.quotas.specs.declared.state.Gate.TheVariants.{Closed}
use Rattle.sessions.specs.Trace.{Move, requests}
use Rattle.smf_model.specs.declared.setup.SmfSetup.{SmfSetup}
use Rattle.smf_model.specs.declared.session.Session.{Session}
use Rattle.smf_model.specs.Freeze.{next_operation}
use Rattle.smf_model.specs.Machine.{is_live, gate_for}

-- no request is due to be frozen
abbrev pub NothingIsLeft : SmfSetup → Option Session → Type 0
NothingIsLeft setup None = Unit {0}
NothingIsLeft setup (Some s) = next_operation setup s ≡ None

-- the session does not go on, and each of its gates is closed
pub record IsClosed (s : Session) : Type 0 where
  pub ends : is_live s.life ≡ false
  pub gates : (group : ℕ) → gate_for group s ≡ Closed

-- so of a session that is there
abbrev pub IsClosedIn : Option Session → Type 0
IsClosedIn None = ⊥
IsClosedIn (Some s) = IsClosed s

-- where a session did not go on, it is closed later
abbrev pub StaysClosed : Option Session → Option Session → Type 0
StaysClosed None after = Unit {0}
StaysClosed (Some s) after = is_live s.life ≡ false → IsClosedIn after

-- each request of a session is of its subscriber
abbrev pub AreOfSubscriber : List Move → Option Session → Type 0
AreOfSubscriber trace None = Unit {0}
AreOfSubscriber trace (Some s) = AllByRecursion (λ q. q.subscriber ≡ Some s.subscriber) (requests trace)
