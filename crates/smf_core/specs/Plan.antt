-- A plan: what an event makes of the machine, as what it makes of the sessions that it touches and the session that it adds (this product's own).
use Rattle.std.specs.Prelude.{◌≡◌, ◌⊎◌, ℕ, zero, suc, ◌+◌, ◌<◌, ◌≤◌, Option, Some, None, unwrap_or, List, [], ◌∷◌, ◌++◌, length, filter, Ok, Err}
use Rattle.smf_model.specs.declared.session.Session.{Session}
use Rattle.smf_model.specs.declared.session.Machine.{Machine}
use Rattle.smf_model.specs.declared.event.SmfEvent.{SmfEvent}
use Rattle.smf_core.specs.declared.plan.Change.{Change}
use Rattle.smf_core.specs.declared.plan.Turn.{Turn}
use Rattle.smf_core.specs.declared.plan.Next.{Next}
use Rattle.smf_core.specs.declared.plan.Next.TheVariants.{Nothing, One, Several}
use Rattle.smf_core.specs.declared.plan.SmfPlan.{SmfPlan}
use Rattle.smf_model.specs.declared.refusal.SmfRefusal.{SmfRefusal}
use Rattle.smf_model.specs.declared.refusal.SmfRefusal.TheVariants.{OutOfMemory}
use Rattle.smf_model.specs.Machine.{answer_of, step}
use Rattle.smf_core.specs.Index.{place_in}
use Rattle.smf_core.specs.Reads.{is_held}
use Rattle.smf_core.specs.Caches.{merged, places_from, session_with, KeptAs, HasRoom, numbers_of}
use Rattle.smf_core.specs.Marking.{woken_by}

-- a session as a change leaves it
abbrev pub changed : Change → Session → Session
changed c s = session_with c s (merged s.holdings c.moved)

-- a change fits to a session: it was made for it
pub record Fits (c : Change) (s : Session) : Type 0 where
  pub enough : length (filter is_held s.holdings) ≤ length c.moved
  pub one : length c.moved ≤ length (filter is_held s.holdings) + 1
  pub places : unwrap_or c.places (places_from 0 s.holdings) ≡ places_from 0 (merged s.holdings c.moved)

-- at a place
abbrev pub map_at : ℕ → (Session → Session) → List Session → List Session
map_at at f [] = []
map_at zero f (s ∷ sessions) = f s ∷ sessions
map_at (suc at) f (s ∷ sessions) = s ∷ map_at at f sessions

-- the sessions as changes at places leave them
abbrev pub turned : List Turn → List Session → List Session
turned [] sessions = sessions
turned (t ∷ turns) sessions = map_at t.at (changed t.change) (turned turns sessions)

-- the sessions as the plan leaves them
abbrev pub sessions_next : Next → List Session → List Session
sessions_next Nothing sessions = sessions
sessions_next (One turn) sessions = map_at turn.at (changed turn.change) sessions
sessions_next (Several turns) sessions = turned turns sessions

-- the session that it adds, if it does
abbrev pub added_in : Option KeptAs → List Session
added_in None = []
added_in (Some k) = k.session ∷ []

-- the machine as the plan leaves it
abbrev pub applied : SmfPlan → Machine → Machine
applied plan m = record { setup = m.setup; moment = plan.moment; count = plan.count; sessions = sessions_next plan.next m.sessions ++ added_in plan.added }

-- what callers see: the machine; and what they need not look at, how it is kept, and for how many more sessions there is a place
pub record Shown : Type 0 where
  pub machine : Machine
  pub kept : List KeptAs
  pub room : ℕ

-- the plan of an event that is not refused: it tells whether the event is new, and makes the machine that the event makes
pub record IsPlanOf (plan : SmfPlan) (m : Machine) (event : SmfEvent) : Type 0 where
  pub seen : answer_of m event ≡ Ok plan.seen
  pub made : applied plan m ≡ step m event

-- a change fits to a session, and there is a place for what it adds
abbrev pub IsReadyFor : Change → KeptAs → Type 0
IsReadyFor c k = Fits c k.session × HasRoom c k

-- so is the change of the session at a place
abbrev pub IsReadyAt : ℕ → Change → List KeptAs → Type 0
IsReadyAt at c [] = ⊥
IsReadyAt zero c (k ∷ kept) = IsReadyFor c k
IsReadyAt (suc at) c (k ∷ kept) = IsReadyAt at c kept

-- changes are at places beyond a place
abbrev pub AreBeyond : ℕ → List Turn → Type 0
AreBeyond at [] = Unit {0}
AreBeyond at (t ∷ turns) = (at < t.at) × AreBeyond at turns

-- so is each of several changes, in the order of their places
abbrev pub AreReady : List Turn → List KeptAs → Type 0
AreReady [] kept = Unit {0}
AreReady (t ∷ turns) kept = IsReadyAt t.at t.change kept × AreBeyond t.at turns × AreReady turns kept

-- so are the changes of a plan
abbrev pub NextIsReady : Next → List KeptAs → Type 0
NextIsReady Nothing kept = Unit {0}
NextIsReady (One turn) kept = IsReadyAt turn.at turn.change kept
NextIsReady (Several turns) kept = AreReady turns kept

-- no session has the number of the one that is added, and there is a place for it
abbrev pub AddedIsReady : Option KeptAs → List Session → ℕ → Type 0
AddedIsReady None sessions room = Unit {0}
AddedIsReady (Some k) sessions room = (place_in (numbers_of sessions) k.session.number ≡ None) × (0 < room)

-- a plan is of this machine as it stands: it is that of some event at it, each of its changes fits to the session at its place, no
-- session has the number of the one that it adds, and there is room for what they open and add; it names the sessions that wait no more
pub record IsReady (plan : SmfPlan) (s : Shown) : Type 0 where
  pub event : SmfEvent
  pub made : IsPlanOf plan s.machine event
  pub next : NextIsReady plan.next s.kept
  pub added : AddedIsReady plan.added s.machine.sessions s.room
  pub later : s.machine.moment ≤ plan.moment
  pub woken : plan.woken ≡ woken_by plan.moment s.machine

-- where a plan is that of an event, the machine took that event's step
abbrev pub Takes : SmfPlan → Machine → Machine → Type 0
Takes plan before now = (event : SmfEvent) → IsPlanOf plan before event → now ≡ step before event

-- the refusal of an event, or want of memory
abbrev pub IsRefused : SmfRefusal → Machine → SmfEvent → Type 0
IsRefused e m event = (e ≡ OutOfMemory) ⊎ (answer_of m event ≡ Err e)
