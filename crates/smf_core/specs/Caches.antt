-- What is kept of a session for speed: only what is held is looked at as events come. Of the public clauses only those on plans name some of these.
use Rattle.std.specs.Prelude.{◌≡◌, ◌<◌, ◌≤◌, ℕ, ◌+◌, ◌-◌, nat_lt, Bool, if◌then◌else◌, Option, is_some, unwrap_or, List, [], ◌∷◌, ◌++◌, map, filter, count_by, length, slice_set, slice_index}
use Rattle.std.specs.List.{AllByRecursion}
use Rattle.smf_model.specs.declared.session.Holding.{Holding}
use Rattle.smf_model.specs.declared.session.Rule.{Rule}
use Rattle.smf_model.specs.declared.session.Session.{Session}
use Rattle.smf_model.specs.declared.session.Entry.{Entry}
use Rattle.smf_model.specs.declared.session.GivenUp.{GivenUp}
use Rattle.smf_model.specs.declared.event.SmfEvent.{SmfEvent}
use Rattle.smf_model.specs.declared.setup.SmfSetup.{SmfSetup}
use Rattle.smf_model.specs.GivenUps.{why_in, given_up_of}
use Rattle.smf_model.specs.Machine.{effect, finished}
use Rattle.smf_core.specs.declared.draft.Course.{Course}
use Rattle.smf_core.specs.declared.draft.Pending.{Pending}
use Rattle.smf_core.specs.declared.draft.Draft.{Draft}
use Rattle.smf_core.specs.declared.plan.Change.{Change}
use Rattle.smf_core.specs.Draft.{request_after}
use Rattle.smf_core.specs.Reads.{is_held, containers_of}
use Rattle.units.specs.declared.report.Container.{Container}
use Rattle.agenda.specs.declared.mark.Mark.{Mark}
use Rattle.smf_model.specs.Resting.{IsAtRest}
use Rattle.smf_core.specs.Marking.{marks_of}

-- the containers with others in place of those that are held, one after another; what is left of them comes at the end
abbrev pub merged : List Holding → List Holding → List Holding
merged [] next = next
merged (h ∷ all) [] = if is_held h then merged all [] else h ∷ merged all []
merged (h ∷ all) (k ∷ next) = if is_held h then k ∷ merged all next else h ∷ merged all (k ∷ next)

-- how many are held no more
abbrev pub past_count : List Holding → ℕ
past_count [] = 0
past_count (h ∷ all) = if is_held h then past_count all else past_count all + 1

-- the places of those that are held
abbrev pub places_from : ℕ → List Holding → List ℕ
places_from i [] = []
places_from i (h ∷ all) = if is_held h then i ∷ places_from (i + 1) all else places_from (i + 1) all

-- a session of which only what is held is kept, with all its containers
abbrev pub wide : List Holding → Session → Session
wide all s = record s { holdings = merged all s.holdings }

-- others written at places, one after another; what is left of them comes at the end
abbrev pub put_places : {A : Type 0} → List ℕ → List A → List A → List A
put_places places [] all = all
put_places [] (k ∷ next) all = put_places [] next (all ++ k ∷ [])
put_places (p ∷ places) (k ∷ next) all = put_places places next (slice_set all p k)

-- the places of those of them that are held, where there were so many before
abbrev pub live_after : List ℕ → ℕ → List Holding → List ℕ
live_after places count [] = []
live_after [] count (k ∷ next) = if is_held k then count ∷ live_after [] (count + 1) next else live_after [] (count + 1) next
live_after (p ∷ places) count (k ∷ next) = if is_held k then p ∷ live_after places count next else live_after places count next

-- the place of the one at an index of those that came after so many of which these were held
abbrev pub place_at : List ℕ → ℕ → ℕ → ℕ
place_at places count i = if nat_lt i (length places) then slice_index places i else count + (i - length places)

-- a container is given up
abbrev pub is_given_up : Holding → Bool
is_given_up h = is_some (why_in h.place)

-- how many are
abbrev pub given_up_count : List Holding → ℕ
given_up_count holdings = count_by (λ h. is_some (why_in h.place)) holdings

-- the place of the first that is given up of those that take these places; where none is, how many there are in all
abbrev pub first_given_up : List ℕ → List Holding → ℕ → ℕ
first_given_up [] moved count = count
first_given_up (p ∷ places) [] count = count
first_given_up (p ∷ places) (k ∷ moved) count = if is_given_up k then p else first_given_up places moved count

-- a change by its parts
pub record HasParts (c : Change) (d : Draft) (before : List ℕ) (count : ℕ) : Type 0 where
  pub course : c.course ≡ d.course
  pub groups : c.groups ≡ d.groups
  pub moved : c.moved ≡ d.holdings
  pub pending : c.pending ≡ d.pending
  pub places : unwrap_or c.places before ≡ live_after before count c.moved
  pub rules : c.rules ≡ d.rules

-- the trigger rules, which a change may leave as they are
abbrev pub rules_left : List Rule → Option (List Rule) → List Rule
rules_left before rules = unwrap_or rules before

-- a session as a change leaves it, by its containers
abbrev pub session_with : Change → Session → List Holding → Session
session_with c s holdings = record {
  number = s.number;
  subscriber = s.subscriber;
  reference = c.course.reference;
  life = c.course.life;
  last = c.course.last;
  count = c.course.count;
  reports = c.course.reports;
  at_once = c.course.at_once;
  failover = c.course.failover;
  handling = c.course.handling;
  peer = c.course.peer;
  sending = c.course.sending;
  groups = c.groups;
  holdings = holdings;
  rules = rules_left s.rules c.rules;
  request = request_after s.request c.pending;
}

-- a change is what came of a session of which only what is held is kept
pub record IsMade (c : Change) (before : Session) (at : List ℕ) (count : ℕ) (after : Session) : Type 0 where
  pub session : session_with c before c.moved ≡ after
  pub places : unwrap_or c.places at ≡ live_after at count c.moved

-- what is kept of a session is right
pub record IsKept (s : Session) (all : List Holding) (at : List ℕ) (some : List Container) (told : List GivenUp) : Type 0 where
  pub live : s.holdings ≡ filter is_held all
  pub places : at ≡ places_from 0 all
  pub held : some ≡ containers_of s.holdings
  pub given_up : told ≡ given_up_of all

-- a session that is kept so; for how many more containers there is a place, and for how many more that are given up
pub record KeptAs : Type 0 where
  pub session : Session
  pub room : ℕ
  pub spare : ℕ

-- there is a place for the container that a change may open, and for what it gives up
pub record HasRoom (c : Change) (k : KeptAs) : Type 0 where
  pub one : 0 < k.room
  pub given_up : given_up_count c.moved ≤ k.spare

-- a session with all its containers
abbrev pub full : Session → List Holding → Session
full s all = record s { holdings = all }

-- what events look at, after a change of the numbers and marks, the rating groups, what is held, the rules and the unanswered request
abbrev pub after_change : Session → Course → List Entry → List Holding → Option (List Rule) → Pending → Session
after_change s course groups live rules pending = record {
  number = s.number;
  subscriber = s.subscriber;
  reference = course.reference;
  life = course.life;
  last = course.last;
  count = course.count;
  reports = course.reports;
  at_once = course.at_once;
  failover = course.failover;
  handling = course.handling;
  peer = course.peer;
  sending = course.sending;
  groups = groups;
  holdings = live;
  rules = rules_left s.rules rules;
  request = request_after s.request pending;
}

-- the sessions that are kept, and their numbers
abbrev pub sessions_of : List KeptAs → List Session
sessions_of kept = map (λ k. k.session) kept

-- the sessions' numbers, in their order
abbrev pub numbers_of : List Session → List ℕ
numbers_of sessions = map (λ s. s.number) sessions

-- each session is at rest
abbrev pub AreAtRest : SmfSetup → List Session → Type 0
AreAtRest setup sessions = AllByRecursion (IsAtRest setup) sessions

-- what is kept beside the sessions, each at rest: their numbers, and their marks
pub record IsTied (setup : SmfSetup) (index : List ℕ) (agenda : List Mark) (now : ℕ) (sessions : List Session) : Type 0 where
  pub numbers : index ≡ numbers_of sessions
  pub marks : agenda ≡ marks_of setup now sessions
  pub rest : AreAtRest setup sessions

-- what an event makes of a session that it touches
abbrev pub stepped_by : SmfSetup → ℕ → SmfEvent → Session → Session
stepped_by setup now event s = finished setup now (effect setup now event s)
