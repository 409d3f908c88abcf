-- What the machine keeps, and what it keeps beside its state: where keys and names are found. No public clause names
-- these.
use Rattle.std.specs.Prelude.{◌≡◌, ◌≤◌, ◌-◌, ◌==◌, ℕ, min, false, IsSome, [], length, vec_len, vec_capacity, Option, Some, None}
use Rattle.chf_core.specs.declared.key.Name.{Name}
use Rattle.chf_core.specs.declared.key.Key.{Key}
use Rattle.chf_core.specs.declared.decision.Decision.{Decision}
use Rattle.chf_core.specs.declared.decision.Decision.TheVariants as decided
use Rattle.chf_core.specs.declared.decision.Verdict.{Verdict}
use Rattle.chf_core.specs.declared.decision.Verdict.TheVariants.{Kept, Known, Refused, Fresh}
use Rattle.chf_core.specs.declared.chf.Chf.TheInside.{Inside}
use Rattle.chf_core.specs.KeyTable.{kept_place, kept_reference, AreKnown, room}
use Rattle.chf_core.specs.Owners.{IsOwned}
use Rattle.chf_core.specs.Filings.{limits_in}
use Rattle.chf_core.specs.Booked.{AreNumbered}
use Rattle.chf_core.specs.Placed.{AreAscending, AreBelow}
use Rattle.chf_core.specs.State.{State, place_of, reference_of}
use Rattle.chf_core.specs.Machine.{Machine}

-- the state that the fields stand for
abbrev pub state_seen : Inside → State
state_seen c = record {
  setup = c.setup;
  count = c.count;
  names = c.names.list;
  subscribers = c.subscribers.of;
  topups = c.topups.of;
  sessions = c.sessions.items;
  money = c.accounts.state;
  book = c.book.records;
  watched = c.watchers.of;
  requests = c.requests.items;
}

-- for how many more commands there is room
abbrev pub places : Inside → ℕ
places c =
    min (min (min (vec_capacity c.sessions - vec_len c.sessions) (vec_capacity c.requests - vec_len c.requests)) (min (room c.keyed) (4294967295 - c.count)))
    (min c.names.room (min c.subscribers.spare c.topups.spare))

-- the value of the machine
abbrev pub machine : Inside → Machine
machine c = record {
  state = state_seen c;
  book = c.book;
  watching = c.watchers;
  consumers = c.keyed.consumers.list;
  places = places c;
  moves = c.accounts.spare;
}

-- what holds of its fields
pub record IsIndexed (c : Inside) : Type 0 where
  pub set_up : (c.count == 0) ≡ false → IsSome c.setup
  pub unbarred : c.none_barred ≡ []
  pub places : (k : Key) → kept_place c.keyed k ≡ place_of (state_seen c) k
  pub references : (n : Name) → kept_reference c.keyed n ≡ reference_of (state_seen c) n
  pub known : AreKnown c.keyed
  pub ascending : AreAscending 0 c.requests.items
  pub below : AreBelow c.count c.requests.items
  pub owned : IsOwned (state_seen c)
  pub few : length c.sessions.items ≤ c.count
  pub made : length c.watchers.of.contexts ≤ c.count
  pub limited : c.book.limits ≡ limits_in c.setup
  pub numbered : AreNumbered (length c.sessions.items) c.book.records.sessions

-- what is answered without a plan: nothing on what is fresh
abbrev pub answer_by : Verdict → Option Decision
answer_by (Kept place) = Some (decided.Kept place)
answer_by Known = Some decided.Known
answer_by (Refused refusal) = Some (decided.Refused refusal)
answer_by (Fresh o) = None
