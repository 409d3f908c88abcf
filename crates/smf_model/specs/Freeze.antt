-- Freezing a request, and giving up the oldest waiting containers where too many wait (TS 32.290, 5.3.2; the numbers are this product's own).
use Rattle.std.specs.Prelude.{ℕ, ◌+◌, ◌-◌, ◌==◌, ◌&&◌, ◌||◌, not, nat_lt, nat_le, Bool, true, false, if◌then◌else◌, Option, Some, None, is_some, List, [], ◌∷◌, map, count_by, length}
use Rattle.std.specs.List.{list_any}
use Rattle.units.specs.declared.trigger.TriggerType.{TriggerType}
use Rattle.units.specs.declared.trigger.TriggerType.TheVariants.{AbnormalRelease}
use Rattle.units.specs.declared.request.Operation.{Operation}
use Rattle.units.specs.declared.request.Operation.TheVariants.{Update, Release}
use Rattle.units.specs.declared.request.Ask.{Ask}
use Rattle.units.specs.declared.request.Used.{Used}
use Rattle.units.specs.declared.request.UnitUsage.{UnitUsage}
use Rattle.units.specs.declared.request.Request.{Request}
use Rattle.quotas.specs.Quota.{frozen}
use Rattle.sessions.specs.Kept.{is_release}
use Rattle.smf_model.specs.declared.setup.SmfSetup.{SmfSetup}
use Rattle.smf_model.specs.declared.session.Life.{Life}
use Rattle.smf_model.specs.declared.session.Life.TheVariants.{Live, Ending, Aborting, Ended}
use Rattle.smf_model.specs.declared.session.Why.TheVariants.{HeldFull}
use Rattle.smf_model.specs.declared.session.Place.{Place}
use Rattle.smf_model.specs.declared.session.Place.TheVariants.{Frozen, GivenUp}
use Rattle.smf_model.specs.declared.session.Holding.{Holding}
use Rattle.smf_model.specs.declared.session.Entry.{Entry}
use Rattle.smf_model.specs.declared.session.Session.{Session}
use Rattle.units.specs.Limits.{most_containers}
use Rattle.units.specs.Words.{name_of_type}
use Rattle.smf_model.specs.Rules.{changes_of}
use Rattle.smf_model.specs.Sending.{at_rest}
use Rattle.smf_model.specs.Settle.{is_waiting, is_frozen}

-- how many containers wait
abbrev pub waiting_count : List Holding → ℕ
waiting_count holdings = count_by (λ h. is_waiting h.place) holdings

-- the oldest waiting containers, at most so many, go to a place; containers are in order of their numbers
abbrev pub move_oldest : ℕ → Place → List Holding → List Holding
move_oldest most place [] = []
move_oldest most place (h ∷ holdings) =
    if is_waiting h.place && nat_lt 0 most
    then record h { place = place } ∷ move_oldest (most - 1) place holdings
    else h ∷ move_oldest most place holdings

-- where more than so many wait, the oldest are given up
abbrev pub dropped : SmfSetup → Session → Session
dropped setup s = record s { holdings = move_oldest (waiting_count s.holdings - setup.held_max) (GivenUp HeldFull) s.holdings }

-- a rating group asks for quota, or gives it back
abbrev pub is_wanting : Entry → Bool
is_wanting e = e.quota.wish || e.quota.given_back

-- a live session updates where a trigger of immediate category came, a group wants, or enough containers wait; its Create was answered
abbrev pub live_operation : SmfSetup → Session → Option ℕ → Option Operation
live_operation setup s None = None
live_operation setup s (Some reference) =
    if s.at_once || (list_any is_wanting s.groups || nat_le (changes_of setup s) (waiting_count s.holdings))
    then Some (Update reference)
    else None

-- an ending one releases, with an Update before where more wait than one request holds
abbrev pub ending_operation : Session → Option ℕ → Option Operation
ending_operation s None = None
ending_operation s (Some reference) = if nat_lt most_containers (waiting_count s.holdings) then Some (Update reference) else Some (Release reference)

-- the operation that is due, by how far the session is
abbrev pub operation_in : SmfSetup → Session → Life → Option Operation
operation_in setup s Live = live_operation setup s s.reference
operation_in setup s Ending = ending_operation s s.reference
operation_in setup s Aborting = ending_operation s s.reference
operation_in setup s Ended = None

-- the operation of the next request, where one is due: one request is unanswered at a time
abbrev pub next_operation : SmfSetup → Session → Option Operation
next_operation setup s = if is_some s.request then None else operation_in setup s s.life

-- the names of a container's triggers
abbrev pub names_of : Option TriggerType → List (List ℕ)
names_of None = []
names_of (Some trigger) = name_of_type trigger ∷ []

-- a container as a request carries it (TS 32.291, 6.1.6.2.1.4)
abbrev pub used_as : Holding → Used
used_as h = record { lsn = h.container.lsn; group = h.container.group; up = h.container.up; down = h.container.down; seconds = h.container.seconds; first = h.container.first; last = h.container.last; triggers = names_of h.trigger; moment = h.moment }

-- the frozen containers of a rating group
abbrev pub is_frozen_of : ℕ → Holding → Bool
is_frozen_of group h = is_frozen h.place && (h.container.group == group)

-- the frozen containers of a rating group, as a request carries them
abbrev pub used_of : ℕ → List Holding → List Used
used_of group [] = []
used_of group (h ∷ holdings) = if is_frozen_of group h then used_as h ∷ used_of group holdings else used_of group holdings

-- a wish asks for what the CHF sees fit (TS 32.291, 6.1.6.2.1.3)
abbrev pub ask_of : Bool → Option Ask
ask_of wish = if wish then Some (record { volume = None; seconds = None }) else None

-- one entry for each rating group with frozen containers, a wish or a give-back (TS 32.291, 6.1.6.2.1.2)
abbrev pub usage_of : Entry → List Used → UnitUsage
usage_of e used = record { group = e.number; ask = ask_of e.quota.wish; used = used }

-- a rating group has something to say in a request
abbrev pub says_something : Entry → List Used → Bool
says_something e used = is_wanting e || not (length used == 0)

-- the entries of a request, in the order of the groups
abbrev pub usages : List Holding → List Entry → List UnitUsage
usages holdings [] = []
usages holdings (e ∷ entries) = if says_something e (used_of e.number holdings) then usage_of e (used_of e.number holdings) ∷ usages holdings entries else usages holdings entries

-- a session ends abnormally
abbrev pub is_aborting : Life → Bool
is_aborting Aborting = true
is_aborting other = false

-- the Release of a session that ends abnormally says so
abbrev pub triggers_of : Operation → Life → List (List ℕ)
triggers_of operation life = if is_release operation && is_aborting life then name_of_type AbnormalRelease ∷ [] else []

-- the request: the next number, the stamp of its freezing, and the oldest 500 waiting containers (TS 32.291, 6.1.6.2.1.1)
abbrev pub request_of : SmfSetup → ℕ → Session → Operation → Request
request_of setup now s operation = record {
  operation = operation;
  consumer = setup.name;
  subscriber = Some s.subscriber;
  charging_id = Some s.number;
  number = s.count + 1;
  stamp = now;
  again = false;
  notify = None;
  usage = usages (move_oldest most_containers Frozen s.holdings) s.groups;
  triggers = triggers_of operation s.life;
}

-- a wish that stands in a request is none any more
abbrev pub freeze_entry : Entry → Entry
freeze_entry e = record e { quota = frozen e.quota }

-- the session with that request frozen
abbrev pub with_request : SmfSetup → ℕ → Operation → Session → Session
with_request setup now operation s = record s {
  count = s.count + 1;
  at_once = false;
  groups = map freeze_entry s.groups;
  holdings = move_oldest most_containers Frozen s.holdings;
  request = Some (request_of setup now s operation);
  sending = at_rest;
}

-- the session with the request of this operation, where one is due
abbrev pub freeze_by : SmfSetup → ℕ → Option Operation → Session → Session
freeze_by setup now None s = s
freeze_by setup now (Some operation) s = with_request setup now operation s

-- a request is frozen where one is due
abbrev pub freeze_due : SmfSetup → ℕ → Session → Session
freeze_due setup now s = freeze_by setup now (next_operation setup s) s
