-- Charging data requests within the ranges of their format: those that are written so that they read back (TS 29.571, 5.2; TS 32.291, 6.1.6.2.1; the bounds are this product's own).
use Rattle.std.specs.Prelude.{◌≡◌, ◌≤◌, ℕ, ◌^◌, ◌&&◌, ◌||◌, not, Bool, true, false, List, length, Option, Some, None, ⊤}
use Rattle.std.specs.Option.{is_some}
use Rattle.std.specs.List.{AllByRecursion}
use Rattle.units.specs.declared.request.Ask.{Ask}
use Rattle.units.specs.declared.request.Operation.{Operation}
use Rattle.units.specs.declared.request.Operation.TheVariants.{Create, Update, Release}
use Rattle.units.specs.declared.request.Used.{Used}
use Rattle.units.specs.declared.request.UnitUsage.{UnitUsage}
use Rattle.units.specs.declared.request.Request.{Request}
use Rattle.units.specs.Limits.{greatest_moment, most_entries}
use Rattle.units.specs.Names.{spells_name, is_kind, is_address}

-- a number of 32 bits (TS 29.571, Uint32)
abbrev pub Is32 : ℕ → Type 0
Is32 n = n ≤ 4294967295

-- a moment
abbrev pub IsMoment : ℕ → Type 0
IsMoment moment = moment ≤ greatest_moment

-- a volume, in octets
abbrev pub IsVolume : ℕ → Type 0
IsVolume octets = octets ≤ 2 ^ 60

-- a trigger's type
abbrev pub IsKind : List ℕ → Type 0
IsKind kind = is_kind kind ≡ true

-- a name
abbrev pub IsName : List ℕ → Type 0
IsName name = spells_name name ≡ true

-- an address for notifications
abbrev pub IsAddress : List ℕ → Type 0
IsAddress text = is_address text ≡ true

-- what holds of a value, where there is one
abbrev pub IfGiven : {T : Type 0} → (T → Type 0) → Option T → Type 0
IfGiven P None = ⊤
IfGiven P (Some x) = P x

-- a container in range, in an entry of this rating group
pub record FitsContainer (group : ℕ) (used : Used) : Type 0 where
  pub number : Is32 used.lsn
  pub seconds : Is32 used.seconds
  pub up : IsVolume used.up
  pub down : IsVolume used.down
  pub of_group : used.group ≡ group
  pub in_order : used.first ≤ used.last
  pub last : IsMoment used.last
  pub closed : IsMoment used.moment
  pub kinds : AllByRecursion IsKind used.triggers

-- a requested unit in range
pub record FitsAsk (ask : Ask) : Type 0 where
  pub octets : IfGiven IsVolume ask.volume
  pub time : IfGiven Is32 ask.seconds

-- an entry in range
pub record FitsUsage (usage : UnitUsage) : Type 0 where
  pub number : Is32 usage.group
  pub asked : IfGiven FitsAsk usage.ask
  pub few : length usage.used ≤ most_entries
  pub containers : AllByRecursion (FitsContainer usage.group) usage.used

-- Create is where subscriber and charging id have to be there
abbrev pub is_create : Operation → Bool
is_create Create = true
is_create (Update reference) = false
is_create (Release reference) = false

-- a Create has a subscriber and a charging id
abbrev pub has_what_create_needs : Request → Bool
has_what_create_needs request = not (is_create request.operation) || (is_some request.subscriber && is_some request.charging_id)

-- a request in range
pub record FitsRequest (request : Request) : Type 0 where
  pub name : IsName request.consumer
  pub stamped : IsMoment request.stamp
  pub numbered : Is32 request.number
  pub subscribed : IfGiven IsName request.subscriber
  pub charged : IfGiven Is32 request.charging_id
  pub complete : has_what_create_needs request ≡ true
  pub notified : IfGiven IsAddress request.notify
  pub few : length request.usage ≤ most_entries
  pub entries : AllByRecursion FitsUsage request.usage
  pub kinds : AllByRecursion IsKind request.triggers
