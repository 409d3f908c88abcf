-- Records that read back as they were written: those in the ranges of their fields (TS 32.298, 5.1.5.0; the ranges are this product's profile).
use Rattle.std.specs.Prelude.{◌≡◌, ◌<◌, ◌≤◌, ◌^◌, ℕ, true, List, None}
use Rattle.std.specs.List.{AllByRecursion}
use Rattle.std.specs.Str.{is_utf8}
use Rattle.units.specs.declared.request.Used.{Used}
use Rattle.units.specs.declared.request.UnitUsage.{UnitUsage}
use Rattle.units.specs.Limits.{greatest_moment}
use Rattle.records.specs.declared.record.Record.{Record}

-- A text in UTF-8 (TS 32.298, 5.1.5).
abbrev pub IsText : List ℕ → Type 0
IsText text = is_utf8 text ≡ true

-- A container in range, in an entry of this rating group (TS 32.298, used unit container).
pub record FitsContainer (group : ℕ) (u : Used) : Type 0 where
  pub number : u.lsn < 2 ^ 32
  pub of_group : u.group ≡ group
  pub up : u.up < 2 ^ 64
  pub down : u.down < 2 ^ 64
  pub seconds : u.seconds < 2 ^ 32
  pub first : u.first ≤ greatest_moment
  pub last : u.last ≤ greatest_moment
  pub kinds : AllByRecursion IsText u.triggers
  pub closed : u.moment ≤ greatest_moment

-- A unit usage in range, which asks for nothing (TS 32.298, multiple unit usage).
pub record FitsUsage (u : UnitUsage) : Type 0 where
  pub number : u.group < 2 ^ 32
  pub asks_nothing : u.ask ≡ None
  pub containers : AllByRecursion (FitsContainer u.group) u.used

-- A record in range (TS 32.298, 5.1.5.0). All numbers, texts and moments of the program's types are.
pub record FitsRecord (r : Record) : Type 0 where
  pub function : IsText r.function
  pub subscriber : IsText r.subscriber
  pub consumer : IsText r.consumer
  pub session : r.charging_id < 2 ^ 32
  pub entries : AllByRecursion FitsUsage r.usage
  pub opening : r.opening ≤ greatest_moment
  pub lasting : r.duration < 2 ^ 32
  pub number : r.sequence < 2 ^ 32
  pub reason : r.cause < 2 ^ 8
  pub local_number : r.local < 2 ^ 32
