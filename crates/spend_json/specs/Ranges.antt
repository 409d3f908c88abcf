-- The values that the messages of spending limits can have (TS 29.594, in this product's profile).
use Rattle.std.specs.Prelude.{◌≡◌, ℕ, ◌≤◌, IsTrue, true, List, length}
use Rattle.std.specs.List.{AllByRecursion}
use Rattle.units.specs.Names.{spells_name}
use Rattle.units.specs.declared.spending.SpendContext.{SpendContext}
use Rattle.units.specs.declared.spending.CounterStatus.{CounterStatus}
use Rattle.units.specs.declared.spending.SpendStatus.{SpendStatus}
use Rattle.json_objects.specs.Tokens.{do_ascend}
use Rattle.spend_json.specs.Address.{is_address}
use Rattle.spend_json.specs.StatusWritten.{infos_fields}

-- a name
abbrev pub IsName : List ℕ → Type 0
IsName text = spells_name text ≡ true

-- a context: names, at most 100 counters, and an address for notifications
pub record FitsContext (context : SpendContext) : Type 0 where
  pub subscribed : IsName context.supi
  pub named : AllByRecursion IsName context.counters
  pub few : length context.counters ≤ 100
  pub notified : is_address context.notify ≡ true

-- the status of a counter: names
pub record FitsInfo (info : CounterStatus) : Type 0 where
  pub counter : IsName info.counter
  pub status : IsName info.status

-- a status: names, and each counter once, ascending by the bytes of its name
pub record FitsStatus (status : SpendStatus) : Type 0 where
  pub subscribed : IsName status.supi
  pub infos : AllByRecursion FitsInfo status.infos
  pub ascending : IsTrue (do_ascend (infos_fields status.infos))
