-- How large the sums of an account come, over lists of commands within this product's limits (this product's own).
use Rattle.std.specs.Prelude.{ℕ, ◌+◌, ◌*◌, ◌^◌, ◌≤◌, ◌<◌, List, [], ◌∷◌}
use Rattle.units.specs.declared.request.Used.{Used}
use Rattle.units.specs.declared.request.UnitUsage.{UnitUsage}
use Rattle.accounts.specs.Ledger.{numbers}
use Rattle.chf_core.specs.declared.command.Command.{Command}
use Rattle.chf_core.specs.declared.command.Command.TheVariants.{Charge, TopUp}
use Rattle.chf_core.specs.Admits.{containers}
use Rattle.chf_core.specs.Money.{money}

-- the octets of each container are together at most 2 ^ 61, and its seconds below 2 ^ 32
abbrev pub UsedWithin : List Used → Type 0
UsedWithin [] = Unit {0}
UsedWithin (c ∷ used) = ((c.up + c.down ≤ 2 ^ 61) × (c.seconds < 2 ^ 32)) × UsedWithin used

-- so are the containers of every entry
abbrev pub UsageWithin : List UnitUsage → Type 0
UsageWithin [] = Unit {0}
UsageWithin (u ∷ usage) = UsedWithin u.used × UsageWithin usage

-- so in each request, and each top-up is of at most 2 ^ 80 grains
abbrev pub AreWithin : List Command → Type 0
AreWithin [] = Unit {0}
AreWithin (Charge q ∷ before) = UsageWithin q.usage × AreWithin before
AreWithin (TopUp id account amount ∷ before) = (amount ≤ 2 ^ 80) × AreWithin before
AreWithin (c ∷ before) = AreWithin before

-- how many containers there are
abbrev pub containers_in : List Command → ℕ
containers_in [] = 0
containers_in (Charge q ∷ before) = containers_in before + containers q.usage
containers_in (c ∷ before) = containers_in before

-- and how many top-ups
abbrev pub topups_in : List Command → ℕ
topups_in [] = 0
topups_in (TopUp id account amount ∷ before) = topups_in before + 1
topups_in (c ∷ before) = topups_in before

-- what an account was charged is at most 2 ^ 94 for each container, and what was topped up at most 2 ^ 80 for each top-up
pub record IsBounded (commands : List Command) (account : ℕ) : Type 0 where
  pub charged : (numbers (money commands) account).taken + (numbers (money commands) account).owed ≤ containers_in commands * 2 ^ 94
  pub topped : (numbers (money commands) account).topups ≤ topups_in commands * 2 ^ 80

-- So after every list within the limits: with at most 2 ^ 31 containers and top-ups each sum stays below 2 ^ 126.
abbrev pub SumsAreBounded : Type 0
SumsAreBounded = (commands : List Command) (account : ℕ) → AreWithin commands → IsBounded commands account
