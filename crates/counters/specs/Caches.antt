-- What is kept beside the rows for speed; no public clause speaks of it.
use Rattle.std.specs.Prelude.{◌≡◌, ℕ, ◌<◌, ◌≤◌, List, [], None, All, length, map, slice_get, slice_index_or}
use Rattle.std.specs.List.Sorted.{IsNonDecreasingBy}
use Rattle.counters.specs.declared.row.Limit.{Limit}
use Rattle.counters.specs.declared.row.CounterRow.{CounterRow}
use Rattle.counters.specs.declared.table.Table.{Table}
use Rattle.counters.specs.Names.{AreAscending, names_of}
use Rattle.counters.specs.Status.{limits_of}
use Rattle.counters.specs.declared.counters.Counters.TheInside.{Inside}
use Rattle.counters.specs.Row.{counter_rows}
use Rattle.counters.specs.Grammar.{first_bad, latest_of}

-- the limits of one counter: there is one, the first is 0, and they ascend
pub record AreLimits (limits : List Limit) : Type 0 where
  pub some : 0 < length limits
  pub first : (d : Limit) → (slice_index_or limits 0 d).amount ≡ 0
  pub ascending : IsNonDecreasingBy (λ (l : Limit). l.amount) limits

-- the names ascend, and each has its limits at its place
pub record AreSound (names : List (List ℕ)) (limits : List (List Limit)) : Type 0 where
  pub ascending : AreAscending names
  pub few : length names ≤ 100
  pub same : length limits ≡ length names
  pub each : All AreLimits limits

-- the names and limits of rows
pub record AreOf (rows : List CounterRow) (names : List (List ℕ)) (limits : List (List Limit)) : Type 0 where
  pub sound : AreSound names limits
  pub named : names ≡ names_of rows
  pub limited : limits ≡ map (limits_of rows) names

-- the table of rows
pub record IsOf (rows : List CounterRow) (table : Table) : Type 0 where
  pub kept : AreOf rows table.names.items table.limits.items
  pub latest : latest_of rows ≡ slice_get table.names.items table.latest

-- the rows are a table of counters, and their names and limits are kept
pub record IsWhole (t : Inside) : Type 0 where
  pub good : first_bad [] t.rows ≡ None
  pub kept : AreOf (counter_rows t.rows) t.names t.limits
