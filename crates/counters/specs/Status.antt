-- The status of a policy counter: the name at the greatest limit not above what was spent (TS 29.594, 4.1.2; the limits are this product's own).
use Rattle.std.specs.Prelude.{ℕ, nat_le, List, [], ◌∷◌, Option, Some, None, if◌then◌else◌, option_map, bytes_eq}
use Rattle.std.specs.List.{filter, filter_map}
use Rattle.counters.specs.declared.row.Limit.{Limit}
use Rattle.counters.specs.declared.row.CounterRow.{CounterRow}
use Rattle.counters.specs.Row.{counter_rows}

-- the limit that a row gives to a counter
abbrev pub limit_in : List ℕ → CounterRow → Option Limit
limit_in counter row = if bytes_eq row.counter counter then Some row.limit else None

-- the limits of a counter, in the order of their rows
abbrev pub limits_of : List CounterRow → List ℕ → List Limit
limits_of rows counter = filter_map (limit_in counter) rows

-- the greater of a limit and a later one, where there is one; the later one where they are equal
abbrev pub greater : Limit → Option Limit → Option Limit
greater limit None = Some limit
greater limit (Some other) = if nat_le limit.amount other.amount then Some other else Some limit

-- the greatest of some limits
abbrev pub greatest : List Limit → Option Limit
greatest [] = None
greatest (limit ∷ limits) = greater limit (greatest limits)

-- the greatest of these limits that is not above an amount
abbrev pub reached : List Limit → ℕ → Option Limit
reached limits spent = greatest (filter (λ l. nat_le l.amount spent) limits)

-- the status of a counter after that much was spent
abbrev pub status : List (List (List ℕ)) → List ℕ → ℕ → Option (List ℕ)
status rows counter spent = option_map (λ l. l.status) (reached (limits_of (counter_rows rows) counter) spent)
