-- The rows of policy counters: `counter,NAME,LIMIT,STATUS` (this product's own).
use Rattle.std.specs.Prelude.{ℕ, ◌-◌, ◌^◌, ◌&&◌, List, [], ◌∷◌, Option, None, if◌then◌else◌, option_map, codes, nat_eq}
use Rattle.std.specs.Cmp.Lexicographic.{pointwise}
use Rattle.std.specs.List.{filter_map}
use Rattle.rows.specs.Number.{number_of}
use Rattle.units.specs.Names.{spells_name}
use Rattle.counters.specs.declared.row.CounterRow.{CounterRow}

-- a row of a counter: from this amount on, in grains, it has this status
abbrev pub with_limit : List ℕ → List ℕ → ℕ → CounterRow
with_limit counter status amount = record { counter = counter; limit = record { amount = amount; status = status } }

-- the fields of a row after its word: two names, with a number of 128 bits between
abbrev pub limit_row : List ℕ → List ℕ → List ℕ → Option CounterRow
limit_row counter amount status = if spells_name counter && spells_name status then option_map (with_limit counter status) (number_of (2 ^ 128 - 1) amount) else None

-- the row of a counter that these fields are, if they are one
abbrev pub counter_row : List (List ℕ) → Option CounterRow
counter_row (word ∷ counter ∷ amount ∷ status ∷ []) = if pointwise nat_eq word (codes "counter") then limit_row counter amount status else None
counter_row _ = None

-- the rows of counters that rows of fields are
abbrev pub counter_rows : List (List (List ℕ)) → List CounterRow
counter_rows rows = filter_map counter_row rows
