-- Which rows are a table of policy counters, and which row is the first that breaks it (this product's own).
use Rattle.std.specs.Prelude.{◌≡◌, ℕ, ◌+◌, ◌==◌, ◌&&◌, nat_lt, Bool, false, List, [], ◌∷◌, ◌++◌, length, Option, Some, None, Result, Ok, Err, if◌then◌else◌, bytes_eq, fold}
use Rattle.std.specs.List.{list_all}
use Rattle.counters.specs.declared.row.CounterRow.{CounterRow}
use Rattle.counters.specs.declared.refusal.CounterRefusal.{CounterRefusal}
use Rattle.counters.specs.declared.refusal.CounterRefusal.TheVariants.{BadRow, UnknownCounter, UnknownSubscription, OutOfMemory}
use Rattle.counters.specs.Row.{counter_row}
use Rattle.counters.specs.Names.{names_of, is_among}
use Rattle.counters.specs.Status.{limits_of}

-- the counter of the latest row
abbrev pub latest_of : List CounterRow → Option (List ℕ)
latest_of rows = fold (λ latest row. Some row.counter) None rows

-- a counter is that of the latest row
abbrev pub is_latest : Option (List ℕ) → List ℕ → Bool
is_latest None counter = false
is_latest (Some latest) counter = bytes_eq latest counter

-- a row of a counter that has rows already: its rows are adjacent, and its limits ascend
abbrev pub may_go_on : List CounterRow → CounterRow → Bool
may_go_on before row = is_latest (latest_of before) row.counter && list_all (λ l. nat_lt l.amount row.limit.amount) (limits_of before row.counter)

-- a row of a new counter: its first limit is 0, and there are at most 100 counters
abbrev pub may_begin : List CounterRow → CounterRow → Bool
may_begin before row = (row.limit.amount == 0) && nat_lt (length (names_of before)) 100

-- a row may follow these
abbrev pub may_follow : List CounterRow → CounterRow → Bool
may_follow before row = if is_among row.counter (names_of before) then may_go_on before row else may_begin before row

-- a row that may follow is read on from, any other is the bad one
abbrev pub read_on : List CounterRow → Option CounterRow → (List CounterRow → Option ℕ) → Option ℕ
read_on before None more = Some (length before + 1)
read_on before (Some row) more = if may_follow before row then more (before ++ row ∷ []) else Some (length before + 1)

-- the number of the first row, after these, that breaks the grammar
abbrev pub first_bad : List CounterRow → List (List (List ℕ)) → Option ℕ
first_bad before [] = None
first_bad before (row ∷ rows) = read_on before (counter_row row) (λ more. first_bad more rows)

-- rows are refused at the first one, counted from 1, that breaks the grammar, and else kept as they are
abbrev pub answer_by : List (List (List ℕ)) → Option ℕ → Result (List (List (List ℕ))) CounterRefusal
answer_by rows None = Ok rows
answer_by rows (Some row) = Err (BadRow row)

-- what reading some rows answers
abbrev pub read_answer : List (List (List ℕ)) → Result (List (List (List ℕ))) CounterRefusal
read_answer rows = answer_by rows (first_bad [] rows)

-- a refusal is want of memory, or names the first bad row
abbrev pub IsCause : Option ℕ → CounterRefusal → Type 0
IsCause bad (BadRow row) = bad ≡ Some row
IsCause bad UnknownCounter = bad ≡ None × ⊥
IsCause bad UnknownSubscription = bad ≡ None × ⊥
IsCause bad OutOfMemory = Unit {0}
