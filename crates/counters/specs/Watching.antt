-- Which policy counters a subscription watches, and which of their statuses are others than before (TS 29.594, 4.2.2 and 4.2.4).
use Rattle.std.specs.Prelude.{ℕ, ◌==◌, ◌||◌, Bool, List, length, map, Option, None, if◌then◌else◌, option_map, bytes_eq}
use Rattle.std.specs.List.{filter, filter_map, list_all}
use Rattle.std.specs.Option.{option_eq}
use Rattle.units.specs.declared.spending.CounterStatus.{CounterStatus}
use Rattle.counters.specs.Row.{counter_rows}
use Rattle.counters.specs.Names.{names_of, is_among, AreAscending}
use Rattle.counters.specs.Status.{status}

-- a counter of the table
abbrev pub is_counter : List (List (List ℕ)) → List ℕ → Bool
is_counter rows counter = is_among counter (names_of (counter_rows rows))

-- each named counter is one of the table
abbrev pub are_known : List (List (List ℕ)) → List (List ℕ) → Bool
are_known rows named = list_all (is_counter rows) named

-- a counter is watched: it is named, or none is
abbrev pub is_watched : List (List ℕ) → List ℕ → Bool
is_watched named counter = (length named == 0) || is_among counter named

-- the counters that are watched, ascending, each once
abbrev pub watched : List (List (List ℕ)) → List (List ℕ) → List (List ℕ)
watched rows named = filter (is_watched named) (names_of (counter_rows rows))

-- a counter with its status, where there is one
abbrev pub with_status : List ℕ → Option (List ℕ) → Option CounterStatus
with_status counter status = option_map (λ s. record { counter = counter; status = s }) status

-- the statuses of the watched counters after that much was spent
abbrev pub statuses : List (List (List ℕ)) → List (List ℕ) → ℕ → List CounterStatus
statuses rows named spent = filter_map (λ counter. with_status counter (status rows counter spent)) (watched rows named)

-- a status, where it is another than before
abbrev pub if_another : Option (List ℕ) → Option (List ℕ) → Option (List ℕ)
if_another before after = if option_eq bytes_eq before after then None else after

-- the watched counters whose status is another after one amount than after another, with their new status
abbrev pub changes : List (List (List ℕ)) → List (List ℕ) → ℕ → ℕ → List CounterStatus
changes rows named before after = filter_map (λ counter. with_status counter (if_another (status rows counter before) (status rows counter after))) (watched rows named)

-- ---- their order

-- the counters of some statuses
abbrev pub counters_of : List CounterStatus → List (List ℕ)
counters_of infos = map (λ i. i.counter) infos

-- The counters of statuses ascend, whatever is named and spent.
abbrev pub StatusesAscend : Type 0
StatusesAscend = (rows : List (List (List ℕ))) (named : List (List ℕ)) (spent : ℕ) → AreAscending (counters_of (statuses rows named spent))

-- So do those of which the status changed.
abbrev pub ChangesAscend : Type 0
ChangesAscend = (rows : List (List (List ℕ))) (named : List (List ℕ)) (before after : ℕ) → AreAscending (counters_of (changes rows named before after))
