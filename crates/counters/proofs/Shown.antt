-- The counters of statuses ascend.
use Rattle.std.proofs.Common.{Bool, true, false, cond, ℕ, List, [], ◌∷◌, Option, Some, None}
use Rattle.std.specs.List.{filter, filter_map, cons_option}
use Rattle.units.specs.declared.spending.CounterStatus.{CounterStatus}
use Rattle.counters.specs.Names.{IsBelow, AreAscending}
use Rattle.counters.specs.Row.{counter_rows}
use Rattle.counters.specs.Status.{status}
use Rattle.counters.specs.Watching.{is_watched, watched, with_status, if_another, counters_of, StatusesAscend, ChangesAscend}
use Rattle.counters.proofs.Rows.{names_ascend}

-- what is below names is below some of them
below_some : (p : List ℕ → Bool) (name : List ℕ) (names : List (List ℕ)) → IsBelow name names → IsBelow name (filter p names)
below_some p name [] h = tt
below_some p name (first ∷ rest) h = elim (p first) as (λ b. IsBelow name (cond b (first ∷ filter p rest) (filter p rest))) [
  | true ↦ (h.0, below_some p name rest h.1)
  | false ↦ below_some p name rest h.1
]

some_ascend : (p : List ℕ → Bool) (names : List (List ℕ)) → AreAscending names → AreAscending (filter p names)
some_ascend p [] up = tt
some_ascend p (first ∷ rest) up = elim (p first) as (λ b. AreAscending (cond b (first ∷ filter p rest) (filter p rest))) [
  | true ↦ (below_some p first rest up.0, some_ascend p rest up.1)
  | false ↦ some_ascend p rest up.1
]

-- so are those that have a status
module _ (told : List ℕ → Option (List ℕ)) where
  abbrev shown : List (List ℕ) → List CounterStatus
  shown names = filter_map (λ counter. with_status counter (told counter)) names

  below_shown : (name : List ℕ) (names : List (List ℕ)) → IsBelow name names → IsBelow name (counters_of (shown names))
  below_shown name [] h = tt
  below_shown name (first ∷ rest) h = elim (told first) as (λ o. IsBelow name (counters_of (cons_option (with_status first o) (shown rest)))) [
    | None ↦ below_shown name rest h.1
    | Some s ↦ (h.0, below_shown name rest h.1)
  ]

  pub shown_ascend : (names : List (List ℕ)) → AreAscending names → AreAscending (counters_of (shown names))
  shown_ascend [] up = tt
  shown_ascend (first ∷ rest) up = elim (told first) as (λ o. AreAscending (counters_of (cons_option (with_status first o) (shown rest)))) [
    | None ↦ shown_ascend rest up.1
    | Some s ↦ (below_shown first rest up.0, shown_ascend rest up.1)
  ]

watched_ascend : (rows : List (List (List ℕ))) (named : List (List ℕ)) → AreAscending (watched rows named)
watched_ascend rows named = some_ascend (is_watched named) _ (names_ascend (counter_rows rows))

pub statuses_up : StatusesAscend
statuses_up rows named spent = shown_ascend (λ counter. status rows counter spent) (watched rows named) (watched_ascend rows named)

pub changes_up : ChangesAscend
changes_up rows named before after = shown_ascend (λ counter. if_another (status rows counter before) (status rows counter after)) (watched rows named) (watched_ascend rows named)
