-- Subscriptions to the spending limits of subscribers, by their numbers from 1 (TS 29.594, 5.3).
use Rattle.std.specs.Prelude.{ℕ, zero, suc, ◌+◌, ◌-◌, Bool, List, [], ◌∷◌, ◌++◌, length, Option, Some, None, Result, Ok, Err, if◌then◌else◌, slice_get, slice_set}
use Rattle.std.specs.Option.{is_some}
use Rattle.units.specs.declared.spending.SpendContext.{SpendContext}
use Rattle.counters.specs.declared.refusal.CounterRefusal.{CounterRefusal}
use Rattle.counters.specs.declared.refusal.CounterRefusal.TheVariants.{UnknownCounter, UnknownSubscription}
use Rattle.units.specs.declared.spending.CounterStatus.{CounterStatus}
use Rattle.counters.specs.Watching.{are_known, changes}

-- of each subscription that was ever made its context, where it is live; and for how many more there is room
pub record Kept : Type 0 where
  pub contexts : List (Option SpendContext)
  pub spare : ℕ

-- what is at a place, where that is one that was ever made
abbrev pub where_made : Option (Option SpendContext) → Option SpendContext
where_made None = None
where_made (Some context) = context

-- the context of a subscription, where it is live
abbrev pub context_of : List (Option SpendContext) → ℕ → Option SpendContext
context_of contexts zero = None
context_of contexts (suc place) = where_made (slice_get contexts place)

-- whether a subscription is live
abbrev pub is_live : List (Option SpendContext) → ℕ → Bool
is_live contexts id = is_some (context_of contexts id)

-- one more is made, and gets the next number
abbrev pub subscribed : List (Option SpendContext) → SpendContext → List (Option SpendContext)
subscribed contexts context = contexts ++ Some context ∷ []

-- a subscription has this context from now on, or is no more live
abbrev pub with_context : List (Option SpendContext) → ℕ → Option SpendContext → List (Option SpendContext)
with_context contexts id context = slice_set contexts (id - 1) context

-- ---- what is answered, by the first that holds

-- a named counter is unknown, else the number
abbrev pub subscribe_answer : List (List (List ℕ)) → List (Option SpendContext) → SpendContext → Result ℕ CounterRefusal
subscribe_answer rows contexts context = if are_known rows context.counters then Ok (length contexts + 1) else Err UnknownCounter

-- no live subscription has the number, else a named counter is unknown
abbrev pub modify_answer : List (List (List ℕ)) → List (Option SpendContext) → ℕ → SpendContext → Result (Unit {0}) CounterRefusal
modify_answer rows contexts id context = if is_live contexts id then (if are_known rows context.counters then Ok tt else Err UnknownCounter) else Err UnknownSubscription

-- no live subscription has the number
abbrev pub remove_answer : List (Option SpendContext) → ℕ → Result (Unit {0}) CounterRefusal
remove_answer contexts id = if is_live contexts id then Ok tt else Err UnknownSubscription

-- the changed statuses of the counters that a subscription watches; none where it is not live
abbrev pub changes_for : List (List (List ℕ)) → Option SpendContext → ℕ → ℕ → List CounterStatus
changes_for rows None before after = []
changes_for rows (Some context) before after = changes rows context.counters before after
