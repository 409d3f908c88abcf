-- Which notices come of a change of what was spent on an account (TS 29.594, 4.2.4).
use Rattle.std.specs.Prelude.{ℕ, ◌+◌, ◌-◌, Bool, false, List, [], ◌∷◌, Option, Some, None, bytes_eq, filter, filter_map, slice_index}
use Rattle.units.specs.declared.spending.SpendContext.{SpendContext}
use Rattle.units.specs.declared.spending.CounterStatus.{CounterStatus}
use Rattle.counters.specs.Watching.{changes}
use Rattle.counters.specs.Subscriptions.{context_of}
use Rattle.notices.specs.declared.notice.Notice.{Notice}
use Rattle.notices.specs.Watching.{watching}
use Rattle.notices.specs.Watched.{Watched}

-- how many notices were made of a subscription
abbrev pub made_of : Watched → ℕ → ℕ
made_of w id = slice_index w.numbers (id - 1)

-- the notice of a subscription with this context whose watched counters have these new statuses, where there are any:
-- it comes after so many others, and goes to the address that the context has
abbrev pub notice_with : ℕ → ℕ → SpendContext → List CounterStatus → Option Notice
notice_with id before context [] = None
notice_with id before context (info ∷ infos) = Some (record {
  id = id;
  number = before + 1;
  notify = context.notify;
  status = record { supi = context.supi; infos = info ∷ infos };
})

-- the same of a subscription that may have ended
abbrev pub notice_by : List (List (List ℕ)) → ℕ → ℕ → ℕ → ℕ → Option SpendContext → Option Notice
notice_by rows id made before after None = None
notice_by rows id made before after (Some context) =
    notice_with id made context (changes rows context.counters before after)

-- the notice of a subscription once so much was spent, where so much was spent before: none where no counter that it
-- watches has another status
abbrev pub notice_of : List (List (List ℕ)) → Watched → ℕ → ℕ → ℕ → Option Notice
notice_of rows w before after id = notice_by rows id (made_of w id) before after (context_of w.contexts id)

-- those of some subscriptions
abbrev pub notices_of : List (List (List ℕ)) → Watched → ℕ → ℕ → List ℕ → List Notice
notices_of rows w before after ids = filter_map (notice_of rows w before after) ids

-- those of the live subscriptions that watch an account
abbrev pub due : List (List (List ℕ)) → Watched → ℕ → ℕ → ℕ → List Notice
due rows w account before after = notices_of rows w before after (watching w.accounts account)

-- a context is of a subscriber
abbrev pub is_of : List ℕ → Option SpendContext → Bool
is_of supi None = false
is_of supi (Some context) = bytes_eq context.supi supi

-- the live subscriptions of a subscriber that watch an account, ascending
abbrev pub watching_for : Watched → List ℕ → ℕ → List ℕ
watching_for w supi account = filter (λ id. is_of supi (context_of w.contexts id)) (watching w.accounts account)
