-- Subscriptions to spending limits with the notices that are made of them, and what happens to them (TS 29.594, 4.2 and
-- 5.3).
use Rattle.std.specs.Prelude.{ℕ, ◌-◌, ◌==◌, Bool, false, List, [], ◌∷◌, ◌++◌, Option, Some, None, find, fold, slice_set}
use Rattle.units.specs.declared.spending.SpendContext.{SpendContext}
use Rattle.counters.specs.Subscriptions.{subscribed, with_context}
use Rattle.notices.specs.declared.notice.Notice.{Notice}
use Rattle.notices.specs.InOrder.{put_in_order, without_first}

-- of each subscription that was ever made: its context and the account that it watches, where it is live, and how many
-- notices were made of it; and the notices that were not sent yet, by the numbers of their subscriptions, those of one
-- in the order in which they were made
pub record Watched : Type 0 where
  pub contexts : List (Option SpendContext)
  pub accounts : List (Option ℕ)
  pub numbers : List ℕ
  pub unsent : List Notice

-- the same; and for how many more there is room: subscriptions, live ones of each account, and notices
pub record Kept : Type 0 where
  pub of : Watched
  pub spare : ℕ
  pub rooms : List ℕ
  pub places : ℕ

-- before any subscription
abbrev pub nothing_watched : Watched
nothing_watched = record { contexts = []; accounts = []; numbers = []; unsent = [] }

-- a subscription is made, which watches an account
abbrev pub subscribed_on : Watched → SpendContext → ℕ → Watched
subscribed_on w context account = record {
  contexts = subscribed w.contexts context;
  accounts = w.accounts ++ Some account ∷ [];
  numbers = w.numbers ++ 0 ∷ [];
  unsent = w.unsent;
}

-- a subscription has another context
abbrev pub modified : Watched → ℕ → SpendContext → Watched
modified w id context = record w { contexts = with_context w.contexts id (Some context) }

-- a subscription ends, and watches no account
abbrev pub ended : Watched → ℕ → Watched
ended w id = record w { contexts = with_context w.contexts id None; accounts = slice_set w.accounts (id - 1) None }

-- some subscriptions watch another account
abbrev pub moved_to : ℕ → List (Option ℕ) → List ℕ → List (Option ℕ)
moved_to account accounts ids = fold (λ before id. slice_set before (id - 1) (Some account)) accounts ids

-- after they do
abbrev pub moved : Watched → List ℕ → ℕ → Watched
moved w ids account = record w { accounts = moved_to account w.accounts ids }

-- a notice is made: it waits after those of its subscription that were made before it
abbrev pub posted : Watched → Notice → Watched
posted w notice = record w {
  numbers = slice_set w.numbers (notice.id - 1) notice.number;
  unsent = put_in_order (λ n. n.id) w.unsent notice;
}

-- notices are made, in this order
abbrev pub all_posted : Watched → List Notice → Watched
all_posted w notices = fold posted w notices

-- the first notice of a subscription that was not sent yet
abbrev pub first_of : List Notice → ℕ → Option Notice
first_of unsent id = find (λ n. n.id == id) unsent

-- a notice has this number
abbrev pub is_numbered : ℕ → Option Notice → Bool
is_numbered number None = false
is_numbered number (Some notice) = notice.number == number

-- the notice with a number is the first of its subscription that was not sent yet
abbrev pub is_first : Watched → ℕ → ℕ → Bool
is_first w id number = is_numbered number (first_of w.unsent id)

-- the first notice of a subscription was sent
abbrev pub sent : Watched → ℕ → Watched
sent w id = record w { unsent = without_first (λ n. n.id) w.unsent id }
