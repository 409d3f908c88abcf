-- What is kept beside the meaning of subscriptions and their notices. No public clause names these.
use Rattle.std.specs.Prelude.{◌≡◌, ◌-◌, ℕ, ⊤, min, List, [], ◌∷◌, length, map, Option, is_some, vec_len, vec_capacity}
use Rattle.units.specs.declared.spending.SpendContext.{SpendContext}
use Rattle.notices.specs.declared.watchers.Watchers.TheInside.{Inside}
use Rattle.notices.specs.Watched.{Watched, Kept}

-- a subscription watches an account exactly where it is live
abbrev pub AreAligned : List (Option SpendContext) → List (Option ℕ) → Type 0
AreAligned [] [] = ⊤
AreAligned [] (account ∷ accounts) = ⊥
AreAligned (context ∷ contexts) [] = ⊥
AreAligned (context ∷ contexts) (account ∷ accounts) =
    (is_some context ≡ is_some account) × AreAligned contexts accounts

-- what the fields stand for
abbrev pub watched_in : Inside → Watched
watched_in w = record {
  contexts = w.subscriptions.contexts;
  accounts = w.by_account.accounts;
  numbers = w.numbers.items;
  unsent = w.unsent.notices;
}

-- and for how many more there is room
abbrev pub kept : Inside → Kept
kept w = record {
  of = watched_in w;
  spare = min (min w.subscriptions.spare w.by_account.spare) (vec_capacity w.numbers - vec_len w.numbers);
  rooms = map (λ l. l.room) w.by_account.lists;
  places = w.unsent.room;
}

-- what holds of them
pub record IsKept (w : Inside) : Type 0 where
  pub aligned : AreAligned w.subscriptions.contexts w.by_account.accounts
  pub numbered : length w.numbers.items ≡ length w.subscriptions.contexts
