-- Which subscriptions to spending limits watch which account (this product's own).
use Rattle.std.specs.Prelude.{ℕ, suc, ◌==◌, Bool, false, List, [], ◌∷◌, Option, Some, None, if◌then◌else◌}

-- whether an account is the one that is watched
abbrev pub watches : ℕ → Option ℕ → Bool
watches account None = false
watches account (Some other) = other == account

-- of the accounts that are watched by subscriptions with numbers from this one on, the numbers of those that watch this
-- account
abbrev pub ids_from : ℕ → List (Option ℕ) → ℕ → List ℕ
ids_from id [] account = []
ids_from id (watched ∷ more) account =
    if watches account watched then id ∷ ids_from (suc id) more account else ids_from (suc id) more account

-- the numbers of the live subscriptions that watch an account, ascending; subscriptions have numbers from 1
abbrev pub watching : List (Option ℕ) → ℕ → List ℕ
watching accounts account = ids_from 1 accounts account
