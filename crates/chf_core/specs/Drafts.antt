-- What is worked out of a request before its commit: its moves, what is free on its account after them, what was
-- charged to it, and what is left of its session's quotas. No public clause names these.
use Rattle.std.specs.Prelude.{◌≡◌, ℕ, ◌+◌, nat_eq, unwrap_or}
use Rattle.std.specs.HashMap.{get}
use Rattle.accounts.specs.Reservations.{at}
use Rattle.accounts.specs.Ledger.{State as Money, left, numbers}
use Rattle.accounts.specs.Making.{made, AreMakeable}
use Rattle.chf_core.specs.declared.target.Target.{Target}
use Rattle.chf_core.specs.declared.draft.Draft.{Draft}
use Rattle.chf_core.specs.Trials.{Follows}

-- what is left of a group: as it is kept, else as in the accounts
abbrev pub left_in : Draft → Money → Target → ℕ → ℕ
left_in v accounts t group = unwrap_or (get nat_eq v.lefts group) (left accounts (at t.session group))

-- the accounts as the moves so far leave them
abbrev pub drafted : Draft → Money → Money
drafted v accounts = made v.moves accounts

-- the moves so far can be made, and the draft has what comes of them
pub record Holds (v : Draft) (accounts : Money) (t : Target) : Type 0 where
  pub makeable : AreMakeable v.moves accounts
  pub follows : Follows v.free (left_in v accounts t) t (drafted v accounts)
  pub used : v.used ≡ (numbers (drafted v accounts) t.account).taken + (numbers (drafted v accounts) t.account).owed
