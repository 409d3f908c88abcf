-- What is worked out before a commit of what a request does to the accounts: what is free on its account, and left of its session's quotas. No
-- public clause names these.
use Rattle.std.specs.Prelude.{◌≡◌, ◌<◌, ℕ, length}
use Rattle.accounts.specs.Reservations.{at}
use Rattle.accounts.specs.Ledger.{State, free, left}
use Rattle.accounts.specs.Balanced.{IsBalanced}
use Rattle.chf_core.specs.declared.target.Target.{Target}
use Rattle.chf_core.specs.Admits.{OwnsAll}

-- this is free on the account of a request, and this is left for each group of its session
pub record Follows (now : ℕ) (standing : ℕ → ℕ) (t : Target) (s : State) : Type 0 where
  pub known : t.account < length s.accounts
  pub owner : OwnsAll t s
  pub balanced : IsBalanced s t.account
  pub free : now ≡ free s t.account
  pub standing_are : (group : ℕ) → standing group ≡ left s (at t.session group)
