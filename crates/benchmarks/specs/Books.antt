-- What the turns on accounts keep (this product's own).
use Rattle.std.specs.Prelude.{ℕ, ◌<◌, ◌==◌, length}
use Rattle.accounts.specs.Ledger.{State}
use Rattle.accounts.specs.Steps.{AreOwned}

-- there is a first account, and each reservation is on it
pub record IsOnFirst (s : State) : Type 0 where
  pub exists : 0 < length s.accounts
  pub owned : AreOwned (λ key account. account == 0) s
