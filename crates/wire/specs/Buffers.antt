-- What a buffer holds (this product's own).
use Rattle.std.specs.Prelude.{ℕ, List}

-- the bytes held, and how many places there are behind them
pub record Buffered : Type 0 where
  pub held : List ℕ
  pub room : ℕ
