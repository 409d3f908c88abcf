-- What a journal keeps of itself (this product's own).
use Rattle.std.specs.Prelude.{ℕ, zero, suc, ◌+◌, Bool, true, false}

-- a journal: its epoch, the bytes up to and with the closed gate, how many there may be, and whether it is sound
pub record State : Type 0 where
  pub epoch : ℕ
  pub length : ℕ
  pub limit : ℕ
  pub is_sound : Bool

-- a journal after a call that failed
abbrev pub unsound : State → State
unsound s = record s { is_sound = false }

-- a journal that is so many bytes longer
abbrev pub grown : State → ℕ → State
grown s n = record s { length = s.length + n }

-- the epoch of a journal on a disk of this epoch, with a claim or without
abbrev pub epoch_after : Bool → ℕ → ℕ
epoch_after claim zero = 1
epoch_after true (suc e) = suc e + 1
epoch_after false (suc e) = suc e
