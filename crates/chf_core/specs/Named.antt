-- Names in the order in which they came, as the machine keeps them. No public clause names these.
use Rattle.std.specs.Prelude.{◌≡◌, ℕ, List, Option, None, IfSome, IsSome, String, string_bytes}
use Rattle.std.specs.declared.alloc.Global.{Global}
use Rattle.chf_core.specs.Operator.{number_in}

-- the names, the newest first, and for how many more there is room
pub record Named : Type 0 where
  pub list : List (List ℕ)
  pub room : ℕ

-- a name that has no number comes with a copy
abbrev pub IsProvided : List (List ℕ) → List ℕ → Option (String Global) → Type 0
IsProvided names name new = number_in names name ≡ None → IsSome new × IfSome new (λ s. string_bytes s ≡ name)
