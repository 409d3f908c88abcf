-- Rating groups that are barred for a subscriber (this product's own).
use Rattle.std.specs.Prelude.{ℕ, ◌==◌, Bool, List}
use Rattle.std.specs.List.{list_any}

-- whether a group is among the barred ones
abbrev pub bars : List ℕ → ℕ → Bool
bars barred group = list_any (λ b. b == group) barred
