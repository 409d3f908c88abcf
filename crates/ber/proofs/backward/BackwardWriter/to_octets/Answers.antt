use Rattle.std.proofs.Common.{◌≡◌, ℕ, List, subst}
use Rattle.std.specs.Prelude.{IfOk}
use Rattle.ber.proofs.Shortest.{if_spelled}
use Rattle.ber.proofs.backward.BackwardWriter.to_octets.Goals as goal

pub returns-clause-spells : goal.returns-clause-spells
returns-clause-spells c = λ e is bounded.
    if_spelled e c.copied.result (subst (λ (z : List ℕ). IfOk c.copied.result (λ (l : List ℕ). l ≡ z)) is c.copied.ensures.octets) c.copied.ensures.bound bounded
