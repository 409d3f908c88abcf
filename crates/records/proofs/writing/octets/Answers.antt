use Rattle.std.proofs.Common.{◌≡◌, ℕ, List, subst}
use Rattle.std.specs.Prelude.{IfOk}
use Rattle.records.specs.Written.{record_element}
use Rattle.records.proofs.Fronted.{alone}
use Rattle.records.proofs.writing.octets.Goals as goal

pub returns-clause-written : goal.returns-clause-written
returns-clause-written c =
    subst (λ (z : List ℕ). IfOk c.to_octets.result (λ (bytes : List ℕ). bytes ≡ z)) (alone (record_element c.args.entry.now) _ _ c.in_ok-whole.ensures c.in_ok-out.ensures) c.to_octets.ensures.octets

pub returns-clause-spells : goal.returns-clause-spells
returns-clause-spells c = λ bounded.
    c.to_octets.ensures.spells (record_element c.args.entry.now) (alone (record_element c.args.entry.now) _ _ c.in_ok-whole.ensures c.in_ok-out.ensures) bounded
