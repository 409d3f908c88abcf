use Rattle.std.proofs.Common.{ℕ, List, sym, subst}
use Rattle.std.specs.List.{Contains}
use Rattle.std.specs.List.Sorted.{IsNonDecreasing}
use Rattle.std.proofs.lemmas.List.Sorted.{IsNonDecreasingBy-from_sort, Contains-permutation}
use Rattle.records.specs.Seen.{sessions_seen, EachClosable}
use Rattle.records.proofs.EachClosable.{weaker, of_none}
use Rattle.records.proofs.touched.sweep_all.Goals as goal

pub sweep_these-requires-clause-touched : goal.sweep_these-requires-clause-touched
sweep_these-requires-clause-touched c =
    let each = weaker (Contains c.args.touched.now.items) (Contains c.sort_unstable.new.self.items) (sessions_seen c.args.sessions.now) (λ n h. Contains-permutation _ _ n c.sort_unstable.ensures.permutation h) c.requires.touched in
    subst (λ (ns : List ℕ). EachClosable (Contains ns) (sessions_seen c.args.sessions.now)) (sym c.deref.ensures.value) each

pub sweep_these-requires-clause-order : goal.sweep_these-requires-clause-order
sweep_these-requires-clause-order c = subst IsNonDecreasing (sym c.deref.ensures.value) (IsNonDecreasingBy-from_sort (λ n. n) _ c.sort_unstable.ensures.sorted)

pub returns-clause-touched : goal.returns-clause-touched
returns-clause-touched c = of_none _ (sessions_seen c.sweep_these.new.sessions) c.sweep_these.ensures.none
