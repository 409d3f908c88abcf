use Rattle.std.proofs.Common.{sym, ◌∙◌, arith}
use Rattle.std.proofs.lemmas.List.Sorted.{length_permutation}
use Rattle.std.specs.HashMap.{get}
use Rattle.accounts.specs.Reservations.{key_eq}
use Rattle.accounts.specs.Deadlines.{deadline_of}
use Rattle.accounts.proofs.Indexed.{pop_due}
use Rattle.accounts.proofs.reservations.settle_due.Goals as goal

pub loop-first-smaller : goal.loop-first-smaller
loop-first-smaller c =
    let fewer = length_permutation _ _ (c.pop.ensures.less c.in-Some.first (sym c.first.ensures.value ∙ c.in-Some.is)) in
    omega arith

pub loop-first-preserved : goal.loop-first-preserved
loop-first-preserved c =
    let moved = c.pop.ensures.less c.in-Some.first (sym c.first.ensures.value ∙ c.in-Some.is) in (
      pop_due (λ k. deadline_of (get key_eq c.args.table.now k)) c.loop-first.due.dues c.pop.new.self.dues c.in-Some.first c.loop-first.invariant.0 moved (λ e. let due = c.is_due.ensures.1 e in absurd (cc)),
      let before = c.loop-first.invariant.1 in omega arith,
    )
