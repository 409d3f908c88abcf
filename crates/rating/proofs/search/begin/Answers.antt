use Rattle.std.proofs.Common.{◌≡◌, arith, subst, ℕ, get_or}
use Rattle.rating.proofs.Begun.{written, written_more, written_none}
use Rattle.rating.proofs.search.begin.Goals as goal

pub loop-k-init : goal.loop-k-init
loop-k-init c = λ j. written_none c.args.begun.now c.args.hour c.args.count j

pub loop-k-preserved : goal.loop-k-preserved
loop-k-preserved c = λ j. written_more c.args.begun.now c.loop-k.begun c.args.hour c.loop-k.k c.args.count j (omega arith) c.loop-k.auto.k (c.loop-k.invariant j)

pub returns : goal.returns
returns c = λ k.
    let end : c.loop-k.k ≡ 24 = omega arith in
    subst (λ (n : ℕ). get_or c.loop-k.begun k 0 ≡ written c.args.begun.now c.args.hour n c.args.count k) end (c.loop-k.invariant k)
