use Rattle.std.proofs.Common.{◌+◌, ◌≤◌, ap, arith, drop, sym, subst}
use Rattle.wire.specs.Front.{line_feeds, up_to}
use Rattle.wire.proofs.Fronts.{after_feed, after_other, front_ends, front_lines_few, front_open}
use Rattle.wire.proofs.front.front_of.Goals as goal
use Rattle.wire.proofs.front.front_of.Goals.{then-bytes-at-eq10+else-lines-eq0, else-bytes-at-eq10}

pub returns-then-lines-eq0-clause-front : goal.returns-then-lines-eq0-clause-front
returns-then-lines-eq0-clause-front c =
    let b = c.args.bytes.now in
    let i = c.loop-at.invariant in
    let next = after_feed (up_to 66 b) c.loop-at.lines c.loop-at.at b i.so_far i.some (omega arith) c.if-bytes-at-eq10.true in
    let none = ap (λ n. up_to n (drop (c.loop-at.at + 1) b)) c.if-lines-eq0.true in
    sym (front_ends (c.loop-at.at + 1) b (omega (arith, next, none)) (omega arith) (omega arith))

pub loop-at-preserved : goal.loop-at-preserved
loop-at-preserved c =
    let b = c.args.bytes.now in
    let i = c.loop-at.invariant in
    elim c.if-bytes-at-eq10.branch [
      | then-bytes-at-eq10+else-lines-eq0 w ↦ record { some = omega arith; few = omega arith; so_far = rw w.lines-is (after_feed (up_to 66 b) c.loop-at.lines c.loop-at.at b i.so_far i.some (omega arith) w.if-bytes-at-eq10.true) }
      | else-bytes-at-eq10 w ↦ record { some = omega arith; few = omega arith; so_far = rw w.lines-is (after_other (up_to 66 b) c.loop-at.lines c.loop-at.at b i.so_far i.some (omega arith) w.if-bytes-at-eq10.false) }
    ]

pub returns-clause-front : goal.returns-clause-front
returns-clause-front c = sym (front_open c.min-end.result c.args.bytes.now (omega arith) (omega (arith, c.loop-at.invariant.so_far)))

pub returns-then-lines-eq0-clause-lines : goal.returns-then-lines-eq0-clause-lines
returns-then-lines-eq0-clause-lines c =
    subst (λ f. line_feeds f ≤ 66) (sym (returns-then-lines-eq0-clause-front c)) (front_lines_few c.args.bytes.now)

pub returns-clause-lines : goal.returns-clause-lines
returns-clause-lines c = subst (λ f. line_feeds f ≤ 66) (sym (returns-clause-front c)) (front_lines_few c.args.bytes.now)
