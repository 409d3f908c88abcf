use Rattle.rows.proofs.Split.{first_split, last_split}
use Rattle.rows.proofs.pieces.piece_length.Goals as goal

pub returns-else-text-at-clause-first : goal.returns-else-text-at-clause-first
returns-else-text-at-clause-first c = first_split c.args.separator c.loop-at.at c.args.text.now c.loop-at.invariant.run c.if-text-at.false

pub returns-after-loop-at-clause-last : goal.returns-after-loop-at-clause-last
returns-after-loop-at-clause-last c = last_split c.args.separator c.loop-at.at c.args.text.now c.loop-at.invariant.run c.loop-at.invariant.within
