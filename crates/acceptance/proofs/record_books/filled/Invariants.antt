use Rattle.acceptance.specs.Numbered.{AreNumbered}
use Rattle.acceptance.proofs.record_books.filled.Given as goal

abbrev pub invariant-loop-line : goal.invariant-loop-line
invariant-loop-line l = goal.iterator-loop-line.can_next l.line-iterator × goal.iterator-loop-line.is_finite l.line-iterator × AreNumbered 1 l.book.records.sessions
