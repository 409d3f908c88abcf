use Rattle.std.proofs.Common.{arith}
use Rattle.rating.proofs.Sound.{few_rows}
use Rattle.rating.proofs.reading.Reading.next_row.Goals as goal

pub overflow_cast-result : goal.overflow_cast-result
overflow_cast-result c = let few = few_rows c.self.inside.rows c.self.invariant.sound in omega (arith, few, c.len.ensures)

pub overflow_add-result : goal.overflow_add-result
overflow_add-result c = let few = few_rows c.self.inside.rows c.self.invariant.sound in omega (arith, few, c.len.ensures)
