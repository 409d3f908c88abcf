use Rattle.std.proofs.Common.{arith}
use Rattle.agenda.proofs.Setting.{set_step, left_step}
use Rattle.agenda.proofs.agenda.set_all.Goals as goal

pub loop-level-preserved : goal.loop-level-preserved
loop-level-preserved c = record {
  value = set_step c.loop-level.rows c.set_row-next.new.rows _ c.loop-level.level c.loop-level.at c.loop-level.next c.set_row-next.result (omega (arith, c.loop-level-test.true, c.loop-level.auto.rows)) c.set_row-next.ensures.rows c.set_row-next.ensures.pair c.loop-level.invariant.value;
  left = left_step c.loop-level.rows c.set_row-next.new.rows c.loop-level.level c.loop-level.at _ (omega (arith, c.loop-level-test.true, c.loop-level.auto.rows)) c.set_row-next.ensures.rows c.loop-level.invariant.left;
}
