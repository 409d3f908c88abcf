use Rattle.std.proofs.Common.{sym, ap, arith}
use Rattle.smf_model.specs.Freeze.{waiting_count}
use Rattle.smf_core.specs.Draft.{whole}
use Rattle.smf_core.proofs.freeze.drop_oldest.Goals as goal

pub returns-then-waiting-most : goal.returns-then-waiting-most
returns-then-waiting-most c = sym (c.ends_are_still.ensures.dropped c.args.setup.now (whole c.args.before.now c.args.draft.now) (let waiting = c.count_waiting-waiting.ensures in let same = ap waiting_count c.as_slice-holdings.ensures in omega (arith, waiting, same, c.if-waiting-most.true)))
