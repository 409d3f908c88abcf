use Rattle.std.proofs.Common.{arith}
use Rattle.acceptance.proofs.lists.claim.Goals as goal

pub returns-in-Ok : goal.returns-in-Ok
returns-in-Ok g c = record {
  held = λ yes. (
    c.requires.held.0,
    c.others_may_claim.ensures c.args.disk.now c.claim.new.self c.args.held.now c.requires.held.0 c.requires.held.1 c.in-Ok.ensures.same c.claim.ensures.crash c.claim.ensures.tells_epoch
        (λ e told. let is = c.in-Ok.ensures.claimed e told in (c.args.epoch, is.1, omega (arith, is.0))),
  );
}
