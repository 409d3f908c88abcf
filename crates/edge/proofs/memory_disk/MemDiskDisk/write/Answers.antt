use Rattle.std.proofs.Common.{length, IsTrue, inr, subst, arith}
use Rattle.std.proofs.lemmas.Bool.Decides.{nat_tests}
use Rattle.edge.specs.DiskScript.{is_ready}
use Rattle.edge.specs.Stored.{Stored, IsImageOf}
use Rattle.edge.proofs.Rooms.{room_overrun}
use Rattle.edge.proofs.Writes.{settled_images, write_follows}
use Rattle.edge.proofs.memory_disk.MemDiskDisk.write.Goals as goal

pub returns-then-not-fits-clause-room : goal.returns-then-not-fits-clause-room
returns-then-not-fits-clause-room c =
    room_overrun c.args.self.now.store c.overrun.new.self.store c.args.self.now.script.faults c.overrun.new.self.script.faults c.args.at (length c.args.bytes.now)
    (is_ready c.args.self.now.script) (is_ready c.overrun.new.self.script) c.overrun.ensures.size c.overrun.ensures.ranges c.overrun.ensures.ready
    (λ room few. let fits : IsTrue c.fits.result = c.fits.ensures.1 (room, inr few) in grind (arith, nat_tests))

pub returns-in-Goes-clause-crash : goal.returns-in-Goes-clause-crash
returns-in-Goes-clause-crash c = λ b im. write_follows c.args.self.now.store c.args.at c.args.bytes.now b (subst (λ (t : Stored). IsImageOf t b) c.write.ensures im)

pub returns-in-Stops-clause-crash : goal.returns-in-Stops-clause-crash
returns-in-Stops-clause-crash c = λ b im.
    write_follows c.args.self.now.store c.args.at c.args.bytes.now b (subst (λ (t : Stored). IsImageOf t b) c.write-in-Stops.ensures (settled_images _ _ _ c.settle.ensures b im))
