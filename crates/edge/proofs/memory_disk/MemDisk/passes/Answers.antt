use Rattle.std.proofs.Common.{refl, arith, rules, true, false}
use Rattle.edge.specs.DiskScript.{is_ready}
use Rattle.edge.proofs.Rooms.{room_passed}
use Rattle.edge.proofs.Writes.{settled_images, settled_ranges, settled_size}
use Rattle.edge.proofs.memory_disk.MemDisk.passes.Goals as goal

pub returns-in-Goes-clause-room : goal.returns-in-Goes-clause-room
returns-in-Goes-clause-room c = room_passed c.args.self.now.store c.args.self.now.store c.args.self.now.script.faults c.turn.new.self.faults true (is_ready c.args.self.now.script) (is_ready c.turn.new.self) (search rules)

pub returns-in-Fails-clause-room : goal.returns-in-Fails-clause-room
returns-in-Fails-clause-room c = room_passed c.args.self.now.store c.args.self.now.store c.args.self.now.script.faults c.turn.new.self.faults false (is_ready c.args.self.now.script) (is_ready c.turn.new.self) (search rules)

pub returns-in-Stops-clause-passed : goal.returns-in-Stops-clause-passed
returns-in-Stops-clause-passed c = record {
  same = λ goes. cc;
  later = c.turn.ensures.later;
  rose = λ _. c.in-Stops.ensures.stopped refl;
  images = settled_images _ _ _ c.settle.ensures;
  size = settled_size _ _ _ c.settle.ensures;
  ranges = let none = settled_ranges _ _ _ c.settle.ensures in omega arith;
  goes_on = λ ready. let goes = (c.in-Stops.ensures.ready ready).0 in cc;
}

pub returns-in-Stops-clause-room : goal.returns-in-Stops-clause-room
returns-in-Stops-clause-room c = room_passed c.args.self.now.store c.settle.new.self c.args.self.now.script.faults c.turn.new.self.faults false (is_ready c.args.self.now.script) (is_ready c.turn.new.self) (returns-in-Stops-clause-passed c)
