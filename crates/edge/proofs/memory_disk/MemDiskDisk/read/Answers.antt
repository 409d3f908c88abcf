use Rattle.std.proofs.Common.{ℕ, Some, ap, IsTrue, rules}
use Rattle.edge.specs.Stored.{Stored}
use Rattle.edge.proofs.memory_disk.MemDiskDisk.read.Goals as goal

pub returns-clause-quiet : goal.returns-clause-quiet
returns-clause-quiet c =
    let goes : IsTrue c.passes.result = search rules in
    let passed = c.passes.ensures.passed in
    record {
      same = ap (λ (s : Stored). Some s.bytes) (passed.same goes).0;
      epoch = ap (λ (e : ℕ). Some e) c.passes.ensures.epoch;
      crash = passed.images;
      cause = record { later = passed.later; rose = λ failed. cc };
      room = c.passes.ensures.room;
    }
