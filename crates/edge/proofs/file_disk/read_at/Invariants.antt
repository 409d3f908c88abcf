use Rattle.std.proofs.Common.{◌≤◌, length}
use Rattle.edge.proofs.file_disk.read_at.Given as goal

abbrev pub invariant-loop : goal.invariant-loop
invariant-loop g l = l.done ≤ length l.into
