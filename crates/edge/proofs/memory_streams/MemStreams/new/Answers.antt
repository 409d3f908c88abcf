use Rattle.std.proofs.Common.{rules}
use Rattle.std.proofs.lemmas.List.{reverse-reverse}
use Rattle.edge.proofs.memory_streams.MemStreams.new.Goals as goal

pub returns : goal.returns
returns c = rw c.reverse.ensures.items (rw reverse-reverse (search rules))
