use Rattle.std.proofs.Common.{rules, ◌+◌, Some, take, false}
use Rattle.edge.specs.Visits.{connections_of}
use Rattle.edge.proofs.Visited.{written_after, written_more}
use Rattle.edge.proofs.memory_streams.MemStreams.write.Goals as goal

pub returns-in-Ok : goal.returns-in-Ok
returns-in-Ok c = record {
  whole = search rules;
  some = search rules;
  taken = written_after (take c.min-count.result c.args.bytes.now) false c.args.self.now.connections
      (connections_of c.extend_from_slice.new.self.items (Some (record c.in-Some.visit { to = c.in-Some.visit.to + c.min-count.result })) c.self.inside.earlier.items)
      (rw (← c.self.view_is, c.in-Some.is) (rw c.in-Ok.ensures.items (written_more c.self.inside.held.items (take c.min-count.result c.args.bytes.now) c.min-count.result c.in-Some.visit c.self.inside.earlier.items (search rules) (search rules) (search rules))));
  connections = rw (← c.self.view_is, c.in-Some.is) (rw c.in-Ok.ensures.items (written_more c.self.inside.held.items (take c.min-count.result c.args.bytes.now) c.min-count.result c.in-Some.visit c.self.inside.earlier.items (search rules) (search rules) (search rules)));
  script = search rules;
  cause = search rules;
  rest = search rules;
}
