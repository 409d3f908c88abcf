use Rattle.std.proofs.Common.{length, ap, arith, length-take}
use Rattle.edge.specs.Stored.{Stored}
use Rattle.edge.proofs.disk_store.Store.ranges.Goals as goal

pub returns-clause-value : goal.returns-clause-value
returns-clause-value c = let e = ap (λ (s : Stored). length s.spans) c.self.view_is in omega (arith, length-take c.self.inside.count c.self.inside.kept, c.self.invariant, e)
