use Rattle.std.proofs.Common.{arith}
use Rattle.ber.proofs.Front.{is_found, is_only}
use Rattle.ber.proofs.Bounds.{octets_from_places, is_bounded}
use Rattle.ber.proofs.element.read.Goals as goal

pub returns-clause-found : goal.returns-clause-found
returns-clause-found g c = is_found g.G.Grammar.rules c.args.grammar c.args.bytes.now _ c.first.result c.first.ensures.exact

pub returns-clause-only : goal.returns-clause-only
returns-clause-only g c = is_only g.G.Grammar.rules c.args.grammar c.args.bytes.now _ c.first.result c.first.ensures.exact c.first.ensures.bound

pub returns-clause-bounded : goal.returns-clause-bounded
returns-clause-bounded g c =
    is_bounded g.G.Grammar.rules c.args.grammar c.args.bytes.now _ c.first.result (octets_from_places c.args.bytes.now (λ i within. omega (arith, c.type_inv.bytes i)))
    (is_found g.G.Grammar.rules c.args.grammar c.args.bytes.now _ c.first.result c.first.ensures.exact)
