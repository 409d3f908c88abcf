use Rattle.std.proofs.Common.{arith}
use Rattle.ber.specs.Anything.{anything, one}
use Rattle.ber.proofs.Front.{is_found, is_spelled, is_only, admitted}
use Rattle.ber.proofs.Bounds.{octets_from_places, is_bounded}
use Rattle.ber.proofs.element.read_tlv.Goals as goal

pub returns-clause-found : goal.returns-clause-found
returns-clause-found c = is_spelled anything one c.args.bytes.now _ c.front_tlv.result c.front_tlv.ensures.exact

pub returns-clause-only : goal.returns-clause-only
returns-clause-only c = λ e n within spells. is_only anything one c.args.bytes.now _ c.front_tlv.result c.front_tlv.ensures.exact c.front_tlv.ensures.bound e n within spells (admitted e one)

pub returns-clause-bounded : goal.returns-clause-bounded
returns-clause-bounded c =
    is_bounded anything one c.args.bytes.now _ c.front_tlv.result (octets_from_places c.args.bytes.now (λ i within. omega (arith, c.type_inv.bytes i)))
    (is_found anything one c.args.bytes.now _ c.front_tlv.result c.front_tlv.ensures.exact)
