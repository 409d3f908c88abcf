use Rattle.std.proofs.Common.{arith}
use Rattle.ber.proofs.Putting.{header_before}
use Rattle.ber.proofs.backward.put_header.Goals as goal

pub returns-clause-put : goal.returns-clause-put
returns-clause-put c =
    header_before _ _ _ _ _ c.args.free _ _ _ _ (omega arith) (omega arith) (omega (arith, c.put_length.ensures.1)) (omega (arith, c.put_tag.ensures.1, c.put_length.ensures.1)) c.put_length.ensures c.put_tag.ensures
