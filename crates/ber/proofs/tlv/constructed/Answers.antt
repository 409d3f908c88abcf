use Rattle.ber.proofs.Turns.{element-constructed}
use Rattle.ber.proofs.tlv.constructed.Goals as goal

pub returns : goal.returns
returns c = element-constructed c.args.tag.now.class c.args.tag.now.number c.args.inner
