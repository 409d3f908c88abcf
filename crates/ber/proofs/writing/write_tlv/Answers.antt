use Rattle.ber.specs.Element.{element}
use Rattle.ber.proofs.Shortest.{if_spelled, if_read_again}
use Rattle.ber.proofs.writing.write_tlv.Goals as goal

pub returns-clause-spells : goal.returns-clause-spells
returns-clause-spells c = λ bounded. if_spelled (element c.args.tlv.now) c.octets.result c.octets.ensures.written c.octets.ensures.bound bounded

pub returns-clause-reads_back : goal.returns-clause-reads_back
returns-clause-reads_back c = λ bounded. if_read_again (element c.args.tlv.now) c.octets.result c.octets.ensures.written bounded
