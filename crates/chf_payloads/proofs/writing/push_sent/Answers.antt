use Rattle.chf_payloads.proofs.Messages.{always, sent_back}
use Rattle.chf_payloads.proofs.writing.push_sent.Goals as goal

pub returns-clause-reads_back : goal.returns-clause-reads_back
returns-clause-reads_back c =
    λ of. always c.push_decimal.result (sent_back c.numbers_read_back.ensures c.args.id c.args.number of.0 of.1)
