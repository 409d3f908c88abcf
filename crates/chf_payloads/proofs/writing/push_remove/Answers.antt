use Rattle.chf_payloads.proofs.Messages.{always, remove_back}
use Rattle.chf_payloads.proofs.writing.push_remove.Goals as goal

pub returns-clause-reads_back : goal.returns-clause-reads_back
returns-clause-reads_back c = λ of. always c.push_decimal.result (remove_back c.numbers_read_back.ensures c.args.id of)
