use Rattle.std.proofs.lemmas.Result.{on_ok_weaker}
use Rattle.chf_payloads.proofs.Messages.{charge_back}
use Rattle.chf_payloads.proofs.writing.push_charge.Goals as goal

pub returns-clause-reads_back : goal.returns-clause-reads_back
returns-clause-reads_back c = λ of. on_ok_weaker c.push_request.result (charge_back c.numbers_read_back.ensures c.args.request.now of.1) (c.push_request.ensures.reads_back of.0)
