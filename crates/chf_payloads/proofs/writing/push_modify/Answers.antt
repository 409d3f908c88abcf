use Rattle.std.proofs.lemmas.Result.{on_ok_weaker}
use Rattle.chf_payloads.proofs.Messages.{modify_back}
use Rattle.chf_payloads.proofs.writing.push_modify.Goals as goal

pub returns-clause-reads_back : goal.returns-clause-reads_back
returns-clause-reads_back c = λ of. on_ok_weaker c.push_context.result (modify_back c.numbers_read_back.ensures c.args.id c.args.context.now of.0) (c.push_context.ensures.reads_back of.1)
