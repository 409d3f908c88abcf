use Rattle.std.proofs.Common.{rules}
use Rattle.wire.proofs.ResponseBack.{response_back}
use Rattle.wire.proofs.response_text.response_bytes.Goals as goal

pub returns-clause-reads_back : goal.returns-clause-reads_back
returns-clause-reads_back c = λ fit small more. response_back c.args.status c.args.close _ c.args.body.now c.from_vec.result more (search rules) c.requires.within fit small
