use Rattle.std.proofs.lemmas.Result.{on_ok_weaker}
use Rattle.smf_payloads.proofs.Replies.{Laws, answer_back}
use Rattle.smf_payloads.proofs.writing.push_answer.Goals as goal

pub returns-clause-reads_back : goal.returns-clause-reads_back
returns-clause-reads_back c = λ of.
    let laws : Laws = record { numbers = c.numbers_read_back.ensures; words = c.words_read_back.ensures; fields = c.fields_have_field_bytes.ensures } in
    on_ok_weaker c.push_reply.result (answer_back laws c.args.session c.args.number c.args.reply.now of.0 of.1 of.2 c.push_reply.ensures.status) (c.push_reply.ensures.reads_back of.2)
