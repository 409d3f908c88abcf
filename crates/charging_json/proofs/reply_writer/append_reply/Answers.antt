use Rattle.charging_json.proofs.Replies.{created_back, updated_back, refused_back}
use Rattle.charging_json.proofs.reply_writer.append_reply.Goals as goal

pub returns-in-Created-clause-reads_back : goal.returns-in-Created-clause-reads_back
returns-in-Created-clause-reads_back c = created_back c.append_answer.result c.args.reply.now c.in-Created.reference c.in-Created.answer c.in-Created.is c.written_values_read_back.ensures c.times_read_back.ensures c.append_answer.ensures.body

pub returns-in-Updated-clause-reads_back : goal.returns-in-Updated-clause-reads_back
returns-in-Updated-clause-reads_back c = updated_back c.append_answer-in-Updated.result c.args.reply.now c.in-Updated.answer c.in-Updated.is c.written_values_read_back.ensures c.times_read_back.ensures c.append_answer-in-Updated.ensures.body

pub returns-in-Refused-clause-reads_back : goal.returns-in-Refused-clause-reads_back
returns-in-Refused-clause-reads_back c = refused_back c.append_problem.result c.args.reply.now c.in-Refused.problem c.in-Refused.is c.written_values_read_back.ensures c.append_problem.ensures.body
