use Rattle.std.proofs.Common.{arith, refl}
use Rattle.json_objects.specs.ReadBack.{CanBeRead}
use Rattle.charging_json.specs.ReplyWritten.{problem_fields, problem_data}
use Rattle.charging_json.proofs.Appended.{either_way}
use Rattle.charging_json.proofs.ReplyReadable.{problem_readable}
use Rattle.charging_json.proofs.reply_writer.put_problem.Goals as goal

pub returns-clause-ok : goal.returns-clause-ok
returns-clause-ok c = c.end_object.ensures.ok c.args.out.now.tokens (problem_fields c.args.problem.now) (rw (c.in_ok-number_32.ensures.ok, c.from.ensures, c.in_ok-text_if.ensures.ok, c.in_ok-text.ensures.ok, c.as_str.ensures, c.in_ok-begin_object.ensures.ok) refl) refl

pub returns-clause-readable : goal.returns-clause-readable
returns-clause-readable c = either_way c.end_object.result (CanBeRead 1 (problem_data c.args.problem.now)) (problem_readable c.written_values_read_back.ensures c.args.problem.now (omega arith))
