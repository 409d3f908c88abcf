use Rattle.std.proofs.Common.{◌∙◌, ap, refl, arith}
use Rattle.charging_json.specs.Request.{request_by}
use Rattle.charging_json.specs.RequestWritten.{request_data}
use Rattle.charging_json.proofs.Appended.{appended, reads_as_object}
use Rattle.charging_json.proofs.Lengths.{request_long}
use Rattle.charging_json.proofs.RequestBack.{request_back}
use Rattle.charging_json.proofs.RequestReadable.{request_readable}
use Rattle.charging_json.proofs.request_writer.append_request.Goals as goal

pub returns-in-Ok-clause-text : goal.returns-in-Ok-clause-text
returns-in-Ok-clause-text c = appended c.args.out.now c.replace.result c.new-writer.result.before c.put_request.new.out.before c.into_bytes.result c.new-writer.result.tokens c.put_request.new.out.tokens (request_data c.args.request.now)
    c.replace.ensures.value c.new-writer.ensures.before c.put_request.ensures.before c.new-writer.ensures.tokens c.in-Ok.ensures.ok c.into_bytes.ensures.bytes c.into_bytes.ensures.text

pub returns-in-Ok-clause-bytes : goal.returns-in-Ok-clause-bytes
returns-in-Ok-clause-bytes c = request_long c.written_values_read_back.ensures c.args.request.now

pub returns-in-Err-clause-bytes : goal.returns-in-Err-clause-bytes
returns-in-Err-clause-bytes c = request_long c.written_values_read_back.ensures c.args.request.now

pub returns-in-Ok-clause-reads_back : goal.returns-in-Ok-clause-reads_back
returns-in-Ok-clause-reads_back c = λ fits.
    ap (request_by c.args.request.now.operation)
    (reads_as_object c.new-writer.result.tokens c.put_request.new.out.tokens (request_data c.args.request.now) 7 (omega arith) (request_readable c.written_values_read_back.ensures c.args.request.now fits) refl
    c.new-writer.ensures.tokens c.in-Ok.ensures.ok c.into_bytes.ensures.text c.into_bytes.ensures.object)
    ∙ request_back c.written_values_read_back.ensures c.times_read_back.ensures c.args.request.now fits
