use Rattle.std.proofs.Common.{◌∙◌, ap, refl, arith}
use Rattle.spend_json.specs.Status.{status_by}
use Rattle.spend_json.specs.StatusWritten.{status_data}
use Rattle.spend_json.proofs.Appended.{reads_alone}
use Rattle.spend_json.proofs.StatusBack.{status_back, status_readable}
use Rattle.spend_json.proofs.status_writer.write_status.Goals as goal

pub returns-clause-reads_back : goal.returns-clause-reads_back
returns-clause-reads_back c = λ fits.
    ap status_by
    (reads_alone c.put_status.new.out.before c.into_bytes.result c.new-writer.result.tokens c.put_status.new.out.tokens (status_data c.args.status.now) 3 (omega arith) (status_readable c.written_values_read_back.ensures c.args.status.now fits.ascending) refl
    (c.in_ok-put_status.ensures.before ∙ c.new-writer.ensures.before ∙ c.from_vec.ensures ∙ c.in_ok-with_capacity.ensures.items) c.new-writer.ensures.tokens (c.in_ok-put_status.ensures.ok fits.ascending) c.into_bytes.ensures.bytes c.into_bytes.ensures.object)
    ∙ status_back c.written_values_read_back.ensures c.args.status.now fits
