use Rattle.std.proofs.Common.{◌∙◌, ap, refl, arith}
use Rattle.spend_json.specs.Context.{context_by}
use Rattle.spend_json.specs.ContextWritten.{context_data}
use Rattle.spend_json.proofs.Appended.{reads_alone}
use Rattle.spend_json.proofs.ContextBack.{context_back, context_readable}
use Rattle.spend_json.proofs.context_writer.write_context.Goals as goal

pub returns-clause-reads_back : goal.returns-clause-reads_back
returns-clause-reads_back c = λ fits.
    ap context_by
    (reads_alone c.put_context.new.out.before c.into_bytes.result c.new-writer.result.tokens c.put_context.new.out.tokens (context_data c.args.context.now) 2 (omega arith) (context_readable c.written_values_read_back.ensures c.args.context.now) refl
    (c.in_ok-put_context.ensures.before ∙ c.new-writer.ensures.before ∙ c.from_vec.ensures ∙ c.in_ok-with_capacity.ensures.items) c.new-writer.ensures.tokens c.in_ok-put_context.ensures.ok c.into_bytes.ensures.bytes c.into_bytes.ensures.object)
    ∙ context_back c.written_values_read_back.ensures c.args.context.now fits
