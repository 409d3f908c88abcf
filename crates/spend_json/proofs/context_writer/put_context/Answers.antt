use Rattle.std.proofs.Common.{refl}
use Rattle.spend_json.specs.ContextWritten.{context_fields}
use Rattle.spend_json.proofs.context_writer.put_context.Goals as goal

pub returns-clause-ok : goal.returns-clause-ok
returns-clause-ok c = c.end_object.ensures.ok c.args.out.now.tokens (context_fields c.args.context.now) (rw (c.in_ok-text-2.ensures.ok, c.as_str-2.ensures, c.in_ok-put_texts.ensures.ok, c.as_slice.ensures, c.in_ok-text.ensures.ok, c.as_str.ensures, c.in_ok-begin_object.ensures.ok) refl) refl
