use Rattle.std.proofs.Common.{◌++◌, ◌∙◌, ap, append_assoc, codes}
use Rattle.std.proofs.lemmas.Result.{on_ok_weaker}
use Rattle.serde_json.specs.Written.{compact_text}
use Rattle.spend_json.specs.ContextWritten.{context_data}
use Rattle.chf_payloads.proofs.Messages.{subscribe_back}
use Rattle.chf_payloads.proofs.writing.push_subscribe.Goals as goal

pub returns-clause-text : goal.returns-clause-text
returns-clause-text c =
    let body = compact_text (context_data c.args.context.now) in
    on_ok_weaker c.push_context.result (λ e. e ∙ ap (λ k. k ++ body) c.in_ok-extend_from_slice.ensures.items ∙ append_assoc c.args.out.now.items (codes "ssubscribe ") body) c.push_context.ensures.text

pub returns-clause-reads_back : goal.returns-clause-reads_back
returns-clause-reads_back c = λ of. on_ok_weaker c.push_context.result (subscribe_back c.args.context.now) (c.push_context.ensures.reads_back of)
