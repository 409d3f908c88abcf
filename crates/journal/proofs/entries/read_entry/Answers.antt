use Rattle.std.proofs.Common.{◌≡◌, ◌+◌, ◌∙◌, ap, get_or, take, drop, arith}
use Rattle.std.proofs.lemmas.List.{take_at}
use Rattle.journal.proofs.Part.{head_there}
use Rattle.journal.proofs.entries.read_entry.Goals as goal

pub returns-clause-head : goal.returns-clause-head
returns-clause-head g c = λ b told here.
    let r = c.in_ok-read.ensures.bytes b told in
    let now : c.deref.result.now ≡ c.read.new.into = c.deref.ensures.value ∙ take_at c.read.new.into _ c.in_ok-bytes.bytes.len (c.read.auto.into ∙ c.deref_mut.ensures.len) in
    head_there c.args.at c.args.size c.in_ok-read.field-0 b c.deref_mut.result.now c.read.new.into c.head_at-head.result r.1 r.0 (omega (arith, c.deref_mut.ensures.len, c.in_ok-bytes.ensures.len)) here
    (c.head_at-head.ensures.gate ∙ ap (λ l. get_or l c.args.size 0) now) (c.head_at-head.ensures.size ∙ ap (λ l. take 4 (drop (c.args.size + 1) l)) now)
