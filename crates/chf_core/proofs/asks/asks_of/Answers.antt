use Rattle.std.proofs.Common.{rules, ◌≡◌, ◌<◌, ◌+◌, ◌++◌, ◌∙◌, sym, ap, length, take, drop, true, false, not, cond, nat_eq}
use Rattle.std.specs.HashMap.{get}
use Rattle.chf_core.specs.Effect.{asks_after, mentions}
use Rattle.chf_core.proofs.FirstAsks.{asking_next, mentioned_next, mentions_more, opposite}
use Rattle.chf_core.proofs.asks.asks_of.Goals as goal
use Rattle.chf_core.proofs.asks.asks_of.Goals.{then-branch+in_ok-push_asking, else-branch}

pub loop-entry-preserved : goal.loop-entry-preserved
loop-entry-preserved c =
    let u = c.entry-item.result in
    let i = c.loop-entry.entry-index in
    let usage = c.args.usage.now in
    let later = asks_after (take (i + 1) usage) (drop (i + 1) usage) in
    let within : i < length usage = search rules in
    let at = c.entry-item.is in
    let is_new : c.in_ok-insert.field-0 ≡ not (mentions (take i usage) u.group) = c.in_ok-insert.ensures.added ∙ ap not (c.loop-entry.invariant.seen u.group) in
    record {
      seen = λ g. (c.in_ok-insert.ensures.updates).0 g ∙ ap (λ k. cond (nat_eq u.group g) true k) (c.loop-entry.invariant.seen g) ∙ sym (mentions_more usage i u within at g);
      rest = elim c.if-branch.branch [
        | then-branch+in_ok-push_asking w ↦
            let new : mentions (take i usage) u.group ≡ false = opposite c.in_ok-insert.field-0 (mentions (take i usage) u.group) true is_new w.if-branch.true in
            ap (λ k. k.items ++ later) w.asks-is ∙ ap (λ k. k ++ later) w.in_ok-push_asking.ensures
            ∙ asking_next c.loop-entry.asks.items usage i u (get nat_eq c.in_ok-first.first u.group) within at new (c.in_ok-first.ensures u.group) c.loop-entry.invariant.rest
        | else-branch w ↦
            let old : mentions (take i usage) u.group ≡ true = opposite c.in_ok-insert.field-0 (mentions (take i usage) u.group) false is_new w.if-branch.false in
            ap (λ k. k.items ++ later) w.asks-is ∙ mentioned_next c.loop-entry.asks.items usage i u within at old c.loop-entry.invariant.rest
      ];
    }
