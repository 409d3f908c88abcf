use Rattle.std.specs.List.Sorted.{IsNonDecreasingBy}
use Rattle.std.proofs.lemmas.List.Sorted.{IsNonDecreasingBy-take}
use Rattle.notices.proofs.DueOrder.{due_in_order}
use Rattle.std.proofs.Common.{◌≡◌, ◌++◌, get_or, option_to_list, List, ℕ, take, sym, subst, ◌∙◌}
use Rattle.notices.specs.declared.notice.Notice.{Notice}
use Rattle.notices.specs.Due.{notice_of}
use Rattle.notices.proofs.Answered.{one_more}
use Rattle.notices.proofs.watchers.Watchers.notices_of.Goals as goal

pub loop-id-preserved : goal.loop-id-preserved
loop-id-preserved c =
    let f = notice_of c.args.counters.now c.args.self.now.of c.args.before c.args.after in
    let one : c.in_ok-notice_of.field-0 ≡ f (get_or c.args.ids.now c.loop-id.id-index 0) = c.in_ok-notice_of.ensures in
    c.in_ok-add.ensures ∙ (λ i. c.loop-id.invariant i ++ option_to_list (one i)) ∙ one_more f c.args.ids.now c.loop-id.id-index 0 c.loop-id-test.true

pub returns-clause-order : goal.returns-clause-order
returns-clause-order c =
    subst (λ (ns : List Notice). IsNonDecreasingBy (λ (n : Notice). n.id) ns) (sym c.loop-id.invariant)
    (due_in_order c.args.counters.now c.args.self.now.of c.args.before c.args.after (take c.loop-id.id-index c.args.ids.now) (IsNonDecreasingBy-take (λ (x : ℕ). x) c.loop-id.id-index c.args.ids.now c.requires))
