use Rattle.std.proofs.Common.{◌-◌, None, Option, List, length, sym, ap, subst, ◌∙◌, arith}
use Rattle.std.proofs.Math.ListN.{set}
use Rattle.std.proofs.lemmas.List.{length-set}
use Rattle.units.specs.declared.spending.SpendContext.{SpendContext}
use Rattle.notices.specs.Caches.{AreAligned}
use Rattle.notices.proofs.Aligned.{aligned_end, aligned_length, live_place}
use Rattle.notices.proofs.Answered.{ended_live}
use Rattle.notices.proofs.watchers.Watchers.remove.Goals as goal

pub set-requires-clause-made : goal.set-requires-clause-made
set-requires-clause-made c =
    let place = live_place c.self.inside.subscriptions.contexts c.args.id (ended_live c.self.inside.subscriptions.contexts c.args.id c.in-Ok.field-0 c.in-Ok.ensures.answer) in
    omega (arith, place.made, aligned_length c.self.inside.subscriptions.contexts c.self.inside.by_account.accounts c.self.invariant.aligned)

pub invariant_of-self : goal.invariant_of-self
invariant_of-self c =
    let old = c.self.inside.subscriptions.contexts in
    let accounts = c.self.inside.by_account.accounts in
    let both : AreAligned c.remove.new.self.contexts c.set.new.self.accounts = subst (AreAligned c.remove.new.self.contexts) (sym c.set.ensures.accounts)
    (subst (λ (cs : List (Option SpendContext)). AreAligned cs (set accounts (c.args.id - 1) None)) (sym c.in-Ok.ensures.ended) (aligned_end old accounts (c.args.id - 1) c.self.invariant.aligned)) in
    record {
      aligned = both;
      numbered = c.self.invariant.numbered ∙ sym (ap length c.in-Ok.ensures.ended ∙ length-set old (c.args.id - 1) None);
    }
