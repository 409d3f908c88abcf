use Rattle.std.proofs.Common.{◌-◌, Some, Option, List, length, sym, ap, subst, ◌∙◌}
use Rattle.std.proofs.lemmas.List.{length-set}
use Rattle.units.specs.declared.spending.SpendContext.{SpendContext}
use Rattle.counters.specs.Subscriptions.{Kept as Contexts}
use Rattle.notices.specs.Caches.{AreAligned}
use Rattle.notices.proofs.Aligned.{aligned_context, live_place}
use Rattle.notices.proofs.Answered.{modified_live}
use Rattle.notices.proofs.watchers.Watchers.modify.Goals as goal
use Rattle.notices.proofs.watchers.Watchers.modify.Goals.{in-Ok, in-Err}

pub invariant_of-self : goal.invariant_of-self
invariant_of-self c =
    let old = c.self.inside.subscriptions.contexts in
    let accounts = c.self.inside.by_account.accounts in
    elim c.match-modify.branch [
      | in-Ok w ↦
          let place = live_place old c.args.id (modified_live c.args.counters.now old c.args.id c.args.context w.in-Ok.field-0 w.in-Ok.ensures.answer) in
          record {
            aligned = subst (λ (cs : List (Option SpendContext)). AreAligned cs accounts) (sym w.in-Ok.ensures.given) (aligned_context old accounts (c.args.id - 1) c.args.context place.live c.self.invariant.aligned);
            numbered = c.self.invariant.numbered ∙ sym (ap length w.in-Ok.ensures.given ∙ length-set old (c.args.id - 1) (Some c.args.context));
          }
      | in-Err w ↦
          let same = ap (λ (k : Contexts). k.contexts) w.in-Err.ensures.same in
          record {
            aligned = subst (λ (cs : List (Option SpendContext)). AreAligned cs accounts) (sym same) c.self.invariant.aligned;
            numbered = c.self.invariant.numbered ∙ sym (ap length same);
          }
    ]
