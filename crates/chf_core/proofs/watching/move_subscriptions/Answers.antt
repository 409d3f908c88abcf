use Rattle.std.proofs.Common.{◌≡◌, ℕ, true, List, All, Option, sym, ap, ◌∙◌, subst}
use Rattle.units.specs.declared.spending.SpendContext.{SpendContext}
use Rattle.counters.specs.Subscriptions.{is_live}
use Rattle.notices.specs.Watched.{Watched}
use Rattle.chf_core.proofs.Stepped.{posted_contexts}
use Rattle.chf_core.proofs.watching.move_subscriptions.Goals as goal

pub move_to-requires-clause-live : goal.move_to-requires-clause-live
move_to-requires-clause-live c =
    let ids = c.args.moving.ids.items in
    let contexts = c.post.new.self.of.contexts in
    let same = ap (λ (w : Watched). w.contexts) c.post.ensures.posted
    ∙ posted_contexts c.args.watchers.now.of c.args.moving.notices.items in
    subst (λ (l : List ℕ). All (λ id. is_live contexts id ≡ true) l) (sym c.deref.ensures.value)
    (subst (λ (x : List (Option SpendContext)). All (λ id. is_live x id ≡ true) ids) (sym same) c.requires.live)
