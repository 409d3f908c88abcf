use Rattle.std.proofs.Common.{◌∷◌, ◌++◌, [], Some, Option, List, length, get_or, length-append, sym, ap, subst, arith}
use Rattle.notices.specs.Watched.{Kept}
use Rattle.units.specs.declared.spending.SpendContext.{SpendContext}
use Rattle.notices.specs.Caches.{AreAligned}
use Rattle.notices.proofs.Aligned.{aligned_push, aligned_length}
use Rattle.notices.proofs.Answered.{rooms_at}
use Rattle.notices.proofs.watchers.Watchers.subscribe.Goals as goal

pub push-requires-clause-few : goal.push-requires-clause-few
push-requires-clause-few c =
    let seen = ap (λ (k : Kept). length k.of.contexts) c.self.view_is in
    omega (arith, seen, c.requires.few, aligned_length c.self.inside.subscriptions.contexts c.self.inside.by_account.accounts c.self.invariant.aligned)

pub push-requires-clause-room : goal.push-requires-clause-room
push-requires-clause-room c =
    let seen = ap (λ (k : Kept). get_or k.rooms c.args.account 0) c.self.view_is in
    omega (arith, seen, c.requires.room, rooms_at c.self.inside.by_account.lists c.args.account)

pub invariant_of-self : goal.invariant_of-self
invariant_of-self c =
    let old = c.self.inside.subscriptions.contexts in
    let accounts = c.self.inside.by_account.accounts in
    let numbers = c.self.inside.numbers.items in
    record {
      aligned = subst (AreAligned c.subscribe.new.self.contexts) (sym c.push.ensures)
          (subst (λ (cs : List (Option SpendContext)). AreAligned cs (accounts ++ Some c.args.account ∷ [])) (sym c.in-Ok.ensures.made) (aligned_push old accounts c.args.context c.args.account c.self.invariant.aligned));
      numbered =
          let a = ap length c.push_reserved.ensures.items in
          let b = ap length c.in-Ok.ensures.made in
          omega (arith, a, b, length-append numbers (0 ∷ []), length-append old (Some c.args.context ∷ []), c.self.invariant.numbered);
    }
