use Rattle.std.proofs.Common.{◌≡◌, ◌<◌, List, sym, ap, subst, ◌∙◌, arith}
use Rattle.std.specs.Prelude.{vec_len}
use Rattle.std.specs.List.Sorted.{IsNonDecreasingBy}
use Rattle.std.proofs.lemmas.Bool.Decides.{nat_tests}
use Rattle.notices.specs.declared.notice.Notice.{Notice}
use Rattle.notices.specs.InOrder.{all_put}
use Rattle.notices.specs.Waiting.{Waiting}
use Rattle.notices.proofs.Merged.{in_order_still}
use Rattle.notices.proofs.unsent.Unsent.put_all.Goals as goal

pub merge-requires-clause-room : goal.merge-requires-clause-room
merge-requires-clause-room c =
    let seen = ap (λ (w : Waiting). w.room) c.self.view_is in
    let some : 0 < vec_len c.args.notices = grind (arith, nat_tests, c.is_empty.ensures, c.if-is_empty.false) in
    omega (arith, seen, c.requires.room, some)

pub invariant_of-self : goal.invariant_of-self
invariant_of-self c =
    let filled : c.swap.new.x.items ≡ all_put (λ (n : Notice). n.id) c.self.inside.inner.items c.args.notices.items = (λ i. (c.swap.ensures.x_after i).items) ∙ c.merge.ensures.merged in (
      subst (λ (ns : List Notice). IsNonDecreasingBy (λ (n : Notice). n.id) ns) (sym filled) (in_order_still c.self.inside.inner.items c.args.notices.items c.self.invariant.0),
      (λ i. (c.swap.ensures.y_after i).items) ∙ c.merge.ensures.gone,
    )
