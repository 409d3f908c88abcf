use Rattle.std.proofs.Common.{◌≡◌, ◌-◌, ◌<◌, if◌then◌else◌, length, ap, ◌∙◌, arith, Option, ℕ, None, get_or}
use Rattle.std.proofs.lemmas.List.{get_or_default, length-set}
use Rattle.notices.specs.InOrder.{without_first}
use Rattle.notices.specs.Places.{Placed, ids_at}
use Rattle.notices.specs.Watching.{watches}
use Rattle.notices.proofs.Watching.{set_ids}
use Rattle.notices.proofs.by_account.ByAccount.set.Goals as goal

pub invariant_of-self : goal.invariant_of-self
invariant_of-self c =
    let ws = c.self.inside.accounts.items in
    let at = c.args.id - 1 in
    let seen = ap (λ (p : Placed). length p.accounts) c.self.view_is in
    let within : at < length ws = omega (arith, seen, c.requires.some, c.requires.made) in
    let from : c.index.result.now ≡ get_or ws at None = c.index.ensures ∙ get_or_default ws at c.index.result.now None within in
    record {
      indexed = λ other.
          set_ids ws at c.args.id other c.args.account (ids_at c.self.inside.lists.items other) (ids_at c.leave.new.lists.items other) (ids_at c.enter.new.lists.items other) within (omega (arith, c.requires.some))
          (c.self.invariant.indexed other)
          (c.leave.ensures.ids other ∙ ap (λ (w : Option ℕ). if watches other w then without_first (λ x. x) (ids_at c.self.inside.lists.items other) c.args.id else ids_at c.self.inside.lists.items other) from)
          (c.enter.ensures.ids other);
      few = let size = length-set ws at c.args.account in let few = c.self.invariant.few in omega arith;
    }
