use Rattle.std.proofs.Common.{◌≡◌, ◌==◌, ◌+◌, if◌then◌else◌, length, length-append, sym, ap, ◌∙◌, arith, Option, List, ℕ, Some, [], ◌∷◌}
use Rattle.notices.specs.InOrder.{put_in_order}
use Rattle.notices.specs.Places.{Placed}
use Rattle.notices.specs.Watching.{watching}
use Rattle.notices.proofs.Watching.{pushed_ids}
use Rattle.notices.proofs.by_account.ByAccount.push.Goals as goal

pub invariant_of-self : goal.invariant_of-self
invariant_of-self c =
    let ws = c.self.inside.accounts.items in
    let e : c.len.result + 1 ≡ 1 + length ws = omega (arith, c.self.inside.accounts.ok.0, c.len.ensures) in
    record {
      indexed = λ other.
          c.put_into.ensures.ids other
          ∙ (λ i. if c.args.account == other then put_in_order (λ x. x) (c.self.invariant.indexed other i) (e i) else c.self.invariant.indexed other i)
          ∙ pushed_ids 1 ws c.args.account other
          ∙ sym (ap (λ (watched : List (Option ℕ)). watching watched other) c.push_reserved.ensures.items);
      few =
          let size = ap length c.push_reserved.ensures.items in
          let seen = ap (λ (p : Placed). length p.accounts) c.self.view_is in
          omega (arith, size, length-append ws (Some c.args.account ∷ []), seen, c.requires.few);
    }
