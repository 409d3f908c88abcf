use Rattle.std.proofs.Common.{rules, ◌≡◌, ap, ◌∙◌, ℕ, nat_eq, unwrap_or, ◌+◌, refl}
use Rattle.std.specs.HashMap.{get}
use Rattle.accounts.specs.Reservations.{at}
use Rattle.accounts.specs.Ledger.{left}
use Rattle.chf_core.specs.declared.draft.Draft.{Draft}
use Rattle.chf_core.proofs.Following.{written}
use Rattle.chf_core.proofs.Drafting.{released_holds}
use Rattle.chf_core.proofs.draft.Draft.release.Goals as goal

pub returns-clause-holds : goal.returns-clause-holds
returns-clause-holds c =
    let t = c.args.t in
    let v = c.args.self.now in
    let accounts = c.args.accounts.now.state in
    let w : Draft =
    record { free = c.in-Some.free; used = v.used; lefts = c.insert.new.self; moves = c.release.new.self } in
    let own : ℕ → ℕ = λ g. left accounts (at t.session g) in
    let free : c.in-Some.free ≡ v.free + c.left-left.result = search rules in
    released_holds c.moves_change_free.ensures.release c.moves_change_free.ensures.balance v w accounts t c.args.group
    c.left-left.result c.left-left.ensures c.in_ok-release.ensures.ok free refl
    (λ g. ap (λ o. unwrap_or o (own g)) (c.in_ok-insert.ensures.updates.0 g)
    ∙ written (nat_eq c.args.group g) _ (own g) (get nat_eq v.lefts g))
