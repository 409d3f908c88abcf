use Rattle.std.proofs.Common.{ap, ◌∙◌, ℕ, nat_eq, unwrap_or, ◌-◌, refl}
use Rattle.std.specs.HashMap.{get}
use Rattle.accounts.specs.Reservations.{at}
use Rattle.accounts.specs.Ledger.{left}
use Rattle.chf_core.specs.declared.draft.Draft.{Draft}
use Rattle.chf_core.proofs.Following.{written}
use Rattle.chf_core.proofs.Drafting.{reserved_holds}
use Rattle.chf_core.proofs.draft.Draft.reserve.Goals as goal

pub returns-clause-holds : goal.returns-clause-holds
returns-clause-holds c =
    let t = c.args.t in
    let v = c.args.self.now in
    let accounts = c.args.accounts.now.state in
    let w : Draft =
    record { free = v.free - c.args.amount; used = v.used; lefts = c.insert.new.self; moves = c.reserve.new.self } in
    let own : ℕ → ℕ = λ g. left accounts (at t.session g) in
    reserved_holds c.moves_change_free.ensures.reserve c.moves_change_free.ensures.balance v w accounts t c.args.group
    c.args.amount c.args.deadline c.requires c.in_ok-reserve.ensures.ok refl refl
    (λ g. ap (λ o. unwrap_or o (own g)) (c.in_ok-insert.ensures.updates.0 g)
    ∙ written (nat_eq c.args.group g) _ (own g) (get nat_eq v.lefts g))
