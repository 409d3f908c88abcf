use Rattle.std.proofs.Common.{◌≡◌, ◌<◌, ◌≤◌, ◌-◌, ap, ◌∙◌, None, arith, length}
use Rattle.std.specs.FinMap as map
use Rattle.accounts.proofs.Changes.{reserve_stands}
use Rattle.accounts.proofs.accounts.Accounts.reserve.Goals as goal
use Rattle.accounts.specs.Reservations.{at}
use Rattle.accounts.specs.Ledger.{Contents}
use Rattle.accounts.specs.Moves.{Reserved, after}

pub invariant_of-self : goal.invariant_of-self
invariant_of-self c =
    let t = c.self.inside in
    let lt : c.args.account < length t.accounts.items = omega arith in
    let one = c.index-one.result.now in
    let le : c.args.amount ≤ one.topups - one.taken - one.reserved = omega arith in
    let none : map.get t.reservations.of (at c.args.session c.args.group) ≡ None = ap (λ (k : Contents). map.get k.state.reservations (at c.args.session c.args.group)) c.self.view_is ∙ c.requires.none in
    let d = reserve_stands t.accounts.items t.reservations.of t.lines.items c.args.account c.args.session c.args.group c.args.amount c.args.deadline one c.with_reserved.result c.self.invariant lt c.index-one.ensures none le (omega arith) c.with_reserved.ensures.numbers c.with_reserved.ensures.reserved in
    rw c.put.ensures.value d.kept

pub returns-clause-state : goal.returns-clause-state
returns-clause-state c =
    let t = c.self.inside in
    let lt : c.args.account < length t.accounts.items = omega arith in
    let one = c.index-one.result.now in
    let le : c.args.amount ≤ one.topups - one.taken - one.reserved = omega arith in
    let none : map.get t.reservations.of (at c.args.session c.args.group) ≡ None = ap (λ (k : Contents). map.get k.state.reservations (at c.args.session c.args.group)) c.self.view_is ∙ c.requires.none in
    let d = reserve_stands t.accounts.items t.reservations.of t.lines.items c.args.account c.args.session c.args.group c.args.amount c.args.deadline one c.with_reserved.result c.self.invariant lt c.index-one.ensures none le (omega arith) c.with_reserved.ensures.numbers c.with_reserved.ensures.reserved in
    rw c.put.ensures.value d.state ∙ ap (λ (k : Contents). after (Reserved c.args.account c.args.session c.args.group c.args.amount c.args.deadline) k.state) c.self.view_is
