use Rattle.std.proofs.Common.{ap, sym, ◌∙◌}
use Rattle.std.specs.FinMap as map
use Rattle.accounts.proofs.Changes.{release_fits, release_stands, release_none}
use Rattle.accounts.proofs.accounts.Accounts.release.Goals as goal
use Rattle.accounts.specs.Reservations.{at}
use Rattle.accounts.specs.Ledger.{Contents}
use Rattle.accounts.specs.Moves.{Released, after}

pub overflow_sub-one : goal.overflow_sub-one
overflow_sub-one c =
    let t = c.self.inside in
    release_fits t.accounts.items t.reservations.of t.lines.items (at c.args.session c.args.group) c.in-Some.reservation c.index-one.result.now c.self.invariant (sym c.get.ensures ∙ c.in-Some.is) c.index-one.ensures

pub invariant_of-self : goal.invariant_of-self
invariant_of-self c =
    let t = c.self.inside in
    let d = release_stands t.accounts.items t.reservations.of t.lines.items c.args.session c.args.group c.in-Some.reservation c.index-one.result.now c.with_reserved.result c.self.invariant (sym c.get.ensures ∙ c.in-Some.is) c.index-one.ensures c.with_reserved.ensures.numbers c.with_reserved.ensures.reserved in
    rw c.remove.ensures.value d.kept

pub returns-in-Some-clause-state : goal.returns-in-Some-clause-state
returns-in-Some-clause-state c =
    let t = c.self.inside in
    let d = release_stands t.accounts.items t.reservations.of t.lines.items c.args.session c.args.group c.in-Some.reservation c.index-one.result.now c.with_reserved.result c.self.invariant (sym c.get.ensures ∙ c.in-Some.is) c.index-one.ensures c.with_reserved.ensures.numbers c.with_reserved.ensures.reserved in
    rw c.remove.ensures.value d.state ∙ ap (λ (k : Contents). after (Released c.args.session c.args.group) k.state) c.self.view_is

pub returns-in_default-clause-state : goal.returns-in_default-clause-state
returns-in_default-clause-state c =
    release_none c.args.self.now.state c.args.session c.args.group (ap (λ (k : Contents). map.get k.state.reservations (at c.args.session c.args.group)) (sym c.self.view_is) ∙ sym c.get.ensures ∙ c.in_default.is)
