use Rattle.std.proofs.Common.{◌≡◌, ◌<◌, length, ap, subst, sym, ◌∙◌, IfSome}
use Rattle.std.specs.FinMap as map
use Rattle.accounts.proofs.Changes.{seen_length, charge_done, own_within}
use Rattle.accounts.proofs.accounts.Accounts.charge.Goals as goal
use Rattle.accounts.specs.Reservations.{at}
use Rattle.accounts.specs.Ledger.{Contents}
use Rattle.accounts.specs.Moves.{Charged, after}

pub debited-requires-clause-reserved : goal.debited-requires-clause-reserved
debited-requires-clause-reserved c =
    let t = c.self.inside in
    let lt : c.args.account < length t.accounts.items = subst (λ n. c.args.account < n) (ap (λ (k : Contents). length k.state.accounts) (sym c.self.view_is) ∙ seen_length t.accounts.items) c.requires.known in
    let o : IfSome (map.get t.reservations.of (at c.args.session c.args.group)) (λ h. h.account ≡ c.args.account) = subst (λ (k : Contents). IfSome (map.get k.state.reservations (at c.args.session c.args.group)) (λ h. h.account ≡ c.args.account)) (sym c.self.view_is) c.requires.owner in
    own_within t.accounts.items t.reservations.of t.lines.items c.args.account c.args.session c.args.group c.args.amount c.index-one.result.now c.left-left.result c.parts-parts.result.from_own c.self.invariant lt c.index-one.ensures o
    c.left-left.ensures c.parts-parts.ensures.own

pub invariant_of-self : goal.invariant_of-self
invariant_of-self c =
    let t = c.self.inside in
    let lt : c.args.account < length t.accounts.items = subst (λ n. c.args.account < n) (ap (λ (k : Contents). length k.state.accounts) (sym c.self.view_is) ∙ seen_length t.accounts.items) c.requires.known in
    let o : IfSome (map.get t.reservations.of (at c.args.session c.args.group)) (λ h. h.account ≡ c.args.account) = subst (λ (k : Contents). IfSome (map.get k.state.reservations (at c.args.session c.args.group)) (λ h. h.account ≡ c.args.account)) (sym c.self.view_is) c.requires.owner in
    let d = charge_done t.accounts.items t.reservations.of t.lines.items c.args.account c.args.session c.args.group c.args.lsn c.args.amount c.index-one.result.now c.debited.result c.left-left.result c.parts-parts.result.from_own c.parts-parts.result.from_free c.parts-parts.result.owed
    c.self.invariant lt c.index-one.ensures o c.left-left.ensures c.parts-parts.ensures.own c.parts-parts.ensures.free c.parts-parts.ensures.owed c.debited.ensures.numbers c.debited.ensures.reserved in
    rw (c.lessen.ensures.value, c.push_reserved.ensures.items) d.kept

pub returns-clause-state : goal.returns-clause-state
returns-clause-state c =
    let t = c.self.inside in
    let lt : c.args.account < length t.accounts.items = subst (λ n. c.args.account < n) (ap (λ (k : Contents). length k.state.accounts) (sym c.self.view_is) ∙ seen_length t.accounts.items) c.requires.known in
    let o : IfSome (map.get t.reservations.of (at c.args.session c.args.group)) (λ h. h.account ≡ c.args.account) = subst (λ (k : Contents). IfSome (map.get k.state.reservations (at c.args.session c.args.group)) (λ h. h.account ≡ c.args.account)) (sym c.self.view_is) c.requires.owner in
    let d = charge_done t.accounts.items t.reservations.of t.lines.items c.args.account c.args.session c.args.group c.args.lsn c.args.amount c.index-one.result.now c.debited.result c.left-left.result c.parts-parts.result.from_own c.parts-parts.result.from_free c.parts-parts.result.owed
    c.self.invariant lt c.index-one.ensures o c.left-left.ensures c.parts-parts.ensures.own c.parts-parts.ensures.free c.parts-parts.ensures.owed c.debited.ensures.numbers c.debited.ensures.reserved in
    rw (c.lessen.ensures.value, c.push_reserved.ensures.items) d.state
    ∙ ap (λ (k : Contents). after (Charged c.args.account c.args.session c.args.group c.args.lsn c.args.amount) k.state) c.self.view_is
