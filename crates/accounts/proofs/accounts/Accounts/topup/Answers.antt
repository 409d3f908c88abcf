use Rattle.std.proofs.Common.{◌<◌, length, ap, subst, sym, ◌∙◌}
use Rattle.accounts.proofs.Changes.{seen_length, topup_stands}
use Rattle.accounts.proofs.accounts.Accounts.topup.Goals as goal
use Rattle.accounts.specs.Ledger.{Contents}
use Rattle.accounts.specs.Moves.{ToppedUp, after}

pub invariant_of-self : goal.invariant_of-self
invariant_of-self c =
    let t = c.self.inside in
    let lt : c.args.account < length t.accounts.items = subst (λ n. c.args.account < n) (ap (λ (k : Contents). length k.state.accounts) (sym c.self.view_is) ∙ seen_length t.accounts.items) c.requires.known in
    (topup_stands t.accounts.items t.reservations.of t.lines.items c.args.account c.args.amount c.index.result.now c.topped_up-one.result c.self.invariant lt c.index.ensures c.topped_up-one.ensures.numbers c.topped_up-one.ensures.reserved).kept

pub returns-clause-state : goal.returns-clause-state
returns-clause-state c =
    let t = c.self.inside in
    let lt : c.args.account < length t.accounts.items = subst (λ n. c.args.account < n) (ap (λ (k : Contents). length k.state.accounts) (sym c.self.view_is) ∙ seen_length t.accounts.items) c.requires.known in
    (topup_stands t.accounts.items t.reservations.of t.lines.items c.args.account c.args.amount c.index.result.now c.topped_up-one.result c.self.invariant lt c.index.ensures c.topped_up-one.ensures.numbers c.topped_up-one.ensures.reserved).state
    ∙ ap (λ (k : Contents). after (ToppedUp c.args.account c.args.amount) k.state) c.self.view_is
