use Rattle.std.proofs.Common.{rules, ◌≡◌, ◌<◌, ◌^◌, ap, ◌∙◌, ℕ, nat_eq, cond, unwrap_or, ◌+◌, ◌-◌}
use Rattle.std.specs.HashMap.{get}
use Rattle.accounts.specs.Reservations.{at}
use Rattle.accounts.specs.Ledger.{left}
use Rattle.chf_core.specs.declared.draft.Draft.{Draft}
use Rattle.chf_core.specs.Drafts.{left_in}
use Rattle.chf_core.proofs.Following.{written}
use Rattle.chf_core.proofs.Drafting.{charged_holds}
use Rattle.chf_core.proofs.draft.Draft.charge.Goals as goal

pub returns-clause-holds : goal.returns-clause-holds
returns-clause-holds c =
    let t = c.args.t in
    let v = c.args.self.now in
    let accounts = c.args.accounts.now.state in
    let w : Draft =
    record {
      free = c.saturating_sub-self.result;
      used = c.in-Some.used;
      lefts = c.insert.new.self;
      moves =
          c.charge.new.self;
    } in
    let own : ℕ → ℕ = λ g. left accounts (at t.session g) in
    let used : c.in-Some.used ≡ v.used + c.args.amount = search rules in
    let fits : c.in-Some.used < 2 ^ 128 = search rules in
    charged_holds c.moves_change_free.ensures.charge c.moves_change_free.ensures.balance v w accounts t c.args.group
    c.args.lsn c.args.amount c.left-left.result c.left-left.ensures c.in_ok-charge.ensures.ok
    (c.saturating_sub-self.ensures ∙ ap (λ n. v.free - n) c.saturating_sub-2.ensures) used fits
    (λ g. ap (λ o. unwrap_or o (own g)) (c.in_ok-insert.ensures.updates.0 g)
    ∙ written (nat_eq c.args.group g) _ (own g) (get nat_eq v.lefts g)
    ∙ ap (λ n. cond (nat_eq c.args.group g) n (left_in v accounts t g)) c.saturating_sub.ensures)
