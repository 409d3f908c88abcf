use Rattle.std.proofs.Common.{◌≡◌, ◌≤◌, ◌∙◌, length, set, sym, ap, arith}
use Rattle.smf_core.specs.Stored.{Stored, staged}
use Rattle.smf_core.proofs.Stored.{length_staged, set_past_end, staged_set}
use Rattle.smf_core.proofs.containers.Containers.put.Goals as goal

pub returns-then-at-len-clause-holdings : goal.returns-then-at-len-clause-holdings
returns-then-at-len-clause-holdings c =
    let k = c.self.inside in
    let long : length c.args.self.now.holdings ≡ length k.containers.items = ap (λ (x : Stored). length x.holdings) (sym c.self.view_is) ∙ length_staged k.containers.items k.stages.items c.self.invariant in
    let past : length c.args.self.now.holdings ≤ c.args.at = omega (arith, long, c.len.ensures, k.containers.ok.0, c.if-at-len.true) in
    sym (set_past_end c.args.self.now.holdings c.args.at c.args.holding.now past)

pub returns-clause-holdings : goal.returns-clause-holdings
returns-clause-holdings c =
    let cs = c.self.inside.containers.items in
    let gs = c.self.inside.stages.items in
    let h = c.args.holding.now in
    ap (λ g. staged (set cs c.args.at h.container) (set gs c.args.at g)) c.stage_of.ensures
    ∙ staged_set cs gs c.args.at h
    ∙ ap (λ (x : Stored). set x.holdings c.args.at h) c.self.view_is
