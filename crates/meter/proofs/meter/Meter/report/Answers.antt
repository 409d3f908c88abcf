use Rattle.std.proofs.Common.{sym, ◌∙◌, ap, Ok}
use Rattle.meter.proofs.Admitted.{new_is}
use Rattle.meter.proofs.After.{taken_is}
use Rattle.meter.proofs.Cuts.{plain_cuts, all_cuts, group_cut, widest_cuts}
use Rattle.meter.proofs.Undisturbed.{after_undisturbed, after_others}
use Rattle.meter.proofs.Earlier.{open_after}
use Rattle.meter.proofs.meter.Meter.report.Goals as goal

pub returns-in-New-clause-rule : goal.returns-in-New-clause-rule
returns-in-New-clause-rule c new = rw c.take.ensures.value (taken_is c.args.self.now.contents c.args.report)

pub returns-in-New-clause-plain : goal.returns-in-New-clause-plain
returns-in-New-clause-plain c reports cuts new = rw c.take.ensures.value (plain_cuts c.args.self.now.contents c.args.report reports c.take.ensures.numbered cuts)

pub returns-in-New-clause-cuts : goal.returns-in-New-clause-cuts
returns-in-New-clause-cuts c switches reports known cuts new = rw c.take.ensures.value (all_cuts switches c.args.self.now.contents c.args.report reports c.take.ensures.numbered known cuts)

pub returns-in-New-clause-cut : goal.returns-in-New-clause-cut
returns-in-New-clause-cut c switches reports group known cut new = rw c.take.ensures.value (group_cut switches c.args.self.now.contents c.args.report group reports c.take.ensures.numbered known cut)

pub returns-in-New-clause-widest : goal.returns-in-New-clause-widest
returns-in-New-clause-widest c reports free cuts new =
    let is = new_is c.args.self.now.contents c.args.report (sym c.answer.ensures ∙ c.in_ok-answer.was ∙ ap (λ s. Ok s) c.in-New.is) in
    rw c.take.ensures.value (widest_cuts c.args.self.now.contents c.args.report reports c.take.ensures.numbered free is.admitted.seconds cuts)

pub returns-in-New-clause-undisturbed : goal.returns-in-New-clause-undisturbed
returns-in-New-clause-undisturbed c free new = rw c.take.ensures.value (after_undisturbed c.args.self.now.contents c.args.report c.take.ensures.numbered c.take.ensures.closes free)

pub returns-in-New-clause-open : goal.returns-in-New-clause-open
returns-in-New-clause-open c new = rw c.take.ensures.value (open_after c.args.self.now.contents c.args.report c.take.ensures.numbered c.take.ensures.closes)

pub returns-in-New-clause-others : goal.returns-in-New-clause-others
returns-in-New-clause-others c other apart = rw c.take.ensures.value (after_others c.args.self.now.contents c.args.report other c.take.ensures.numbered c.take.ensures.closes apart)
