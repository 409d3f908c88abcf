use Rattle.std.proofs.Common.{inr, sym, ◌∙◌}
use Rattle.serving.specs.Sides.{Notified, meaning_of}
use Rattle.serving.proofs.Reached.{one_step}
use Rattle.serving.proofs.Visiting.{went_well}
use Rattle.serving.proofs.visits.round.Goals as goal

pub returns-clause-reached : goal.returns-clause-reached
returns-clause-reached g c = one_step (meaning_of g.H.Handler.gives g.H.Handler.expires g.H.Handler.notifies g.H.Handler.fence c.args.was) _ (Notified c.notify.result) _ c.notify.ensures.notified

pub returns-clause-rounded : goal.returns-clause-rounded
returns-clause-rounded g c = inr (inr (sym c.is_newly_fenced.ensures ∙ c.if-is_newly_fenced.false, (c.notify.result, c.notify.ensures.notified, went_well c.notify.result)))
