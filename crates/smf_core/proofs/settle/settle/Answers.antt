use Rattle.std.proofs.Common.{◌∙◌, sym}
use Rattle.smf_core.specs.Draft.{whole}
use Rattle.smf_core.proofs.settle.settle.Goals as goal

pub returns-then-not-any_due : goal.returns-then-not-any_due
returns-then-not-any_due c = sym (c.ends_are_still.ensures.settled c.args.setup.now c.args.now (whole c.args.before.now c.args.draft.now) (sym c.any_due.ensures ∙ c.if-not-any_due.true))
