use Rattle.std.proofs.Common.{◌∙◌}
use Rattle.accounts.specs.Endings.{Until}
use Rattle.accounts.proofs.Ending.{due_is}
use Rattle.accounts.proofs.accounts.Accounts.is_due.Goals as goal

pub returns : goal.returns
returns c = c.is_some.ensures ∙ due_is c.args.self.now.state.reservations (Until c.args.moment) c.one_until.result c.one_until.ensures
