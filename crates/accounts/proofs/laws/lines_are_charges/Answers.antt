use Rattle.accounts.proofs.Lined.{lines_are_charges}
use Rattle.accounts.proofs.laws.lines_are_charges.Goals as goal

pub returns : goal.returns
returns c = lines_are_charges
