use Rattle.accounts.proofs.Owners.{owners_stay, some_is_left}
use Rattle.accounts.proofs.laws.reservations_stay.Goals as goal

pub returns-clause-owners : goal.returns-clause-owners
returns-clause-owners c = owners_stay

pub returns-clause-some : goal.returns-clause-some
returns-clause-some c = some_is_left
