use Rattle.accounts.proofs.Books.{balance_stays}
use Rattle.accounts.proofs.Stepped.{charges_take, reserves_take, releases_give}
use Rattle.accounts.proofs.laws.moves_change_free.Goals as goal

pub returns-clause-charge : goal.returns-clause-charge
returns-clause-charge c = charges_take

pub returns-clause-reserve : goal.returns-clause-reserve
returns-clause-reserve c = reserves_take

pub returns-clause-release : goal.returns-clause-release
returns-clause-release c = releases_give

pub returns-clause-balance : goal.returns-clause-balance
returns-clause-balance c = balance_stays
