use Rattle.accounts.proofs.Books.{books_balance, topups_are_summed}
use Rattle.accounts.proofs.laws.accounts_balance.Goals as goal

pub returns-clause-books : goal.returns-clause-books
returns-clause-books c = books_balance

pub returns-clause-topups : goal.returns-clause-topups
returns-clause-topups c = topups_are_summed
