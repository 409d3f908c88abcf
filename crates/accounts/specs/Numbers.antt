-- The numbers of an account, as the code keeps them.
use Rattle.accounts.specs.declared.account.Account.{Account}
use Rattle.accounts.specs.Ledger.{Numbers}

-- the numbers without what is set aside
abbrev pub numbers_of : Account → Numbers
numbers_of a = record { topups = a.topups; taken = a.taken; owed = a.owed }
