use Rattle.std.proofs.Common.{sym, subst, ap, ◌∙◌}
use Rattle.accounts.specs.Ledger.{State, numbers}
use Rattle.accounts.specs.Balanced.{IsBalanced}
use Rattle.chf_core.specs.AccountMoves.{account_moves}
use Rattle.chf_core.proofs.Moved.{made}
use Rattle.chf_core.proofs.Counted.{accounts_named}
use Rattle.chf_core.proofs.Allowed.{allowed}
use Rattle.chf_core.proofs.laws.money_balances.Goals as goal

pub returns-clause-balance : goal.returns-clause-balance
returns-clause-balance c = λ commands account.
    subst (λ (s : State). IsBalanced s account) (sym (made commands)) (c.accounts_balance.ensures.books (account_moves commands) account (allowed c.reserves_suffice.ensures.covered commands))

pub returns-clause-topups : goal.returns-clause-topups
returns-clause-topups c = λ commands account.
    ap (λ (s : State). (numbers s account).topups) (made commands) ∙ c.accounts_balance.ensures.topups (account_moves commands) account (allowed c.reserves_suffice.ensures.covered commands)

pub returns-clause-moved : goal.returns-clause-moved
returns-clause-moved c = λ commands. record { made = made commands; allowed = allowed c.reserves_suffice.ensures.covered commands }

pub returns-clause-named : goal.returns-clause-named
returns-clause-named c = accounts_named
