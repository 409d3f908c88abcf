use Rattle.benchmarks.specs.Books.{IsOnFirst}
use Rattle.benchmarks.proofs.account_turns.charges.Given as goal

abbrev pub invariant-loop-draw : goal.invariant-loop-draw
invariant-loop-draw l = IsOnFirst l.accounts.state

abbrev pub invariant-loop : goal.invariant-loop
invariant-loop l = IsOnFirst l.accounts.state
