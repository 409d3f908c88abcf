use Rattle.std.proofs.Common.{◌≡◌, ◌≤◌, ◌+◌, drop, length}
use Rattle.accounts.specs.Making.{made, AreMakeable}
use Rattle.accounts.proofs.accounts.Accounts.make_all.Given as goal

abbrev pub invariant-loop-one : goal.invariant-loop-one
invariant-loop-one l = record {
  makeable : AreMakeable (drop l.one-index l.moves) l.self.state;
  room : length l.moves ≤ l.self.spare + l.one-index;
  spare : l.fn.self.spare ≤ l.self.spare + l.one-index;
  rest : made (drop l.one-index l.moves) l.self.state ≡ made l.moves l.fn.self.state;
}
