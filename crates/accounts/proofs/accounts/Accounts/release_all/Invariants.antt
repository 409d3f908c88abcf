use Rattle.std.proofs.Common.{◌≡◌, ◌≤◌}
use Rattle.std.specs.FinMap as map
use Rattle.accounts.proofs.accounts.Accounts.release_all.Given as goal
use Rattle.accounts.specs.Endings.{without, Session}

abbrev pub invariant-loop-key : goal.invariant-loop-key
invariant-loop-key l = record {
  stays : without l.self.state.reservations (Session l.session) ≡ without l.fn.self.state.reservations (Session l.session);
  accounts : l.self.state.accounts ≡ l.fn.self.state.accounts;
  lines : l.self.state.lines ≡ l.fn.self.state.lines;
  spare : l.fn.self.spare ≤ l.self.spare;
}

abbrev pub decreases-loop-key : goal.decreases-loop-key
decreases-loop-key l = map.len l.self.state.reservations
