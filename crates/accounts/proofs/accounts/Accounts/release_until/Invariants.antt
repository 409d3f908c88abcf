use Rattle.std.proofs.Common.{◌≡◌, ◌≤◌}
use Rattle.std.specs.FinMap as map
use Rattle.accounts.proofs.accounts.Accounts.release_until.Given as goal
use Rattle.accounts.specs.Endings.{without, Until}

abbrev pub invariant-loop-key : goal.invariant-loop-key
invariant-loop-key l = record {
  stays : without l.self.state.reservations (Until l.moment) ≡ without l.fn.self.state.reservations (Until l.moment);
  accounts : l.self.state.accounts ≡ l.fn.self.state.accounts;
  lines : l.self.state.lines ≡ l.fn.self.state.lines;
  spare : l.fn.self.spare ≤ l.self.spare;
}

abbrev pub decreases-loop-key : goal.decreases-loop-key
decreases-loop-key l = map.len l.self.state.reservations
