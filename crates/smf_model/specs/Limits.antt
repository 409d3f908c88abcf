-- How many closed containers wait (this product's own).
use Rattle.std.specs.Prelude.{ℕ, ◌≤◌, Option, Some, None}
use Rattle.smf_model.specs.declared.session.Session.{Session}
use Rattle.smf_model.specs.Freeze.{waiting_count}

-- of a session at most so many containers wait
abbrev pub WaitsAtMost : ℕ → Option Session → Type 0
WaitsAtMost most None = Unit {0}
WaitsAtMost most (Some s) = waiting_count s.holdings ≤ most
