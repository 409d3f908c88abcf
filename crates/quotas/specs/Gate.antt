-- What becomes of a rating group's traffic (TS 32.290, quota management).
use Rattle.std.specs.Prelude.{ℕ, ◌==◌, if◌then◌else◌}
use Rattle.units.specs.declared.answer.Action.TheVariants.{Terminate, Redirect as RedirectTraffic, RestrictAccess}
use Rattle.quotas.specs.declared.state.Gate.{Gate}
use Rattle.quotas.specs.declared.state.Gate.TheVariants.{Passing, Waiting, Closed, Redirect, Restrict}
use Rattle.quotas.specs.declared.standing.Standing.{Standing}
use Rattle.quotas.specs.declared.standing.Standing.TheVariants.{Nothing, Granted, Unlimited, Denied, Spent, Free}
use Rattle.quotas.specs.Standing.{left_of}

-- the gate after this use, while the session lives: granted units pass until they are used up (TS 32.290, quota management), and last units end by their action (TS 32.291, FinalUnitAction)
abbrev pub gate_at : Standing → ℕ → ℕ → Gate
gate_at Nothing octets seconds = Waiting
gate_at (Granted terms) octets seconds = if left_of terms.amount octets seconds == 0 then Waiting else Passing
gate_at Unlimited octets seconds = Passing
gate_at Denied octets seconds = Closed
gate_at (Spent Terminate) octets seconds = Closed
gate_at (Spent RedirectTraffic) octets seconds = Redirect
gate_at (Spent RestrictAccess) octets seconds = Restrict
gate_at Free octets seconds = Passing
