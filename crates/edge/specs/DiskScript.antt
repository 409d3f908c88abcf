-- What a disk in memory is told of its calls to come (this product's own).
use Rattle.std.specs.Prelude.{◌≡◌, ◌-◌, ◌&&◌, ℕ, List, Bool, true, false, not, nat_eq, if◌then◌else◌}
use Rattle.edge.specs.Faults.{next_count}
use Rattle.edge.specs.Stored.{Stored, IsSettled}
use Rattle.edge.specs.declared.disk_script.Turn.{Turn}
use Rattle.edge.specs.declared.disk_script.Turn.TheVariants.{Goes, Fails, Stops}

-- on which call from now it stops and on which one it fails (0: none), whether a stop stands, what it leaves, and the faults so far
pub record Calls : Type 0 where
  pub stop_in : ℕ
  pub fail_in : ℕ
  pub is_stopped : Bool
  pub fill : List ℕ
  pub faults : ℕ

-- neither a stop nor a failure is to come, and no stop stands
abbrev pub is_ready : Calls → Bool
is_ready s = nat_eq s.stop_in 0 && nat_eq s.fail_in 0 && not s.is_stopped

-- what the next call meets: a stop comes before a failure
abbrev pub turn_of : Calls → Turn
turn_of s = if s.is_stopped then Fails else (if nat_eq s.stop_in 1 then Stops else (if nat_eq s.fail_in 1 then Fails else Goes))

-- whether a call goes on
abbrev pub is_going : Turn → Bool
is_going Goes = true
is_going Fails = false
is_going Stops = false

-- one fault more
abbrev pub with_fault : Calls → Calls
with_fault s = record s { faults = next_count s.faults }

-- after the next call; while a stop stands no call is counted
abbrev pub after_turn : Calls → Calls
after_turn s =
    if s.is_stopped
    then with_fault s
    else record { stop_in = s.stop_in - 1; fail_in = s.fail_in - 1; is_stopped = nat_eq s.stop_in 1; fill = s.fill; faults = (if nat_eq s.stop_in 1 then next_count s.faults else (if nat_eq s.fail_in 1 then next_count s.faults else s.faults)) }

-- what a call leaves of the bytes: all that it makes; nothing of it where it fails; and at a stop what it had reached, settled
abbrev pub Leaves : Turn → List ℕ → (old reached made new : Stored) → Type 0
Leaves Goes fill old reached made new = new ≡ made
Leaves Fails fill old reached made new = new ≡ old
Leaves Stops fill old reached made new = IsSettled fill reached new
