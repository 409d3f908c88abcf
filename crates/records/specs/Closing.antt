-- When a record is closed, and what it is then.
use Rattle.std.specs.Prelude.{ℕ, ◌+◌, ◌-◌, ◌==◌, ◌&&◌, not, nat_le, Bool, List, [], Option, Some, None, if◌then◌else◌}
use Rattle.units.specs.declared.request.UnitUsage.{UnitUsage}
use Rattle.records.specs.declared.limits.RecordLimits.{RecordLimits}
use Rattle.records.specs.declared.record.Kept.{Kept}
use Rattle.records.specs.Sums.{total, octets, changes, one_each}
use Rattle.records.specs.Usage.{with_usage}

-- No limits, of a function without a name: those before a setup (this product's own).
abbrev pub no_limits : RecordLimits
no_limits = record { volume = 0; seconds = 0; changes = 0; containers = 0; function = [] }

-- A limit is reached; one of 0 is off (TS 32.255, 5.2.3; this product's profile).
abbrev pub is_reached : ℕ → ℕ → Bool
is_reached limit amount = not (limit == 0) && nat_le limit amount

-- The cause of the first limit that these amounts reach: octets 16, seconds 17, changes 19, containers 1 (TS 32.298, 5.1.5.1.2; the order is this product's own).
abbrev pub first_reached : RecordLimits → ℕ → ℕ → ℕ → ℕ → Option ℕ
first_reached l volume seconds changes containers =
    if is_reached l.volume volume then Some 16
    else (if is_reached l.seconds seconds then Some 17
    else (if is_reached l.changes changes then Some 19
    else (if is_reached l.containers containers then Some 1 else None)))

-- Whether a record has a container (this product's own).
abbrev pub has_container : Kept → Bool
has_container k = not (total one_each k.usage == 0)

-- The cause for which a record with a container is closed at a stamp, if a limit is reached (TS 32.255, 5.2.3).
abbrev pub cause_at : RecordLimits → Kept → ℕ → Option ℕ
cause_at l k stamp =
    if has_container k then first_reached l (total octets k.usage) (stamp - k.opening) (total changes k.usage) (total one_each k.usage) else None

-- A record that opens, without containers (TS 32.255, 5.2.3).
abbrev pub opened : ℕ → ℕ → ℕ → Kept
opened session stamp sequence = record { session = session; usage = []; opening = stamp; duration = 0; sequence = sequence; cause = 0; local = 0 }

-- A record after more containers came to it (this product's own).
abbrev pub with_added : Kept → List UnitUsage → Kept
with_added k used = record k { usage = with_usage k.usage used }

-- A record that closes at a stamp: its duration is at least 0, and it gets its number among all closed ones (TS 32.298, 5.1.5.0).
abbrev pub closed_as : Kept → ℕ → ℕ → ℕ → Kept
closed_as k cause stamp local = record k { duration = stamp - k.opening; cause = cause; local = local }

-- The next record of the session opens at that stamp with the next number (TS 32.255, 5.2.3).
abbrev pub next_of : Kept → ℕ → Kept
next_of k stamp = opened k.session stamp (k.sequence + 1)
