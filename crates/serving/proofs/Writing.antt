-- Bytes written from the front.
use Rattle.std.proofs.Common.{◌≡◌, ℕ, ◌≤◌, ◌<◌, true, false, List, length, take, Option, Result, Ok, Err, OnOk, OnErr, arith, refl, sym, ◌∙◌, ap, option_map, true≢false}
use Rattle.std.proofs.lemmas.List.{take_all}
use Rattle.std.specs.Io.KnownBytes.{Appends}
use Rattle.edge.specs.Connections.{Connection, after_write, has_failed}
use Rattle.edge.specs.declared.traits.Failed.{Failed}
use Rattle.serving.specs.Talk.{HasWritten}

pub written : (bytes : List ℕ) (wrote : Result (Unit {0}) Failed) (w v : Option (List ℕ)) (all all_now : Option (List Connection))
    → OnErr wrote ((n : ℕ) × (n < length bytes) × Appends w v (take n bytes) × (all_now ≡ option_map (after_write (take n bytes) true) all))
    → OnOk wrote (all_now ≡ option_map (after_write bytes false) all) → HasWritten bytes wrote all all_now
written bytes (Ok done) w v all all_now part whole =
    record { count = length bytes; within = omega arith; whole = refl; connections = whole ∙ ap (λ t. option_map (after_write t false) all) (sym (take_all (length bytes) bytes (omega arith))) }
written bytes (Err failed) w v all all_now (n, less, appends, connections) whole = record { count = n; within = omega (arith, less); whole = tt; connections = connections }

-- where no write failed, all was written
pub all_where : (bytes : List ℕ) (wrote : Result (Unit {0}) Failed) (n : ℕ) → OnOk wrote (n ≡ length bytes) → has_failed wrote ≡ false → length bytes ≤ n
all_where bytes (Ok done) n whole well = omega (arith, whole)
all_where bytes (Err failed) n whole well = absurd (true≢false well)
