-- A text that is written, or some of it.
use Rattle.std.proofs.Common.{ℕ, ◌≤◌, List, length, take, Option, Result, Ok, Err, OnOk, OnErr, arith}
use Rattle.std.proofs.Math.Seq.{take-length}
use Rattle.std.specs.Io.KnownBytes.{Appends}
use Rattle.edge.specs.Faults.{FailsOnlyWithFault}
use Rattle.charging.specs.Status.{WritesText}

pub put_text : {T E : Type 0} (text : List ℕ) (a b : Option (List ℕ)) (m n : ℕ) (r : Result T E) → OnOk r (Appends a b text) → OnErr r ((k : ℕ) × (k ≤ length text) × Appends a b (take k text)) → FailsOnlyWithFault m n r → WritesText text a b m n
put_text text a b m n (Ok x) whole part cause = record { count = length text; written = rw take-length whole; whole = λ calm. omega arith }
put_text text a b m n (Err e) whole part cause = record { count = part.0; written = part.2; whole = λ calm. absurd (calm cause.failed) }

pub ruleset texts = (put_text)
