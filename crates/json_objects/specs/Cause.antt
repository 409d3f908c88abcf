-- The cause of a refused body (TS 29.500, 5.2.7.2; TS 29.571, ProblemDetails).
use Rattle.std.specs.Prelude.{ℕ, Bool, List, if◌then◌else◌}
use Rattle.units.specs.declared.words.Cause.{Cause}
use Rattle.units.specs.declared.words.Cause.TheVariants.{InvalidMessage, MandatoryMissing, MandatoryIncorrect, OptionalIncorrect, NoMemory}
use Rattle.units.specs.declared.refusal.JsonRefusal.{JsonRefusal}
use Rattle.units.specs.declared.refusal.JsonRefusal.TheVariants.{NotJson, Missing, Wrong, OutOfMemory}

-- the cause of a refusal, by a test that says which fields are required
abbrev pub cause_by : (List ℕ → Bool) → JsonRefusal → Cause
cause_by required NotJson = InvalidMessage
cause_by required (Missing label) = MandatoryMissing
cause_by required (Wrong label) = if required label then MandatoryIncorrect else OptionalIncorrect
cause_by required OutOfMemory = NoMemory
