-- The cause of a refused spending limit context (TS 29.500, 5.2.7.2; TS 29.571, ProblemDetails).
use Rattle.std.specs.Prelude.{ℕ, ◌||◌, Bool, List, bytes_eq, codes}
use Rattle.units.specs.declared.words.Cause.{Cause}
use Rattle.units.specs.declared.refusal.JsonRefusal.{JsonRefusal}
use Rattle.json_objects.specs.Cause.{cause_by}

-- the fields that a context has to have
abbrev pub is_required : List ℕ → Bool
is_required label = bytes_eq label (codes "supi") || bytes_eq label (codes "notifUri")

-- the cause of a refused context
abbrev pub cause_of : JsonRefusal → Cause
cause_of refusal = cause_by is_required refusal
