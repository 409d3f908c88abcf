-- The horizons that replies gave a session's rating groups, and the switches that they allow for (TS 32.291, tariffTimeChange; horizons are this product's own).
use Rattle.std.specs.Prelude.{◌≡◌, ℕ, Bool, true, false, if◌then◌else◌, Option, Some, None, is_some, List, [], ◌∷◌, ◌++◌}
use Rattle.std.specs.List.{AllByRecursion}
use Rattle.units.specs.declared.answer.UnitInfo.{UnitInfo}
use Rattle.units.specs.declared.request.Request.{Request}
use Rattle.units.specs.declared.reply.Reply.{Reply}
use Rattle.units.specs.declared.reply.Reply.TheVariants.{Created, Updated, Released, Refused}
use Rattle.units.specs.Cut.{whole_hour}
use Rattle.meter.specs.declared.horizon.Horizon.{Horizon}
use Rattle.meter.specs.Horizons.{is_within}
use Rattle.sessions.specs.Trace.{Move}
use Rattle.sessions.specs.Trace.Move.{Answers}
use Rattle.smf_model.specs.Replies.{info_of}
use Rattle.smf_model.specs.Trace.{unanswered}

-- the entries of a reply
abbrev pub units_in : Reply → List UnitInfo
units_in (Created reference answer) = answer.units
units_in (Updated answer) = answer.units
units_in Released = []
units_in (Refused problem) = []

-- an entry with granted units sets the horizon: from the answered request's stamp to the tariff time change (TS 32.291, tariffTimeChange)
abbrev pub horizon_given : Option Request → Option UnitInfo → List Horizon
horizon_given None info = []
horizon_given (Some q) None = []
horizon_given (Some q) (Some info) = if is_some info.grant then record { group = info.group; from = q.stamp; until = info.switch } ∷ [] else []

-- the horizons that final successes gave a rating group
abbrev pub horizons_in : ℕ → List Move → List Horizon
horizons_in group [] = []
horizons_in group (Answers p ∷ earlier) = horizon_given (unanswered earlier) (info_of group (units_in p)) ++ horizons_in group earlier
horizons_in group (move ∷ earlier) = horizons_in group earlier

-- switches that these horizons allow for: whole hours, none strictly within one of them
pub record AreAllowed (horizons : List Horizon) (switches : ℕ → Bool) : Type 0 where
  pub hours : (moment : ℕ) → switches moment ≡ true → whole_hour moment ≡ true
  pub none_within : AllByRecursion (λ h. (moment : ℕ) → is_within (Some h) moment ≡ true → switches moment ≡ false) horizons
