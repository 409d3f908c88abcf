-- The reports of a session that were counted, and its containers as a cut of them (TS 32.255, 5.2.1; horizons are this product's own).
use Rattle.std.specs.Prelude.{◌≡◌, ℕ, ◌+◌, ◌==◌, Bool, if◌then◌else◌, Option, Some, None, List, [], ◌∷◌, ◌++◌, map, length}
use Rattle.units.specs.declared.report.Report.{Report}
use Rattle.units.specs.declared.report.Container.{Container}
use Rattle.units.specs.Cut.{reports_of, containers_of, no_switch, IsCut, AreCuts}
use Rattle.sessions.specs.Trace.{Move}
use Rattle.smf_model.specs.declared.setup.SmfSetup.{SmfSetup}
use Rattle.smf_model.specs.declared.session.Holding.{Holding}
use Rattle.smf_model.specs.declared.session.Session.{Session}
use Rattle.smf_model.specs.declared.event.SmfEvent.{SmfEvent}
use Rattle.smf_model.specs.declared.event.SmfEvent.TheVariants.{Attach, Start, Count, Change, Tick, Detach, Answered, Attempt, NotSent, NoReply, Restart}
use Rattle.smf_model.specs.Machine.{expected_of}
use Rattle.smf_model.specs.History.{Brings, history}
use Rattle.smf_model.specs.GivenHorizons.{horizons_in, AreAllowed}

-- a history with its newest entry last
abbrev pub in_order : {X : Type 0} → List X → List X
in_order [] = []
in_order (x ∷ earlier) = in_order earlier ++ x ∷ []

-- a report comes to the session that it is for
abbrev pub report_to : ℕ → Report → Option Session → List Report
report_to session r None = []
report_to session r (Some s) = if s.number == session then r ∷ [] else []

-- a Count event brings its report
abbrev pub report_in : Brings Report
report_in setup now number (Attach session subscriber groups moment) s = []
report_in setup now number (Start session group moment) s = []
report_in setup now number (Count session r) s = report_to session r s
report_in setup now number (Change session trigger moment) s = []
report_in setup now number (Tick moment) s = []
report_in setup now number (Detach session abnormal moment) s = []
report_in setup now number (Answered session place reply) s = []
report_in setup now number (Attempt session peer) s = []
report_in setup now number (NotSent session) s = []
report_in setup now number (NoReply session) s = []
report_in setup now number Restart s = []

-- the reports of a session in order: those of its Count events that were answered New
abbrev pub reports : SmfSetup → List SmfEvent → ℕ → List Report
reports setup events number = in_order (history report_in setup events number)

-- reports are numbered from this number on, without a gap
abbrev pub AreCountedFrom : ℕ → List Report → Type 0
AreCountedFrom next [] = Unit {0}
AreCountedFrom next (r ∷ rs) = (r.number ≡ next) × AreCountedFrom (next + 1) rs

-- the containers alone
abbrev pub containers_in : List Holding → List Container
containers_in holdings = map (λ h. h.container) holdings

-- the reports of each rating group are numbered 1, 2, 3, and the next number is expected; and the group's containers are a plain cut of them,
-- and a cut under switches that each of its horizons allows for
pub record IsOfReports (trace : List Move) (reports : List Report) (s : Session) : Type 0 where
  pub numbered : (group : ℕ) → AreCountedFrom 1 (reports_of group reports)
  pub expected : (group : ℕ) → expected_of group s ≡ 1 + length (reports_of group reports)
  pub plain : AreCuts no_switch reports (containers_in s.holdings)
  pub cuts : (group : ℕ) (switches : ℕ → Bool) → AreAllowed (horizons_in group trace) switches → IsCut switches (reports_of group reports) (containers_of group (containers_in s.holdings))

-- so of a session that is there; one that is not has no reports
abbrev pub StandsByReports : List Move → List Report → Option Session → Type 0
StandsByReports trace reports None = reports ≡ []
StandsByReports trace reports (Some s) = IsOfReports trace reports s
