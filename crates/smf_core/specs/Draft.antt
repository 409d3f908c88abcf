-- A session in the course of an event, as the session that it is (this product's own).
use Rattle.std.specs.Prelude.{ℕ, ◌+◌, List, [], ◌∷◌, ◌++◌, map, length, Option, Some, None, unwrap_or, if◌then◌else◌}
use Rattle.std.specs.List.{list_any}
use Rattle.units.specs.declared.report.Report.{Report}
use Rattle.units.specs.declared.request.Request.{Request}
use Rattle.smf_model.specs.declared.setup.SmfSetup.{SmfSetup}
use Rattle.smf_model.specs.declared.session.Holding.{Holding}
use Rattle.smf_model.specs.declared.session.Session.{Session}
use Rattle.smf_core.specs.declared.draft.Course.{Course}
use Rattle.smf_core.specs.declared.draft.Draft.{Draft}
use Rattle.smf_core.specs.declared.draft.Pending.{Pending}
use Rattle.smf_core.specs.declared.draft.Pending.TheVariants.{Same, Nothing, New}
use Rattle.smf_model.specs.declared.event.SmfEvent.{SmfEvent}
use Rattle.smf_model.specs.declared.event.SmfEvent.TheVariants.{Count}
use Rattle.smf_model.specs.Settle.{is_open_of, open_of, entry_of}
use Rattle.smf_model.specs.Traffic.{horizon_in, closes_before, close_of, extend_of, first_of, counted}
use Rattle.smf_model.specs.Machine.{effect}

-- the unanswered request
abbrev pub request_after : Option Request → Pending → Option Request
request_after before Same = before
request_after before Nothing = None
request_after before (New q) = Some q

-- the numbers and marks of a session
abbrev pub course_in : Session → Course
course_in s = record { reference = s.reference; life = s.life; last = s.last; count = s.count; reports = s.reports; at_once = s.at_once; failover = s.failover; handling = s.handling; peer = s.peer; sending = s.sending }

-- the session
abbrev pub whole : Session → Draft → Session
whole before d = record {
  number = before.number;
  subscriber = before.subscriber;
  reference = d.course.reference;
  life = d.course.life;
  last = d.course.last;
  count = d.course.count;
  reports = d.course.reports;
  at_once = d.course.at_once;
  failover = d.course.failover;
  handling = d.course.handling;
  peer = d.course.peer;
  sending = d.course.sending;
  groups = d.groups;
  holdings = d.holdings;
  rules = unwrap_or d.rules before.rules;
  request = request_after before.request d.pending;
}

-- a report joins, in a session of which so many containers are left out
abbrev pub joined_past : ℕ → Report → List Holding → List Holding
joined_past past r holdings = if list_any (is_open_of r.group) holdings then map (extend_of r) holdings else holdings ++ first_of (past + length holdings + 1) r ∷ []

-- a report is counted there
abbrev pub counted_past : ℕ → Report → Session → Session
counted_past past r s = record (counted r s) { holdings = joined_past past r (map (close_of r.group r.moment (closes_before (horizon_in (entry_of r.group s.groups)) r (open_of r.group s.holdings))) s.holdings) }

-- what an event does to such a session
abbrev pub effect_past : SmfSetup → ℕ → ℕ → SmfEvent → Session → Session
effect_past setup past now (Count session r) s = counted_past past r s
effect_past setup past now other s = effect setup now other s

-- the session that is added, if one is
abbrev pub listed : Option Session → List Session
listed None = []
listed (Some s) = s ∷ []
