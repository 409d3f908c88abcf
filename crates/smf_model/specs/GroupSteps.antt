-- What parts of an event bring to a rating group of a session, as steps of its quota, the newest first (TS 32.290, quota management; the list is this product's own).
use Rattle.std.specs.Prelude.{ℕ, ◌+◌, ◌==◌, if◌then◌else◌, Option, Some, None, List, [], ◌∷◌, ◌++◌}
use Rattle.units.specs.declared.report.Report.{Report}
use Rattle.units.specs.declared.trigger.TriggerType.{TriggerType}
use Rattle.units.specs.declared.answer.UnitInfo.{UnitInfo}
use Rattle.units.specs.declared.request.Operation.{Operation}
use Rattle.units.specs.declared.request.Request.{Request}
use Rattle.units.specs.declared.reply.Reply.{Reply}
use Rattle.units.specs.declared.reply.Reply.TheVariants.{Created, Updated, Released, Refused}
use Rattle.quotas.specs.declared.step.Step.{Step}
use Rattle.quotas.specs.declared.step.Step.TheVariants.{Frozen, Answered, Used, Fired}
use Rattle.smf_model.specs.declared.setup.SmfSetup.{SmfSetup}
use Rattle.smf_model.specs.declared.session.Entry.{Entry}
use Rattle.smf_model.specs.declared.session.Session.{Session}
use Rattle.smf_model.specs.Settle.{entry_of, due_in, settled}
use Rattle.smf_model.specs.Freeze.{next_operation}
use Rattle.smf_model.specs.Replies.{info_of}

-- steps of a rating group that the session has
abbrev pub on_entry : Option Entry → (Entry → List Step) → List Step
on_entry None steps = []
on_entry (Some e) steps = steps e

-- at the end of each event its first due trigger fires, and it may stand in a request that is frozen
abbrev pub fired_step : Option TriggerType → List Step
fired_step None = []
fired_step (Some trigger) = Fired trigger ∷ []

-- a request that is frozen has it
abbrev pub frozen_step : Option Operation → Entry → List Step
frozen_step None e = []
frozen_step (Some operation) e = Frozen ∷ []

-- what the end of each event brings to it, a firing and then a freezing
abbrev pub finish_steps : SmfSetup → ℕ → ℕ → Session → List Step
finish_steps setup now group s =
    on_entry (entry_of group (settled setup now s).groups) (frozen_step (next_operation setup (settled setup now s)))
    ++ on_entry (entry_of group s.groups) (λ e. fired_step (due_in setup now s e))

-- a report of it, a reply with success, a change
abbrev pub used_step : Report → Entry → List Step
used_step r e = if e.number == r.group then Used (r.up + r.down) r.seconds r.moment ∷ [] else []

-- an answer to a request with this stamp
abbrev pub answered_step : ℕ → List UnitInfo → Entry → List Step
answered_step stamp units e = Answered stamp (info_of e.number units) ∷ []

-- a reply to the unanswered request
abbrev pub reply_step : Reply → Option Request → Entry → List Step
reply_step p None e = []
reply_step (Created reference answer) (Some q) e = answered_step q.stamp answer.units e
reply_step (Updated answer) (Some q) e = answered_step q.stamp answer.units e
reply_step Released (Some q) e = []
reply_step (Refused problem) (Some q) e = []
