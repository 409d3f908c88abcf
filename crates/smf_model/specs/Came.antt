-- All that came to a rating group of a session, as the steps of its quota, the newest first (TS 32.290, quota management; the list is this product's own).
use Rattle.std.specs.Prelude.{ℕ, ◌==◌, if◌then◌else◌, Some, None, List, [], ◌∷◌, ◌++◌}
use Rattle.units.specs.declared.request.Operation.TheVariants.{Create}
use Rattle.quotas.specs.declared.step.Step.{Step}
use Rattle.quotas.specs.declared.step.Step.TheVariants.{Asked, Continued, Fired}
use Rattle.smf_model.specs.declared.setup.SmfSetup.{SmfSetup}
use Rattle.smf_model.specs.declared.session.Session.{Session}
use Rattle.smf_model.specs.declared.event.SmfEvent.{SmfEvent}
use Rattle.smf_model.specs.declared.event.SmfEvent.TheVariants.{Attach, Start, Count, Change, Tick, Detach, Answered as GotAnswer, Attempt, NotSent, NoReply, Restart}
use Rattle.smf_model.specs.Settle.{entry_of}
use Rattle.smf_model.specs.Freeze.{with_request}
use Rattle.smf_model.specs.Rounds.{is_continue, is_last}
use Rattle.smf_model.specs.Machine.{touches, effect, fresh}
use Rattle.smf_model.specs.History.{Brings, history}
use Rattle.smf_model.specs.GroupSteps.{on_entry, frozen_step, finish_steps, used_step, reply_step}

-- it asks
abbrev pub asked_step : ℕ → ℕ → List Step
asked_step asking group = if group == asking then Asked ∷ [] else []

-- where a round is over the session goes on without quota, if it goes on so
abbrev pub lost_step : Session → List Step
lost_step s = if is_last s then (if is_continue s.handling then Continued ∷ [] else []) else []

-- what an event's own effect brings to it
abbrev pub effect_steps : ℕ → SmfEvent → Session → List Step
effect_steps group (Attach session subscriber groups moment) s = []
effect_steps group (Start session asking moment) s = asked_step asking group
effect_steps group (Count session r) s = on_entry (entry_of group s.groups) (used_step r)
effect_steps group (Change session trigger moment) s = on_entry (entry_of group s.groups) (λ e. Fired trigger ∷ [])
effect_steps group (Tick moment) s = []
effect_steps group (Detach session abnormal moment) s = []
effect_steps group (GotAnswer session number reply) s = on_entry (entry_of group s.groups) (reply_step reply s.request)
effect_steps group (Attempt session peer) s = []
effect_steps group (NotSent session) s = on_entry (entry_of group s.groups) (λ e. lost_step s)
effect_steps group (NoReply session) s = on_entry (entry_of group s.groups) (λ e. lost_step s)
effect_steps group Restart s = on_entry (entry_of group s.groups) (λ e. lost_step s)

-- the rating groups of a new session ask, and stand in its Create
abbrev pub asked_steps : ℕ → List ℕ → List Step
asked_steps group [] = []
asked_steps group (asking ∷ groups) = asked_steps group groups ++ asked_step asking group

-- what the Attach of its session brings to it
abbrev pub attach_steps : SmfSetup → ℕ → ℕ → List ℕ → Session → List Step
attach_steps setup now group groups s =
    finish_steps setup now group (with_request setup now Create s) ++ (on_entry (entry_of group s.groups) (frozen_step (Some Create)) ++ asked_steps group groups)

-- what an event brings to it that adds its session
abbrev pub added_steps : SmfSetup → ℕ → ℕ → ℕ → SmfEvent → List Step
added_steps setup now number group (Attach session subscriber groups moment) = if session == number then attach_steps setup now group groups (fresh setup session subscriber groups moment) else []
added_steps setup now number group other = []

-- what an event brings to it
abbrev pub steps_in : ℕ → Brings Step
steps_in group setup now number event None = added_steps setup now number group event
steps_in group setup now number event (Some s) = if touches event s then finish_steps setup now group (effect setup now event s) ++ effect_steps group event s else []

-- and all that came to it
abbrev pub steps : SmfSetup → List SmfEvent → ℕ → ℕ → List Step
steps setup events number group = history (steps_in group) setup events number
