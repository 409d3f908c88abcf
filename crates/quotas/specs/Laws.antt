-- What holds of a group for every list of what came to it (TS 32.290; the laws are this product's own).
use Rattle.std.specs.Prelude.{◌≡◌, ℕ, ◌^◌, ◌<◌, Bool, true, false, Option, Some, None, List, ◌∷◌, sum_by}
use Rattle.std.specs.List.{list_any}
use Rattle.units.specs.declared.report.Container.{Container}
use Rattle.units.specs.declared.trigger.TriggerType.{TriggerType}
use Rattle.units.specs.declared.answer.Action.{Action}
use Rattle.units.specs.declared.answer.UnitInfo.{UnitInfo}
use Rattle.units.specs.declared.answer.Amount.{Amount}
use Rattle.units.specs.declared.answer.Amount.TheVariants.{Volume, Seconds}
use Rattle.quotas.specs.declared.state.Limits.{Limits}
use Rattle.quotas.specs.declared.standing.Standing.{Standing}
use Rattle.quotas.specs.declared.standing.Standing.TheVariants.{Granted, Unlimited, Denied, Spent}
use Rattle.quotas.specs.Quota.{Quota, is_asked, fired, capped, gate_of}
use Rattle.quotas.specs.Due.{due_of}
use Rattle.quotas.specs.declared.step.Step.{Step}
use Rattle.quotas.specs.Steps.{quota_after, since_freezing}
use Rattle.quotas.specs.History.{octets_in, seconds_in, octets_used, seconds_used, latest_use, latest_set, unchanged_set, may_wish, is_answer, is_return, is_shut}
use Rattle.quotas.specs.declared.step.Step.TheVariants.{Answered}

-- the use is the sum over the reports since the freezing of the request whose answer set the group, and over those since the
-- latest freezing, each at most 2^64 - 1; the last use is the latest report's; quota is given back where a trigger did so since the latest freezing;
-- and the group is shut once the session ends
pub record IsOfTheList (steps : List Step) : Type 0 where
  pub octets : (quota_after steps).octets ≡ capped (octets_used steps)
  pub seconds : (quota_after steps).seconds ≡ capped (seconds_used steps)
  pub fresh_octets : (quota_after steps).fresh_octets ≡ capped (sum_by octets_in (since_freezing steps))
  pub fresh_seconds : (quota_after steps).fresh_seconds ≡ capped (sum_by seconds_in (since_freezing steps))
  pub last_use : (quota_after steps).last_use ≡ latest_use steps
  pub given_back : (quota_after steps).given_back ≡ list_any is_return (since_freezing steps)
  pub shut : (quota_after steps).shut ≡ list_any is_shut steps

-- granted units are those of the latest answer with an entry of the group
abbrev pub TermsAreLatest : List Step → Type 0
TermsAreLatest steps = (terms : _) → (quota_after steps).standing ≡ Granted terms → latest_set steps ≡ Some (Granted terms)

-- that answer granted last units with this action
abbrev pub LeavesAction : Option Standing → Action → Type 0
LeavesAction (Some (Granted terms)) action = terms.last_units ≡ Some action
LeavesAction other action = ⊥

-- what a group may use is what that answer set: granted units, no limit and a refusal alike; last units that were used up
-- leave its action; and it stays so until a trigger gives quota back or the session goes on without a CHF
pub record StandsByTheList (steps : List Step) : Type 0 where
  pub terms : TermsAreLatest steps
  pub unlimited : (quota_after steps).standing ≡ Unlimited → latest_set steps ≡ Some Unlimited
  pub denied : (quota_after steps).standing ≡ Denied → latest_set steps ≡ Some Denied
  pub spent : (action : Action) → (quota_after steps).standing ≡ Spent action → LeavesAction (latest_set steps) action
  pub unchanged : (standing : Standing) → unchanged_set steps ≡ Some standing → (quota_after steps).standing ≡ standing

-- a wish that no request carried was set since the latest freezing; a group that is asked stays so until an answer; and after
-- an answer only such a wish is left
pub record AsksByTheList (steps : List Step) : Type 0 where
  pub wish : (quota_after steps).wish ≡ true → list_any may_wish (since_freezing steps) ≡ true
  pub lasting : (step : Step) → is_answer step ≡ false → is_asked (quota_after steps) ≡ true → is_asked (quota_after (step ∷ steps)) ≡ true
  pub answered : (stamp : ℕ) (info : Option UnitInfo) → is_asked (quota_after (Answered stamp info ∷ steps)) ≡ true → (quota_after (Answered stamp info ∷ steps)).wish ≡ true

-- an amount is of its type
abbrev pub Fits : Amount → Type 0
Fits (Volume volume) = volume < 2 ^ 64
Fits (Seconds time) = time < 2 ^ 32

-- the group with its use and last use as the whole list tells them
abbrev pub by_list : List Step → Quota
by_list steps = record (quota_after steps) { octets = octets_used steps; seconds = seconds_used steps; last_use = latest_use steps }

-- granted units are of their type
abbrev pub FitsGranted : Standing → Type 0
FitsGranted standing = (terms : _) → standing ≡ Granted terms → Fits terms.amount

-- what is due, and the gate, are those of the latest answer's terms, the sum over the reports and the latest report
pub record DueByTheList (steps : List Step) : Type 0 where
  pub due : (open_container : Option Container) (unsafe_hour : Bool) (now : ℕ) (limits : Limits)
      → due_of (quota_after steps) open_container unsafe_hour now limits ≡ due_of (by_list steps) open_container unsafe_hour now limits
  pub gate : gate_of (quota_after steps) ≡ gate_of (by_list steps)

-- a group has no due trigger at the moment at which its first due one fired; that one closed the open container
abbrev pub IsQuietAfter : Quota → ℕ → Limits → TriggerType → Type 0
IsQuietAfter q now limits trigger = due_of (fired trigger q) None false now limits ≡ None
