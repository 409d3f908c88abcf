-- When a group is asked, by the whole list of what came to it.
use Rattle.std.proofs.Common.{◌≡◌, ℕ, ◌&&◌, ◌||◌, Bool, true, false, List, [], ◌∷◌, refl}
use Rattle.std.specs.Prelude.{Option, Some, None, not}
use Rattle.std.specs.List.{list_any}
use Rattle.units.specs.declared.answer.UnitInfo.{UnitInfo}
use Rattle.units.specs.declared.trigger.TriggerType.{TriggerType}
use Rattle.units.specs.declared.trigger.TriggerType.TheVariants.{Final, QuotaExhausted, QuotaThreshold, ValidityTime, QuotaHoldingTime, TariffTimeChange, VolumeLimit, TimeLimit, ForcedReauthorisation, QosChange, RatChange, PlmnChange, UserLocationChange, UeTimezoneChange, SessionAmbrChange, ServingNodeChange, ManagementIntervention, MaxNumberOfChangesInChargingConditions, AbnormalRelease}
use Rattle.quotas.specs.declared.standing.Standing.{Standing}
use Rattle.quotas.specs.Standing.{set_by, is_unlimited}
use Rattle.quotas.specs.Effect.{sets_wish, wants_quota}
use Rattle.quotas.specs.Quota.{is_asked}
use Rattle.quotas.specs.Laws.{AsksByTheList}
use Rattle.quotas.specs.declared.step.Step.{Step}
use Rattle.quotas.specs.Steps.{quota_after, since_freezing}
use Rattle.quotas.specs.History.{may_wish, is_answer}
use Rattle.quotas.specs.declared.step.Step.TheVariants.{Asked, Frozen, Continued, Shut, Answered, Used, Fired}

either : (a b c : Bool) → (a ≡ true → c ≡ true) → (b ≡ true → c ≡ true) → (a || b) ≡ true → c ≡ true
either true b c l r h = l refl
either false b c l r h = r h

or_second : (a b : Bool) → b ≡ true → (a || b) ≡ true
or_second true b h = refl
or_second false b h = h

or_first : (a b : Bool) → a ≡ true → (a || b) ≡ true
or_first true b h = refl
or_first false b h = cc

and_first : (a b : Bool) → (a && b) ≡ true → a ≡ true
and_first true b h = refl
and_first false b h = cc

or_false : (a : Bool) → (a || false) ≡ true → a ≡ true
or_false true h = refl
or_false false h = h

-- a trigger that sets a wish is one that wants quota
wanting : (trigger : TriggerType) (standing : Standing) → sets_wish trigger standing ≡ true → wants_quota trigger ≡ true
wanting Final standing h = h
wanting QuotaExhausted standing h = h
wanting QuotaThreshold standing h = h
wanting ValidityTime standing h = h
wanting QuotaHoldingTime standing h = h
wanting TariffTimeChange standing h = h
wanting VolumeLimit standing h = h
wanting TimeLimit standing h = h
wanting ForcedReauthorisation standing h = refl
wanting QosChange standing h = h
wanting RatChange standing h = h
wanting PlmnChange standing h = h
wanting UserLocationChange standing h = h
wanting UeTimezoneChange standing h = h
wanting SessionAmbrChange standing h = h
wanting ServingNodeChange standing h = h
wanting ManagementIntervention standing h = h
wanting MaxNumberOfChangesInChargingConditions standing h = h
wanting AbnormalRelease standing h = h

wished : (steps : List Step) → (quota_after steps).wish ≡ true → list_any may_wish (since_freezing steps) ≡ true
wished [] h = h
wished (Asked ∷ steps) h = refl
wished (Frozen ∷ steps) h = h
wished (Continued ∷ steps) h = wished steps h
wished (Shut ∷ steps) h = wished steps h
wished (Used octets seconds moment ∷ steps) h = wished steps h
wished (Answered stamp None ∷ steps) h = refl
wished (Answered stamp (Some info) ∷ steps) h = wished steps (and_first _ (not (is_unlimited (set_by info.code stamp info))) h)
wished (Fired trigger ∷ steps) h = either (sets_wish trigger (quota_after steps).standing) (quota_after steps).wish (wants_quota trigger || list_any may_wish (since_freezing steps))
    (λ sets. or_first _ _ (wanting trigger _ sets))
    (λ wish. or_second (wants_quota trigger) _ (wished steps wish)) h

lasts : (steps : List Step) (step : Step) → is_answer step ≡ false → is_asked (quota_after steps) ≡ true → is_asked (quota_after (step ∷ steps)) ≡ true
lasts steps Asked none h = refl
lasts steps Frozen none h = h
lasts steps Continued none h = h
lasts steps Shut none h = h
lasts steps (Used octets seconds moment) none h = h
lasts steps (Answered stamp info) none h = cc
lasts steps (Fired trigger) none h = either (quota_after steps).wish (quota_after steps).carried ((sets_wish trigger (quota_after steps).standing || (quota_after steps).wish) || (quota_after steps).carried)
    (λ wish. or_first _ _ (or_second (sets_wish trigger (quota_after steps).standing) _ wish))
    (λ carried. or_second (sets_wish trigger (quota_after steps).standing || (quota_after steps).wish) _ carried) h

after_answer : (steps : List Step) (stamp : ℕ) (info : Option UnitInfo) → is_asked (quota_after (Answered stamp info ∷ steps)) ≡ true → (quota_after (Answered stamp info ∷ steps)).wish ≡ true
after_answer steps stamp None h = or_false _ h
after_answer steps stamp (Some info) h = or_false _ h

pub asks : (steps : List Step) → AsksByTheList steps
asks steps = record { wish = wished steps; lasting = lasts steps; answered = after_answer steps }
