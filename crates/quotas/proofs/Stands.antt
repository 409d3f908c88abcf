-- What a whole list of steps says of a group's standing.
use Rattle.std.proofs.Common.{◌≡◌, ℕ, ◌==◌, Bool, true, false, cond, List, [], ◌∷◌, refl, ap, sym, subst, ◌∙◌}
use Rattle.std.specs.Prelude.{Option, Some, None}
use Rattle.units.specs.declared.trigger.TriggerType.{TriggerType}
use Rattle.units.specs.declared.trigger.TriggerType.TheVariants.{Final, QuotaExhausted, QuotaThreshold, ValidityTime, QuotaHoldingTime, TariffTimeChange, VolumeLimit, TimeLimit, ForcedReauthorisation, QosChange, RatChange, PlmnChange, UserLocationChange, UeTimezoneChange, SessionAmbrChange, ServingNodeChange, ManagementIntervention, MaxNumberOfChangesInChargingConditions, AbnormalRelease}
use Rattle.units.specs.declared.answer.UnitInfo.{UnitInfo}
use Rattle.units.specs.declared.answer.Code.{Code}
use Rattle.units.specs.declared.answer.Code.TheVariants.{Success, Denied as EndUserServiceDenied, NotApplicable, LimitReached, RatingFailed}
use Rattle.units.specs.declared.answer.Action.{Action}
use Rattle.units.specs.declared.answer.Amount.{Amount}
use Rattle.quotas.specs.declared.standing.Standing.{Standing}
use Rattle.quotas.specs.declared.standing.Terms.{Terms}
use Rattle.quotas.specs.declared.standing.Standing.TheVariants.{Nothing, Granted, Unlimited, Denied, Spent, Free}
use Rattle.quotas.specs.Standing.{without, spent, spent_by, left_of, set_by, granted_by}
use Rattle.quotas.specs.Effect.{returns_quota, standing_after}
use Rattle.quotas.specs.Laws.{TermsAreLatest, StandsByTheList, LeavesAction}
use Rattle.quotas.specs.declared.step.Step.{Step}
use Rattle.quotas.specs.Steps.{quota_after}
use Rattle.quotas.specs.History.{latest_set, unchanged_set}
use Rattle.quotas.specs.declared.step.Step.TheVariants.{Asked, Frozen, Continued, Shut, Answered, Used, Fired}

spent_from : (last : Option Action) (t u : Terms) → spent_by last t ≡ Granted u → Granted t ≡ Granted u
spent_from None t u h = h
spent_from (Some action) t u h = cc

spent_granted : (standing : Standing) (t : Terms) → spent standing ≡ Granted t → standing ≡ Granted t
spent_granted (Granted u) t h = spent_from u.last_units u t h
spent_granted Nothing t h = h
spent_granted Unlimited t h = h
spent_granted Denied t h = h
spent_granted (Spent action) t h = h
spent_granted Free t h = h

cond_granted : (b : Bool) (u t : Terms) → cond b Free (Granted u) ≡ Granted t → Granted u ≡ Granted t
cond_granted true u t h = cc
cond_granted false u t h = h

without_granted : (standing : Standing) (octets seconds : ℕ) (t : Terms) → without standing octets seconds ≡ Granted t → standing ≡ Granted t
without_granted (Granted u) octets seconds t h = cond_granted (left_of u.amount octets seconds == 0) u t h
without_granted Unlimited octets seconds t h = h
without_granted Nothing octets seconds t h = cc
without_granted Denied octets seconds t h = cc
without_granted (Spent action) octets seconds t h = cc
without_granted Free octets seconds t h = cc

-- what ends unlimited and denied groups is another standing
spent_unlimited : (standing : Standing) → spent standing ≡ Unlimited → standing ≡ Unlimited
spent_unlimited (Granted u) h = spent_not u.last_units u h
  where
    spent_not : (last : Option Action) (t : Terms) → spent_by last t ≡ Unlimited → Granted u ≡ Unlimited
    spent_not None t h = cc
    spent_not (Some action) t h = cc
spent_unlimited Nothing h = h
spent_unlimited Unlimited h = h
spent_unlimited Denied h = h
spent_unlimited (Spent action) h = h
spent_unlimited Free h = h

spent_denied : (standing : Standing) → spent standing ≡ Denied → standing ≡ Denied
spent_denied (Granted u) h = spent_not u.last_units u h
  where
    spent_not : (last : Option Action) (t : Terms) → spent_by last t ≡ Denied → Granted u ≡ Denied
    spent_not None t h = cc
    spent_not (Some action) t h = cc
spent_denied Nothing h = h
spent_denied Unlimited h = h
spent_denied Denied h = h
spent_denied (Spent action) h = h
spent_denied Free h = h

-- triggers by what they do to a standing: the last units, the holding time, and none
by_trigger : (P : TriggerType → Type 0) → P Final → P QuotaHoldingTime → ((trigger : TriggerType) → ((standing : Standing) → standing_after trigger standing ≡ standing) → P trigger) → (trigger : TriggerType) → P trigger
by_trigger P final holding other Final = final
by_trigger P final holding other QuotaHoldingTime = holding
by_trigger P final holding other QuotaExhausted = other QuotaExhausted (λ s. refl)
by_trigger P final holding other QuotaThreshold = other QuotaThreshold (λ s. refl)
by_trigger P final holding other ValidityTime = other ValidityTime (λ s. refl)
by_trigger P final holding other ForcedReauthorisation = other ForcedReauthorisation (λ s. refl)
by_trigger P final holding other TariffTimeChange = other TariffTimeChange (λ s. refl)
by_trigger P final holding other VolumeLimit = other VolumeLimit (λ s. refl)
by_trigger P final holding other TimeLimit = other TimeLimit (λ s. refl)
by_trigger P final holding other QosChange = other QosChange (λ s. refl)
by_trigger P final holding other RatChange = other RatChange (λ s. refl)
by_trigger P final holding other PlmnChange = other PlmnChange (λ s. refl)
by_trigger P final holding other UserLocationChange = other UserLocationChange (λ s. refl)
by_trigger P final holding other UeTimezoneChange = other UeTimezoneChange (λ s. refl)
by_trigger P final holding other SessionAmbrChange = other SessionAmbrChange (λ s. refl)
by_trigger P final holding other ServingNodeChange = other ServingNodeChange (λ s. refl)
by_trigger P final holding other ManagementIntervention = other ManagementIntervention (λ s. refl)
by_trigger P final holding other MaxNumberOfChangesInChargingConditions = other MaxNumberOfChangesInChargingConditions (λ s. refl)
by_trigger P final holding other AbnormalRelease = other AbnormalRelease (λ s. refl)

fired_granted : (trigger : TriggerType) (standing : Standing) (t : Terms) → standing_after trigger standing ≡ Granted t → standing ≡ Granted t
fired_granted trigger standing t = by_trigger (λ x. standing_after x standing ≡ Granted t → standing ≡ Granted t)
    (spent_granted standing t) (λ h. cc) (λ x same h. sym (same standing) ∙ h) trigger

fired_unlimited : (trigger : TriggerType) (standing : Standing) → standing_after trigger standing ≡ Unlimited → standing ≡ Unlimited
fired_unlimited trigger standing = by_trigger (λ x. standing_after x standing ≡ Unlimited → standing ≡ Unlimited)
    (spent_unlimited standing) (λ h. cc) (λ x same h. sym (same standing) ∙ h) trigger

fired_denied : (trigger : TriggerType) (standing : Standing) → standing_after trigger standing ≡ Denied → standing ≡ Denied
fired_denied trigger standing = by_trigger (λ x. standing_after x standing ≡ Denied → standing ≡ Denied)
    (spent_denied standing) (λ h. cc) (λ x same h. sym (same standing) ∙ h) trigger

without_unlimited : (standing : Standing) (octets seconds : ℕ) → without standing octets seconds ≡ Unlimited → standing ≡ Unlimited
without_unlimited (Granted u) octets seconds h = cond_not (left_of u.amount octets seconds == 0) h
  where
    cond_not : (b : Bool) → cond b Free (Granted u) ≡ Unlimited → Granted u ≡ Unlimited
    cond_not true h = cc
    cond_not false h = cc
without_unlimited Unlimited octets seconds h = h
without_unlimited Nothing octets seconds h = cc
without_unlimited Denied octets seconds h = cc
without_unlimited (Spent action) octets seconds h = cc
without_unlimited Free octets seconds h = cc

without_denied : (standing : Standing) (octets seconds : ℕ) → without standing octets seconds ≡ Denied → standing ≡ Denied
without_denied (Granted u) octets seconds h = cond_not (left_of u.amount octets seconds == 0) h
  where
    cond_not : (b : Bool) → cond b Free (Granted u) ≡ Denied → Granted u ≡ Denied
    cond_not true h = cc
    cond_not false h = cc
without_denied Unlimited octets seconds h = cc
without_denied Nothing octets seconds h = cc
without_denied Denied octets seconds h = refl
without_denied (Spent action) octets seconds h = cc
without_denied Free octets seconds h = cc

without_spent : (standing : Standing) (octets seconds : ℕ) (action : Action) → without standing octets seconds ≡ Spent action → standing ≡ Spent action
without_spent (Granted u) octets seconds action h = cond_not (left_of u.amount octets seconds == 0) h
  where
    cond_not : (b : Bool) → cond b Free (Granted u) ≡ Spent action → Granted u ≡ Spent action
    cond_not true h = cc
    cond_not false h = cc
without_spent Unlimited octets seconds action h = cc
without_spent Nothing octets seconds action h = cc
without_spent Denied octets seconds action h = cc
without_spent (Spent a) octets seconds action h = cc
without_spent Free octets seconds action h = cc

-- no entry sets a group as spent
granted_spent : (stamp : ℕ) (info : UnitInfo) (grant : Option Amount) (action : Action) → granted_by stamp info grant ≡ Spent action → ⊥
granted_spent stamp info None action h = cc
granted_spent stamp info (Some amount) action h = cc

set_spent : (code : Code) (stamp : ℕ) (info : UnitInfo) (action : Action) → set_by code stamp info ≡ Spent action → ⊥
set_spent Success stamp info action h = granted_spent stamp info info.grant action h
set_spent NotApplicable stamp info action h = cc
set_spent EndUserServiceDenied stamp info action h = cc
set_spent LimitReached stamp info action h = cc
set_spent RatingFailed stamp info action h = cc

pub latest : (steps : List Step) → TermsAreLatest steps
latest [] t h = cc
latest (Asked ∷ steps) t h = latest steps t h
latest (Frozen ∷ steps) t h = latest steps t h
latest (Shut ∷ steps) t h = latest steps t h
latest (Used octets seconds moment ∷ steps) t h = latest steps t h
latest (Answered stamp None ∷ steps) t h = latest steps t h
latest (Answered stamp (Some info) ∷ steps) t h = ap Some h
latest (Continued ∷ steps) t h = latest steps t (without_granted _ _ _ t h)
latest (Fired trigger ∷ steps) t h = latest steps t (fired_granted trigger _ t h)

unlimited : (steps : List Step) → (quota_after steps).standing ≡ Unlimited → latest_set steps ≡ Some Unlimited
unlimited [] h = cc
unlimited (Asked ∷ steps) h = unlimited steps h
unlimited (Frozen ∷ steps) h = unlimited steps h
unlimited (Shut ∷ steps) h = unlimited steps h
unlimited (Used octets seconds moment ∷ steps) h = unlimited steps h
unlimited (Answered stamp None ∷ steps) h = unlimited steps h
unlimited (Answered stamp (Some info) ∷ steps) h = ap Some h
unlimited (Continued ∷ steps) h = unlimited steps (without_unlimited _ _ _ h)
unlimited (Fired trigger ∷ steps) h = unlimited steps (fired_unlimited trigger _ h)

denied : (steps : List Step) → (quota_after steps).standing ≡ Denied → latest_set steps ≡ Some Denied
denied [] h = cc
denied (Asked ∷ steps) h = denied steps h
denied (Frozen ∷ steps) h = denied steps h
denied (Shut ∷ steps) h = denied steps h
denied (Used octets seconds moment ∷ steps) h = denied steps h
denied (Answered stamp None ∷ steps) h = denied steps h
denied (Answered stamp (Some info) ∷ steps) h = ap Some h
denied (Continued ∷ steps) h = denied steps (without_denied _ _ _ h)
denied (Fired trigger ∷ steps) h = denied steps (fired_denied trigger _ h)

-- the last units of granted ones, where a trigger spent them
spent_last : (last : Option Action) (t : Terms) (action : Action) → spent_by last t ≡ Spent action → last ≡ Some action
spent_last None t action h = cc
spent_last (Some a) t action h = cc

newly_spent : (standing : Standing) (action : Action) (set : Option Standing) → ((t : Terms) → standing ≡ Granted t → set ≡ Some (Granted t)) → (standing ≡ Spent action → LeavesAction set action)
    → spent standing ≡ Spent action → LeavesAction set action
newly_spent (Granted t) action set granted before h = subst (λ s. LeavesAction s action) (sym (granted t refl)) (spent_last t.last_units t action h)
newly_spent Nothing action set granted before h = before h
newly_spent Unlimited action set granted before h = before h
newly_spent Denied action set granted before h = before h
newly_spent (Spent a) action set granted before h = before h
newly_spent Free action set granted before h = before h

leaves : (steps : List Step) (action : Action) → (quota_after steps).standing ≡ Spent action → LeavesAction (latest_set steps) action
leaves [] action h = cc
leaves (Asked ∷ steps) action h = leaves steps action h
leaves (Frozen ∷ steps) action h = leaves steps action h
leaves (Shut ∷ steps) action h = leaves steps action h
leaves (Used octets seconds moment ∷ steps) action h = leaves steps action h
leaves (Answered stamp None ∷ steps) action h = leaves steps action h
leaves (Answered stamp (Some info) ∷ steps) action h = absurd (set_spent info.code stamp info action h)
leaves (Continued ∷ steps) action h = leaves steps action (without_spent _ _ _ action h)
leaves (Fired trigger ∷ steps) action h = by_trigger (λ x. standing_after x (quota_after steps).standing ≡ Spent action → LeavesAction (latest_set steps) action)
    (newly_spent (quota_after steps).standing action (latest_set steps) (latest steps) (leaves steps action))
    (λ e. cc)
    (λ x same e. leaves steps action (sym (same _) ∙ e)) trigger h

unchanged_fired : (trigger : TriggerType) (now standing : Standing) (set : Option Standing) → (set ≡ Some standing → now ≡ standing)
    → cond (returns_quota trigger) None set ≡ Some standing → standing_after trigger now ≡ standing
unchanged_fired trigger now standing set before = by_trigger (λ x. cond (returns_quota x) None set ≡ Some standing → standing_after x now ≡ standing)
    (λ h. cc) (λ h. cc) (λ x same h. same now ∙ before (kept (returns_quota x) h)) trigger
  where
    kept : (b : Bool) → cond b None set ≡ Some standing → set ≡ Some standing
    kept true h = cc
    kept false h = h

some_same : (a b : Standing) → Some a ≡ Some b → a ≡ b
some_same a b h = cc

unchanged : (steps : List Step) (standing : Standing) → unchanged_set steps ≡ Some standing → (quota_after steps).standing ≡ standing
unchanged [] standing h = cc
unchanged (Asked ∷ steps) standing h = unchanged steps standing h
unchanged (Frozen ∷ steps) standing h = unchanged steps standing h
unchanged (Shut ∷ steps) standing h = unchanged steps standing h
unchanged (Used octets seconds moment ∷ steps) standing h = unchanged steps standing h
unchanged (Answered stamp None ∷ steps) standing h = unchanged steps standing h
unchanged (Answered stamp (Some info) ∷ steps) standing h = some_same _ _ h
unchanged (Continued ∷ steps) standing h = cc
unchanged (Fired trigger ∷ steps) standing h = unchanged_fired trigger (quota_after steps).standing standing (unchanged_set steps) (unchanged steps standing) h

pub stands : (steps : List Step) → StandsByTheList steps
stands steps = record { terms = latest steps; unlimited = unlimited steps; denied = denied steps; spent = leaves steps; unchanged = unchanged steps }
