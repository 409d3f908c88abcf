-- What came to a group, as a list whose newest entry comes first, and what the calls make of it (TS 32.290, quota management).
use Rattle.std.specs.Prelude.{Some, List, [], ◌∷◌}
use Rattle.quotas.specs.declared.step.Step.{Step}
use Rattle.quotas.specs.declared.step.Step.TheVariants.{Asked, Frozen, Answered, Continued, Used, Fired, Shut}
use Rattle.quotas.specs.Quota.{Quota, new_quota, asked, frozen, answered, continued, used, shut_off, fired}

-- what one of them makes of the group
abbrev pub quota_step : Step → Quota → Quota
quota_step Asked q = asked q
quota_step Frozen q = frozen q
quota_step Continued q = continued q
quota_step Shut q = shut_off q
quota_step (Answered stamp info) q = answered stamp info q
quota_step (Used octets seconds moment) q = used octets seconds moment q
quota_step (Fired trigger) q = fired trigger q

-- the group after all of them
abbrev pub quota_after : List Step → Quota
quota_after [] = new_quota
quota_after (step ∷ earlier) = quota_step step (quota_after earlier)

-- what came since the latest freezing
abbrev pub since_freezing : List Step → List Step
since_freezing [] = []
since_freezing (Frozen ∷ earlier) = []
since_freezing (step ∷ earlier) = step ∷ since_freezing earlier

-- what came since the freezing of the request whose answer, the latest with an entry of the group, set it
abbrev pub since_set : List Step → List Step
since_set [] = []
since_set (Answered stamp (Some info) ∷ earlier) = since_freezing earlier
since_set (step ∷ earlier) = step ∷ since_set earlier
