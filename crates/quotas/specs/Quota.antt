-- The quota of a rating group, and what each thing that comes to the group makes of it (TS 32.290, quota management).
use Rattle.std.specs.Prelude.{ℕ, ◌+◌, ◌-◌, ◌^◌, ◌&&◌, ◌||◌, not, Bool, true, false, if◌then◌else◌, min, Option, Some, None}
use Rattle.units.specs.declared.answer.UnitInfo.{UnitInfo}
use Rattle.units.specs.declared.trigger.TriggerType.{TriggerType}
use Rattle.quotas.specs.declared.state.Gate.{Gate}
use Rattle.quotas.specs.declared.state.Gate.TheVariants.{Closed}
use Rattle.quotas.specs.declared.standing.Terms.{Terms}
use Rattle.quotas.specs.declared.standing.Standing.{Standing}
use Rattle.quotas.specs.declared.standing.Standing.TheVariants.{Nothing}
use Rattle.quotas.specs.Standing.{left_of, set_by, is_unlimited, is_free, without}
use Rattle.quotas.specs.Gate.{gate_at}
use Rattle.quotas.specs.Effect.{sets_wish, returns_quota, standing_after}

-- standing: what the group may use; wish: a wish that no request carried yet; carried: the unanswered request carries one;
-- given_back: the next request gives quota back; shut: the session is ending or has ended; octets and seconds: the use since
-- the freezing of the request whose answer set the group; fresh_octets and fresh_seconds: the use since the latest freezing;
-- last_use: the moment of the latest report
pub record Quota : Type 0 where
  pub standing : Standing
  pub wish : Bool
  pub carried : Bool
  pub given_back : Bool
  pub shut : Bool
  pub octets : ℕ
  pub seconds : ℕ
  pub fresh_octets : ℕ
  pub fresh_seconds : ℕ
  pub last_use : ℕ

-- nothing came yet
abbrev pub new_quota : Quota
new_quota = record { standing = Nothing; wish = false; carried = false; given_back = false; shut = false; octets = 0; seconds = 0; fresh_octets = 0; fresh_seconds = 0; last_use = 0 }

-- asked: from a wish to the answer to the request that carries it
abbrev pub is_asked : Quota → Bool
is_asked q = q.wish || q.carried

-- what is left of granted units
abbrev pub left : Terms → Quota → ℕ
left terms q = left_of terms.amount q.octets q.seconds

-- every group of a session that is ending or has ended is closed
abbrev pub gate_of : Quota → Gate
gate_of q = if q.shut then Closed else gate_at q.standing q.octets q.seconds

-- quota is wished for
abbrev pub asked : Quota → Quota
asked q = record q { wish = true }

-- a request is made (frozen): it carries the wish and the give-back
abbrev pub frozen : Quota → Quota
frozen q = record q { wish = false; carried = q.wish || q.carried; given_back = false; fresh_octets = 0; fresh_seconds = 0 }

-- the request with this time stamp is answered with success. An entry sets the group; a wish that no request carried stays,
-- unless no quota is managed any more. Without an entry the group is as before, and a free group wishes for quota again
abbrev pub answered : ℕ → Option UnitInfo → Quota → Quota
answered stamp None q = record q { carried = false; wish = q.wish || is_free q.standing }
answered stamp (Some info) q = record q { standing = set_by info.code stamp info; carried = false; wish = q.wish && not (is_unlimited (set_by info.code stamp info)); octets = q.fresh_octets; seconds = q.fresh_seconds }

-- no CHF answered, and the session goes on (failure handling CONTINUE of TS 32.290)
abbrev pub continued : Quota → Quota
continued q = record q { standing = without q.standing q.octets q.seconds }

-- a sum stands still at the end of its type
abbrev pub capped : ℕ → ℕ
capped n = min n (2 ^ 64 - 1)

-- a report
abbrev pub used : ℕ → ℕ → ℕ → Quota → Quota
used octets seconds moment q = record q { octets = capped (q.octets + octets); seconds = capped (q.seconds + seconds); fresh_octets = capped (q.fresh_octets + octets); fresh_seconds = capped (q.fresh_seconds + seconds); last_use = moment }

-- the session is ending
abbrev pub shut_off : Quota → Quota
shut_off q = record q { shut = true }

-- a trigger fired
abbrev pub fired : TriggerType → Quota → Quota
fired trigger q = record q { standing = standing_after trigger q.standing; wish = sets_wish trigger q.standing || q.wish; given_back = returns_quota trigger || q.given_back }
