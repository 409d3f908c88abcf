-- Requests and sessions that are apart (TS 32.290, 5.3.2; what is given up is this product's own).
use Rattle.std.specs.Prelude.{◌≡◌, ℕ, ◌≤◌, Bool, true, false, Some, None, List, [], ◌∷◌}
use Rattle.units.specs.declared.request.Request.{Request}
use Rattle.sessions.specs.Kept.{uses, has_release}
use Rattle.sessions.specs.Trace.{Move, Phase, Cause, requests, settled, phase, given_up}
use Rattle.sessions.specs.Trace.Phase.{Idle, Asked, Released, Unsent, Refused}
use Rattle.smf_model.specs.declared.session.Session.{Session}
use Rattle.smf_model.specs.Machine.{session_of}

-- no reply will be an answer any more, and no Release was answered
abbrev pub is_lost : Phase → Bool
is_lost Idle = false
is_lost Asked = false
is_lost Released = false
is_lost Unsent = true
is_lost Refused = true

-- of requests, the newest first, none but the newest is a Release
abbrev pub OnlyNewestReleases : List Request → Type 0
OnlyNewestReleases [] = Unit {0}
OnlyNewestReleases (q ∷ earlier) = has_release earlier ≡ false

-- no container is in two requests; what is given up is in no answered request, and in no request at all but where the session is lost
pub record RequestsAreApart (trace : List Move) : Type 0 where
  pub once : (lsn : ℕ) → uses lsn (requests trace) ≤ 1
  pub not_answered : (lsn : ℕ) (cause : Cause) → given_up trace lsn ≡ Some cause → uses lsn (settled trace) ≡ 0
  pub in_none : (lsn : ℕ) (cause : Cause) → given_up trace lsn ≡ Some cause → is_lost (phase trace) ≡ false → uses lsn (requests trace) ≡ 0
  pub release : OnlyNewestReleases (requests trace)

-- no two sessions have one number
abbrev pub SessionsAreApart : List Session → Type 0
SessionsAreApart [] = Unit {0}
SessionsAreApart (s ∷ sessions) = (session_of s.number sessions ≡ None) × SessionsAreApart sessions
