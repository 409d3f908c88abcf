-- The end of an attempt without an answer, and of a round of attempts (TS 32.290, failure handling; what is given up is this product's own).
use Rattle.std.specs.Prelude.{ℕ, ◌+◌, ◌&&◌, nat_le, Bool, true, false, if◌then◌else◌, min, Some, map, length}
use Rattle.units.specs.declared.answer.Handling.{Handling}
use Rattle.units.specs.declared.answer.Handling.TheVariants.{Terminate, Continue, RetryAndTerminate}
use Rattle.units.specs.declared.trigger.TriggerType.TheVariants.{AbnormalRelease}
use Rattle.units.specs.Limits.{greatest_moment}
use Rattle.quotas.specs.Quota.{continued}
use Rattle.smf_model.specs.declared.setup.SmfSetup.{SmfSetup}
use Rattle.smf_model.specs.declared.session.Life.{Life}
use Rattle.smf_model.specs.declared.session.Life.TheVariants.{Live, Ending, Aborting, Ended}
use Rattle.smf_model.specs.declared.session.Loss.{Loss}
use Rattle.smf_model.specs.declared.session.Loss.TheVariants.{Unsent, Unanswered}
use Rattle.smf_model.specs.declared.session.Why.TheVariants.{NotSent}
use Rattle.smf_model.specs.declared.session.Entry.{Entry}
use Rattle.smf_model.specs.declared.session.Session.{Session}
use Rattle.smf_model.specs.Sending.{round_of}
use Rattle.smf_model.specs.Traffic.{without_traffic, ended_for}

-- the request did not leave
abbrev pub is_unsent : Loss → Bool
is_unsent Unsent = true
is_unsent Unanswered = false

-- the session goes on whether a CHF answers or not
abbrev pub is_continue : Handling → Bool
is_continue Terminate = false
is_continue Continue = true
is_continue RetryAndTerminate = false

-- the attempt in flight ended
abbrev pub with_loss : Loss → Session → Session
with_loss loss s = record s { sending = record s.sending { in_flight = false; unsent = s.sending.unsent && is_unsent loss } }

-- the attempt was the last of its round
abbrev pub is_last : Session → Bool
is_last s = nat_le (length (round_of s.handling s.failover s.peer)) (s.sending.turn + 1)

-- the next peer of the round comes
abbrev pub next_turn : Session → Session
next_turn s = record s { sending = record s.sending { turn = s.sending.turn + 1 } }

-- the next round waits
abbrev pub next_round : SmfSetup → ℕ → Session → Session
next_round setup now s = record s { sending = record s.sending { turn = 0; wait = Some (min (now + setup.retry) greatest_moment) } }

-- a rating group goes on without quota
abbrev pub continue_entry : Entry → Entry
continue_entry e = record e { quota = continued e.quota }

-- a live session is ending, abnormally
abbrev pub broken_off : ℕ → Life → Session → Session
broken_off now Live s = without_traffic Aborting now AbnormalRelease s
broken_off now Ending s = s
broken_off now Aborting s = s
broken_off now Ended s = s

-- a round is over: the session goes on without quota; or it is over, where no attempt of the request left; else it is ending
abbrev pub after_round : SmfSetup → ℕ → Session → Session
after_round setup now s =
    if is_continue s.handling then record (next_round setup now s) { groups = map continue_entry s.groups } else
    (if s.sending.unsent then ended_for NotSent now s else
    next_round setup now (broken_off now s.life s))

-- after an attempt: the next turn, or the end of the round
abbrev pub moved_on : SmfSetup → ℕ → Session → Session
moved_on setup now s = if is_last s then after_round setup now s else next_turn s

-- the attempt in flight ended without an answer
abbrev pub lost : SmfSetup → ℕ → Loss → Session → Session
lost setup now loss s = moved_on setup now (with_loss loss s)
