use Rattle.std.proofs.Common.{refl}
use Rattle.smf_payloads.proofs.Attempts.{attempt_back, no_reply_back, not_sent_back}
use Rattle.smf_payloads.proofs.laws.attempts_read_back.Goals as goal

pub returns : goal.returns
returns c =
    let numbers = c.numbers_read_back.ensures in
    record { attempt = attempt_back numbers; not_sent = not_sent_back numbers; no_reply = no_reply_back numbers; restart = refl }
