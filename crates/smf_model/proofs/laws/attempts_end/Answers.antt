use Rattle.smf_model.proofs.Flights.{ends_unsent, ends_unanswered, restarted, lands, lands_too}
use Rattle.smf_model.proofs.laws.attempts_end.Goals as goal

pub returns-clause-not_sent : goal.returns-clause-not_sent
returns-clause-not_sent c = ends_unsent

pub returns-clause-no_reply : goal.returns-clause-no_reply
returns-clause-no_reply c = ends_unanswered

pub returns-clause-restart : goal.returns-clause-restart
returns-clause-restart c = restarted

pub returns-clause-not_sent_is_step : goal.returns-clause-not_sent_is_step
returns-clause-not_sent_is_step c = lands

pub returns-clause-no_reply_is_step : goal.returns-clause-no_reply_is_step
returns-clause-no_reply_is_step c = lands_too
