use Rattle.smf_model.proofs.Subscribers.{subscriber_run}
use Rattle.smf_model.proofs.laws.requests_are_of_subscriber.Goals as goal

pub returns : goal.returns
returns c = subscriber_run
