use Rattle.chf_core.proofs.JoinedRequests.{joined, decision_is}
use Rattle.chf_core.proofs.JoinedMoney.{reply_is}
use Rattle.chf_core.proofs.histories.states_are_joined.Goals as goal

pub returns : goal.returns
returns c = record { parts = joined; decisions = decision_is; replies = reply_is }
