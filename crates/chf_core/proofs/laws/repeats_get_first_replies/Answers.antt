use Rattle.chf_core.proofs.FirstReplies.{first_replies}
use Rattle.chf_core.proofs.laws.repeats_get_first_replies.Goals as goal

pub returns : goal.returns
returns c = first_replies
