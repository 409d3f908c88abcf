use Rattle.chf_messages.proofs.Answered.{always_a_response}
use Rattle.chf_messages.proofs.laws.each_message_is_answered.Goals as goal

pub returns : goal.returns
returns c =
    always_a_response c.requests_are_answered.ensures.answered c.verdicts_suit_commands.ensures c.states_are_joined.ensures.decisions
