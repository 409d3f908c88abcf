use Rattle.chf_core.proofs.Entered.{always_a_reply, entered_is_kept, repeats_stand}
use Rattle.chf_core.proofs.histories.requests_are_answered.Goals as goal

pub returns : goal.returns
returns c =
    let told = c.contents_are_told.ensures in
    record { answered = always_a_reply; entered = entered_is_kept told; repeated = repeats_stand told }
