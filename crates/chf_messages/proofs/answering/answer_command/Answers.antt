use Rattle.std.proofs.Common.{◌∙◌, sym, subst}
use Rattle.chf_core.specs.Machine.{Answers}
use Rattle.chf_messages.specs.Ascending.{AscendsIn}
use Rattle.chf_messages.proofs.Ascends.{ascends}
use Rattle.chf_messages.proofs.answering.answer_command.Goals as goal

pub outcome_response-requires : goal.outcome_response-requires
outcome_response-requires c =
    let answer = subst (Answers c.decide.new.self c.args.command.now) c.in-Fresh.is c.in_ok-place.ensures.answer in
    subst AscendsIn (sym (c.outcome.ensures ∙ answer.1.worked_out.outcome)) (ascends c.statuses_ascend.ensures.statuses c.decide.new.self.state c.in-Fresh.plan.command)
