use Rattle.chf_replay.proofs.Turns.{comes_enters}
use Rattle.chf_replay.proofs.walk.enter.Goals as goal

pub returns-in-Some-clause-entered : goal.returns-in-Some-clause-entered
returns-in-Some-clause-entered c =
    comes_enters _ _ _ c.in-Some.command c.args.entry.now (rw c.in-Some.is at c.in_ok-command.ensures.found) (rw c.in-Some.is at c.in_ok-command.ensures.only) c.enter_command.ensures.comes
