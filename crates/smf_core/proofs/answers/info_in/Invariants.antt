use Rattle.std.proofs.Common.{◌≡◌, drop}
use Rattle.smf_model.specs.Replies.{info_of}
use Rattle.smf_core.proofs.answers.info_in.Given as goal

abbrev pub invariant-loop-info : goal.invariant-loop-info
invariant-loop-info l = info_of l.group (drop l.info-index l.units) ≡ info_of l.group l.units
