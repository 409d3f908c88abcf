use Rattle.std.proofs.Common.{◌≡◌, drop}
use Rattle.chf_core.specs.Filings.{is_abnormal}
use Rattle.chf_core.proofs.filing.is_abnormal.Given as goal

abbrev pub invariant-loop-trigger : goal.invariant-loop-trigger
invariant-loop-trigger l = is_abnormal (drop l.trigger-index l.triggers) ≡ is_abnormal l.triggers
