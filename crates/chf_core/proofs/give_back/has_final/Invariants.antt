use Rattle.std.proofs.Common.{◌≡◌, drop}
use Rattle.chf_core.specs.Effect.{has_final}
use Rattle.chf_core.proofs.give_back.has_final.Given as goal

abbrev pub invariant-loop-trigger : goal.invariant-loop-trigger
invariant-loop-trigger l = has_final (drop l.trigger-index l.triggers) ≡ has_final l.triggers
