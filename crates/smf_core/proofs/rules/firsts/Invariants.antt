use Rattle.std.proofs.Common.{◌≡◌, drop, fold}
use Rattle.smf_model.specs.Rules.{with_first, firsts}
use Rattle.smf_core.proofs.rules.firsts.Given as goal

abbrev pub invariant-loop-rule : goal.invariant-loop-rule
invariant-loop-rule l = fold with_first l.found.items (drop l.rule-index l.list) ≡ firsts l.list
