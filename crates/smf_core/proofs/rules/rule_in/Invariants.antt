use Rattle.std.proofs.Common.{◌≡◌, drop}
use Rattle.smf_model.specs.Rules.{rule_in}
use Rattle.smf_core.proofs.rules.rule_in.Given as goal

abbrev pub invariant-loop-rule : goal.invariant-loop-rule
invariant-loop-rule l = rule_in l.place (drop l.rule-index l.rules) ≡ rule_in l.place l.rules
