use Rattle.std.proofs.Common.{◌≡◌, drop, fold}
use Rattle.smf_model.specs.Rules.{with_rule}
use Rattle.smf_core.proofs.rules.with_rules.Given as goal

abbrev pub invariant-loop-rule : goal.invariant-loop-rule
invariant-loop-rule l = fold (with_rule l.group) l.next.items (drop l.rule-index l.rule-items) ≡ fold (with_rule l.group) l.fn.rules.items l.rule-items
