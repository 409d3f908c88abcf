use Rattle.std.proofs.Common.{◌≡◌, drop, fold}
use Rattle.smf_model.specs.Replies.{with_group_rules, rules_after}
use Rattle.smf_core.proofs.answers.rules_after.Given as goal

abbrev pub invariant-loop-entry : goal.invariant-loop-entry
invariant-loop-entry l = fold (with_group_rules l.answer.units) l.next.items (drop l.entry-index l.groups) ≡ rules_after l.answer l.groups l.rules
