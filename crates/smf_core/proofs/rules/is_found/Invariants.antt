use Rattle.std.proofs.Common.{◌≡◌, drop}
use Rattle.std.specs.List.{list_any}
use Rattle.smf_model.specs.Categories.{same_type}
use Rattle.smf_core.proofs.rules.is_found.Given as goal

abbrev pub invariant-loop-rule : goal.invariant-loop-rule
invariant-loop-rule l = list_any (λ x. same_type x.trigger l.trigger) (drop l.rule-index l.found) ≡ list_any (λ x. same_type x.trigger l.trigger) l.found
