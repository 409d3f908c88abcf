use Rattle.std.proofs.Common.{◌≡◌, drop, fold}
use Rattle.quotas.specs.Deadline.{earlier}
use Rattle.smf_model.specs.Resting.{rest_end_in, rest_end}
use Rattle.smf_core.proofs.resting.rest_end.Given as goal

abbrev pub invariant-loop-entry : goal.invariant-loop-entry
invariant-loop-entry l = fold (λ end e. earlier end (rest_end_in l.setup l.session e)) l.end (drop l.entry-index l.session.groups) ≡ rest_end l.setup l.session
