use Rattle.rating.proofs.Ranges.{group_terms_small}
use Rattle.rating.proofs.Few.{grants_few}
use Rattle.rating.proofs.laws.terms_are_in_range.Goals as goal

pub returns-clause-terms : goal.returns-clause-terms
returns-clause-terms c = group_terms_small

pub returns-clause-grants : goal.returns-clause-grants
returns-clause-grants c = grants_few
