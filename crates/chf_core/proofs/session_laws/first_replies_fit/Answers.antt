use Rattle.chf_core.proofs.InRange.{first_replies_fit}
use Rattle.chf_core.proofs.session_laws.first_replies_fit.Goals as goal

pub returns : goal.returns
returns c = first_replies_fit c.terms_are_in_range.ensures.terms c.terms_are_in_range.ensures.grants
