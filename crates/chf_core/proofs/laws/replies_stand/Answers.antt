use Rattle.chf_core.proofs.Places.{first_outcome}
use Rattle.chf_core.proofs.Fresh.{fresh_is}
use Rattle.chf_core.proofs.Named.{kept_longer}
use Rattle.chf_core.proofs.laws.replies_stand.Goals as goal

pub returns-clause-first : goal.returns-clause-first
returns-clause-first c = first_outcome

pub returns-clause-fresh : goal.returns-clause-fresh
returns-clause-fresh c = fresh_is

pub returns-clause-kept : goal.returns-clause-kept
returns-clause-kept c = kept_longer
