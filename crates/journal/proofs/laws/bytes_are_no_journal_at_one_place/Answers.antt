use Rattle.journal.proofs.Exact.{not_both}
use Rattle.journal.proofs.Place.{one_place}
use Rattle.journal.proofs.laws.bytes_are_no_journal_at_one_place.Goals as goal

pub returns-clause-one : goal.returns-clause-one
returns-clause-one c = one_place

pub returns-clause-none : goal.returns-clause-none
returns-clause-none c = not_both
