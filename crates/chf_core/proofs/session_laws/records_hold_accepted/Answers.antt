use Rattle.std.proofs.Common.{◌∙◌}
use Rattle.chf_core.proofs.JoinedParts.{book_is}
use Rattle.chf_core.proofs.FiledRecords.{records_are}
use Rattle.chf_core.proofs.HeldRecords.{held, in_order, held_times}
use Rattle.chf_core.proofs.session_laws.records_hold_accepted.Goals as goal

pub returns-clause-filed : goal.returns-clause-filed
returns-clause-filed c = λ a h. book_is a ∙ records_are a h

pub returns-clause-held : goal.returns-clause-held
returns-clause-held c = held c.containers_stand_once.ensures

pub returns-clause-order : goal.returns-clause-order
returns-clause-order c = in_order c.containers_in_order.ensures

pub returns-clause-times : goal.returns-clause-times
returns-clause-times c = held_times c.containers_stand_once.ensures
