use Rattle.notice_laws.proofs.StepList.{all_numbered, all_leave}
use Rattle.notice_laws.proofs.laws.notices_stand.Goals as goal

pub returns-clause-numbered : goal.returns-clause-numbered
returns-clause-numbered c = all_numbered c.notices_in_order.ensures.numbered

pub returns-clause-leave : goal.returns-clause-leave
returns-clause-leave c = all_leave c.notices_in_order.ensures.leave
