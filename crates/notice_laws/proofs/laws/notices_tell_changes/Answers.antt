use Rattle.notice_laws.proofs.Telling.{changes_are_told}
use Rattle.notice_laws.proofs.laws.notices_tell_changes.Goals as goal

pub returns : goal.returns
returns c = changes_are_told c.notices_stand.ensures.numbered c.states_are_joined.ensures.decisions c.money_balances.ensures.balance c.ledger_is_whole.ensures
