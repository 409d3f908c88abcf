use Rattle.journal.proofs.Nodes.{begins_kept, goes_on, of_more, stands_now}
use Rattle.journal.proofs.laws.extensions_compose.Goals as goal

pub returns-clause-go_on : goal.returns-clause-go_on
returns-clause-go_on g c = λ before between after added more least. goes_on _ _ _ _ _ _ added more least

pub returns-clause-of_more : goal.returns-clause-of_more
returns-clause-of_more g c = λ before after added more. of_more _ _ _ _ added more

pub returns-clause-stand : goal.returns-clause-stand
returns-clause-stand g c = λ before after added least. stands_now _ _ _ _ added least

pub returns-clause-beginnings : goal.returns-clause-beginnings
returns-clause-beginnings g c = λ before after added least list. begins_kept _ _ _ _ added least list
