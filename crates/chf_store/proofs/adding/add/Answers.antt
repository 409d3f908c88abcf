use Rattle.chf_store.proofs.Together.{adds_nothing}
use Rattle.chf_store.proofs.adding.add.Goals as goal

pub returns-then-not-is_open-clause-grows : goal.returns-then-not-is_open-clause-grows
returns-then-not-is_open-clause-grows g c = λ entries held. adds_nothing _ _ _ _ entries _ held

pub returns-then-count-gt-MOST-clause-grows : goal.returns-then-count-gt-MOST-clause-grows
returns-then-count-gt-MOST-clause-grows g c = λ entries held. adds_nothing _ _ _ _ entries _ held
