use Rattle.std.proofs.Common.{sym}
use Rattle.records.proofs.Found as f
use Rattle.records.proofs.Sessions as s
use Rattle.records.proofs.by_number.found.Goals as goal

pub returns-in-None : goal.returns-in-None
returns-in-None c = sym (s.kept_missing _ _ (f.missing _ _ _ c.requires.same c.in-None.ensures))

pub returns-in-Some : goal.returns-in-Some
returns-in-Some c = sym (f.kept _ _ _ _ (f.has _ _ _ _ c.index-sessions-at.result c.requires.same c.requires.rising c.in-Some.ensures c.index-sessions-at.is))
