use Rattle.std.proofs.Common.{refl, arith}
use Rattle.std.proofs.lemmas.List.{length-map}
use Rattle.records.specs.Book.{ended}
use Rattle.records.specs.Seen.{session_seen, sessions_seen}
use Rattle.records.proofs.Found as f
use Rattle.records.proofs.Closable as n
use Rattle.records.proofs.Sessions as s
use Rattle.records.proofs.by_number.end_of.Goals as goal

pub returns-in-Some-clause-ended : goal.returns-in-Some-clause-ended
returns-in-Some-clause-ended c =
    f.changed _ _ _ _ c.end.new.self _ _ (ended c.args.cause c.args.stamp) (f.has-at _ _ _ _ _ c.requires.same c.requires.rising c.in-Some.ensures c.index-sessions-at.is) c.end.ensures.ended c.end.ensures.session

pub returns-in-Some-clause-numbers : goal.returns-in-Some-clause-numbers
returns-in-Some-clause-numbers c = f.numbers _ _ _ _ c.end.new.self _ (f.has-at _ _ _ _ _ c.requires.same c.requires.rising c.in-Some.ensures c.index-sessions-at.is) c.end.ensures.session

pub returns-in-Some-clause-sequences : goal.returns-in-Some-clause-sequences
returns-in-Some-clause-sequences c = s.within-set _ _ _ _ c.end.new.self c.end.ensures.kept c.requires.sequences c.end.ensures.sequence

pub returns-in_default-clause-ended : goal.returns-in_default-clause-ended
returns-in_default-clause-ended c = s.none_changed _ _ _ (ended c.args.cause c.args.stamp) (f.missing _ _ _ c.requires.same c.in_default.ensures) refl

pub end-requires-clause-counted : goal.end-requires-clause-counted
end-requires-clause-counted c = let h = f.has-at _ _ _ _ _ c.requires.same c.requires.rising c.in-Some.ensures c.index-sessions-at.is in omega (arith, n.among _ _ _ h.within h.at, c.requires.count)

pub end-requires-clause-bound : goal.end-requires-clause-bound
end-requires-clause-bound c = omega (arith, n.at_most (sessions_seen c.args.sessions.now), length-map c.args.sessions.now session_seen, c.requires.count)

pub returns-in-Some-clause-count : goal.returns-in-Some-clause-count
returns-in-Some-clause-count c =
    let h = f.has-at _ _ _ _ _ c.requires.same c.requires.rising c.in-Some.ensures c.index-sessions-at.is in omega (arith, n.changed _ _ _ c.end.new.self h.within h.at, c.end.ensures.counted, c.requires.count)
