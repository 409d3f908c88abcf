use Rattle.std.proofs.Common.{refl, arith}
use Rattle.std.proofs.lemmas.List.{length-map}
use Rattle.records.specs.Book.{added}
use Rattle.records.specs.Seen.{session_seen, sessions_seen}
use Rattle.records.proofs.Found as f
use Rattle.records.proofs.Closable as n
use Rattle.records.proofs.Sessions as s
use Rattle.records.proofs.by_number.add_to.Goals as goal

pub add-requires-clause-room : goal.add-requires-clause-room
add-requires-clause-room c = f.room _ _ _ _ _ (f.has-at _ _ _ _ _ c.requires.same c.requires.rising c.in-Some.ensures c.index-sessions-at.is) c.requires.room

pub add-requires-clause-sequence : goal.add-requires-clause-sequence
add-requires-clause-sequence c = let h = f.has-at _ _ _ _ _ c.requires.same c.requires.rising c.in-Some.ensures c.index-sessions-at.is in s.within-at _ _ _ _ c.requires.sequences h.within h.at

pub returns-in-Some-clause-added : goal.returns-in-Some-clause-added
returns-in-Some-clause-added c =
    f.changed _ _ _ _ c.add.new.self _ _ (added c.args.limits.now c.args.used c.args.stamp c.args.last) (f.has-at _ _ _ _ _ c.requires.same c.requires.rising c.in-Some.ensures c.index-sessions-at.is) c.add.ensures.added c.add.ensures.session

pub returns-in-Some-clause-numbers : goal.returns-in-Some-clause-numbers
returns-in-Some-clause-numbers c = f.numbers _ _ _ _ c.add.new.self _ (f.has-at _ _ _ _ _ c.requires.same c.requires.rising c.in-Some.ensures c.index-sessions-at.is) c.add.ensures.session

pub returns-in-Some-clause-sequences : goal.returns-in-Some-clause-sequences
returns-in-Some-clause-sequences c = s.within-set _ _ _ _ c.add.new.self c.add.ensures.kept c.requires.sequences c.add.ensures.sequence

pub returns-in_default-clause-added : goal.returns-in_default-clause-added
returns-in_default-clause-added c = s.none_changed _ _ _ (added c.args.limits.now c.args.used c.args.stamp c.args.last) (f.missing _ _ _ c.requires.same c.in_default.ensures) refl

pub add-requires-clause-counted : goal.add-requires-clause-counted
add-requires-clause-counted c = let h = f.has-at _ _ _ _ _ c.requires.same c.requires.rising c.in-Some.ensures c.index-sessions-at.is in omega (arith, n.among _ _ _ h.within h.at, c.requires.count)

pub add-requires-clause-bound : goal.add-requires-clause-bound
add-requires-clause-bound c = omega (arith, n.at_most (sessions_seen c.args.sessions.now), length-map c.args.sessions.now session_seen, c.requires.count)

pub returns-in-Some-clause-count : goal.returns-in-Some-clause-count
returns-in-Some-clause-count c =
    let h = f.has-at _ _ _ _ _ c.requires.same c.requires.rising c.in-Some.ensures c.index-sessions-at.is in omega (arith, n.changed _ _ _ c.add.new.self h.within h.at, c.add.ensures.counted, c.requires.count)
