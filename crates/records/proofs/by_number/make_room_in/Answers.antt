use Rattle.std.proofs.Common.{Option, ap, subst, sym}
use Rattle.std.specs.Prelude.{IfSome}
use Rattle.records.specs.declared.session.SessionKept.{SessionKept}
use Rattle.records.specs.Groups.{HasRoom}
use Rattle.records.specs.Book.{Session}
use Rattle.records.proofs.Found as f
use Rattle.records.proofs.Sessions as s
use Rattle.records.proofs.Places.{on_ok}
use Rattle.records.proofs.by_number.make_room_in.Goals as goal

pub returns-in-Some-clause-room : goal.returns-in-Some-clause-room
returns-in-Some-clause-room c =
    on_ok c.make_room.result (λ r. f.roomier _ _ _ _ c.make_room.new.self _ (f.has-at _ _ _ _ _ c.requires.same c.requires.rising c.in-Some.ensures c.index-sessions-at.is) c.make_room.ensures.kept r) c.make_room.ensures.room

pub returns-in-Some-clause-kept : goal.returns-in-Some-clause-kept
returns-in-Some-clause-kept c = s.seen-set _ _ _ c.make_room.new.self (f.has-at _ _ _ _ _ c.requires.same c.requires.rising c.in-Some.ensures c.index-sessions-at.is).within (f.has-at _ _ _ _ _ c.requires.same c.requires.rising c.in-Some.ensures c.index-sessions-at.is).at c.make_room.ensures.kept

pub returns-in-Some-clause-sequences : goal.returns-in-Some-clause-sequences
returns-in-Some-clause-sequences c = λ n h. s.within-seen _ n _ _ c.make_room.new.self (f.has-at _ _ _ _ _ c.requires.same c.requires.rising c.in-Some.ensures c.index-sessions-at.is).within (f.has-at _ _ _ _ _ c.requires.same c.requires.rising c.in-Some.ensures c.index-sessions-at.is).at (c.make_room.ensures.sequence n) h

pub returns-in-None-clause-room : goal.returns-in-None-clause-room
returns-in-None-clause-room c =
    subst (λ (o : Option SessionKept). IfSome o (λ z. IfSome z.unclosed (λ u. HasRoom u c.args.used.now))) (sym (s.kept_missing _ _ (f.missing _ _ _ c.requires.same c.in-None.ensures))) tt

pub returns-in-Some-clause-numbers : goal.returns-in-Some-clause-numbers
returns-in-Some-clause-numbers c =
    let h = f.has-at _ _ _ _ _ c.requires.same c.requires.rising c.in-Some.ensures c.index-sessions-at.is in s.numbers-set _ _ _ c.make_room.new.self h.within h.at (ap (λ (z : Session). z.number) c.make_room.ensures.kept)
