use Rattle.std.proofs.Common.{sym, ap, subst, ◌∙◌, length, ◌+◌, arith}
use Rattle.records.specs.Book.{Records, session_of}
use Rattle.acceptance.specs.Numbered.{AreNumbered}
use Rattle.acceptance.proofs.Numbered.{fresh, all_entered}
use Rattle.acceptance.proofs.record_books.begin.Goals as goal

pub begin-requires-clause-fresh : goal.begin-requires-clause-fresh
begin-requires-clause-fresh c =
    ap (λ (r : Records). session_of r.sessions (c.begun-begun.result + 1)) c.make_room.ensures.records
    ∙ fresh 1 c.args.book.now.records.sessions (c.begun-begun.result + 1) c.requires.numbered (omega (arith, c.begun-begun.ensures))

pub returns : goal.returns
returns c =
    let before = subst (λ (r : Records). AreNumbered 1 r.sessions) (sym c.make_room.ensures.records) c.requires.numbered in
    record { numbered = subst (λ (r : Records). AreNumbered 1 r.sessions) (sym c.begin.ensures.records) (all_entered 1 _ c.make_room.new.self.records.sessions before (omega (arith, c.begun-begun.ensures, ap (λ (r : Records). length r.sessions) c.make_room.ensures.records))) }
