use Rattle.std.proofs.Common.{sym, subst}
use Rattle.records.specs.Book.{Records}
use Rattle.acceptance.specs.Numbered.{AreNumbered}
use Rattle.acceptance.proofs.Numbered.{all_closed}
use Rattle.acceptance.proofs.record_books.close_all.Goals as goal

pub returns : goal.returns
returns c =
    let before = subst (λ (r : Records). AreNumbered 1 r.sessions) (sym c.make_room.ensures.records) c.requires.numbered in
    record { numbered = subst (λ (r : Records). AreNumbered 1 r.sessions) (sym c.close_all.ensures.records) (all_closed 1 c.make_room.new.self.records.sessions _ _ before) }
