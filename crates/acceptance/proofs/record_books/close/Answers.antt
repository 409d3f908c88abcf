use Rattle.std.proofs.Common.{sym, subst}
use Rattle.records.specs.Book.{Records}
use Rattle.acceptance.specs.Numbered.{AreNumbered}
use Rattle.acceptance.proofs.Numbered.{all_reopened}
use Rattle.acceptance.proofs.record_books.close.Goals as goal

pub returns : goal.returns
returns c =
    let before = subst (λ (r : Records). AreNumbered 1 r.sessions) (sym c.make_room.ensures.records) c.requires.numbered in
    record { numbered = subst (λ (r : Records). AreNumbered 1 r.sessions) (sym c.close.ensures.records) (all_reopened 1 c.make_room.new.self.records.sessions c.args.session _ before) }
