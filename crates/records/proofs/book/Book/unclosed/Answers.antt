use Rattle.std.proofs.Common.{◌∙◌, Option, option_map, sym, ap}
use Rattle.records.specs.Groups.{UnclosedSeen}
use Rattle.records.specs.Book.{Session, open_in, open_of}
use Rattle.records.specs.Seen.{BookSeen}
use Rattle.records.proofs.Sessions as s
use Rattle.records.proofs.book.Book.unclosed.Goals as goal

pub returns-in-Some : goal.returns-in-Some
returns-in-Some c =
    s.borrowed (λ (u : UnclosedSeen). u.kept) c.as_ref.result ∙ ap (λ (o : Option UnclosedSeen). option_map (λ u. u.kept) o) c.as_ref.ensures.value
    ∙ ap (λ (o : Option Session). open_in o) (sym (s.session_found c.self.inside.sessions.items c.deref-2.result.now c.args.session c.in-Some.session.now c.deref-2.ensures.value c.in-Some.ensures))
    ∙ ap (λ (b : BookSeen). open_of b.records.sessions c.args.session) c.self.view_is

pub returns-in-None : goal.returns-in-None
returns-in-None c =
    ap (λ (o : Option Session). open_in o) (sym (s.session_none c.self.inside.sessions.items c.deref-2.result.now c.args.session c.deref-2.ensures.value c.in-None.ensures))
    ∙ ap (λ (b : BookSeen). open_of b.records.sessions c.args.session) c.self.view_is
