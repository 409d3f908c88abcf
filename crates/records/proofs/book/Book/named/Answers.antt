use Rattle.std.proofs.Common.{◌≡◌, ◌∙◌, Option, Some, None, sym, ap, subst}
use mathlib.Core.Bool.{false≢true}
use Rattle.std.specs.Prelude.{IfSome, IsSome, IfOk, Result, Ok, Err}
use Rattle.records.specs.declared.limits.RecordLimits.{RecordLimits}
use Rattle.records.specs.declared.record.Kept.{Kept}
use Rattle.records.specs.declared.record.Record.{Record}
use Rattle.records.specs.Book.{Session, session_of}
use Rattle.records.specs.Named.{named_as}
use Rattle.records.specs.Seen.{BookSeen, session_seen}
use Rattle.records.proofs.Sessions as s
use Rattle.records.proofs.book.Book.named.Goals as goal

pub unreachable-requires : goal.unreachable-requires
unreachable-requires c =
    let none : session_of c.args.self.now.records.sessions c.args.kept.now.session ≡ None =
    ap (λ (b : BookSeen). session_of b.records.sessions c.args.kept.now.session) (sym c.self.view_is)
    ∙ s.session_none c.self.inside.sessions.items c.deref-2.result.now c.args.kept.now.session c.deref-2.ensures.value c.in-None.ensures in
    absurd (false≢true (subst (λ (o : Option Session). IsSome o) none c.requires.begun))

named_is : {E : Type 0} (result : Result Record E) (l m : RecordLimits) (o : Option Session) (z : Session) (k : Kept) → o ≡ Some z → l ≡ m → IfOk result (λ r. r ≡ named_as l z k) → IfOk result (λ r. IfSome o (λ y. r ≡ named_as m y k))
named_is (Ok r) l m o z k some limits is = subst (λ (p : Option Session). IfSome p (λ y. r ≡ named_as m y k)) (sym some) (is ∙ ap (λ (q : RecordLimits). named_as q z k) limits)
named_is (Err e) l m o z k some limits is = tt

pub returns : goal.returns
returns c =
    let some : session_of c.args.self.now.records.sessions c.args.kept.now.session ≡ Some (session_seen c.in-Some.session.now) =
    ap (λ (b : BookSeen). session_of b.records.sessions c.args.kept.now.session) (sym c.self.view_is)
    ∙ s.session_found c.self.inside.sessions.items c.deref-2.result.now c.args.kept.now.session c.in-Some.session.now c.deref-2.ensures.value c.in-Some.ensures in
    let l = ap (λ (b : BookSeen). b.limits) c.self.view_is in
    named_is c.name.result c.self.inside.limits c.args.self.now.limits (session_of c.args.self.now.records.sessions c.args.kept.now.session) (session_seen c.in-Some.session.now) c.args.kept.now some l c.name.ensures
