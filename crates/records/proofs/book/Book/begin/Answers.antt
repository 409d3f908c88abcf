use Rattle.std.proofs.Common.{◌≡◌, ◌∙◌, Option, Some, None, ap, refl, sym, subst, arith}
use Rattle.std.specs.List.{Contains}
use Rattle.records.specs.declared.record.Kept.{Kept}
use Rattle.records.specs.declared.session.SessionKept.{SessionKept}
use Rattle.records.specs.Groups.{UnclosedSeen, HasRoom}
use Rattle.records.specs.Book.{Session, session_of, closable_in, closable}
use Rattle.records.specs.Seen.{BookSeen, sessions_seen, EachClosable, HasRoomIn, HasRoomFor, kept_of}
use Rattle.records.proofs.Begun.{room_of_same, begun}
use Rattle.records.proofs.Closable as n
use Rattle.records.proofs.EachClosable.{each_entered}
use Rattle.records.proofs.Sessions as s
use Rattle.records.proofs.book.Book.begin.Goals as goal

pub enter-requires-clause-fresh : goal.enter-requires-clause-fresh
enter-requires-clause-fresh c = s.fresh c.self.inside.sessions.items c.args.session (ap (λ (b : BookSeen). session_of b.records.sessions c.args.session) c.self.view_is ∙ c.requires.fresh)

pub returns-clause-room : goal.returns-clause-room
returns-clause-room c = λ used room.
    let fresh : kept_of c.self.inside.sessions.items c.args.session ≡ None = s.fresh c.self.inside.sessions.items c.args.session (ap (λ (b : BookSeen). session_of b.records.sessions c.args.session) c.self.view_is ∙ c.requires.fresh) in
    let here : HasRoomIn c.self.inside.next (kept_of c.self.inside.sessions.items c.args.session) used = subst (λ (b : BookSeen). HasRoomFor b c.args.session used) (sym c.self.view_is) room in
    let next : HasRoom c.self.inside.next used = subst (λ (o : Option SessionKept). HasRoomIn c.self.inside.next o used) fresh here in
    begun _ c.open.new.self _ _ used c.enter.ensures.kept refl
    (room_of_same c.self.inside.next c.open.new.self used (c.self.invariant.3 ∙ sym c.open.ensures.groups) (ap (λ (u : UnclosedSeen). u.spare) (sym c.replace-record.ensures.value) ∙ sym c.open.ensures.spare) next)

pub invariant_of-self : goal.invariant_of-self
invariant_of-self c =
    let first = ap (λ (k : Kept). k.sequence) c.open.ensures.kept in
    let new : Session = record { number = c.args.session; subscriber = c.args.subscriber; consumer = c.args.consumer; charging_id = c.args.charging_id; unclosed = Some c.open.new.self.kept } in
    let entered = ap closable c.enter.ensures.entered in
    let more = n.begun new (sessions_seen c.self.inside.sessions.items) in
    let none : closable_in (Some c.open.new.self.kept) ≡ 0 = ap (λ (k : Kept). closable_in (Some k)) c.open.ensures.kept in (
      c.enter.ensures.same,
      c.enter.ensures.rising,
      c.enter.ensures.sequences _ c.self.invariant.2 (omega arith),
      ap (λ (u : UnclosedSeen). u.groups) c.replace-record.ensures.after ∙ c.empty.ensures.none,
      omega (arith, c.self.invariant.4, entered, more, none),
      subst (EachClosable (Contains c.self.inside.touched.items)) (sym c.enter.ensures.entered) (each_entered (Contains c.self.inside.touched.items) new (sessions_seen c.self.inside.sessions.items) (λ some. absurd (omega (arith, none, some))) c.self.invariant.5),
    )
