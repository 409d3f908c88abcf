use Rattle.std.proofs.Common.{◌∙◌, ℕ, List, sym, ap, subst, vec_len}
use Rattle.std.specs.List.{Contains}
use Rattle.records.specs.declared.session.SessionKept.{SessionKept}
use Rattle.records.specs.Book.{closable}
use Rattle.records.specs.Seen.{sessions_seen, numbers_of, AreRising, SequencesAreWithin, EachClosable}
use Rattle.records.proofs.book.Book.make_room.Goals as goal

pub invariant_of-self-in_err-make_room_of : goal.invariant_of-self-in_err-make_room_of
invariant_of-self-in_err-make_room_of c = (
  c.reserve.ensures.items ∙ c.self.invariant.0 ∙ ap numbers_of (sym c.reserve-2.ensures.items) ∙ sym c.make_room_of.ensures.numbers,
  subst AreRising (sym c.reserve.ensures.items) c.self.invariant.1,
  c.make_room_of.ensures.sequences _ (subst (λ (m : ℕ). SequencesAreWithin m c.reserve-2.new.self.items) (sym c.reserve-3.ensures.len) (subst (SequencesAreWithin (vec_len c.self.inside.closed)) (sym c.reserve-2.ensures.items) c.self.invariant.2)),
  c.make_room.ensures.none c.self.invariant.3,
  c.self.invariant.4 ∙ ap (λ (zs : List SessionKept). closable (sessions_seen zs)) (sym c.reserve-2.ensures.items) ∙ ap closable (sym c.make_room_of.ensures.kept),
  subst (λ (ns : List ℕ). EachClosable (Contains ns) (sessions_seen c.make_room_of.new.sessions.items)) (sym c.reserve-4.ensures.items)
      (subst (EachClosable (Contains c.self.inside.touched.items)) (ap sessions_seen (sym c.reserve-2.ensures.items) ∙ sym c.make_room_of.ensures.kept) c.self.invariant.5),
)

pub invariant_of-self-2 : goal.invariant_of-self-2
invariant_of-self-2 c = (
  c.reserve.ensures.items ∙ c.self.invariant.0 ∙ ap numbers_of (sym c.reserve-2.ensures.items) ∙ sym c.make_room_of.ensures.numbers,
  subst AreRising (sym c.reserve.ensures.items) c.self.invariant.1,
  c.make_room_of.ensures.sequences _ (subst (λ (m : ℕ). SequencesAreWithin m c.reserve-2.new.self.items) (sym c.reserve-3.ensures.len) (subst (SequencesAreWithin (vec_len c.self.inside.closed)) (sym c.reserve-2.ensures.items) c.self.invariant.2)),
  c.make_room.ensures.none c.self.invariant.3,
  c.self.invariant.4 ∙ ap (λ (zs : List SessionKept). closable (sessions_seen zs)) (sym c.reserve-2.ensures.items) ∙ ap closable (sym c.make_room_of.ensures.kept),
  subst (λ (ns : List ℕ). EachClosable (Contains ns) (sessions_seen c.make_room_of.new.sessions.items)) (sym c.reserve-4.ensures.items)
      (subst (EachClosable (Contains c.self.inside.touched.items)) (ap sessions_seen (sym c.reserve-2.ensures.items) ∙ sym c.make_room_of.ensures.kept) c.self.invariant.5),
)
