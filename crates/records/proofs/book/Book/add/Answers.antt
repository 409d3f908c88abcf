use Rattle.std.proofs.Common.{◌≡◌, ◌∙◌, List, [], vec_len, sym, ap, subst}
use Rattle.std.specs.List.{Contains}
use Rattle.records.specs.declared.session.SessionKept.{SessionKept}
use Rattle.records.specs.Book.{open_of, added, closable}
use Rattle.records.specs.Seen.{sessions_seen, numbers_of, AreRising, SequencesAreWithin, EachClosable}
use Rattle.records.proofs.EachClosable.{after_add}
use Rattle.records.proofs.Sessions.{whole}
use Rattle.records.proofs.book.Book.add.Goals as goal

pub invariant_of-self : goal.invariant_of-self
invariant_of-self c =
    let same = c.deref_mut.ensures.value in
    subst (λ (zs : List SessionKept). (c.self.inside.numbers.items ≡ numbers_of zs) × AreRising c.self.inside.numbers.items × SequencesAreWithin (vec_len c.add_to.new.closed) zs × (c.self.inside.next.groups ≡ []) × (c.add_to.new.count ≡ closable (sessions_seen zs)) × EachClosable (Contains c.note.new.touched.items) (sessions_seen zs))
    (sym (whole c.add_to.new.sessions _ _ (c.add_to.auto.sessions ∙ c.deref_mut.ensures.len))) (
      c.self.invariant.0 ∙ ap numbers_of (sym same) ∙ sym c.add_to.ensures.numbers,
      c.self.invariant.1,
      c.add_to.ensures.sequences,
      c.self.invariant.3,
      c.add_to.ensures.count,
      after_add c.deref_mut.result.now c.add_to.new.sessions c.args.session (added c.self.inside.limits c.args.used c.args.stamp c.args.last (open_of (sessions_seen c.deref_mut.result.now) c.args.session) c.self.inside.closed.items) c.self.inside.closed.items _ c.self.inside.touched.items _ c.self.inside.with_container c.add_to.new.count
          c.add_to.ensures.added (c.self.invariant.4 ∙ ap (λ (zs : List SessionKept). closable (sessions_seen zs)) (sym same)) c.add_to.ensures.count c.note.ensures.kept c.note.ensures.noted (subst (λ (zs : List SessionKept). EachClosable (Contains c.self.inside.touched.items) (sessions_seen zs)) (sym same) c.self.invariant.5),
    )
