use Rattle.std.proofs.Common.{◌≡◌, ◌∙◌, List, [], vec_len, sym, ap, subst}
use Rattle.std.specs.List.{Contains}
use Rattle.records.specs.declared.session.SessionKept.{SessionKept}
use Rattle.records.specs.Book.{open_of, closable}
use Rattle.records.specs.Seen.{sessions_seen, numbers_of, AreRising, SequencesAreWithin, EachClosable}
use Rattle.records.proofs.EachClosable.{after_close}
use Rattle.records.proofs.Sessions.{whole}
use Rattle.records.proofs.book.Book.close.Goals as goal

pub invariant_of-self : goal.invariant_of-self
invariant_of-self c =
    let same = c.deref_mut.ensures.value in
    subst (λ (zs : List SessionKept). (c.self.inside.numbers.items ≡ numbers_of zs) × AreRising c.self.inside.numbers.items × SequencesAreWithin (vec_len c.end_of.new.closed) zs × (c.self.inside.next.groups ≡ []) × (c.end_of.new.count ≡ closable (sessions_seen zs)) × EachClosable (Contains c.self.inside.touched.items) (sessions_seen zs))
    (sym (whole c.end_of.new.sessions _ _ (c.end_of.auto.sessions ∙ c.deref_mut.ensures.len))) (
      c.self.invariant.0 ∙ ap numbers_of (sym same) ∙ sym c.end_of.ensures.numbers,
      c.self.invariant.1,
      c.end_of.ensures.sequences,
      c.self.invariant.3,
      c.end_of.ensures.count,
      after_close c.deref_mut.result.now c.end_of.new.sessions c.args.session c.args.cause c.args.stamp (open_of (sessions_seen c.deref_mut.result.now) c.args.session) c.self.inside.closed.items _ c.self.inside.touched.items
          c.end_of.ensures.ended (subst (λ (zs : List SessionKept). EachClosable (Contains c.self.inside.touched.items) (sessions_seen zs)) (sym same) c.self.invariant.5),
    )
