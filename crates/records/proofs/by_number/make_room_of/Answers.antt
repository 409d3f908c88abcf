use Rattle.std.proofs.Common.{◌∙◌, sym, subst}
use Rattle.records.specs.Seen.{SequencesAreWithin}
use Rattle.records.proofs.Sessions.{whole}
use Rattle.records.proofs.by_number.make_room_of.Goals as goal

pub returns-clause-sequences : goal.returns-clause-sequences
returns-clause-sequences c = λ n h.
    subst (SequencesAreWithin n) (sym (whole c.make_room_in.new.sessions _ _ (c.make_room_in.auto.sessions ∙ c.deref_mut.ensures.len)))
    (c.make_room_in.ensures.sequences n (subst (SequencesAreWithin n) (sym c.deref_mut.ensures.value) h))
