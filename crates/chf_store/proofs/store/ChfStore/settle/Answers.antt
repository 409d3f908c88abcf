use Rattle.std.proofs.Common.{◌≡◌, ◌∙◌, ap, false, true, sym, subst, List, ℕ}
use Rattle.chf_replay.specs.Entries.{IsBadAt, payloads_of}
use Rattle.chf_store.specs.Stored.{Store}
use Rattle.chf_store.proofs.Refused.{settling_by}
use Rattle.chf_store.proofs.Together.{inside, settled}
use Rattle.chf_store.proofs.store.ChfStore.settle.Goals as goal

pub returns-in-Ok-None-clause-begins : goal.returns-in-Ok-None-clause-begins
returns-in-Ok-None-clause-begins g c = λ commands stored. c.settle.ensures.begins (payloads_of commands) (inside _ _ _ _ _ commands c.self.view_is stored).held

pub returns-in-Err-clause-begins : goal.returns-in-Err-clause-begins
returns-in-Err-clause-begins g c = λ commands stored. c.settle.ensures.begins (payloads_of commands) (inside _ _ _ _ _ commands c.self.view_is stored).held

pub returns-in-Ok-Some-clause-goes_on : goal.returns-in-Ok-Some-clause-goes_on
returns-in-Ok-Some-clause-goes_on g c = λ commands b stored told.
    settled c.take.result c.bytes_stand_for_one_list.ensures c.entries_are_of_one_list.ensures.go_on c.args.self.now c.take.new.self c.settle.new.self _ _ _ _ _ _ commands b c.in-Ok-Some.entries c.as_slice.result.now
    c.take.ensures.ok c.as_slice.ensures (rw c.in-Ok-Some.field-0-is at c.in-Ok-Some.ensures.again) stored (g.met.D.Disk.reads_as_image _ b told)
    (rw c.in-Ok-Some.field-0-is at (c.in-Ok-Some.ensures.list b told))

pub returns-in-Ok-Some-clause-bad_entry : goal.returns-in-Ok-Some-clause-bad_entry
returns-in-Ok-Some-clause-bad_entry g c = λ list b place none told stands bad.
    let same : list ≡ c.as_slice.result.now = c.bytes_stand_for_one_list.ensures _ b list c.in-Ok-Some.entries stands (rw c.in-Ok-Some.field-0-is at (c.in-Ok-Some.ensures.list b told)) ∙ sym c.as_slice.ensures in
    c.take.ensures.none place (subst (λ (t : List (List ℕ)). IsBadAt t place) same bad)

pub returns-in-Ok-Some-clause-no_journal : goal.returns-in-Ok-Some-clause-no_journal
returns-in-Ok-Some-clause-no_journal g c = λ e at b none told_epoch told bad.
    let refused : false ≡ true = c.in-Ok-Some.ensures.no_journal e at b (ap (λ (t : Store). t.durable.journal) c.self.view_is ∙ none) told_epoch told bad in
    absurd (let f : false ≡ true = refused in cc)

pub returns-in-Err-clause-refused : goal.returns-in-Err-clause-refused
returns-in-Err-clause-refused g c = settling_by _ _ _ _ _ _ c.in-Err.refusal c.handed_on.result c.handed_on.ensures (ap (λ (t : Store). t.durable) c.self.view_is) c.in-Err.ensures.refused
