use Rattle.std.proofs.Common.{◌≡◌, ◌∙◌, sym, subst, List, ℕ}
use Rattle.journal.specs.Bytes.{StandsFor}
use Rattle.chf_replay.specs.Entries.{IsAfter, IsBadAt}
use Rattle.chf_store.proofs.Refused.{opening_by}
use Rattle.chf_store.proofs.Together.{by_entries}
use Rattle.chf_store.proofs.store.ChfStore.open.Goals as goal

pub returns-in-Ok-replay-clause-stored : goal.returns-in-Ok-replay-clause-stored
returns-in-Ok-replay-clause-stored g c =
    let after : IsAfter c.in-Ok-replay.chf.state c.in-Ok.entries = subst (λ (t : List (List ℕ)). IsAfter c.in-Ok-replay.chf.state t) c.as_slice.ensures c.in-Ok-replay.ensures.ok in (
      after.commands,
      by_entries _ _ _ _ c.in-Ok.entries after c.in-Ok.ensures.held,
      λ b told. subst (λ (t : List (List ℕ)). StandsFor (g.D.Disk.told_epoch c.args.disk.now) b t) (sym after.are.payloads) (c.in-Ok.ensures.list b told),
    )

pub returns-in-Ok-replay-clause-bad_entry : goal.returns-in-Ok-replay-clause-bad_entry
returns-in-Ok-replay-clause-bad_entry g c = λ list b place told stands bad.
    let same : list ≡ c.as_slice.result.now = c.bytes_stand_for_one_list.ensures _ b list c.in-Ok.entries stands (c.in-Ok.ensures.list b told) ∙ sym c.as_slice.ensures in
    c.in-Ok-replay.ensures.none place (subst (λ (t : List (List ℕ)). IsBadAt t place) same bad)

pub returns-clause-refused : goal.returns-clause-refused
returns-clause-refused g c = opening_by _ _ _ _ _ c.in-Err.refusal c.handed_on.result c.handed_on.ensures c.in-Err.ensures.refused
