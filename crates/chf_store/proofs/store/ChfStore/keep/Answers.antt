use Rattle.std.proofs.Common.{◌∙◌, ap}
use Rattle.chf_core.specs.After.{after}
use Rattle.chf_replay.specs.Entries.{payloads_of}
use Rattle.chf_store.specs.Stored.{Store}
use Rattle.chf_store.proofs.Refused.{keeping_same, room_same}
use Rattle.chf_store.proofs.Together.{adds_fresh, inside, one_more, other_list}
use Rattle.chf_store.proofs.store.ChfStore.keep.Goals as goal

pub returns-in-Ok-clause-grows : goal.returns-in-Ok-clause-grows
returns-in-Ok-clause-grows g c = λ commands stored.
    let inner = inside _ _ _ _ _ commands c.self.view_is stored in
    adds_fresh c.histories_grow.ensures c.args.self.now c.args.entry _ _ _ _ _ commands c.requires.entry stored (rw c.as_slice.ensures at (c.add.ensures.grows (payloads_of commands) inner.held))

pub returns-in-Err-clause-grows : goal.returns-in-Err-clause-grows
returns-in-Err-clause-grows g c = λ commands stored.
    let inner = inside _ _ _ _ _ commands c.self.view_is stored in
    adds_fresh c.histories_grow.ensures c.args.self.now c.args.entry _ _ _ _ _ commands c.requires.entry stored (rw c.as_slice.ensures at (c.add.ensures.grows (payloads_of commands) inner.held))

pub returns-in-Ok-clause-entered : goal.returns-in-Ok-clause-entered
returns-in-Ok-clause-entered g c = λ commands stored.
    let inner = inside _ _ _ _ _ commands c.self.view_is stored in
    one_more c.histories_grow.ensures c.args.self.now _ c.args.entry _ _ _ _ _ _ commands c.requires.entry
    (c.commit.ensures ∙ ap (λ (t : Store). after t.machine.state c.args.entry.plan.command) c.self.view_is) stored (rw c.as_slice.ensures at (c.in-Ok.ensures.added (payloads_of commands) inner.held))

pub returns-in-Ok-clause-fenced : goal.returns-in-Ok-clause-fenced
returns-in-Ok-clause-fenced g c = λ j e is told less. c.in-Ok.ensures.fenced j e (ap (λ (t : Store). t.durable.journal) c.self.view_is ∙ is) told less

pub returns-in-Err-clause-kept : goal.returns-in-Err-clause-kept
returns-in-Err-clause-kept g c = λ commands stored.
    let inner = inside _ _ _ _ _ commands c.self.view_is stored in
    other_list c.args.self.now _ _ _ _ commands inner.state inner.entries (c.in-Err.ensures.kept (payloads_of commands) inner.held)

pub returns-in-Err-clause-refused : goal.returns-in-Err-clause-refused
returns-in-Err-clause-refused g c = keeping_same _ _ _ _ _ _ _ _ _ _ _ (ap (λ (t : Store). t.durable) c.self.view_is) c.as_slice.ensures c.in-Err.ensures.refused

pub returns-in-Err-clause-room : goal.returns-in-Err-clause-room
returns-in-Err-clause-room g c = room_same _ _ _ _ _ _ c.self.view_is c.add.ensures.room
