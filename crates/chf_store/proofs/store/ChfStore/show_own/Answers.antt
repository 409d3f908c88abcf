use Rattle.chf_replay.specs.Entries.{payloads_of}
use Rattle.chf_store.proofs.Together.{inside, other_list}
use Rattle.chf_store.proofs.store.ChfStore.show_own.Goals as goal

pub returns-clause-kept : goal.returns-clause-kept
returns-clause-kept g c = λ commands stored.
    let inner = inside _ _ _ _ _ commands c.self.view_is stored in
    other_list c.args.self.now _ _ _ _ commands inner.state inner.entries (c.show_own.ensures.kept (payloads_of commands) inner.held)
