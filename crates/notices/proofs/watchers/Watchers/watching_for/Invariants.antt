use Rattle.std.proofs.Common.{◌≡◌, take}
use Rattle.std.specs.List.{filter}
use Rattle.counters.specs.Subscriptions.{context_of}
use Rattle.notices.specs.Due.{is_of}
use Rattle.notices.proofs.watchers.Watchers.watching_for.Given as goal

abbrev pub invariant-loop-id : goal.invariant-loop-id
invariant-loop-id l = l.found.items ≡ filter (λ id. is_of l.supi (context_of l.self.of.contexts id)) (take l.id-index l.id-items)
