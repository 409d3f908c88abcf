use Rattle.std.proofs.Common.{ap, is_some, ◌∙◌}
use Rattle.std.specs.HashMap.{get}
use Rattle.accounts.specs.Reservations.{Stored, key_eq}
use Rattle.accounts.specs.Deadlines.{deadline_of}
use Rattle.accounts.proofs.Tables.{same_held}
use Rattle.accounts.proofs.Indexed.{same_queued, same_grouped}
use Rattle.accounts.proofs.reservations.Reservations.make_room.Goals as goal

pub invariant_of-self : goal.invariant_of-self
invariant_of-self c =
    let t = c.self.inside in (
      same_queued (λ k. deadline_of (get key_eq t.table k)) _ t.due.dues _ c.make_room-due.ensures.same (λ q. ap deadline_of (c.reserve-table.ensures.entries.2 q)) c.self.invariant.0,
      same_grouped (λ k. is_some (get key_eq t.table k)) _ t.groups _ c.self.invariant.1 c.make_room-groups.ensures.chained c.make_room-groups.ensures.first c.make_room-groups.ensures.next (λ q. ap is_some (c.reserve-table.ensures.entries.2 q)),
    )

pub returns-clause-same : goal.returns-clause-same
returns-clause-same c = same_held c.self.inside.table.entries c.reserve-table.new.self.entries c.reserve-table.ensures.entries.2 ∙ ap (λ (s : Stored). s.of) c.self.view_is
