use Rattle.std.proofs.Common.{is_some, ap, ◌∙◌}
use Rattle.std.specs.FinMap as map
use Rattle.std.specs.HashMap.{get}
use Rattle.accounts.specs.Reservations.{Stored, key_eq}
use Rattle.accounts.specs.Deadlines.{deadline_of}
use Rattle.accounts.proofs.Tables.{one_removed}
use Rattle.accounts.proofs.Indexed.{remove_due, remove_deadline, remove_there, remove_linked, remove_latest}
use Rattle.accounts.proofs.reservations.Reservations.remove.Goals as goal

pub settle_due-requires : goal.settle_due-requires
settle_due-requires c =
    let t = c.self.inside in
    remove_due (λ k. deadline_of (get key_eq t.table k)) _ t.due.dues c.args.key.now c.self.invariant.0.due
    (remove_deadline (get key_eq t.table) (get key_eq c.remove.new.self) c.args.key.now c.remove.ensures.updates.0)

pub settle_groups-requires-clause-linked : goal.settle_groups-requires-clause-linked
settle_groups-requires-clause-linked c =
    let t = c.self.inside in
    remove_linked (λ k. is_some (get key_eq t.table k)) (λ k. is_some (get key_eq c.remove.new.self k)) t.groups c.args.key.now c.self.invariant.1.linked
    (remove_there (get key_eq t.table) (get key_eq c.remove.new.self) c.args.key.now c.remove.ensures.updates.0)

pub settle_groups-requires-clause-latest : goal.settle_groups-requires-clause-latest
settle_groups-requires-clause-latest c =
    let t = c.self.inside in
    remove_latest (λ k. is_some (get key_eq t.table k)) (λ k. is_some (get key_eq c.remove.new.self k)) t.groups c.args.key.now c.self.invariant.1
    (remove_there (get key_eq t.table) (get key_eq c.remove.new.self) c.args.key.now c.remove.ensures.updates.0)

pub returns-clause-value : goal.returns-clause-value
returns-clause-value c = one_removed c.self.inside.table.entries c.remove.new.self.entries c.args.key.now c.remove.ensures.updates.0 ∙ ap (λ (s : Stored). map.remove s.of c.args.key.now) c.self.view_is
