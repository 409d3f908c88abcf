use Rattle.std.proofs.Common.{◌<◌, ◌≡◌, Some, cond, is_some, sym, ap, subst, ◌∙◌, arith}
use Rattle.std.specs.FinMap as map
use Rattle.std.specs.HashMap.{get}
use Rattle.accounts.specs.declared.reservation.Key.{Key}
use Rattle.accounts.specs.Reservations.{Stored, key_eq}
use Rattle.accounts.specs.Deadlines.{deadline_of}
use Rattle.accounts.proofs.Tables.{one_set, from_ok}
use Rattle.accounts.proofs.Indexed.{put_due, put_deadline, put_there, put_grouped}
use Rattle.accounts.proofs.reservations.Reservations.put.Goals as goal

pub settle_due-requires : goal.settle_due-requires
settle_due-requires c =
    let t = c.self.inside in
    let room = subst (λ (s : Stored). 0 < s.spare) (sym c.self.view_is) c.requires in
    let set : (q : Key) → get key_eq c.insert.new.self q ≡ cond (key_eq c.args.key.now q) (Some c.args.reservation.now) (get key_eq t.table q) = (from_ok c.insert.result _ (c.insert.ensures.succeeds (omega arith)) c.insert.ensures.updates).0 in
    put_due (λ k. deadline_of (get key_eq t.table k)) _ t.due.dues _ c.args.key.now c.args.reservation.now.deadline c.self.invariant.0.due c.enter_due.ensures.added c.enter_due.ensures.kept
    (put_deadline (get key_eq t.table) (get key_eq c.insert.new.self) c.args.key.now c.args.reservation.now set)

pub invariant_of-self : goal.invariant_of-self
invariant_of-self c =
    let t = c.self.inside in
    let room = subst (λ (s : Stored). 0 < s.spare) (sym c.self.view_is) c.requires in
    let set : (q : Key) → get key_eq c.insert.new.self q ≡ cond (key_eq c.args.key.now q) (Some c.args.reservation.now) (get key_eq t.table q) = (from_ok c.insert.result _ (c.insert.ensures.succeeds (omega arith)) c.insert.ensures.updates).0 in (
      c.settle_due.ensures.queued,
      put_grouped (λ k. is_some (get key_eq t.table k)) _ t.groups _ c.args.key.now c.self.invariant.1 c.link.ensures.chained c.link.ensures.linked c.link.ensures.latest
          (put_there (get key_eq t.table) (get key_eq c.insert.new.self) c.args.key.now c.args.reservation.now set),
    )

pub returns-clause-value : goal.returns-clause-value
returns-clause-value c =
    let t = c.self.inside in
    let room = subst (λ (s : Stored). 0 < s.spare) (sym c.self.view_is) c.requires in
    one_set t.table.entries c.insert.new.self.entries c.args.key.now c.args.reservation.now (from_ok c.insert.result _ (c.insert.ensures.succeeds (omega arith)) c.insert.ensures.updates).0
    ∙ ap (λ (s : Stored). map.insert s.of c.args.key.now c.args.reservation.now) c.self.view_is
