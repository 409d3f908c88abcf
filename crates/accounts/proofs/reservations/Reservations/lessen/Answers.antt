use Rattle.std.proofs.Common.{◌≡◌, ◌-◌, Some, cond, is_some, refl, sym, ap, ◌∙◌}
use Rattle.std.specs.FinMap as map
use Rattle.std.specs.HashMap.{get}
use Rattle.accounts.specs.declared.reservation.Key.{Key}
use Rattle.accounts.specs.declared.reservation.Reservation.{Reservation}
use Rattle.accounts.specs.Reservations.{Stored, key_eq}
use Rattle.accounts.specs.Deadlines.{deadline_of}
use Rattle.accounts.proofs.Tables.{stored_at, one_set, from_found, lessened_more}
use Rattle.accounts.proofs.Indexed.{same_queued, same_grouped, same_deadline, same_there}
use Rattle.accounts.proofs.reservations.Reservations.lessen.Goals as goal

pub invariant_of-self : goal.invariant_of-self
invariant_of-self c =
    let t = c.self.inside in
    let k = c.args.key.now in
    let stored : get key_eq t.table k ≡ Some c.in-Some.reservation = stored_at t.table.entries c.args.self.now.of (ap (λ (s : Stored). s.of) c.self.view_is) k ∙ sym c.get.ensures ∙ c.in-Some.is in
    let less : Reservation = record { account = c.in-Some.reservation.account; left = c.in-Some.reservation.left - c.args.amount; deadline = c.in-Some.reservation.deadline } in
    let set : (q : Key) → get key_eq c.insert.new.self q ≡ cond (key_eq k q) (Some less) (get key_eq t.table q) = (from_found c.insert.result _ c.in-Some.reservation _ c.insert.ensures.absent stored c.insert.ensures.updates).0 in (
      same_queued (λ k. deadline_of (get key_eq t.table k)) _ t.due.dues _ refl (same_deadline (get key_eq t.table) (get key_eq c.insert.new.self) k c.in-Some.reservation less stored refl set) c.self.invariant.0,
      same_grouped (λ k. is_some (get key_eq t.table k)) _ t.groups t.groups c.self.invariant.1 c.self.invariant.1.chained (λ _. refl) (λ _. refl) (same_there (get key_eq t.table) (get key_eq c.insert.new.self) k c.in-Some.reservation less stored set),
    )

pub returns-else-reservation-amount-clause-value : goal.returns-else-reservation-amount-clause-value
returns-else-reservation-amount-clause-value c =
    let t = c.self.inside in
    let k = c.args.key.now in
    let there : map.get c.args.self.now.of k ≡ Some c.in-Some.reservation = sym c.get.ensures ∙ c.in-Some.is in
    let stored : get key_eq t.table k ≡ Some c.in-Some.reservation = stored_at t.table.entries c.args.self.now.of (ap (λ (s : Stored). s.of) c.self.view_is) k ∙ there in
    let less : Reservation = record { account = c.in-Some.reservation.account; left = c.in-Some.reservation.left - c.args.amount; deadline = c.in-Some.reservation.deadline } in
    one_set t.table.entries c.insert.new.self.entries k less (from_found c.insert.result _ c.in-Some.reservation _ c.insert.ensures.absent stored c.insert.ensures.updates).0
    ∙ ap (λ (s : Stored). map.insert s.of k less) c.self.view_is
    ∙ sym (lessened_more c.args.self.now.of k c.args.amount c.in-Some.reservation there c.if-reservation-amount.false)
