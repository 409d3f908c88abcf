use Rattle.std.proofs.Common.{◌≡◌, ◌≤◌, ◌<◌, sym, ap, ◌∙◌, arith}
use Rattle.std.specs.FinMap as map
use Rattle.std.specs.HashMap.{get}
use Rattle.accounts.specs.declared.reservation.Key.{Key}
use Rattle.accounts.specs.Reservations.{Stored, at, key_eq}
use Rattle.accounts.specs.Deadlines.{deadline_of, deadline_at}
use Rattle.accounts.proofs.Tables.{stored_at}
use Rattle.accounts.proofs.Indexed.{ends_until, none_until, later_until, first_deadline}
use Rattle.accounts.proofs.reservations.Reservations.one_until.Goals as goal

pub returns-in-Some : goal.returns-in-Some
returns-in-Some c =
    let m = c.args.self.now.of in
    let t = c.self.inside in
    let first = sym c.first.ensures.value ∙ c.in-Some.is in
    let same : (q : Key) → deadline_of (get key_eq t.table q) ≡ deadline_at m q = λ q. ap deadline_of (stored_at t.table.entries m (ap (λ (s : Stored). s.of) c.self.view_is) q) in
    let le : c.in-Some.due.deadline ≤ c.args.moment.now = omega (arith, c.if-due-seconds.true, c.seconds.ensures.value) in
    ends_until c.args.moment.now c.in-Some.due.deadline (at c.in-Some.due.session c.in-Some.due.group) (map.get m (at c.in-Some.due.session c.in-Some.due.group)) (first_deadline m _ t.due.dues c.in-Some.due same c.self.invariant.0 first) le

pub returns-in_default : goal.returns-in_default
returns-in_default c =
    let m = c.args.self.now.of in
    let t = c.self.inside in
    let first = sym c.first.ensures.value ∙ c.in-Some.is in
    let same : (q : Key) → deadline_of (get key_eq t.table q) ≡ deadline_at m q = λ q. ap deadline_of (stored_at t.table.entries m (ap (λ (s : Stored). s.of) c.self.view_is) q) in
    let lt : c.args.moment.now < c.in-Some.due.deadline = omega (arith, c.if-due-seconds.false, c.seconds.ensures.value) in
    later_until m _ t.due.dues c.args.moment.now c.in-Some.due same c.self.invariant.0 first c.in-Some.ensures.least lt

pub returns-in_default-2 : goal.returns-in_default-2
returns-in_default-2 c =
    let m = c.args.self.now.of in
    let t = c.self.inside in
    none_until m _ t.due.dues c.args.moment.now (λ q. ap deadline_of (stored_at t.table.entries m (ap (λ (s : Stored). s.of) c.self.view_is) q)) c.self.invariant.0 (sym c.first.ensures.value ∙ c.in_default.is)
