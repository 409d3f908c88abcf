use Rattle.std.proofs.Common.{◌≡◌, Some, None, sym, ap, ◌∙◌, subst}
use Rattle.std.specs.HashMap.{get}
use Rattle.accounts.specs.declared.reservation.Key.{Key}
use Rattle.accounts.specs.Reservations.{Stored, key_eq}
use Rattle.accounts.specs.Deadlines.{deadline_of, deadline_at, IsLeast}
use Rattle.accounts.proofs.Tables.{stored_at}
use Rattle.accounts.proofs.Indexed.{least_some, least_none, first_deadline}
use Rattle.accounts.proofs.reservations.Reservations.next_deadline.Goals as goal

pub returns-in-Some-get : goal.returns-in-Some-get
returns-in-Some-get c =
    let m = c.args.self.now.of in
    let t = c.self.inside in
    let first = sym c.first.ensures.value ∙ c.in-Some.is in
    let same : (q : Key) → deadline_of (get key_eq t.table q) ≡ deadline_at m q = λ q. ap deadline_of (stored_at t.table.entries m (ap (λ (s : Stored). s.of) c.self.view_is) q) in
    let there : c.in-Some-get.reservation.deadline ≡ Some c.in-Some.due.deadline =
    sym (ap deadline_of c.in-Some-get.is) ∙ ap deadline_of c.get.ensures ∙ first_deadline m _ t.due.dues c.in-Some.due same c.self.invariant.0 first in
    subst (IsLeast m) (sym there) (least_some m _ t.due.dues c.in-Some.due same c.self.invariant.0 first c.in-Some.ensures.least)

pub returns-in-None-get : goal.returns-in-None-get
returns-in-None-get c =
    let m = c.args.self.now.of in
    let t = c.self.inside in
    let first = sym c.first.ensures.value ∙ c.in-Some.is in
    let same : (q : Key) → deadline_of (get key_eq t.table q) ≡ deadline_at m q = λ q. ap deadline_of (stored_at t.table.entries m (ap (λ (s : Stored). s.of) c.self.view_is) q) in
    let there : None ≡ Some c.in-Some.due.deadline =
    sym (ap deadline_of c.in-None-get.is) ∙ ap deadline_of c.get.ensures ∙ first_deadline m _ t.due.dues c.in-Some.due same c.self.invariant.0 first in
    absurd (cc)

pub returns-in-None : goal.returns-in-None
returns-in-None c =
    let m = c.args.self.now.of in
    let t = c.self.inside in
    least_none m _ t.due.dues (λ q. ap deadline_of (stored_at t.table.entries m (ap (λ (s : Stored). s.of) c.self.view_is) q)) c.self.invariant.0 (sym c.first.ensures.value ∙ c.in-None.is)
