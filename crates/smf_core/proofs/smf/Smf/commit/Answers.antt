use Rattle.std.proofs.Common.{◌≡◌, ◌-◌, ◌≤◌, ◌∙◌, sym, ap, subst, min, arith}
use Rattle.std.specs.Vec.{with_items}
use Rattle.std.proofs.lemmas.List.{with_items_is}
use Rattle.smf_model.specs.declared.session.Machine.{Machine}
use Rattle.smf_core.specs.Caches.{sessions_of, numbers_of, AreAtRest}
use Rattle.smf_core.specs.Marking.{marks_of, remarked, woken_by}
use Rattle.smf_core.specs.Plan.{Shown, sessions_next, AddedIsReady, IsPlanOf}
use Rattle.smf_core.proofs.Found.{numbers_next, ready_next}
use Rattle.smf_core.proofs.Marked.{woken_marks}
use Rattle.smf_core.proofs.Several.{planned_rest}
use Rattle.smf_core.proofs.smf.Smf.commit.Goals as goal

pub take_next-requires-clause-marks : goal.take_next-requires-clause-marks
take_next-requires-clause-marks c =
    let s = c.self.inside in
    let ss = sessions_of s.sessions.items in
    let now = c.args.plan.moment in
    woken_marks s.setup s.moment now ss s.agenda.marks c.wake.new.agenda.marks c.as_slice.result.now (subst (λ (x : Shown). x.machine.moment ≤ now) (sym c.self.view_is) c.requires.later) c.self.invariant.marks
    (c.as_slice.ensures ∙ c.requires.woken ∙ ap (λ (x : Shown). woken_by now x.machine) (sym c.self.view_is))
    (c.wake.ensures.marks ∙ ap (λ ks. remarked (marks_of s.setup now (sessions_of ks)) c.as_slice.result.now s.agenda.marks) c.deref.ensures.value)
    ∙ ap (λ ks. marks_of s.setup now (sessions_of ks)) (sym c.deref_mut.ensures.value)

pub add-requires-clause-rest : goal.add-requires-clause-rest
add-requires-clause-rest c =
    let s = c.self.inside in
    let m : Machine = record { setup = s.setup; moment = s.moment; count = s.count; sessions = sessions_of s.sessions.items } in
    let rests = planned_rest c.sessions_rest.ensures.after c.args.plan m c.requires.event (subst (λ (x : Shown). IsPlanOf c.args.plan x.machine c.requires.event) (sym c.self.view_is) c.requires.made) c.self.invariant.rest in
    rests.1

pub add-requires-clause-tied : goal.add-requires-clause-tied
add-requires-clause-tied c =
    let s = c.self.inside in
    let m : Machine = record { setup = s.setup; moment = s.moment; count = s.count; sessions = sessions_of s.sessions.items } in
    let rests = planned_rest c.sessions_rest.ensures.after c.args.plan m c.requires.event (subst (λ (x : Shown). IsPlanOf c.args.plan x.machine c.requires.event) (sym c.self.view_is) c.requires.made) c.self.invariant.rest in
    let kept : (with_items c.self.inside.sessions c.take_next.new.sessions).items ≡ c.take_next.new.sessions = with_items_is c.self.inside.sessions c.take_next.new.sessions (omega arith) in
    let next : sessions_of c.take_next.new.sessions ≡ sessions_next c.args.plan.next (sessions_of c.self.inside.sessions.items) = c.take_next.ensures.value ∙ ap (λ xs. sessions_next c.args.plan.next (sessions_of xs)) c.deref_mut.ensures.value in
    record {
      numbers = c.self.invariant.numbers ∙ sym (numbers_next c.args.plan.next (sessions_of c.self.inside.sessions.items)) ∙ sym (ap numbers_of (ap sessions_of kept ∙ next));
      rest = subst (AreAtRest c.self.inside.setup) (sym (ap sessions_of kept ∙ next)) rests.0;
      marks = c.take_next.ensures.marks ∙ ap (λ ks. marks_of c.self.inside.setup c.args.plan.moment (sessions_of ks)) (sym kept);
    }

pub add-requires-clause-ready : goal.add-requires-clause-ready
add-requires-clause-ready c =
    let kept : (with_items c.self.inside.sessions c.take_next.new.sessions).items ≡ c.take_next.new.sessions = with_items_is c.self.inside.sessions c.take_next.new.sessions (omega arith) in
    let next : sessions_of c.take_next.new.sessions ≡ sessions_next c.args.plan.next (sessions_of c.self.inside.sessions.items) = c.take_next.ensures.value ∙ ap (λ xs. sessions_next c.args.plan.next (sessions_of xs)) c.deref_mut.ensures.value in
    let left = c.self.inside.sessions.cap - c.self.inside.sessions.len in
    subst (λ ss. AddedIsReady c.args.plan.added ss (min left (min c.self.inside.index.room c.take_next.new.agenda.room))) (sym (ap sessions_of kept ∙ next))
    (subst (λ n. AddedIsReady c.args.plan.added (sessions_next c.args.plan.next (sessions_of c.self.inside.sessions.items)) (min left (min c.self.inside.index.room n))) (sym (c.take_next.ensures.room ∙ c.wake.ensures.room))
    (ready_next c.args.plan.next c.args.plan.added (sessions_of c.self.inside.sessions.items) (min left (min c.self.inside.index.room c.self.inside.agenda.room))
    (subst (λ (x : Shown). AddedIsReady c.args.plan.added x.machine.sessions x.room) (sym c.self.view_is) c.requires.added)))
