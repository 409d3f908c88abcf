use Rattle.std.proofs.Common.{◌≡◌, ◌-◌, ◌<◌, ◌≤◌, ◌∙◌, sym, ap, subst, min, arith}
use Rattle.std.specs.Vec.{with_items}
use Rattle.std.proofs.lemmas.List.{with_items_is}
use Rattle.smf_model.specs.Machine.{answer_of, added_by, now_after}
use Rattle.smf_core.specs.Caches.{sessions_of}
use Rattle.smf_core.specs.Plan.{Shown, NextIsReady, AddedIsReady}
use Rattle.smf_core.proofs.Found.{added_ready}
use Rattle.units.specs.Limits.{greatest_moment}
use Rattle.smf_model.specs.declared.session.Machine.{Machine}
use Rattle.smf_core.specs.Marking.{looked_at}
use Rattle.smf_core.proofs.Several.{looked_all}
use Rattle.smf_core.proofs.smf.Smf.plan_new.Goals as goal

pub returns-clause-next : goal.returns-clause-next
returns-clause-next c =
    let s = c.self.inside in
    let kept : (with_items s.sessions c.next_turns.new.sessions).items ≡ c.next_turns.new.sessions = with_items_is s.sessions c.next_turns.new.sessions (omega arith) in
    subst (NextIsReady c.in_ok-next.next) (sym kept) c.in_ok-next.ensures.ready

pub returns-clause-added : goal.returns-clause-added
returns-clause-added c =
    let s = c.self.inside in
    let kept : (with_items s.sessions c.next_turns.new.sessions).items ≡ c.next_turns.new.sessions = with_items_is s.sessions c.next_turns.new.sessions (omega arith) in
    let same : sessions_of c.next_turns.new.sessions ≡ sessions_of s.sessions.items = c.next_turns.ensures.same ∙ ap sessions_of c.deref_mut.ensures.value in
    let room : 0 < min (s.sessions.cap - s.sessions.len) (min s.index.room s.agenda.room) = subst (λ (x : Shown). 0 < x.room) (sym c.self.view_is) c.requires.room in
    let new = ap (λ (x : Shown). answer_of x.machine c.args.event.now) c.self.view_is ∙ c.requires.new in
    subst (λ ss. AddedIsReady c.in_ok-added.added ss (min (s.sessions.cap - s.sessions.len) (min s.index.room s.agenda.room))) (sym (ap sessions_of kept ∙ same))
    (added_ready c.args.event.now c.in_ok-added.added (record { setup = s.setup; moment = s.moment; count = s.count; sessions = sessions_of s.sessions.items }) (min (s.sessions.cap - s.sessions.len) (min s.index.room s.agenda.room))
    (c.in_ok-added.ensures ∙ ap (λ n. added_by s.setup n c.args.event.now) c.moment_after-now.ensures) new room)

pub next_turns-requires-clause-several : goal.next_turns-requires-clause-several
next_turns-requires-clause-several c = λ none.
    let s = c.self.inside in
    let event = c.args.event.now in
    let m : Machine = record { setup = s.setup; moment = s.moment; count = s.count; sessions = sessions_of s.sessions.items } in
    let now : c.moment_after-now.result ≡ now_after s.moment event = c.moment_after-now.ensures in
    let range : now_after s.moment event ≤ greatest_moment = subst (λ n. n ≤ greatest_moment) now c.seconds-seconds.ensures.range in
    let places : c.args.several.now ≡ looked_at m event = c.requires.several ∙ ap (λ (x : Shown). looked_at x.machine event) (sym c.self.view_is) in
    rw (c.deref_mut.ensures.value, now, places) (looked_all c.sessions_rest.ensures.until event m range c.self.invariant.rest none)
