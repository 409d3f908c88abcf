use Rattle.std.proofs.Common.{◌∙◌, ◌++◌, [], ◌∷◌, sym, ap, subst}
use Rattle.smf_core.specs.Caches.{sessions_of}
use Rattle.smf_core.specs.Plan.{turned, AreReady}
use Rattle.smf_core.proofs.Turns.{ready-last, ready-first, below-last, ready-others, turned-last}
use Rattle.smf_core.proofs.next.take_all.Goals as goal

pub take_at-requires-clause-ready : goal.take_at-requires-clause-ready
take_at-requires-clause-ready c =
    let ready : AreReady (c.pop.new.self.items ++ c.in-Some.turn ∷ []) c.loop-turn.sessions = subst (λ xs. AreReady xs c.loop-turn.sessions) c.in-Some.ensures.items c.loop-turn.invariant.ready in
    ready-last c.pop.new.self.items c.in-Some.turn c.loop-turn.sessions ready

pub loop-turn-preserved : goal.loop-turn-preserved
loop-turn-preserved c =
    let ts = c.pop.new.self.items in
    let t = c.in-Some.turn in
    let ks = c.loop-turn.sessions in
    let ready : AreReady (c.pop.new.self.items ++ c.in-Some.turn ∷ []) c.loop-turn.sessions = subst (λ xs. AreReady xs c.loop-turn.sessions) c.in-Some.ensures.items c.loop-turn.invariant.ready in
    record {
      all = ap (turned ts) c.take_at.ensures.value ∙ sym (turned-last ts t (sessions_of ks)) ∙ ap (λ xs. turned xs (sessions_of ks)) (sym c.in-Some.ensures.items) ∙ c.loop-turn.invariant.all;
      ready = subst (AreReady ts) (sym c.take_at.ensures.others.1) (ready-others ts t.at ks c.take_at.ensures.others.0 (below-last ts t ks ready) (ready-first ts t ks ready));
      marks = c.take_at.ensures.marks;
      room = c.take_at.ensures.room ∙ c.loop-turn.invariant.room;
    }
