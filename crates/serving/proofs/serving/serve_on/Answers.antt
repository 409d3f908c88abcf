use Rattle.std.proofs.Common.{rules, ◌≡◌, ◌∙◌, ap, sym, Ok, Err, true, false, not, is_ok, is_err, ◌+◌, arith, Bool, ℕ}
use Rattle.serving.specs.declared.serving.ServeRefusal.{ServeRefusal}
use Rattle.serving.specs.declared.serving.ServeRefusal.TheVariants.{NotOwner, OutOfMemory}
use Rattle.serving.specs.declared.serving.Served.TheVariants.{Most}
use Rattle.serving.specs.Sides.{Ends, meaning_of}
use Rattle.serving.proofs.Reached.{and_then}
use Rattle.serving.proofs.Visiting.{has_served, one_more}
use Rattle.serving.proofs.serving.serve_on.Goals as goal

ok_of : (ends : Ends) (b : Bool) → is_err ends ≡ b → is_ok ends ≡ not b
ok_of (Ok done) b h = ap not h
ok_of (Err memory) b h = ap not h

plus_none : (n : ℕ) → n + 0 ≡ n
plus_none n = omega arith

later_place : (k n : ℕ) → k + (n + 1) ≡ (k + 1) + n
later_place k n = omega arith

no_end : (count most : ℕ) (e : ServeRefusal) → Err e ≡ Ok Most → count ≡ most
no_end count most e h = absurd (let f : Err e ≡ Ok Most = h in cc)

pub returns-then-is_err-clause-reached : goal.returns-then-is_err-clause-reached
returns-then-is_err-clause-reached g c = and_then (meaning_of g.H.Handler.gives g.H.Handler.expires g.H.Handler.notifies g.H.Handler.fence c.args.was) _ _ _ c.loop-served.invariant.reached c.visit.ensures.reached

pub returns-in-Some-clause-reached : goal.returns-in-Some-clause-reached
returns-in-Some-clause-reached g c = and_then (meaning_of g.H.Handler.gives g.H.Handler.expires g.H.Handler.notifies g.H.Handler.fence c.args.was) _ _ _ c.loop-served.invariant.reached c.visit.ensures.reached

pub returns-then-is_err-clause-served : goal.returns-then-is_err-clause-served
returns-then-is_err-clause-served g c = λ earlier told.
    has_served (meaning_of g.H.Handler.gives g.H.Handler.expires g.H.Handler.notifies g.H.Handler.fence c.args.was) (g.C.Clock.to_come c.args.clock.now) c.args.most _ _ (Err OutOfMemory) _ earlier (c.loop-served.served + 1) c.visit.new.latest
    (one_more (meaning_of g.H.Handler.gives g.H.Handler.expires g.H.Handler.notifies g.H.Handler.fence c.args.was) (g.C.Clock.to_come c.args.clock.now) false _ c.loop-served.served _ (g.N.Stream.connections c.accept.new.self) (g.N.Stream.connections c.visit.new.door) earlier c.loop-served.latest c.visit.new.latest _ _ (g.C.Clock.to_come c.loop-served.clock 0) (is_ok c.visit.result)
    (c.loop-served.invariant.served earlier told) (c.accept.ensures.opened (c.in-Ok-true.is ∙ ap Ok c.in-Ok-true.field-0-test)) c.visit.ensures.visited
    (c.loop-served.invariant.clock 0 ∙ ap (g.C.Clock.to_come c.args.clock.now) (plus_none c.loop-served.served)) (ok_of c.visit.result true (sym c.is_err.ensures.value ∙ c.if-is_err.true)))
    (omega arith) (no_end _ _ OutOfMemory)

pub returns-in-Some-clause-served : goal.returns-in-Some-clause-served
returns-in-Some-clause-served g c = λ earlier told.
    has_served (meaning_of g.H.Handler.gives g.H.Handler.expires g.H.Handler.notifies g.H.Handler.fence c.args.was) (g.C.Clock.to_come c.args.clock.now) c.args.most _ _ (Err (NotOwner c.in-Some.fence.own c.in-Some.fence.seen)) _ earlier (c.loop-served.served + 1) c.visit.new.latest
    (one_more (meaning_of g.H.Handler.gives g.H.Handler.expires g.H.Handler.notifies g.H.Handler.fence c.args.was) (g.C.Clock.to_come c.args.clock.now) true _ c.loop-served.served _ (g.N.Stream.connections c.accept.new.self) (g.N.Stream.connections c.visit.new.door) earlier c.loop-served.latest c.visit.new.latest _ _ (g.C.Clock.to_come c.loop-served.clock 0) (is_ok c.visit.result)
    (c.loop-served.invariant.served earlier told) (c.accept.ensures.opened (c.in-Ok-true.is ∙ ap Ok c.in-Ok-true.field-0-test)) c.visit.ensures.visited
    (c.loop-served.invariant.clock 0 ∙ ap (g.C.Clock.to_come c.args.clock.now) (plus_none c.loop-served.served)) (ok_of c.visit.result false (sym c.is_err.ensures.value ∙ c.if-is_err.false)))
    (omega arith) (no_end _ _ (NotOwner c.in-Some.fence.own c.in-Some.fence.seen))

pub loop-served-preserved : goal.loop-served-preserved
loop-served-preserved g c = record {
  count = omega arith;
  ready = c.visit.ensures.ready;
  clock = λ n. c.visit.ensures.clock n ∙ c.loop-served.invariant.clock (n + 1) ∙ ap (g.C.Clock.to_come c.args.clock.now) (later_place c.loop-served.served n);
  reached = and_then (meaning_of g.H.Handler.gives g.H.Handler.expires g.H.Handler.notifies g.H.Handler.fence c.args.was) _ _ _ c.loop-served.invariant.reached c.visit.ensures.reached;
  served = λ earlier told.
      (one_more (meaning_of g.H.Handler.gives g.H.Handler.expires g.H.Handler.notifies g.H.Handler.fence c.args.was) (g.C.Clock.to_come c.args.clock.now) true _ c.loop-served.served _ (g.N.Stream.connections c.accept.new.self) (g.N.Stream.connections c.visit.new.door) earlier c.loop-served.latest c.visit.new.latest _ _ (g.C.Clock.to_come c.loop-served.clock 0) (is_ok c.visit.result)
      (c.loop-served.invariant.served earlier told) (c.accept.ensures.opened (c.in-Ok-true.is ∙ ap Ok c.in-Ok-true.field-0-test)) c.visit.ensures.visited
      (c.loop-served.invariant.clock 0 ∙ ap (g.C.Clock.to_come c.args.clock.now) (plus_none c.loop-served.served)) (ok_of c.visit.result false (sym c.is_err.ensures.value ∙ c.if-is_err.false)));
  owner = search rules;
  failed_openings = search rules;
  later = search rules;
}
