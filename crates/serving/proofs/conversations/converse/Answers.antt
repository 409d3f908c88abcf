use Rattle.std.proofs.Common.{rules, ◌≡◌, ◌+◌, ◌∙◌, ap, sym, refl, [], ◌∷◌, Ok, Err, true, false, arith, length, ℕ, List}
use Rattle.edge.specs.Openings.{opened}
use Rattle.serving.specs.Sides.{meaning_of}
use Rattle.serving.specs.Talk.{Turn}
use Rattle.serving.proofs.Ending.{after_at, full, stopped_at_first, talking_at_first, wanting_at_first}
use Rattle.serving.proofs.Reached.{and_then, nowhere}
use Rattle.serving.proofs.conversations.converse.Goals as goal

more_by_one : (t : Turn) (ts : List Turn) (n : ℕ) → length ts ≡ n → length (t ∷ ts) ≡ n + 1
more_by_one t ts n h = omega (arith, h)

pub returns-in_default-clause-talks : goal.returns-in_default-clause-talks
returns-in_default-clause-talks g c = λ link bytes others told. (opened [] bytes, told, wanting_at_first (meaning_of g.H.Handler.gives g.H.Handler.expires g.H.Handler.notifies g.H.Handler.fence c.args.was) _ bytes)

pub returns-then-is_newly_fenced-clause-talks : goal.returns-then-is_newly_fenced-clause-talks
returns-then-is_newly_fenced-clause-talks g c = λ link bytes others told.
    (opened [] bytes, told, stopped_at_first (meaning_of g.H.Handler.gives g.H.Handler.expires g.H.Handler.notifies g.H.Handler.fence c.args.was) _ bytes (sym c.is_newly_fenced.ensures ∙ c.if-is_newly_fenced.true))

pub loop-count-init : goal.loop-count-init
loop-count-init g c = record {
  fresh = search rules;
  count = omega arith;
  ready = c.requires;
  reached = λ link. nowhere (meaning_of g.H.Handler.gives g.H.Handler.expires g.H.Handler.notifies g.H.Handler.fence c.args.was) _;
  talks = λ link bytes others told. (
    [],
    opened [] bytes,
    refl,
    told,
    talking_at_first (meaning_of g.H.Handler.gives g.H.Handler.expires g.H.Handler.notifies g.H.Handler.fence c.args.was) _ bytes _ (sym c.is_newly_fenced.ensures ∙ c.if-is_newly_fenced.false) (search rules),
  );
  failed_openings = refl;
  openings = refl;
  later = omega arith;
}

pub loop-count-preserved : goal.loop-count-preserved
loop-count-preserved g c = record {
  fresh = c.answer_next.ensures.fresh (c.in-Ok-true.is ∙ ap Ok c.in-Ok-true.field-0-test);
  count = omega arith;
  ready = c.answer_next.ensures.ready;
  reached = λ link. and_then (meaning_of g.H.Handler.gives g.H.Handler.expires g.H.Handler.notifies g.H.Handler.fence c.args.was) _ _ _ (c.loop-count.invariant.reached link) (c.answer_next.ensures.reached link);
  talks = λ link bytes others told.
      let had = c.loop-count.invariant.talks link bytes others told in
      let next = after_at (meaning_of g.H.Handler.gives g.H.Handler.expires g.H.Handler.notifies g.H.Handler.fence c.args.was) _ had.0 others _ (Ok true) _ _ _ (c.answer_next.ensures.talks link _ had.0 had.1 others had.2 had.3 had.4) (c.in-Ok-true.is ∙ ap Ok c.in-Ok-true.field-0-test) in
      (next.0 ∷ had.0, next.1, more_by_one next.0 had.0 _ had.2, next.2, next.3);
  failed_openings = search rules;
  openings = search rules;
  later = search rules;
}

pub returns-in-Ok-false-clause-reached : goal.returns-in-Ok-false-clause-reached
returns-in-Ok-false-clause-reached g c = λ link. and_then (meaning_of g.H.Handler.gives g.H.Handler.expires g.H.Handler.notifies g.H.Handler.fence c.args.was) _ _ _ (c.loop-count.invariant.reached link) (c.answer_next.ensures.reached link)

pub returns-in-Err-clause-reached : goal.returns-in-Err-clause-reached
returns-in-Err-clause-reached g c = λ link. and_then (meaning_of g.H.Handler.gives g.H.Handler.expires g.H.Handler.notifies g.H.Handler.fence c.args.was) _ _ _ (c.loop-count.invariant.reached link) (c.answer_next.ensures.reached link)

pub returns-in-Ok-false-clause-talks : goal.returns-in-Ok-false-clause-talks
returns-in-Ok-false-clause-talks g c = λ link bytes others told.
    let had = c.loop-count.invariant.talks link bytes others told in
    after_at (meaning_of g.H.Handler.gives g.H.Handler.expires g.H.Handler.notifies g.H.Handler.fence c.args.was) _ had.0 others _ (Ok false) _ _ _ (c.answer_next.ensures.talks link _ had.0 had.1 others had.2 had.3 had.4) (c.in-Ok-false.is ∙ ap Ok c.in-Ok-false.field-0-test)

pub returns-in-Err-clause-talks : goal.returns-in-Err-clause-talks
returns-in-Err-clause-talks g c = λ link bytes others told.
    let had = c.loop-count.invariant.talks link bytes others told in
    after_at (meaning_of g.H.Handler.gives g.H.Handler.expires g.H.Handler.notifies g.H.Handler.fence c.args.was) _ had.0 others _ (Err c.in-Err.field-0) _ _ _ (c.answer_next.ensures.talks link _ had.0 had.1 others had.2 had.3 had.4) c.in-Err.is

pub returns-clause-talks : goal.returns-clause-talks
returns-clause-talks g c = λ link bytes others told.
    let had = c.loop-count.invariant.talks link bytes others told in
    let whole : c.loop-count.count ≡ 1000 = omega arith in
    absurd (full (meaning_of g.H.Handler.gives g.H.Handler.expires g.H.Handler.notifies g.H.Handler.fence c.args.was) _ had.1 had.0 _ _ had.4 (had.2 ∙ whole))
