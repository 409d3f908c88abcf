use Rattle.std.proofs.Common.{◌∙◌, ◌+◌, ℕ, List, drop, sym, subst, arith}
use Rattle.std.proofs.lemmas.List.{drop_all}
use Rattle.std.specs.List.{Contains}
use Rattle.records.specs.Seen.{sessions_seen, EachClosable}
use Rattle.records.proofs.Swept.{none_swept}
use Rattle.records.proofs.EachClosable.{least_first, next_first, none_among_none}
use Rattle.records.proofs.touched.sweep_these.Goals as goal

pub returns-clause-none : goal.returns-clause-none
returns-clause-none c =
    none_among_none (sessions_seen c.loop-number.sessions) (subst (λ (ns : List ℕ). EachClosable (Contains ns) (sessions_seen c.loop-number.sessions)) (drop_all c.loop-number.number-index c.args.touched.now (omega arith)) c.loop-number.invariant.touched)

pub returns-clause-swept : goal.returns-clause-swept
returns-clause-swept c =
    sym c.loop-number.invariant.swept
    ∙ none_swept (sessions_seen c.loop-number.sessions) c.args.stamp c.loop-number.closed.items
    (none_among_none (sessions_seen c.loop-number.sessions) (subst (λ (ns : List ℕ). EachClosable (Contains ns) (sessions_seen c.loop-number.sessions)) (drop_all c.loop-number.number-index c.args.touched.now (omega arith)) c.loop-number.invariant.touched))

pub sweep_one-requires-clause-least : goal.sweep_one-requires-clause-least
sweep_one-requires-clause-least c = least_first c.args.touched.now c.loop-number.number-index 0 (sessions_seen c.loop-number.sessions) c.requires.order (omega (arith, c.loop-number-test.true)) c.loop-number.invariant.touched

pub loop-number-preserved : goal.loop-number-preserved
loop-number-preserved c = record {
  swept = c.sweep_one.ensures.swept ∙ c.loop-number.invariant.swept;
  touched = c.sweep_one.ensures.others (drop (c.loop-number.number-index + 1) c.args.touched.now) (next_first c.args.touched.now c.loop-number.number-index 0 (sessions_seen c.loop-number.sessions) (omega (arith, c.loop-number-test.true)) c.loop-number.invariant.touched);
  numbers = c.sweep_one.ensures.numbers ∙ c.loop-number.invariant.numbers;
  sequences = c.sweep_one.ensures.sequences;
  capacity = c.sweep_one.ensures.capacity ∙ c.loop-number.invariant.capacity;
  left = c.sweep_one.ensures.left ∙ c.loop-number.invariant.left;
}
