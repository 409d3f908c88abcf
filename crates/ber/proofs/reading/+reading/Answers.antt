use Rattle.std.proofs.Common.{◌≡◌, ◌+◌, ◌-◌, ◌∙◌, length, sym, arith, rules}
use Rattle.std.proofs.lemmas.Result.{err_from_is_err_and}
use Rattle.ber.specs.Element.{none}
use Rattle.ber.specs.Reading.{items_with, inside_at}
use Rattle.ber.proofs.Turns.{with_none, ended, closed, not_closed, cut_off, at_item, goes_on, fails, definite_fails, definite_is, no_some, indefinite_is, contents_is}
use Rattle.ber.proofs.Nodes.{nodes_seen-cons, adds_none, adds_more, adds_alone, adds_constructed}
use Rattle.ber.proofs.reading.+reading.Goals as goal

pub items-loop-init : goal.items-loop-init
items-loop-init g t c =
    let start = with_none (items_with g.G.Grammar.rules (inside_at g.G.Grammar.rules c.args.levels) (length c.args.bytes.now + 1) c.args.definite c.args.state c.args.around c.args.place c.args.bytes.now) in
    let whole : (length c.args.bytes.now + 1) - 0 ≡ length c.args.bytes.now + 1 = omega arith in
    record { read = (none, adds_none _, rw whole start); turns = search rules; within = search rules; place = search rules }

pub items-returns-then-is_whole-clause-exact : goal.items-returns-then-is_whole-clause-exact
items-returns-then-is_whole-clause-exact g t c =
    let so_far = ended _ _ _ _ _ _ _ _ _ c.in-Some.after.now _ _ c.loop-test.true (sym c.in-Some.ensures) c.loop.invariant.read.2 in
    (c.loop.invariant.read.0, closed _ _ _ _ _ (sym c.if-is_whole.ensures) so_far, c.loop.invariant.read.1)

pub items-returns-in-Some-clause-exact : goal.items-returns-in-Some-clause-exact
items-returns-in-Some-clause-exact g t c =
    let so_far = ended _ _ _ _ _ _ _ _ _ c.in-Some.after.now _ _ c.loop-test.true (sym c.in-Some.ensures) c.loop.invariant.read.2 in
    not_closed _ _ _ _ _ (sym c.if-is_whole.ensures) so_far

pub items-returns-then-is_empty-clause-exact : goal.items-returns-then-is_empty-clause-exact
items-returns-then-is_empty-clause-exact g t c =
    cut_off _ _ _ _ _ _ _ _ _ _ _ c.loop-test.true (sym c.end.ensures ∙ no_some _ _ c.in_default.not-Some) (sym c.if-is_empty.ensures) c.loop.invariant.read.2

pub items-returns-in_err-next-clause-exact : goal.items-returns-in_err-next-clause-exact
items-returns-in_err-next-clause-exact g t c =
    let p = err_from_is_err_and c.from_residual.result c.from_residual.ensures.1 in
    let so_far = at_item _ _ _ _ _ _ _ _ _ _ _ c.loop-test.true (sym c.end.ensures ∙ no_some _ _ c.in_default.not-Some) (sym c.if-is_empty.ensures) c.loop.invariant.read.2 in
    rw (p.1, p.2) (fails _ _ _ _ _ _ _ _ _ _ _ c.in_err-next.ensures.exact so_far)

pub items-loop-preserved : goal.items-loop-preserved
items-loop-preserved g t c =
    let so_far = at_item _ _ _ _ _ _ _ _ _ _ _ c.loop-test.true (sym c.end.ensures ∙ no_some _ _ c.in_default.not-Some) (sym c.if-is_empty.ensures) c.loop.invariant.read.2 in
    let one = goes_on _ _ _ _ _ _ _ _ _ _ _ _ _ c.in_ok-next.ensures.exact.1 so_far in
    record {
      read = (_, adds_more _ _ _ _ _ c.loop.invariant.read.1 c.in_ok-next.ensures.exact.2, one);
      turns = c.loop.invariant.turns;
      within = omega (arith, c.in_ok-next.ensures.rest);
      place = omega (arith, c.in_ok-next.ensures.rest);
    }

pub inside-returns-in_err-items-in-Some-length-clause-exact : goal.inside-returns-in_err-items-in-Some-length-clause-exact
inside-returns-in_err-items-in-Some-length-clause-exact g t c =
    let p = err_from_is_err_and c.from_residual-in_err-items-in-Some-length.result c.from_residual-in_err-items-in-Some-length.ensures.1 in
    rw (p.1, p.2) (definite_fails g.G.Grammar.rules c.args.levels c.args.state c.args.tag c.args.at c.args.place c.in-Some-length.count c.args.bytes.now c.in-Some.body.now _ (omega arith)
    (rw c.in-Some-length.is at (sym c.in-Some.ensures.exact)) c.if-body-count.false c.if-tag.true (rw c.split_at.ensures.front at c.in_err-items-in-Some-length.ensures.exact))

pub inside-returns-in_ok-push-in-Some-length-2-clause-exact : goal.inside-returns-in_ok-push-in-Some-length-2-clause-exact
inside-returns-in_ok-push-in-Some-length-2-clause-exact g t c =
    let read = contents_is g.G.Grammar.rules c.args.levels c.args.state c.args.tag c.args.at c.args.place c.in-Some-length.count c.args.bytes.now c.in-Some.body.now (omega arith)
    (rw c.in-Some-length.is at (sym c.in-Some.ensures.exact)) c.if-body-count.false c.if-tag.false (rw c.split_at.ensures.front at (sym c.if-not-takes.ensures)) in
    (_, rw c.split_at.ensures.back (rw (← c.split_at.ensures.front) at read), adds_alone _ _ _ _ (λ rest. nodes_seen-cons _ rest) (rw c.primitive_node.ensures at c.in_ok-push-in-Some-length-2.ensures.items))

pub inside-returns-in_ok-rest-in-None-clause-exact : goal.inside-returns-in_ok-rest-in-None-clause-exact
inside-returns-in_ok-rest-in-None-clause-exact g t c =
    let inner = c.in_ok-rest-in-None.ensures.exact in
    let read = indefinite_is g.G.Grammar.rules c.args.levels c.args.state c.args.tag c.args.at c.args.place c.args.bytes.now c.in-Some.body.now _ (omega arith)
    (rw c.in-None.is at (sym c.in-Some.ensures.exact)) c.if-not-tag.false inner.1 in
    let at : c.len-first.result ≡ length c.args.out.now.items = search rules in
    (_, read, adds_constructed _ _ _ _ _ _ _ _ _ at c.in_ok-push-in-None.ensures.items inner.2 c.close.ensures)

pub inside-returns-then-tag-clause-exact : goal.inside-returns-then-tag-clause-exact
inside-returns-then-tag-clause-exact g t c =
    let inner = c.in_ok-items-in-Some-length.ensures.exact in
    let read = definite_is g.G.Grammar.rules c.args.levels c.args.state c.args.tag c.args.at c.args.place c.in-Some-length.count c.args.bytes.now c.in-Some.body.now _ (omega arith)
    (rw c.in-Some-length.is at (sym c.in-Some.ensures.exact)) c.if-body-count.false c.if-tag.true (rw c.split_at.ensures.front at inner.1) in
    let at : c.len-first.result ≡ length c.args.out.now.items = search rules in
    (_, rw c.split_at.ensures.back read, adds_constructed _ _ _ _ _ _ _ _ _ at c.in_ok-push-in-Some-length.ensures.items inner.2 c.close-then-tag.ensures)
