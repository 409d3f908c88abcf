use Rattle.std.proofs.Common.{arith}
use Rattle.records.proofs.Found as f
use Rattle.records.proofs.Closable as n
use Rattle.records.proofs.Sessions as s
use Rattle.records.proofs.Swept.{first_closed, has_none, has_more}
use Rattle.records.proofs.EachClosable.{one_closed, none_closed}
use Rattle.records.proofs.touched.sweep_one.Goals as goal

pub sweep-requires-clause-spare : goal.sweep-requires-clause-spare
sweep-requires-clause-spare c = let h = f.has-at _ _ _ _ _ c.requires.same c.requires.rising c.in-Some.ensures c.index-sessions-at.is in omega (arith, n.among _ _ _ h.within h.at, c.requires.spare)

pub sweep-requires-clause-few : goal.sweep-requires-clause-few
sweep-requires-clause-few c = let h = f.has-at _ _ _ _ _ c.requires.same c.requires.rising c.in-Some.ensures c.index-sessions-at.is in omega (arith, n.among _ _ _ h.within h.at, c.requires.few)

pub sweep-requires-clause-sequence : goal.sweep-requires-clause-sequence
sweep-requires-clause-sequence c = let h = f.has-at _ _ _ _ _ c.requires.same c.requires.rising c.in-Some.ensures c.index-sessions-at.is in s.within-at _ _ _ _ c.requires.sequences h.within h.at

pub returns-in-Some-clause-swept : goal.returns-in-Some-clause-swept
returns-in-Some-clause-swept c =
    let h = f.has-at _ _ _ _ _ c.requires.same c.requires.rising c.in-Some.ensures c.index-sessions-at.is in first_closed _ _ _ _ c.sweep.new.self _ _ _ h.rise h.within h.is h.at c.sweep.ensures.swept c.sweep.ensures.session c.requires.least

pub returns-in-Some-clause-others : goal.returns-in-Some-clause-others
returns-in-Some-clause-others c = λ ns each.
    let h = f.has-at _ _ _ _ _ c.requires.same c.requires.rising c.in-Some.ensures c.index-sessions-at.is in one_closed _ _ _ c.sweep.new.self ns h.rise h.within h.is (has_none _ _ _ _ c.sweep.new.self _ _ _ h c.sweep.ensures.swept) each

pub returns-in-Some-clause-numbers : goal.returns-in-Some-clause-numbers
returns-in-Some-clause-numbers c = f.numbers _ _ _ _ c.sweep.new.self _ (f.has-at _ _ _ _ _ c.requires.same c.requires.rising c.in-Some.ensures c.index-sessions-at.is) c.sweep.ensures.session

pub returns-in-Some-clause-sequences : goal.returns-in-Some-clause-sequences
returns-in-Some-clause-sequences c = s.within-set _ _ _ _ c.sweep.new.self c.sweep.ensures.kept c.requires.sequences c.sweep.ensures.sequence

pub returns-in-Some-clause-left : goal.returns-in-Some-clause-left
returns-in-Some-clause-left c =
    let h = f.has-at _ _ _ _ _ c.requires.same c.requires.rising c.in-Some.ensures c.index-sessions-at.is in
    let none = has_none _ _ _ _ c.sweep.new.self _ _ _ h c.sweep.ensures.swept in
    let more = has_more _ _ _ _ c.sweep.new.self _ _ _ h c.sweep.ensures.swept in omega (arith, n.changed _ _ _ c.sweep.new.self h.within h.at, none, more, c.sweep.new.closed.ok.0, c.args.closed.now.ok.0)

pub returns-in_default-clause-others : goal.returns-in_default-clause-others
returns-in_default-clause-others c = λ ns each. none_closed _ _ ns (f.missing _ _ _ c.requires.same c.in_default.ensures) each
