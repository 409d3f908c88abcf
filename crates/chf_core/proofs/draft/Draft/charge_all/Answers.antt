use Rattle.std.proofs.Common.{◌++◌, ap, ◌∙◌, drop, map as each, ◌+◌, List, arith}
use Rattle.units.specs.declared.request.Used.{Used}
use Rattle.chf_core.specs.CommandMoves.{charge_of, charges}
use Rattle.chf_core.proofs.Walks.{next, ended}
use Rattle.chf_core.proofs.Drafting.{walked, walk_ended}
use Rattle.chf_core.proofs.draft.Draft.charge_all.Goals as goal

pub loop-entry-preserved : goal.loop-entry-preserved
loop-entry-preserved c =
    let l = c.loop-entry in
    let rates = c.args.tariffs.now in
    let t = c.args.t in
    let u = c.entry-item.result in
    let n = next c.args.usage.now l.entry-index u c.loop-entry-test.true c.entry-item.is in
    record {
      moves =
          walked (each (charge_of rates t u.group) u.used)
          (charges rates t (drop (l.entry-index + 1) c.args.usage.now))
          (charges rates t (drop l.entry-index c.args.usage.now)) l.self.moves _ _
          (ap (charges rates t) n)
          (c.in_ok-charge_used.ensures.moves
          ∙ ap (λ (x : List Used). l.self.moves ++ each (charge_of rates t u.group) x) c.as_slice.ensures)
          l.invariant.moves;
      holds = λ h. c.in_ok-charge_used.ensures.holds (l.invariant.holds h);
    }

pub returns-clause-moves : goal.returns-clause-moves
returns-clause-moves c =
    let l = c.loop-entry in
    let rest = ended c.args.usage.now l.entry-index (omega (arith, c.loop-entry-test.false)) in
    walk_ended (charges c.args.tariffs.now c.args.t (drop l.entry-index c.args.usage.now)) _ _
    (ap (charges c.args.tariffs.now c.args.t) rest) l.invariant.moves
