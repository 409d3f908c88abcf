use Rattle.std.proofs.Common.{ap, drop, ◌+◌, arith}
use Rattle.chf_core.specs.CommandMoves.{release_of, releases}
use Rattle.chf_core.proofs.Walks.{next, ended}
use Rattle.chf_core.proofs.Drafting.{walked, walk_ended}
use Rattle.chf_core.proofs.draft.Draft.release_all.Goals as goal

pub loop-entry-preserved : goal.loop-entry-preserved
loop-entry-preserved c =
    let l = c.loop-entry in
    let u = c.entry-item.result in
    let n = next c.args.usage.now l.entry-index u c.loop-entry-test.true c.entry-item.is in
    record {
      moves =
          walked (release_of c.args.t u) (releases c.args.t (drop (l.entry-index + 1) c.args.usage.now))
          (releases c.args.t (drop l.entry-index c.args.usage.now)) l.self.moves _ _
          (ap (releases c.args.t) n) c.in_ok-release_one.ensures.moves l.invariant.moves;
      holds = λ h. c.in_ok-release_one.ensures.holds (l.invariant.holds h);
    }

pub returns-clause-moves : goal.returns-clause-moves
returns-clause-moves c =
    let l = c.loop-entry in
    let rest = ended c.args.usage.now l.entry-index (omega (arith, c.loop-entry-test.false)) in
    walk_ended (releases c.args.t (drop l.entry-index c.args.usage.now)) _ _
    (ap (releases c.args.t) rest) l.invariant.moves
