use Rattle.std.proofs.Common.{◌++◌, ◌∷◌, [], ap, ◌∙◌, drop, map as each, ◌+◌, ℕ, arith}
use Rattle.accounts.specs.declared.moves.Move.TheVariants.{Charged}
use Rattle.chf_core.specs.CommandMoves.{charge_of}
use Rattle.chf_core.proofs.Walks.{next, ended}
use Rattle.chf_core.proofs.Drafting.{walked, walk_ended}
use Rattle.chf_core.proofs.draft.Draft.charge_used.Goals as goal

pub loop-container-preserved : goal.loop-container-preserved
loop-container-preserved c =
    let l = c.loop-container in
    let t = c.args.t in
    let one = charge_of c.args.tariffs.now t c.args.group in
    let n = next c.args.used.now l.container-index c.container-item.result c.loop-container-test.true
    c.container-item.is in
    record {
      moves =
          walked (one c.container-item.result ∷ []) (each one (drop (l.container-index + 1) c.args.used.now))
          (each one (drop l.container-index c.args.used.now)) l.self.moves _ _
          (ap (each one) n)
          (c.in_ok-charge.ensures.moves
          ∙ ap (λ (x : ℕ). l.self.moves ++ Charged t.account t.session c.args.group c.container-item.result.lsn
          x ∷ []) c.price-amount.ensures)
          l.invariant.moves;
      holds = λ h. c.in_ok-charge.ensures.holds (l.invariant.holds h);
    }

pub returns-clause-moves : goal.returns-clause-moves
returns-clause-moves c =
    let l = c.loop-container in
    let one = charge_of c.args.tariffs.now c.args.t c.args.group in
    let rest = ended c.args.used.now l.container-index (omega (arith, c.loop-container-test.false)) in
    walk_ended (each one (drop l.container-index c.args.used.now)) _ _ (ap (each one) rest) l.invariant.moves
