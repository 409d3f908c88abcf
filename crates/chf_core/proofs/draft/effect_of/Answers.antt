use Rattle.std.proofs.Common.{◌≡◌, ◌++◌, ◌∙◌, ap, List}
use Rattle.units.specs.declared.request.UnitUsage.{UnitUsage}
use Rattle.chf_core.specs.Effect.{rating_by, asks_of}
use Rattle.chf_core.specs.CommandMoves.{charges, releases}
use Rattle.chf_core.proofs.Drafting.{settled_moves, clear_settled, closed_spent}
use Rattle.chf_core.proofs.draft.effect_of.Goals as goal

pub grant_all-requires-clause-clear : goal.grant_all-requires-clause-clear
grant_all-requires-clause-clear c =
    let q = c.args.request.now in
    let t = c.args.t in
    let rates = c.args.tariffs.now in
    let e : c.release_all.new.self.moves ≡ charges rates t q.usage ++ releases t q.usage =
    settled_moves rates t q.usage c.as_slice-usage.result.now c.in-Some.draft c.charge_all.new.self
    c.release_all.new.self c.in-Some.ensures.none c.in_ok-charge_all.ensures.moves c.in_ok-release_all.ensures.moves
    c.as_slice-usage.ensures in
    clear_settled
    (rating_by rates c.args.grace c.args.barred.now) t q.usage c.deref.result.now c.args.accounts.now.state
    c.release_all.new.self e
    (c.deref.ensures.value ∙ c.in_ok-asks.ensures ∙ ap (λ (l : List UnitUsage). asks_of l) c.as_slice-usage.ensures)

pub returns-clause-after : goal.returns-clause-after
returns-clause-after c =
    c.in_ok-close.ensures.used
    ∙ closed_spent c.grant_all.new.self c.close.new.self.moves c.args.request.now.operation c.args.accounts.now.state c.args.t
    c.in_ok-close.ensures.moves c.in_ok-infos.ensures.holds
