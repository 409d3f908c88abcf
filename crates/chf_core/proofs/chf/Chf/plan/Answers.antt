use Rattle.std.proofs.Common.{rules, ◌≡◌, ℕ, sym, ap, subst, ◌∙◌}
use Rattle.chf_core.specs.declared.command.Outcome.{Outcome}
use Rattle.chf_core.specs.declared.decision.Verdict.TheVariants.{Fresh}
use Rattle.chf_core.specs.Deciding.{decision}
use Rattle.chf_core.proofs.FreshIn.{fresh_in}
use Rattle.chf_core.specs.Booked.{CanFile}
use Rattle.chf_core.specs.Machine.{filed_reference, filed_containers}
use Rattle.chf_core.proofs.chf.Chf.plan.Goals as goal

pub returns-clause-ready : goal.returns-clause-ready
returns-clause-ready c =
    let w = c.in_ok-plan.ensures in
    let book = c.make_room.new.self.book in
    let files : CanFile book (filed_reference c.make_room.new.self.state c.in_ok-plan.plan.command) (filed_containers c.in_ok-plan.plan.change) =
    subst (λ (n : ℕ). CanFile book n (filed_containers c.in_ok-plan.plan.change)) (c.filed_reference-reference.ensures ∙ (λ j. filed_reference (sym c.make_room.ensures.same j) (sym w.command j)))
    c.in_ok-make_room.ensures.files in
    let same = c.make_room.ensures.same in
    let fresh : decision c.make_room.new.self.state c.in_ok-plan.plan.command ≡ Fresh c.in_ok-plan.plan.outcome =
    (λ j. decision (same j) (w.command j)) ∙ fresh_in c.args.self.now.state c.args.command.now c.requires.fresh ∙ ap (λ (o : Outcome). Fresh o) (sym w.outcome) in
    (w.command, record { order = search rules; fresh = fresh; worked_out = search rules; spare = search rules; places = search rules; files = files; watches = c.in_ok-make_room.ensures.watches })
