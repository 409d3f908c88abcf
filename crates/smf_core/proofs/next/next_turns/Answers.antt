use Rattle.std.proofs.Common.{◌≡◌, ◌∙◌, sym, ap, map}
use Rattle.smf_core.specs.declared.plan.Next.{Next}
use Rattle.smf_model.specs.Machine.{next_session}
use Rattle.smf_core.specs.Plan.{sessions_next, turned, map_at}
use Rattle.smf_core.specs.Caches.{sessions_of}
use Rattle.smf_core.proofs.KeptRight.{if_ok}
use Rattle.smf_core.proofs.Nexts.{none_step, one_step, one_within}
use Rattle.smf_core.proofs.next.next_turns.Goals as goal

pub one_change-requires : goal.one_change-requires
one_change-requires c = one_within c.args.event.now c.in-Some.field-0 c.in-Some-place.at c.args.sessions.now (sym c.in-Some.ensures) (sym c.requires.place ∙ c.in-Some-place.is)

pub returns-in-None-place-clause-made : goal.returns-in-None-place-clause-made
returns-in-None-place-clause-made c = none_step c.args.event.now c.args.setup.now c.args.now c.in-Some.field-0 (sessions_of c.args.sessions.now) (sym c.in-Some.ensures) (sym c.requires.place ∙ c.in-None-place.is)

pub returns-in-Some-place-clause-made : goal.returns-in-Some-place-clause-made
returns-in-Some-place-clause-made c =
    let one = one_step c.args.event.now c.args.setup.now c.args.now c.in-Some.field-0 c.in-Some-place.at (sessions_of c.args.sessions.now) (sym c.in-Some.ensures) (sym c.requires.place ∙ c.in-Some-place.is) c.requires.apart in
    let P : Next → Type 0 = λ n. sessions_next n (sessions_of c.args.sessions.now) ≡ map_at c.in-Some-place.at (next_session c.args.setup.now c.args.now c.args.event.now) (sessions_of c.args.sessions.now) in
    let Q : Next → Type 0 = λ n. sessions_next n (sessions_of c.args.sessions.now) ≡ map (next_session c.args.setup.now c.args.now c.args.event.now) (sessions_of c.args.sessions.now) in
    if_ok c.one_change.result P Q (λ n (m : P n). m ∙ one) c.one_change.ensures.made

pub turns_at-requires : goal.turns_at-requires
turns_at-requires c = (c.requires.several (sym c.in-None.ensures)).ascend

pub returns-in_ok-turns-in-None-clause-made : goal.returns-in_ok-turns-in-None-clause-made
returns-in_ok-turns-in-None-clause-made c = ap (λ ts. turned ts (sessions_of c.args.sessions.now)) c.from_vec.ensures ∙ c.in_ok-turns-in-None.ensures.made ∙ (c.requires.several (sym c.in-None.ensures)).all
