use Rattle.std.proofs.Common.{◌≡◌, ◌∙◌, Ok, true, false, true≢false, ap, arith, sym}
use Rattle.wire.proofs.Deciding.{filled_body, found_fits, found_now, part_is_more}
use Rattle.wire.proofs.decision.with_body.Goals as goal

pub overflow_add-found : goal.overflow_add-found
overflow_add-found g c = let fits = found_fits g.M.Framed.is_at g.M.Framed.is_hopeless g.M.Framed.are_parts c.args.buffer.now.held c.args.found c.args.count c.requires.found c.requires.body in omega (arith, fits.0, fits.1)

pub fill-requires : goal.fill-requires
fill-requires g c = let fits = found_fits g.M.Framed.is_at g.M.Framed.is_hopeless g.M.Framed.are_parts c.args.buffer.now.held c.args.found c.args.count c.requires.found c.requires.body in omega (arith, fits.0, fits.1)

pub returns-in-Ok-true-clause-filled : goal.returns-in-Ok-true-clause-filled
returns-in-Ok-true-clause-filled g c =
    filled_body g.M.Framed.is_at g.M.Framed.is_hopeless g.M.Framed.are_parts false _ _ _ _ _ _ c.args.found c.args.count c.requires.found c.requires.body c.in-Ok-true.ensures.took c.in-Ok-true.ensures.had

pub returns-in-Ok-true-clause-decided : goal.returns-in-Ok-true-clause-decided
returns-in-Ok-true-clause-decided g c = record {
  head = found_now g.M.Framed.is_at g.M.Framed.is_hopeless g.M.Framed.are_parts false _ _ _ _ _ _ c.args.found c.requires.found c.in-Ok-true.ensures.took;
  body = c.requires.body;
  here = c.in-Ok-true.ensures.all (ap Ok c.in-Ok-true.field-0-test);
}

pub returns-in-Ok-false-clause-filled : goal.returns-in-Ok-false-clause-filled
returns-in-Ok-false-clause-filled g c =
    filled_body g.M.Framed.is_at g.M.Framed.is_hopeless g.M.Framed.are_parts false _ _ _ _ _ _ c.args.found c.args.count c.requires.found c.requires.body c.in-Ok-false.ensures.took c.in-Ok-false.ensures.had

pub returns-in-Ok-false-clause-decided : goal.returns-in-Ok-false-clause-decided
returns-in-Ok-false-clause-decided g c = (
  part_is_more g.M.Framed.is_at g.M.Framed.is_hopeless g.M.Framed.are_parts _ c.args.found c.args.count
      (found_now g.M.Framed.is_at g.M.Framed.is_hopeless g.M.Framed.are_parts false _ _ _ _ _ _ c.args.found c.requires.found c.in-Ok-false.ensures.took) c.requires.body (c.in-Ok-false.ensures.few (λ e. absurd (true≢false (let f : c.in-Ok-false.field-0 ≡ true = cc in sym f ∙ c.in-Ok-false.field-0-test)))),
  c.in-Ok-false.ensures.end (ap Ok c.in-Ok-false.field-0-test),
)

pub returns-in-Err-clause-filled : goal.returns-in-Err-clause-filled
returns-in-Err-clause-filled g c =
    filled_body g.M.Framed.is_at g.M.Framed.is_hopeless g.M.Framed.are_parts true _ _ _ _ _ _ c.args.found c.args.count c.requires.found c.requires.body c.in-Err.ensures.took c.in-Err.ensures.had

pub returns-in-Err-clause-decided : goal.returns-in-Err-clause-decided
returns-in-Err-clause-decided g c =
    part_is_more g.M.Framed.is_at g.M.Framed.is_hopeless g.M.Framed.are_parts _ c.args.found c.args.count
    (found_now g.M.Framed.is_at g.M.Framed.is_hopeless g.M.Framed.are_parts true _ _ _ _ _ _ c.args.found c.requires.found c.in-Err.ensures.took) c.requires.body (c.in-Err.ensures.few (λ e. cc))
