use Rattle.std.proofs.Common.{◌≡◌, ◌-◌, ◌∙◌, arith, get_or}
use Rattle.rating.proofs.Found.{held_by_low, held_by_last}
use Rattle.rating.proofs.search.period_at.Goals as goal

pub returns-then-count-gt0-clause-value : goal.returns-then-count-gt0-clause-value
returns-then-count-gt0-clause-value c =
    let begun = c.requires.begun c.args.hour (omega arith) in
    held_by_low c.args.periods.now c.args.hour (get_or c.args.begun.now c.args.hour 0 - 1) (get_or c.args.begun.now c.args.hour 0) _ (omega arith) begun.low begun.high begun.within

pub returns-else-count-gt0-clause-value : goal.returns-else-count-gt0-clause-value
returns-else-count-gt0-clause-value c =
    let begun = c.requires.begun c.args.hour (omega arith) in
    let none : get_or c.args.begun.now c.args.hour 0 ≡ 0 = omega arith in
    c.copied.ensures ∙ c.last.ensures.value ∙ held_by_last c.args.periods.now c.args.hour (λ k d a h. begun.high k d (omega arith) h)
