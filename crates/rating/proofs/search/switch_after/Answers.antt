use Rattle.std.proofs.Common.{◌<◌, ◌≤◌, ◌+◌, ℕ, Some, get_or, length, sym, ◌∙◌, ap, subst, arith}
use Rattle.std.specs.List.{AllWithin}
use Rattle.rating.specs.declared.period.Period.{Period}
use Rattle.rating.proofs.Days.{soonest_today, soonest_tomorrow, switch_is}
use Rattle.rating.proofs.search.switch_after.Goals as goal

pub returns-then-count-periods : goal.returns-then-count-periods
returns-then-count-periods c =
    let count = get_or c.args.begun.now c.hour_of.result 0 in
    let begun = c.requires.begun c.hour_of.result (omega (arith, c.hour_of.ensures.range)) in
    let low = subst (λ (h : ℕ). AllWithin (λ (p : Period). p.hour ≤ h) c.args.periods.now 0 count) c.hour_of.ensures.value begun.low in
    let high = subst (λ (h : ℕ). AllWithin (λ (p : Period). h < p.hour) c.args.periods.now count (length c.args.periods.now)) c.hour_of.ensures.value begun.high in
    switch_is c.args.after _ c.args.periods.now c.new.result (omega arith)
    (soonest_today c.args.after count c.args.periods.now _ c.requires.hours c.requires.small low high (omega arith) ∙ ap Some (sym c.today_at.ensures))
    c.new.ensures.range c.new.ensures.value

pub returns-else-count-periods : goal.returns-else-count-periods
returns-else-count-periods c =
    let count = get_or c.args.begun.now c.hour_of.result 0 in
    let begun = c.requires.begun c.hour_of.result (omega (arith, c.hour_of.ensures.range)) in
    let low = subst (λ (h : ℕ). AllWithin (λ (p : Period). p.hour ≤ h) c.args.periods.now 0 count) c.hour_of.ensures.value begun.low in
    switch_is c.args.after _ c.args.periods.now c.new-else-count-periods.result (omega arith)
    (soonest_tomorrow c.args.after count c.args.periods.now _ c.requires.hours low (omega arith) (omega arith) ∙ ap Some (ap (λ n. n + 86400) (sym c.today_at-else-count-periods.ensures)))
    c.new-else-count-periods.ensures.range c.new-else-count-periods.ensures.value
