use Rattle.std.proofs.Common.{◌≤◌, ◌∙◌, ap, arith}
use Rattle.moments.proofs.Shown.{split_is, shown_is}
use Rattle.moments.specs.Calendar.{shown_at}
use Rattle.moments.proofs.calendar.LocalTime.at.Goals as goal

pub returns-clause-shown : goal.returns-clause-shown
returns-clause-shown c =
    let clock = c.clock_at-clock in
    let seconds = c.seconds-seconds in
    let range : seconds.result ≤ 3155759999 = omega arith in
    let split = split_is clock.result seconds.result range clock.ensures.year clock.ensures.local in
    shown_is clock.result c.shown.result seconds.result split c.shown.ensures ∙ ap shown_at seconds.ensures.value
