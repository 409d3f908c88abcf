use Rattle.std.proofs.Common.{◌∙◌, pos, ◌+ℤ◌, ◌*ℤ◌, to_z-of_z}
use Rattle.moments.proofs.Dates.{made, none_in_range, some_in_range}
use Rattle.moments.proofs.calendar.moment_from.Goals as goal

pub returns-in-Some : goal.returns-in-Some
returns-in-Some c =
    let found = rw (to_z-of_z c.ranges.day) at c.in-Some.ensures.value in
    made c.new.result c.in-Some.seconds found.0 c.new.ensures.range c.new.ensures.value
    ∙ some_in_range (c.args.day *ℤ pos 86_400 +ℤ pos c.args.clock) c.args.ahead c.in-Some.seconds found.0 found.1

pub returns-in-None : goal.returns-in-None
returns-in-None c =
    let none = rw (to_z-of_z c.ranges.day) at c.in-None.ensures.none in
    none_in_range (c.args.day *ℤ pos 86_400 +ℤ pos c.args.clock) c.args.ahead none
