use Rattle.std.proofs.Common.{arith}
use Rattle.jiff_core.proofs.SignedLemmas.{signed_arith}
use Rattle.moments.proofs.Shown.{whole_seconds, late_year, day_of_moment}
use Rattle.moments.proofs.calendar.clock_at.Goals as goal

pub returns-clause-local : goal.returns-clause-local
returns-clause-local c = whole_seconds c.to_datetime.result _ c.args.seconds c.to_datetime.ensures (omega (arith, signed_arith))

pub returns-clause-year : goal.returns-clause-year
returns-clause-year c =
    late_year c.to_datetime.result.date (day_of_moment c.to_datetime.result c.args.seconds
    (whole_seconds c.to_datetime.result _ c.args.seconds c.to_datetime.ensures (omega (arith, signed_arith))))
