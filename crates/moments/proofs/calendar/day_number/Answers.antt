use Rattle.moments.proofs.Dates.{day_found}
use Rattle.moments.proofs.calendar.day_number.Goals as goal

pub returns-clause-value : goal.returns-clause-value
returns-clause-value c = day_found c.epoch_day_of.result c.args.year c.args.month c.args.day c.requires.year c.epoch_day_of.ensures.there c.epoch_day_of.ensures.value
