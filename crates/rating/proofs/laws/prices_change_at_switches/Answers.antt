use Rattle.std.proofs.Common.{ap, ◌==◌}
use Rattle.rating.specs.Tariff.{periods}
use Rattle.rating.specs.Price.{cost}
use Rattle.rating.proofs.Steady.{steady}
use Rattle.rating.proofs.Switches.{first_switch, switch_parts}
use Rattle.rating.proofs.Ranges.{periods_small, periods_of_day}
use Rattle.rating.proofs.laws.prices_change_at_switches.Goals as goal

pub returns-clause-steady : goal.returns-clause-steady
returns-clause-steady c = λ rows group up down seconds after until l none. ap (λ o. cost o up down seconds) (steady (periods rows group) after until (periods_of_day rows group) l none)

pub returns-clause-next : goal.returns-clause-next
returns-clause-next c = λ rows group after. first_switch after (periods rows group) (periods_small rows group)

pub returns-clause-hours : goal.returns-clause-hours
returns-clause-hours c = λ rows group moment is. ap (λ n. n == 0) (switch_parts (periods rows group) moment is).whole
