use Rattle.std.proofs.Common.{◌≡◌, ap, subst, rules, All}
use Rattle.rating.specs.Row.{IsSmall}
use Rattle.rating.specs.Tariff.{GroupTariff}
use Rattle.rating.specs.Switch.{switch_after}
use Rattle.rating.proofs.Switches.{first_switch}
use Rattle.rating.proofs.tariff.Tariff.next_switch.Goals as goal

pub returns-clause-first : goal.returns-clause-first
returns-clause-first c =
    let same : c.self.inside.periods ≡ c.args.self.now.periods = ap (λ (t : GroupTariff). t.periods) c.self.view_is in
    let value : c.switch_after.result ≡ switch_after c.args.self.now.periods c.args.after = search rules in
    rw value (first_switch c.args.after c.args.self.now.periods (subst (All IsSmall) same c.self.invariant.small))
