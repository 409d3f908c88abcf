use Rattle.std.proofs.Common.{◌∙◌, option_map, refl, sym, ap}
use Rattle.counters.specs.declared.row.Limit.{Limit}
use Rattle.counters.specs.Row.{counter_rows}
use Rattle.counters.specs.Names.{names_of}
use Rattle.counters.proofs.Kept.{none_reached}
use Rattle.counters.proofs.Ascending.{among_there}
use Rattle.counters.proofs.counters.Counters.status.Goals as goal

pub returns-in_err-at-clause-value : goal.returns-in_err-at-clause-value
returns-in_err-at-clause-value c =
    ap (option_map (λ t. t.now)) c.from_residual.ensures
    ∙ sym (ap (option_map (λ (l : Limit). l.status)) (none_reached (counter_rows c.args.self.now) c.args.counter.now c.args.spent c.in_err-at.ensures))

pub returns-clause-known : goal.returns-clause-known
returns-clause-known c = (λ h. among_there (names_of (counter_rows c.args.self.now)) c.args.counter.now c.in_ok-at.at c.in_ok-at.ensures.within c.in_ok-at.ensures.is, λ h. refl)
