use Rattle.std.proofs.Common.{ℕ, List, ap, rules, length, arith}
use Rattle.std.proofs.lemmas.List.{get_or-replicate}
use Rattle.rating.specs.declared.period.Period.{Period}
use Rattle.rating.proofs.tariff.Tariff.new.Goals as goal

pub invariant_of-result : goal.invariant_of-result
invariant_of-result c = record {
  hours = search rules;
  small = search rules;
  top = search rules;
  begun = λ hour l.
      let size = ap (λ (ps : List Period). length ps) c.new.ensures in
      let none = get_or-replicate {A = ℕ} 24 hour 0 0 l in
      record {
        low = λ k d a h. absurd (omega (arith, none));
        high = λ k d a h. absurd (omega (arith, size));
        within = omega (arith, none);
      };
}
