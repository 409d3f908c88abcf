use Rattle.std.proofs.Common.{◌≡◌, ◌∙◌, List, ◌∷◌, sym, ap, subst, reverse, arith}
use Rattle.units.specs.declared.request.UnitUsage.{UnitUsage}
use Rattle.units.specs.declared.request.Used.{Used}
use Rattle.records.specs.declared.sums.Sums.{Sums}
use Rattle.records.specs.Usage.{with_entry, with_usage}
use Rattle.records.specs.Sums.{sums_of, sums_with}
use Rattle.records.specs.Groups.{usage_seen, AreApart, HaveAllPlaces}
use Rattle.records.proofs.Added.{sums-with_group, entry_joined, turned}
use Rattle.records.proofs.unclosed.join_all.Goals as goal

pub loop-entry-preserved-then-not-is_empty : goal.loop-entry-preserved-then-not-is_empty
loop-entry-preserved-then-not-is_empty c =
    let e = c.in-Some.entry in
    let groups = c.loop-entry.groups.items in
    let round : reverse c.loop-entry.left.items ≡ e ∷ reverse c.pop.new.self.items = turned _ _ e c.in-Some.ensures.items in
    let apart : AreApart (e ∷ reverse c.pop.new.self.items) = subst AreApart round c.loop-entry.invariant.apart in
    let places : HaveAllPlaces groups (e ∷ reverse c.pop.new.self.items) = subst (HaveAllPlaces groups) round c.loop-entry.invariant.places in
    let grown : usage_seen c.join.new.groups.items ≡ with_entry (usage_seen groups) e = c.join.ensures.usage ∙ sym (entry_joined (usage_seen groups) e c.is_empty.result c.if-not-is_empty.true c.is_empty.ensures.1) in
    record {
      usage = ap (λ (us : List UnitUsage). with_usage us (reverse c.pop.new.self.items)) grown ∙ ap (λ (es : List UnitUsage). with_usage (usage_seen groups) es) (sym round) ∙ c.loop-entry.invariant.usage;
      apart = apart.1;
      places = c.join.ensures.others (reverse c.pop.new.self.items) apart.0 places.1;
      capacity = c.join.ensures.capacity ∙ c.loop-entry.invariant.capacity;
      len = omega (arith, c.in-Some.ensures.cases);
      sums = c.with-sums.ensures ∙ ap (λ (us : List Used). sums_with c.loop-entry.sums us) c.as_slice.ensures ∙ ap (λ (s : Sums). sums_with s e.used) c.loop-entry.invariant.sums ∙ sums-with_group (usage_seen groups) e.group e.used ∙ ap sums_of (sym c.join.ensures.usage);
    }
