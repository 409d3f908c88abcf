-- A grant has at most the units of a chunk.
use Rattle.std.proofs.Common.{◌≡◌, ℕ, ◌≤◌, ◌/◌, ◌==◌, Bool, true, false, min, if◌then◌else◌, List, Option, Some, None, sym, ap, subst, arith}
use Rattle.units.specs.declared.request.Ask.{Ask}
use Rattle.rating.specs.declared.terms.Kind.{Kind}
use Rattle.rating.specs.declared.terms.Kind.TheVariants.{Volume, Time, Offline}
use Rattle.rating.specs.Tariff.{GroupTariff, tariff}
use Rattle.rating.specs.Grant.{asked, wish_of, units_of, top_price, is_managed, quota, no_quota, granted_by, granted, grant}
use Rattle.units.specs.declared.answer.Code.TheVariants.{NotApplicable}

wish_few : (chunk : ℕ) (o : Option ℕ) → wish_of chunk o ≤ chunk
wish_few chunk None = omega arith
wish_few chunk (Some amount) = by (amount == 0)
  where
    by : (b : Bool) → (if b then chunk else min chunk amount) ≤ chunk
    by true = omega arith
    by false = omega arith

units_few : (wish top free : ℕ) → units_of wish top free ≤ wish
units_few wish top free = by (top == 0)
  where
    by : (b : Bool) → (if b then wish else min wish (free / top)) ≤ wish
    by true = omega arith
    by false = omega arith

by_few : (t : GroupTariff) (free : ℕ) (ask : Ask) → (granted_by t free ask).units ≤ t.terms.chunk
by_few t free ask = by (is_managed t.terms.kind)
  where
    wish : ℕ
    wish = wish_of t.terms.chunk (asked t.terms.kind ask)

    by : (b : Bool)
        → (if b then quota (wish_of t.terms.chunk (asked t.terms.kind ask)) (top_price t.terms.kind t.periods) free else no_quota NotApplicable).units
        ≤ t.terms.chunk
    by true =
        let u = units_few (wish_of t.terms.chunk (asked t.terms.kind ask)) (top_price t.terms.kind t.periods) free in
        let w = wish_few t.terms.chunk (asked t.terms.kind ask) in omega (arith, u, w)
    by false = omega arith

pub grants_few : (rows : List (List (List ℕ))) (group free : ℕ) (ask : Ask) (t : GroupTariff) → tariff rows group ≡ Some t
    → (grant rows group free ask).units ≤ t.terms.chunk
grants_few rows group free ask t e =
    subst (λ (o : Option GroupTariff). (granted o free ask).units ≤ t.terms.chunk) (sym e) (by_few t free ask)
