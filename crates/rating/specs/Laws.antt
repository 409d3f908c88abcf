-- Laws of tariffs that the layers above stand on (this product's own; rating after TS 32.290).
use Rattle.std.specs.Prelude.{◌≡◌, ℕ, ◌+◌, ◌*◌, ◌^◌, ◌≤◌, true, List, [], Some, None}
use Rattle.units.specs.Cut.{NoSwitchWithin, whole_hour}
use Rattle.units.specs.declared.request.Ask.{Ask}
use Rattle.rating.specs.declared.terms.Kind.{Kind}
use Rattle.rating.specs.declared.terms.Kind.TheVariants.{Volume, Time, Offline}
use Rattle.rating.specs.Row.{AreSmall}
use Rattle.rating.specs.Tariff.{GroupTariff, tariff}
use Rattle.rating.specs.Grammar.{first_bad}
use Rattle.rating.specs.Price.{price}
use Rattle.rating.specs.Switch.{is_switch, next_switch, IsFirstSwitch}
use Rattle.rating.specs.Grant.{grant, is_managed, top_price}

-- With no switch of the group after a moment and up to another, usage costs the same at both.
abbrev pub PricesChangeAtSwitches : List (List (List ℕ)) → Type 0
PricesChangeAtSwitches rows =
    (group up down seconds after until : ℕ) → after ≤ until → NoSwitchWithin (is_switch rows group) after until → price rows group up down seconds until ≡ price rows group up down seconds after

-- Each switch is a whole hour.
abbrev pub SwitchesAreWholeHours : List (List (List ℕ)) → Type 0
SwitchesAreWholeHours rows = (group moment : ℕ) → is_switch rows group moment ≡ true → whole_hour moment ≡ true

-- The next switch is the first one strictly after a moment.
abbrev pub NextSwitchesAreFirst : List (List (List ℕ)) → Type 0
NextSwitchesAreFirst rows = (group after : ℕ) → IsFirstSwitch (is_switch rows group) after (next_switch rows group after)

-- the units of a kind in usage: octets up and down together, or seconds
abbrev pub units_used : Kind → ℕ → ℕ → ℕ → ℕ
units_used Volume up down seconds = up + down
units_used Time up down seconds = seconds
units_used Offline up down seconds = 0

-- Where no row is bad, usage of a group with quotas costs at no moment more than its units at the top price.
abbrev pub ReservesSuffice : List (List (List ℕ)) → Type 0
ReservesSuffice rows =
    first_bad [] rows ≡ None → (group : ℕ) (t : GroupTariff) → tariff rows group ≡ Some t → is_managed t.terms.kind ≡ true
    → (up down seconds moment : ℕ) → price rows group up down seconds moment ≤ units_used t.terms.kind up down seconds * top_price t.terms.kind t.periods

-- Where no row is bad, usage within the units of a grant costs at no moment more than what the grant sets aside.
abbrev pub GrantsArePaid : List (List (List ℕ)) → Type 0
GrantsArePaid rows =
    first_bad [] rows ≡ None → (group : ℕ) (t : GroupTariff) → tariff rows group ≡ Some t → is_managed t.terms.kind ≡ true
    → (free : ℕ) (ask : Ask) (up down seconds moment : ℕ) → units_used t.terms.kind up down seconds ≤ (grant rows group free ask).units
    → price rows group up down seconds moment ≤ (grant rows group free ask).reserve

-- Usage costs at most 2 ^ 32 grains for each octet and second.
abbrev pub PricesAreBounded : List (List (List ℕ)) → Type 0
PricesAreBounded rows = (group up down seconds moment : ℕ) → price rows group up down seconds moment ≤ (up + down + seconds) * 2 ^ 32

-- What is set aside for a grant is covered by the money that is free.
abbrev pub GrantsAreCovered : List (List (List ℕ)) → Type 0
GrantsAreCovered rows = (group free : ℕ) (ask : Ask) → (grant rows group free ask).reserve ≤ free

-- The terms of a group are in their ranges.
abbrev pub TermsAreSmall : List (List (List ℕ)) → Type 0
TermsAreSmall rows = (group : ℕ) (t : GroupTariff) → tariff rows group ≡ Some t → AreSmall t.terms

-- A grant has at most the units of its group's chunk.
abbrev pub GrantsAreSmall : List (List (List ℕ)) → Type 0
GrantsAreSmall rows =
    (group free : ℕ) (ask : Ask) (t : GroupTariff) → tariff rows group ≡ Some t → (grant rows group free ask).units ≤ t.terms.chunk
