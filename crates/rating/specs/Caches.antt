-- What is kept beside the rows for speed; no public clause speaks of it.
use Rattle.std.specs.Prelude.{◌≡◌, ℕ, ◌<◌, ◌≤◌, slice_index_or, ◌==◌, nat_lt, nat_eq, Bool, true, List, [], None, All, length}
use Rattle.std.specs.List.{AllWithin, list_all, list_any}
use Rattle.std.specs.HashMap.{get}
use Rattle.std.specs.List.Sorted.{IsNonDecreasingBy}
use Rattle.rating.specs.declared.period.Period.{Period}
use Rattle.rating.specs.declared.row.TariffRow.{TariffRow}
use Rattle.rating.specs.declared.row.TariffRow.TheVariants.{Group, Price}
use Rattle.rating.specs.declared.tariff.Tariff.TheInside.{Inside}
use Rattle.rating.specs.declared.reading.Reading.TheInside as reading
use Rattle.rating.specs.declared.tariffs.Tariffs.TheInside as tariffs
use Rattle.rating.specs.Row.{IsSmall}
use Rattle.rating.specs.Tariff.{GroupTariff, tariff, tariff_of, periods_of}
use Rattle.rating.specs.Grammar.{groups_of, first_bad}
use Rattle.rating.specs.Grant.{top_price}

-- how many periods begin at an hour of the day or before
pub record IsBegun (periods : List Period) (hour count : ℕ) : Type 0 where
  pub low : AllWithin (λ p. p.hour ≤ hour) periods 0 count
  pub high : AllWithin (λ p. hour < p.hour) periods count (length periods)
  pub within : count ≤ length periods

-- so for each hour
abbrev pub AreBegun : List Period → List ℕ → Type 0
AreBegun periods begun = (hour : ℕ) → hour < 24 → IsBegun periods hour (slice_index_or begun hour 0)

-- the tariff that is kept
abbrev pub kept_tariff : Inside → GroupTariff
kept_tariff t = record { terms = t.terms; periods = t.periods }

-- hours never fall, each period is in range, and the top price and the counts of the hours are kept
pub record IsKept (t : Inside) : Type 0 where
  pub hours : IsNonDecreasingBy (λ (p : Period). p.hour) t.periods
  pub small : All IsSmall t.periods
  pub top : t.top ≡ top_price t.terms.kind t.periods
  pub begun : AreBegun t.periods t.begun

-- the group of a price row is among these
abbrev pub is_known : List ℕ → TariffRow → Bool
is_known groups (Group g terms) = true
is_known groups (Price g period) = list_any (λ h. h == g) groups

-- no more periods than hours below any that is above all of theirs, and at most one for each hour of the day
pub record AreFew (periods : List Period) : Type 0 where
  pub below : (hour : ℕ) → list_all (λ p. nat_lt p.hour hour) periods ≡ true → length periods ≤ hour
  pub most : length periods ≤ 24

-- rows that were read: few groups, price rows of these alone, and few of each
pub record AreSound (rows : List TariffRow) : Type 0 where
  pub most : length (groups_of rows) ≤ 1000
  pub known : list_all (is_known (groups_of rows)) rows ≡ true
  pub few : (group : ℕ) → AreFew (periods_of rows group)

-- the rows read so far are sound; their groups are counted, and their tariffs are in the table
pub record IsRead (r : reading.Inside) : Type 0 where
  pub sound : AreSound r.rows
  pub groups : r.groups ≡ length (groups_of r.rows)
  pub table : (group : ℕ) → get nat_eq r.table group ≡ tariff_of r.rows group

-- the rows are a tariff, and their tariffs are in the table
pub record IsWhole (t : tariffs.Inside) : Type 0 where
  pub good : first_bad [] t.rows ≡ None
  pub table : (group : ℕ) → get nat_eq t.table group ≡ tariff t.rows group
