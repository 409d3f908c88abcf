-- The tariff of a rating group among the rows that were read (this product's own).
use Rattle.std.specs.Prelude.{ℕ, ◌==◌, List, [], ◌∷◌, ◌++◌, Option, Some, None, if◌then◌else◌, option_map, slice_get}
use Rattle.std.specs.List.{filter_map}
use Rattle.rating.specs.declared.terms.Terms.{Terms}
use Rattle.rating.specs.declared.period.Period.{Period}
use Rattle.rating.specs.declared.row.TariffRow.{TariffRow}
use Rattle.rating.specs.declared.row.TariffRow.TheVariants.{Group, Price}
use Rattle.rating.specs.Row.{tariff_row}

-- a tariff: the terms of a rating group, and the periods of its prices in the order of their rows
pub record GroupTariff : Type 0 where
  pub terms : Terms
  pub periods : List Period

-- the rows of a tariff that rows of fields are
abbrev pub tariff_rows : List (List (List ℕ)) → List TariffRow
tariff_rows rows = filter_map tariff_row rows

-- the terms that a row gives to a group
abbrev pub terms_in : ℕ → TariffRow → Option Terms
terms_in group (Group g terms) = if g == group then Some terms else None
terms_in group (Price g period) = None

-- the period that a row gives to a group
abbrev pub period_in : ℕ → TariffRow → Option Period
period_in group (Group g terms) = None
period_in group (Price g period) = if g == group then Some period else None

-- the terms of a group: those of its first group row
abbrev pub terms_of : List TariffRow → ℕ → Option Terms
terms_of rows group = slice_get (filter_map (terms_in group) rows) 0

-- the periods of a group: those of its price rows, in order
abbrev pub periods_of : List TariffRow → ℕ → List Period
periods_of rows group = filter_map (period_in group) rows

-- the tariff of a group, where it has a group row
abbrev pub tariff_of : List TariffRow → ℕ → Option GroupTariff
tariff_of rows group = option_map (λ terms. record { terms = terms; periods = periods_of rows group }) (terms_of rows group)

-- the tariff of a group by rows of fields
abbrev pub tariff : List (List (List ℕ)) → ℕ → Option GroupTariff
tariff rows group = tariff_of (tariff_rows rows) group

-- the periods of a tariff, none where there is no tariff
abbrev pub periods_by : Option GroupTariff → List Period
periods_by None = []
periods_by (Some t) = t.periods

-- the periods of a group by rows of fields
abbrev pub periods : List (List (List ℕ)) → ℕ → List Period
periods rows group = periods_by (tariff rows group)

-- a tariff with one period more
abbrev pub extended : Option GroupTariff → Period → Option GroupTariff
extended None period = None
extended (Some t) period = Some (record { terms = t.terms; periods = t.periods ++ period ∷ [] })
