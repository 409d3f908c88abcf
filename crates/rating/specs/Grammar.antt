-- Which rows are a tariff, and which row is the first that breaks it (this product's own).
use Rattle.std.specs.Prelude.{◌≡◌, ℕ, ◌+◌, ◌==◌, ◌&&◌, nat_lt, is_none, Bool, true, false, List, [], ◌∷◌, ◌++◌, length, Option, Some, None, Result, Ok, Err, if◌then◌else◌}
use Rattle.std.specs.List.{filter_map, list_all}
use Rattle.rating.specs.declared.terms.Kind.{Kind}
use Rattle.rating.specs.declared.terms.Kind.TheVariants.{Volume, Time, Offline}
use Rattle.rating.specs.declared.period.Period.{Period}
use Rattle.rating.specs.declared.row.TariffRow.{TariffRow}
use Rattle.rating.specs.declared.row.TariffRow.TheVariants.{Group, Price}
use Rattle.rating.specs.declared.refusal.RatingRefusal.{RatingRefusal}
use Rattle.rating.specs.declared.refusal.RatingRefusal.TheVariants.{BadRow, OutOfMemory}
use Rattle.rating.specs.Row.{tariff_row}
use Rattle.rating.specs.Tariff.{GroupTariff, tariff_of, periods_by, terms_of}

-- the group of a group row
abbrev pub group_in : TariffRow → Option ℕ
group_in (Group g terms) = Some g
group_in (Price g period) = None

-- the groups of the group rows, in order
abbrev pub groups_of : List TariffRow → List ℕ
groups_of rows = filter_map group_in rows

-- a volume group has no price of a second, a time group none of an octet
abbrev pub suits : Kind → Period → Bool
suits Volume period = period.seconds == 0
suits Time period = (period.up == 0) && (period.down == 0)
suits Offline period = true

-- a period suits its group's kind, and its hour is above those of the periods before it
abbrev pub may_extend : GroupTariff → Period → Bool
may_extend t period = suits t.terms.kind period && list_all (λ p. nat_lt p.hour period.hour) t.periods

-- the group of a price row is there, and the row may follow its others
abbrev pub may_extend_some : Option GroupTariff → Period → Bool
may_extend_some None period = false
may_extend_some (Some t) period = may_extend t period

-- a row may follow these: a group row of a new group, one of at most 1,000; a price row of a group that has its group row
abbrev pub may_follow : List TariffRow → TariffRow → Bool
may_follow rows (Group g terms) = nat_lt (length (groups_of rows)) 1000 && is_none (terms_of rows g)
may_follow rows (Price g period) = may_extend_some (tariff_of rows g) period

-- the group of a group row passes a test
abbrev pub is_priced : (ℕ → Bool) → TariffRow → Bool
is_priced test (Group g terms) = test g
is_priced test (Price g period) = true

-- a group has a price row
abbrev pub has_price : List TariffRow → ℕ → Bool
has_price rows group = nat_lt 0 (length (periods_by (tariff_of rows group)))

-- the group of each group row has a price row
abbrev pub is_complete : List TariffRow → Bool
is_complete rows = list_all (is_priced (has_price rows)) rows

-- a row that may follow is read on from, any other is the bad one
abbrev pub read_on : List TariffRow → Option TariffRow → (List TariffRow → Option ℕ) → Option ℕ
read_on before None more = Some (length before + 1)
read_on before (Some row) more = if may_follow before row then more (before ++ row ∷ []) else Some (length before + 1)

-- the number of the first row, after these, that breaks the grammar; at the end it is the row after the last, where a group has no price row
abbrev pub first_bad : List TariffRow → List (List (List ℕ)) → Option ℕ
first_bad before [] = if is_complete before then None else Some (length before + 1)
first_bad before (row ∷ rows) = read_on before (tariff_row row) (λ more. first_bad more rows)

-- rows are refused at the first one, counted from 1, that breaks the grammar, and else kept as they are
abbrev pub answer_by : List (List (List ℕ)) → Option ℕ → Result (List (List (List ℕ))) RatingRefusal
answer_by rows None = Ok rows
answer_by rows (Some row) = Err (BadRow row)

-- what reading some rows answers
abbrev pub read_answer : List (List (List ℕ)) → Result (List (List (List ℕ))) RatingRefusal
read_answer rows = answer_by rows (first_bad [] rows)

-- a refusal is want of memory, or names the first bad row
abbrev pub IsCause : Option ℕ → RatingRefusal → Type 0
IsCause bad (BadRow row) = bad ≡ Some row
IsCause bad OutOfMemory = Unit {0}
