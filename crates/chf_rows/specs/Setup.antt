-- The setup rows of a charging function: the rows of a tariff, those of the policy counters, then
-- `limits,VOLUME,SECONDS,CHANGES,CONTAINERS,GRACE,NAME,FAILOVER` (this product's own).
use Rattle.std.specs.Prelude.{ℕ, ◌+◌, ◌-◌, ◌^◌, ◌||◌, min, nat_le, bytes_eq, Bool, false, List, [], ◌∷◌, take, drop, Option, Some, None, Result, Ok, Err, if◌then◌else◌, option_and_then, codes}
use Rattle.rows.specs.Number.{number_of}
use Rattle.row_fields.specs.Fields.{name_of}
use Rattle.units.specs.Words.{failover_named}
use Rattle.rating.specs.Grammar.{first_bad}
use Rattle.counters.specs.Grammar as counter
use Rattle.chf_core.specs.declared.setup.ChfSetup.{ChfSetup}
use Rattle.chf_rows.specs.declared.limits.Limits.{Limits}
use Rattle.chf_rows.specs.declared.limits.Bounds.{Bounds}
use Rattle.chf_rows.specs.declared.refusal.SetupRefusal.{SetupRefusal}
use Rattle.chf_rows.specs.declared.refusal.SetupRefusal.TheVariants.{BadRow}
use Rattle.chf_rows.specs.Size.{first_past}

-- whether a row is of a kind that setup rows have
abbrev pub is_setup_row : List (List ℕ) → Bool
is_setup_row [] = false
is_setup_row (word ∷ fields) = bytes_eq word (codes "group") || (bytes_eq word (codes "price") || (bytes_eq word (codes "counter") || bytes_eq word (codes "limits")))

-- the numbers and the word of a limits row: of a record its octets, seconds, changes and containers, 0 for no limit; the
-- seconds after a quota's validity until it is given back; failover
abbrev pub bounds_of : List ℕ → List ℕ → List ℕ → List ℕ → List ℕ → List ℕ → Option Bounds
bounds_of volume seconds changes containers grace word =
    option_and_then (λ v. option_and_then (λ s. option_and_then (λ c. option_and_then (λ n. option_and_then (λ g. option_and_then (λ f.
    Some (record { volume = v; seconds = s; changes = c; containers = n; grace = g; failover = f })) (failover_named word))
    (number_of 604800 grace)) (number_of (2 ^ 32 - 1) containers)) (number_of (2 ^ 32 - 1) changes)) (number_of (2 ^ 32 - 1) seconds))
    (number_of (2 ^ 64 - 1) volume)

-- the limits with these, and the recording function's name
abbrev pub limits_with : Bounds → List ℕ → Limits
limits_with b function = record {
  records = record { volume = b.volume; seconds = b.seconds; changes = b.changes; containers = b.containers; function = function };
  grace = b.grace;
  failover = b.failover;
}

-- where both are there
abbrev pub limits_by : Option Bounds → Option (List ℕ) → Option Limits
limits_by (Some b) (Some function) = Some (limits_with b function)
limits_by _ _ = None

-- the fields of a limits row after its word
abbrev pub limits_of : List (List ℕ) → Option Limits
limits_of (volume ∷ seconds ∷ changes ∷ containers ∷ grace ∷ name ∷ failover ∷ []) =
    limits_by (bounds_of volume seconds changes containers grace failover) (name_of name)
limits_of _ = None

-- whether a row is a limits row, by its word
abbrev pub is_limits_row : List (List ℕ) → Bool
is_limits_row [] = false
is_limits_row (word ∷ fields) = bytes_eq word (codes "limits")

-- what a row under the word of a limits row says
abbrev pub limits_row : List (List ℕ) → Option Limits
limits_row [] = None
limits_row (word ∷ fields) = limits_of fields

-- how many rows stand before the first limits row, all where there is none
abbrev pub limits_place : List (List (List ℕ)) → ℕ
limits_place [] = 0
limits_place (row ∷ rows) = if is_limits_row row then 0 else limits_place rows + 1

-- whether a row is one of a policy counter, by its word
abbrev pub is_counter_row : List (List ℕ) → Bool
is_counter_row [] = false
is_counter_row (word ∷ fields) = bytes_eq word (codes "counter")

-- how many rows stand before the first row of a policy counter, all where there is none
abbrev pub counters_place : List (List (List ℕ)) → ℕ
counters_place [] = 0
counters_place (row ∷ rows) = if is_counter_row row then 0 else counters_place rows + 1

-- the rows before the limits row
abbrev pub front_of : List (List (List ℕ)) → List (List (List ℕ))
front_of rows = take (limits_place rows) rows

-- of these, the rows of the tariff
abbrev pub tariff_of : List (List (List ℕ)) → List (List (List ℕ))
tariff_of front = take (counters_place front) front

-- and those of the policy counters, from the first one on
abbrev pub counters_of : List (List (List ℕ)) → List (List (List ℕ))
counters_of front = drop (counters_place front) front

-- a limits row under this number, and nothing after it, or the number of the row that is not accepted
abbrev pub alone : Option Limits → ℕ → List (List (List ℕ)) → Result Limits ℕ
alone None number rows = Err number
alone (Some limits) number [] = Ok limits
alone (Some limits) number (row ∷ rows) = Err (number + 1)

-- the limits row that ends a setup with that many rows before it
abbrev pub ending : ℕ → List (List (List ℕ)) → Result Limits ℕ
ending front [] = Err (front + 1)
ending front (row ∷ rows) = alone (limits_row row) (front + 1) rows

-- a bad row of the policy counters, which follow a tariff of that many rows, comes before the limits row
abbrev pub with_counters : ℕ → Option ℕ → Result Limits ℕ → Result Limits ℕ
with_counters tariff None end = end
with_counters tariff (Some number) end = Err (tariff + number)

-- a tariff in which a group has no price row lacks it at the end of the setup
abbrev pub lacking : ℕ → Result Limits ℕ → Result Limits ℕ
lacking front (Err number) = Err number
lacking front (Ok limits) = Err (front + 2)

-- a bad row of a tariff of that many rows comes before all that follows it; so many stand before the limits row
abbrev pub with_tariff : ℕ → ℕ → Option ℕ → Result Limits ℕ → Result Limits ℕ
with_tariff tariff front None end = end
with_tariff tariff front (Some number) end = if nat_le number tariff then Err number else lacking front end

-- the row with which rows have too many bytes is bad
abbrev pub with_size : Option ℕ → Result Limits ℕ → Result Limits ℕ
with_size None limits = limits
with_size (Some number) (Err other) = Err (min number other)
with_size (Some number) (Ok limits) = Err number

-- the limits of a setup, or the number of its first row that is not accepted
abbrev pub limits_answer : List (List (List ℕ)) → Result Limits ℕ
limits_answer rows =
    let front = front_of rows in
    let tariff = counters_place front in
    let end = ending (limits_place rows) (drop (limits_place rows) rows) in
    let counted = with_counters tariff (counter.first_bad [] (counters_of front)) end in
    with_size (first_past 65536 1 rows) (with_tariff tariff (limits_place rows) (first_bad [] (tariff_of front)) counted)

-- the setup of the rows before its limits
abbrev pub setup_with : List (List (List ℕ)) → Result Limits ℕ → Result ChfSetup ℕ
setup_with front (Ok limits) = Ok (record {
  tariffs = tariff_of front;
  counters = counters_of front;
  limits = limits.records;
  grace = limits.grace;
  failover = limits.failover;
})
setup_with front (Err number) = Err number

-- the setup that rows give, or the number of its first row, counted from 1, that is not accepted; the row after the last where a price row or the limits row is lacking
abbrev pub setup_answer : List (List (List ℕ)) → Result ChfSetup ℕ
setup_answer rows = setup_with (front_of rows) (limits_answer rows)

-- the same with a refusal that names the row
abbrev pub naming_row : Result ChfSetup ℕ → Result ChfSetup SetupRefusal
naming_row (Ok setup) = Ok setup
naming_row (Err number) = Err (BadRow number)
