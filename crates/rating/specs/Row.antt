-- The rows of a tariff: `group,G,KIND,CHUNK,THRESHOLD,VALIDITY,HOLDING,ACTION` and `price,G,HOUR,PU,PD,PS` (this product's own).
use Rattle.std.specs.Prelude.{ℕ, ◌-◌, ◌^◌, ◌≤◌, List, [], ◌∷◌, Option, Some, None, if◌then◌else◌, option_and_then, codes, nat_eq}
use Rattle.std.specs.Cmp.Lexicographic.{pointwise}
use Rattle.rows.specs.Number.{number_of}
use Rattle.units.specs.Words.{action_named}
use Rattle.rating.specs.declared.terms.Kind.{Kind}
use Rattle.rating.specs.declared.terms.Kind.TheVariants.{Volume, Time, Offline}
use Rattle.rating.specs.declared.terms.Terms.{Terms}
use Rattle.rating.specs.declared.period.Period.{Period}
use Rattle.rating.specs.declared.row.TariffRow.{TariffRow}
use Rattle.rating.specs.declared.row.TariffRow.TheVariants.{Group, Price}

-- what the quotas of a group count, by its word
abbrev pub kind_of : List ℕ → Option Kind
kind_of field =
    if pointwise nat_eq field (codes "volume") then Some Volume else
    (if pointwise nat_eq field (codes "time") then Some Time else
    (if pointwise nat_eq field (codes "offline") then Some Offline else None))

-- the most units that a chunk may have
abbrev pub most_chunk : Kind → ℕ
most_chunk Volume = 2 ^ 40
most_chunk Time = 2 ^ 32 - 1
most_chunk Offline = 2 ^ 40

-- a chunk: a number from 1 on
abbrev pub chunk_of : Kind → List ℕ → Option ℕ
chunk_of kind field = option_and_then (λ n. if nat_eq n 0 then None else Some n) (number_of (most_chunk kind) field)

-- the fields of a group row after its group
abbrev pub group_row : List ℕ → List (List ℕ) → Option TariffRow
group_row group (kind ∷ chunk ∷ threshold ∷ validity ∷ holding ∷ action ∷ []) =
    option_and_then (λ g. option_and_then (λ k. option_and_then (λ c. option_and_then (λ t. option_and_then (λ v. option_and_then (λ h. option_and_then (λ a.
    Some (Group g (record { kind = k; chunk = c; threshold = t; validity = v; holding = h; action = a })))
    (action_named action)) (number_of 604800 holding)) (number_of 604800 validity)) (number_of (2 ^ 32 - 1) threshold)) (chunk_of k chunk)) (kind_of kind)) (number_of (2 ^ 32 - 1) group)
group_row group _ = None

-- the fields of a price row after its group: an hour of the UTC day, and prices of at most 2 ^ 32
abbrev pub price_row : List ℕ → List (List ℕ) → Option TariffRow
price_row group (hour ∷ up ∷ down ∷ seconds ∷ []) =
    option_and_then (λ g. option_and_then (λ h. option_and_then (λ u. option_and_then (λ d. option_and_then (λ s.
    Some (Price g (record { hour = h; up = u; down = d; seconds = s })))
    (number_of (2 ^ 32) seconds)) (number_of (2 ^ 32) down)) (number_of (2 ^ 32) up)) (number_of 23 hour)) (number_of (2 ^ 32 - 1) group)
price_row group _ = None

-- the row of a tariff that these fields are, if they are one
abbrev pub tariff_row : List (List ℕ) → Option TariffRow
tariff_row (word ∷ group ∷ rest) =
    if pointwise nat_eq word (codes "group") then group_row group rest else
    (if pointwise nat_eq word (codes "price") then price_row group rest else None)
tariff_row _ = None

-- the ranges of a period: an hour of the day, and prices of at most 2 ^ 32
pub record IsSmall (period : Period) : Type 0 where
  pub hour : period.hour ≤ 23
  pub up : period.up ≤ 2 ^ 32
  pub down : period.down ≤ 2 ^ 32
  pub seconds : period.seconds ≤ 2 ^ 32

-- the ranges of terms: a chunk of at most the units of its kind, a threshold of 32 bits, and times of at most a week
pub record AreSmall (terms : Terms) : Type 0 where
  pub chunk : terms.chunk ≤ most_chunk terms.kind
  pub threshold : terms.threshold ≤ 2 ^ 32 - 1
  pub validity : terms.validity ≤ 604800
  pub holding : terms.holding ≤ 604800

-- so of a row
abbrev pub IsInRange : TariffRow → Type 0
IsInRange (Group group terms) = Unit {0}
IsInRange (Price group period) = IsSmall period
