-- The names of policy counters, ascending in the order of their bytes (this product's own).
use Rattle.std.specs.Prelude.{◌≡◌, ℕ, ◌<◌, ◌≤◌, ⊤, Bool, List, [], ◌∷◌, length, bytes_eq, fold, slice_index_or}
use Rattle.std.specs.List.{list_any}
use Rattle.std.specs.Ordering.{nat_cmp, match_ordering}
use Rattle.std.specs.declared.cmp.Ordering.TheVariants.{Less, Greater}
use Rattle.std.specs.Cmp.Lexicographic.{slice_cmp}
use Rattle.counters.specs.declared.row.CounterRow.{CounterRow}

-- ascending names with one more, in its place, unless it is among them
abbrev pub with_name : List (List ℕ) → List ℕ → List (List ℕ)
with_name [] name = name ∷ []
with_name (first ∷ rest) name = match_ordering (slice_cmp nat_cmp name first) (name ∷ first ∷ rest) (first ∷ rest) (first ∷ with_name rest name)

-- the names of the counters of some rows, each once, ascending
abbrev pub names_of : List CounterRow → List (List ℕ)
names_of rows = fold (λ names row. with_name names row.counter) [] rows

-- a name is among these
abbrev pub is_among : List ℕ → List (List ℕ) → Bool
is_among name names = list_any (bytes_eq name) names

-- a name is below each of these
abbrev pub IsBelow : List ℕ → List (List ℕ) → Type 0
IsBelow name [] = ⊤
IsBelow name (first ∷ rest) = (slice_cmp nat_cmp name first ≡ Less) × IsBelow name rest

-- each name is below those after it
abbrev pub AreAscending : List (List ℕ) → Type 0
AreAscending [] = ⊤
AreAscending (name ∷ names) = IsBelow name names × AreAscending names

-- a name stands at this place
pub record IsThere (names : List (List ℕ)) (name : List ℕ) (at : ℕ) : Type 0 where
  pub within : at < length names
  pub is : slice_index_or names at [] ≡ name

-- a name would go to this place: those before it are below it, and those from it on above
pub record IsGap (names : List (List ℕ)) (name : List ℕ) (at : ℕ) : Type 0 where
  pub within : at ≤ length names
  pub below : (k : ℕ) → k < at → slice_cmp nat_cmp (slice_index_or names k []) name ≡ Less
  pub above : (k : ℕ) → at ≤ k → k < length names → slice_cmp nat_cmp (slice_index_or names k []) name ≡ Greater
