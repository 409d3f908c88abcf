-- Where things are found in lists in ascending order, and what is kept beside them. No public clause names these.
use Rattle.std.specs.Prelude.{◌≡◌, ℕ, ◌<◌, ◌≤◌, ◌==◌, List, [], length, find, Option, Some, None, slice_get, insert, remove}
use Rattle.std.specs.List.{AllWithin}
use Rattle.std.specs.List.Sorted.{IsNonDecreasingBy}
use Rattle.notices.specs.InOrder.{put_in_order, without_first}

-- numbers of subscriptions, and for how many more there is room
pub record Ascending : Type 0 where
  pub ids : List ℕ
  pub room : ℕ

-- the accounts that subscriptions watch, for how many more there is room, and the subscriptions of each account
pub record Placed : Type 0 where
  pub accounts : List (Option ℕ)
  pub spare : ℕ
  pub lists : List Ascending

-- of the account at a place, which has none where there is no list
abbrev pub ids_in : Option Ascending → List ℕ
ids_in None = []
ids_in (Some list) = list.ids

-- the subscriptions of an account
abbrev pub ids_at : List Ascending → ℕ → List ℕ
ids_at lists account = ids_in (slice_get lists account)

-- and for how many more there is room at the place of an account
abbrev pub room_in : Option Ascending → ℕ
room_in None = 0
room_in (Some list) = list.room

-- room for more subscriptions of an account
abbrev pub room_at : List Ascending → ℕ → ℕ
room_at lists account = room_in (slice_get lists account)

-- the first one of a number stands at this place
pub record IsFirstAt {X : Type 0} (number : X → ℕ) (n : ℕ) (xs : List X) (at : ℕ) : Type 0 where
  pub within : at < length xs
  pub first : find (λ x. number x == n) xs ≡ slice_get xs at
  pub rest : without_first number xs n ≡ remove xs at
  pub still : IsNonDecreasingBy number (remove xs at)

-- there is none of a number
pub record HasNone {X : Type 0} (number : X → ℕ) (n : ℕ) (xs : List X) : Type 0 where
  pub first : find (λ x. number x == n) xs ≡ None
  pub rest : without_first number xs n ≡ xs

-- up to this place the numbers are at most this one, and above it from there on
pub record IsCut {X : Type 0} (number : X → ℕ) (n : ℕ) (xs : List X) (at : ℕ) : Type 0 where
  pub within : at ≤ length xs
  pub low : AllWithin (λ x. number x ≤ n) xs 0 at
  pub high : AllWithin (λ x. n < number x) xs at (length xs)

-- one more belongs at this place
pub record IsPlace {X : Type 0} (number : X → ℕ) (x : X) (xs : List X) (at : ℕ) : Type 0 where
  pub within : at ≤ length xs
  pub put : insert xs at x ≡ put_in_order number xs x
  pub still : IsNonDecreasingBy number (insert xs at x)
