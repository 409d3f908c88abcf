-- Rating groups, piece by piece.
use Rattle.std.proofs.Common.{◌≡◌, ◌<◌, ◌≤◌, ◌+◌, ◌-◌, ◌^◌, ℕ, Bool, true, false, nat_lt, List, [], ◌∷◌, ◌++◌, length, take, drop, refl, sym, ap, Option, Some, None, option_map, arith, append_assoc}
use Rattle.std.proofs.lemmas.Bool.Decides.{nat_tests}
use Rattle.rows.specs.Number.{number_of}
use Rattle.row_fields.specs.Fields.{groups_in}
use Rattle.rows.specs.Pieces.{pieces}

abbrev pub more_groups : List ℕ → Option (List ℕ) → Option (List ℕ)
more_groups groups rest = option_map (λ more. groups ++ more) rest

pub no_more : (groups : List ℕ) → more_groups groups (Some []) ≡ Some (groups ++ [])
no_more groups = refl

pub one_more : (groups : List ℕ) (group : ℕ) (rest : Option (List ℕ)) → more_groups groups (option_map (λ more. group ∷ more) rest) ≡ more_groups (groups ++ group ∷ []) rest
one_more groups group None = refl
one_more groups group (Some more) = ap Some (sym (append_assoc groups (group ∷ []) more))

-- the text after the first piece, and its last piece
abbrev pub FirstOf : List ℕ → ℕ → Type 0
FirstOf text n = n < length text → pieces 32 text ≡ take n text ∷ pieces 32 (drop (n + 1) text)

abbrev pub LastOf : List ℕ → ℕ → Type 0
LastOf text n = length text ≤ n → pieces 32 text ≡ take n text ∷ []

-- the first piece is no group
pub bad_group : (text : List ℕ) (n : ℕ) → FirstOf text n → LastOf text n → number_of (2 ^ 32 - 1) (take n text) ≡ None → groups_in (pieces 32 text) ≡ None
bad_group text n first last none = by (nat_lt n (length text)) refl
  where
    by : (v : Bool) → nat_lt n (length text) ≡ v → groups_in (pieces 32 text) ≡ None
    by true t = let less : n < length text = grind (arith, nat_tests, t) in rw (first less, none) refl
    by false t = let most : length text ≤ n = grind (arith, nat_tests, t) in rw (last most, none) refl

-- the last one is a group
pub last_group : (text : List ℕ) (n group : ℕ) → LastOf text n → length text ≤ n → number_of (2 ^ 32 - 1) (take n text) ≡ Some group → groups_in (pieces 32 text) ≡ Some (group ∷ [])
last_group text n group last most some = rw (last most, some) refl

-- the first one is, and more follow
pub next_group : (text : List ℕ) (n group : ℕ) → FirstOf text n → n < length text → number_of (2 ^ 32 - 1) (take n text) ≡ Some group → groups_in (pieces 32 text) ≡ option_map (λ more. group ∷ more) (groups_in (pieces 32 (drop (n + 1) text)))
next_group text n group first less some = rw (first less, some) refl
