-- The names of the accounts, one after another.
use Rattle.std.proofs.Common.{◌≡◌, ◌<◌, ◌≤◌, ◌+◌, ℕ, suc, zero, List, [], ◌∷◌, length, drop, refl, ap, ◌∙◌, Some, None, arith, slice_get}
use Rattle.std.specs.Ordering.{nat_cmp}
use Rattle.std.specs.Cmp.Lexicographic.{slice_cmp}
use Rattle.std.specs.BTreeMap.{insert_entry}
use Rattle.std.proofs.lemmas.List.{drop_all}
use Rattle.charging.specs.AccountLines.{in_order}

pub next_name : (names : List (List ℕ)) (n : ℕ) (name : List ℕ) → slice_get names n ≡ Some name → drop n names ≡ name ∷ drop (suc n) names
next_name [] n name e = absurd (cc)
next_name (a ∷ names) zero name e = let same : a ≡ name = cc in ap (λ k. k ∷ names) same
next_name (a ∷ names) (suc n) name e = next_name names n name e

pub name_there : (names : List (List ℕ)) (n : ℕ) → n < length names → slice_get names n ≡ None → ⊥
name_there [] n less e = omega arith
name_there (a ∷ names) zero less e = absurd (cc)
name_there (a ∷ names) (suc n) less e = name_there names n (omega arith) e

-- one name more is in its place
pub one_name : (entries : List (List ℕ × ℕ)) (names : List (List ℕ)) (n : ℕ) (name : List ℕ) → slice_get names n ≡ Some name
    → in_order entries n (drop n names) ≡ in_order (insert_entry (slice_cmp nat_cmp) entries name n) (n + 1) (drop (n + 1) names)
one_name entries names n name e =
    let same : suc n ≡ n + 1 = omega arith in
    ap (in_order entries n) (next_name names n name e) ∙ ap (λ k. in_order (insert_entry (slice_cmp nat_cmp) entries name n) (n + 1) (drop k names)) same

pub all_names : (entries : List (List ℕ × ℕ)) (names : List (List ℕ)) (n : ℕ) → length names ≤ n → in_order entries n (drop n names) ≡ entries
all_names entries names n past = rw (drop_all n names past) refl
