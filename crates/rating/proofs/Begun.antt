-- How many periods begin at an hour or before, with one period more.
use Rattle.std.proofs.Common.{◌≡◌, ◌⊎◌, inl, inr, ℕ, ◌+◌, ◌<◌, ◌≤◌, ◌&&◌, true, List, [], ◌∷◌, ◌++◌, length, get_or, nat_le, nat_lt, ◌∙◌, ap, arith, if◌then◌else◌, length-append}
use Rattle.std.specs.List.{list_all, slice_set}
use Rattle.std.proofs.Math.Seq.{get_or-append_seam}
use Rattle.std.proofs.lemmas.List.{get_or_append_left}
use Rattle.std.proofs.lemmas.Bool.{cases_lt}
use Rattle.std.proofs.lemmas.Bool.Decides.{nat_tests}
use Rattle.std.proofs.lemmas.Grind.{common_steps}
use Rattle.std.proofs.lemmas.List.Sums.{AllPass-from_list_all}
use Rattle.rating.specs.declared.period.Period.{Period}
use Rattle.rating.specs.Caches.{AreBegun, IsBegun}
use Rattle.rating.proofs.Numbers.{lt_is}

-- the count at an hour, after the counts from one on were written up to a place
abbrev pub written : List ℕ → ℕ → ℕ → ℕ → ℕ → ℕ
written begun hour end count j = if nat_le hour j && nat_lt j end then count else get_or begun j 0

pub written_none : (begun : List ℕ) (hour count j : ℕ) → get_or begun j 0 ≡ written begun hour hour count j
written_none begun hour count j = grind (arith, nat_tests)

pub written_more : (begun now : List ℕ) (hour k count j : ℕ) → k < length now → hour ≤ k → get_or now j 0 ≡ written begun hour k count j → get_or (slice_set now k count) j 0 ≡ written begun hour (k + 1) count j
written_more begun now hour k count j within from before = grind (arith, common_steps, nat_tests)

-- the counts with one period more, which begins after all others
pub begun_more : (periods : List Period) (p : Period) (begun now : List ℕ) → AreBegun periods begun → list_all (λ q. nat_lt q.hour p.hour) periods ≡ true
    → ((k : ℕ) → get_or now k 0 ≡ written begun p.hour 24 (length periods + 1) k) → AreBegun (periods ++ p ∷ []) now
begun_more periods p begun now old later are hour l = by (cases_lt hour p.hour)
  where
    size : length (periods ++ p ∷ []) ≡ length periods + 1
    size = length-append periods (p ∷ [])

    front : (k : ℕ) (d : Period) → k < length periods → (get_or (periods ++ p ∷ []) k d).hour ≡ (get_or periods k d).hour
    front k d within = ap (λ (q : Period). q.hour) (get_or_append_left periods (p ∷ []) d k within)

    last : (k : ℕ) (d : Period) → k ≡ length periods → (get_or (periods ++ p ∷ []) k d).hour ≡ p.hour
    last k d is = ap (λ n. (get_or (periods ++ p ∷ []) n d).hour) is ∙ ap (λ (q : Period). q.hour) (get_or-append_seam periods p [] d)

    below : (k : ℕ) (d : Period) → k < length periods → (get_or (periods ++ p ∷ []) k d).hour < p.hour
    below k d within =
        let lt = lt_is _ _ (AllPass-from_list_all (λ q. nat_lt q.hour p.hour) periods later k d within) in
        omega (arith, lt, front k d within)

    by : (hour < p.hour) ⊎ (p.hour ≤ hour) → IsBegun (periods ++ p ∷ []) hour (get_or now hour 0)
    by (inr from) =
        let count : get_or now hour 0 ≡ length periods + 1 = are hour ∙ grind (arith, nat_tests, from, l) in
        rw count (record {
          low = λ k d a h. lower k d (cases_lt k (length periods)) h;
          high = λ k d a h. absurd (omega (arith, size));
          within = omega (arith, size);
        })
      where
        lower : (k : ℕ) (d : Period) → (k < length periods) ⊎ (length periods ≤ k) → k < length periods + 1 → (get_or (periods ++ p ∷ []) k d).hour ≤ hour
        lower k d (inl i) h = omega (arith, below k d i, from)
        lower k d (inr i) h = omega (arith, last k d (omega arith), from)
    by (inl before) =
        let count : get_or now hour 0 ≡ get_or begun hour 0 = are hour ∙ grind (arith, nat_tests, before) in
        rw count (record {
          low = λ k d a h. omega (arith, front k d (omega (arith, was.within)), was.low k d a h);
          high = λ k d a h. higher k d (cases_lt k (length periods)) a (omega (arith, size));
          within = omega (arith, size, was.within);
        })
      where
        was : IsBegun periods hour (get_or begun hour 0)
        was = old hour l

        higher : (k : ℕ) (d : Period) → (k < length periods) ⊎ (length periods ≤ k) → get_or begun hour 0 ≤ k → k < length periods + 1 → hour < (get_or (periods ++ p ∷ []) k d).hour
        higher k d (inl i) a h = omega (arith, front k d i, was.high k d a i)
        higher k d (inr i) a h = omega (arith, last k d (omega arith), before)
