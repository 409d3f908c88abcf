-- What the kept names and limits say of a counter.
use Rattle.std.proofs.Common.{◌≡◌, ℕ, true, false, List, [], get_or, Option, None, Some, MatchOption, is_some, sym, ap, ◌∙◌, arith}
use Rattle.counters.specs.declared.row.Limit.{Limit}
use Rattle.counters.specs.declared.row.CounterRow.{CounterRow}
use Rattle.counters.specs.Names.{names_of, is_among, IsThere, IsGap}
use Rattle.counters.specs.Status.{limits_of, reached}
use Rattle.counters.specs.Caches.{AreOf}
use Rattle.counters.proofs.Ascending.{among_there, among_gap}
use Rattle.counters.proofs.Rows.{no_limits}
use Rattle.counters.proofs.Limits.{one_reached}

pub unknown : (rows : List CounterRow) (names : List (List ℕ)) (limits : List (List Limit)) (counter : List ℕ) (at : ℕ) → AreOf rows names limits → IsGap names counter at → is_among counter (names_of rows) ≡ false
unknown rows names limits counter at kept gap = ap (is_among counter) (sym kept.named) ∙ among_gap names counter at gap

pub known : (rows : List CounterRow) (names : List (List ℕ)) (limits : List (List Limit)) (counter : List ℕ) (at : ℕ) → AreOf rows names limits → IsThere names counter at → is_among counter (names_of rows) ≡ true
known rows names limits counter at kept there = ap (is_among counter) (sym kept.named) ∙ among_there names counter at there.within there.is

-- a counter that is unknown has no status
pub none_reached : (rows : List CounterRow) (counter : List ℕ) (spent : ℕ) → is_among counter (names_of rows) ≡ false → reached (limits_of rows counter) spent ≡ None
none_reached rows counter spent apart = ap (λ ls. reached ls spent) (no_limits rows counter apart)

-- and one that is known has
pub always_reached : (rows : List CounterRow) (names : List (List ℕ)) (limits : List (List Limit)) (counter : List ℕ) (at spent : ℕ) → AreOf rows names limits → IsThere names counter at → reached (get_or limits at []) spent ≡ None → ⊥
always_reached rows names limits counter at spent kept there = one_reached (get_or limits at []) spent (kept.sound.each at [] (omega (arith, kept.sound.same, there.within)))

-- a counter has a place where it is one
pub is_by_place : (names : List (List ℕ)) (counter : List ℕ) (place : Option ℕ) → MatchOption place (is_among counter names ≡ false) (IsThere names counter) → is_some place ≡ is_among counter names
is_by_place names counter None h = sym h
is_by_place names counter (Some at) h = sym (among_there names counter at h.within h.is)
