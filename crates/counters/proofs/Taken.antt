-- One row more: what a table says of it, and what it is then.
use Rattle.std.proofs.Common.{◌≡◌, ℕ, ◌<◌, ◌≤◌, ◌-◌, ◌==◌, ◌&&◌, Bool, true, false, List, [], ◌∷◌, ◌++◌, length, get_or, nat_lt, Option, Some, None, if◌then◌else◌, refl, sym, ap, subst, ◌∙◌, arith, length-append}
use mathlib.Core.Bool.{true≢false}
use Rattle.std.specs.List.{insert, list_all, slice_get}
use Rattle.std.proofs.Math.ListN.{set}
use Rattle.std.proofs.lemmas.List.{get_or-map, length-set, get_or_append_left}
use Rattle.std.proofs.lemmas.List.Edits.{length-insert, get_or-insert_at}
use Rattle.std.proofs.lemmas.List.Elements.{All-set, All-cons}
use Rattle.std.proofs.lemmas.List.Sorted.{All-permutation, IsPermutation-insert, IsNonDecreasingBy-push, IsNonDecreasingBy-short}
use Rattle.std.proofs.lemmas.List.Sums.{AllPass-from_list_all}
use Rattle.std.proofs.lemmas.Option.{slice_get-get_or}
use Rattle.counters.specs.declared.row.Limit.{Limit}
use Rattle.counters.specs.declared.row.CounterRow.{CounterRow}
use Rattle.counters.specs.Names.{with_name, names_of, is_among, AreAscending, IsThere, IsGap}
use Rattle.counters.specs.Status.{limits_of}
use Rattle.counters.specs.Grammar.{latest_of, is_latest, may_go_on, may_begin, may_follow}
use Rattle.counters.specs.Caches.{AreLimits, AreOf}
use Rattle.counters.proofs.Order as order
use Rattle.counters.proofs.Ascending.{with_there, with_gap, still_ascending, among_there, among_gap}
use Rattle.counters.proofs.Rows.{names_push, latest_push, map_more, map_begun, no_limits}

-- the limits at a place are those of the counter there
pub limits_at : (rows : List CounterRow) (names : List (List ℕ)) (limits : List (List Limit)) (name : List ℕ) (at : ℕ) → AreOf rows names limits → IsThere names name at → get_or limits at [] ≡ limits_of rows name
limits_at rows names limits name at kept there = ap (λ ls. get_or ls at []) kept.limited ∙ get_or-map (limits_of rows) names at [] [] there.within ∙ ap (limits_of rows) there.is

-- a row of a counter that is there
pub goes_on : (rows : List CounterRow) (row : CounterRow) (names : List (List ℕ)) (limits : List (List Limit)) (latest at : ℕ) → AreOf rows names limits → latest_of rows ≡ slice_get names latest → IsThere names row.counter at
    → (is_latest (slice_get names latest) row.counter && list_all (λ l. nat_lt l.amount row.limit.amount) (get_or limits at [])) ≡ may_follow rows row
goes_on rows row names limits latest at kept is there =
    let known : is_among row.counter (names_of rows) ≡ true = ap (is_among row.counter) (sym kept.named) ∙ among_there names row.counter at there.within there.is in
    let same : (is_latest (slice_get names latest) row.counter && list_all (λ (l : Limit). nat_lt l.amount row.limit.amount) (get_or limits at [])) ≡ may_go_on rows row =
    (λ i. is_latest (sym is i) row.counter && list_all (λ (l : Limit). nat_lt l.amount row.limit.amount) (limits_at rows names limits row.counter at kept there i)) in
    same ∙ sym (ap (λ b. if b then may_go_on rows row else may_begin rows row) known)

-- a row of a new counter
pub begins : (rows : List CounterRow) (row : CounterRow) (names : List (List ℕ)) (limits : List (List Limit)) (at : ℕ) → AreOf rows names limits → IsGap names row.counter at
    → ((row.limit.amount == 0) && nat_lt (length names) 100) ≡ may_follow rows row
begins rows row names limits at kept gap =
    let unknown : is_among row.counter (names_of rows) ≡ false = ap (is_among row.counter) (sym kept.named) ∙ among_gap names row.counter at gap in
    ap (λ ns. (row.limit.amount == 0) && nat_lt (length ns) 100) kept.named ∙ sym (ap (λ b. if b then may_go_on rows row else may_begin rows row) unknown)

-- limits with one more that is above them
limits_push : (limits : List Limit) (limit : Limit) → AreLimits limits → list_all (λ l. nat_lt l.amount limit.amount) limits ≡ true → AreLimits (limits ++ limit ∷ [])
limits_push limits limit are above = record {
  some = omega (arith, length-append limits (limit ∷ []));
  first = λ d. ap (λ (l : Limit). l.amount) (get_or_append_left limits (limit ∷ []) d 0 are.some) ∙ are.first d;
  ascending = IsNonDecreasingBy-push (λ (l : Limit). l.amount) limits limit are.ascending (λ d some.
      let lt = order.lt_is _ _ (AllPass-from_list_all (λ (l : Limit). nat_lt l.amount limit.amount) limits above (length limits - 1) d (omega arith)) in omega (arith, lt));
}

-- a limit of 0 alone
one_limit : (limit : Limit) → limit.amount ≡ 0 → AreLimits (limit ∷ [])
one_limit limit zero = record {
  some = omega arith;
  first = λ d. zero;
  ascending = IsNonDecreasingBy-short (λ (l : Limit). l.amount) (limit ∷ []) (omega arith);
}

and_both : (a b : Bool) → (a && b) ≡ true → (a ≡ true) × (b ≡ true)
and_both true true h = (refl, refl)
and_both true false h = absurd (true≢false (sym h))
and_both false b h = absurd (true≢false (sym h))

-- the table with one row more of a counter that is there
pub with_more : (rows : List CounterRow) (row : CounterRow) (names : List (List ℕ)) (limits : List (List Limit)) (at : ℕ) → AreOf rows names limits → IsThere names row.counter at
    → list_all (λ l. nat_lt l.amount row.limit.amount) (get_or limits at []) ≡ true
    → AreOf (rows ++ row ∷ []) names (set limits at (get_or limits at [] ++ row.limit ∷ []))
with_more rows row names limits at kept there above = record {
  sound = record {
    ascending = kept.sound.ascending;
    few = kept.sound.few;
    same = length-set limits at (get_or limits at [] ++ row.limit ∷ []) ∙ kept.sound.same;
    each = All-set AreLimits limits at (get_or limits at [] ++ row.limit ∷ []) (limits_push (get_or limits at []) row.limit (kept.sound.each at [] (omega (arith, kept.sound.same, there.within))) above) kept.sound.each;
  };
  named = kept.named ∙ sym (with_there (names_of rows) row.counter at (subst AreAscending kept.named kept.sound.ascending) (subst (λ (ns : List (List ℕ)). at < length ns) kept.named there.within) (ap (λ ns. get_or ns at []) (sym kept.named) ∙ there.is)) ∙ sym (names_push rows row);
  limited =
      (λ i. set (kept.limited i) at (limits_at rows names limits row.counter at kept there i ++ row.limit ∷ []))
      ∙ sym (map_more rows row names at kept.sound.ascending there.within there.is);
}

-- and of a new one
pub with_new : (rows : List CounterRow) (row : CounterRow) (names : List (List ℕ)) (limits : List (List Limit)) (at : ℕ) → AreOf rows names limits → IsGap names row.counter at
    → row.limit.amount ≡ 0 → length names < 100
    → AreOf (rows ++ row ∷ []) (insert names at row.counter) (insert limits at (row.limit ∷ []))
with_new rows row names limits at kept gap zero few =
    let apart = among_gap names row.counter at gap in
    let size = length-insert names at row.counter gap.within in
    let sizes = length-insert limits at (row.limit ∷ []) (omega (arith, kept.sound.same, gap.within)) in
    let is = with_gap names row.counter at gap in
    record {
      sound = record {
        ascending = subst AreAscending is (still_ascending names row.counter kept.sound.ascending);
        few = omega (arith, size);
        same = omega (arith, size, sizes, kept.sound.same);
        each = All-permutation AreLimits ((row.limit ∷ []) ∷ limits) (insert limits at (row.limit ∷ [])) (IsPermutation-insert limits at (row.limit ∷ [])) (All-cons AreLimits (row.limit ∷ []) limits (one_limit row.limit zero) kept.sound.each);
      };
      named = sym is ∙ ap (λ ns. with_name ns row.counter) kept.named ∙ sym (names_push rows row);
      limited = ap (λ ls. insert ls at (row.limit ∷ [])) kept.limited
          ∙ sym (map_begun rows row names at apart (no_limits rows row.counter (ap (is_among row.counter) (sym kept.named) ∙ apart)));
    }

-- the counter of the latest row is at its place
pub latest_there : (rows : List CounterRow) (row : CounterRow) (names : List (List ℕ)) (latest : ℕ) → is_latest (slice_get names latest) row.counter ≡ true → latest_of (rows ++ row ∷ []) ≡ slice_get names latest
latest_there rows row names latest h = latest_push rows row ∙ by (slice_get names latest) h
  where
    by : (o : Option (List ℕ)) → is_latest o row.counter ≡ true → Some row.counter ≡ o
    by None h = absurd (true≢false (sym h))
    by (Some name) h = ap Some (sym (order.bytes_same name row.counter h))

pub latest_new : (rows : List CounterRow) (row : CounterRow) (names : List (List ℕ)) (at : ℕ) → at ≤ length names → latest_of (rows ++ row ∷ []) ≡ slice_get (insert names at row.counter) at
latest_new rows row names at within =
    let size = length-insert names at row.counter within in
    latest_push rows row ∙ sym (slice_get-get_or (insert names at row.counter) at [] (omega (arith, size)) ∙ ap Some (get_or-insert_at names at row.counter [] within))

-- what a row was taken for
pub taken_both : (a b : Bool) → true ≡ (a && b) → (a ≡ true) × (b ≡ true)
taken_both a b h = and_both a b (sym h)
