-- One row more: the names and the limits of rows.
use Rattle.std.proofs.Common.{◌≡◌, ℕ, zero, suc, ◌<◌, ◌||◌, Bool, true, false, List, [], ◌∷◌, ◌++◌, length, get_or, map, Option, Some, None, if◌then◌else◌, refl, sym, ap, subst, ◌∙◌, arith, bytes_eq, fold, append-nil}
use mathlib.Core.Bool.{true≢false}
use Rattle.std.specs.List.{insert, cons_option}
use Rattle.std.specs.Ordering.{nat_cmp, match_ordering}
use Rattle.std.specs.declared.cmp.Ordering.{Ordering}
use Rattle.std.specs.declared.cmp.Ordering.TheVariants.{Less, Equal, Greater}
use Rattle.std.specs.Cmp.Lexicographic.{slice_cmp}
use Rattle.std.proofs.Math.ListN.{set}
use Rattle.std.proofs.lemmas.List.Sums.{fold_push}
use Rattle.std.proofs.lemmas.List.Elements.{filter_map-append}
use Rattle.counters.specs.declared.row.CounterRow.{CounterRow}
use Rattle.counters.specs.Names.{with_name, names_of, is_among, IsBelow, AreAscending}
use Rattle.counters.specs.Status.{limit_in, limits_of}
use Rattle.counters.specs.Grammar.{latest_of}
use Rattle.counters.proofs.Order as order
use Rattle.counters.proofs.Ascending.{among_below, below_at, still_ascending}

-- the names with one row more
pub names_push : (rows : List CounterRow) (row : CounterRow) → names_of (rows ++ row ∷ []) ≡ with_name (names_of rows) row.counter
names_push rows row = fold_push (λ (names : List (List ℕ)) (r : CounterRow). with_name names r.counter) [] rows row

-- the counter of the latest row
pub latest_push : (rows : List CounterRow) (row : CounterRow) → latest_of (rows ++ row ∷ []) ≡ Some row.counter
latest_push rows row = fold_push (λ (latest : Option (List ℕ)) (r : CounterRow). Some r.counter) None rows row

-- the limits of the row's counter have one more
pub limits_more : (rows : List CounterRow) (row : CounterRow) (counter : List ℕ) → counter ≡ row.counter → limits_of (rows ++ row ∷ []) counter ≡ limits_of rows counter ++ row.limit ∷ []
limits_more rows row counter same =
    filter_map-append (limit_in counter) rows (row ∷ [])
    ∙ ap (λ b. limits_of rows counter ++ cons_option (if b then Some row.limit else None) []) (order.same_bytes row.counter counter (sym same))

-- those of another stay
pub limits_other : (rows : List CounterRow) (row : CounterRow) (counter : List ℕ) → bytes_eq row.counter counter ≡ false → limits_of (rows ++ row ∷ []) counter ≡ limits_of rows counter
limits_other rows row counter other =
    filter_map-append (limit_in counter) rows (row ∷ [])
    ∙ ap (λ b. limits_of rows counter ++ cons_option (if b then Some row.limit else None) []) other ∙ append-nil (limits_of rows counter)

-- a test turned round
turned : (a b : List ℕ) → bytes_eq a b ≡ false → bytes_eq b a ≡ false
turned a b h = order.other_bytes b a (λ e. absurd (true≢false (sym (order.same_bytes a b (sym e)) ∙ h)))

or_swap : (a b c : Bool) → (a || (b || c)) ≡ (b || (a || c))
or_swap true true c = refl
or_swap true false c = refl
or_swap false b c = refl

or_twice : (a b c : Bool) → a ≡ b → (b || c) ≡ (a || (b || c))
or_twice true true c e = refl
or_twice true false c e = absurd (true≢false e)
or_twice false b c e = refl

-- which names are there with one more
pub among_with : (names : List (List ℕ)) (name other : List ℕ) → is_among other (with_name names name) ≡ (bytes_eq other name || is_among other names)
among_with [] name other = refl
among_with (first ∷ rest) name other = by (slice_cmp nat_cmp name first) refl (among_with rest name other)
  where
    by : (o : Ordering) → slice_cmp nat_cmp name first ≡ o → is_among other (with_name rest name) ≡ (bytes_eq other name || is_among other rest)
        → is_among other (match_ordering o (name ∷ first ∷ rest) (first ∷ rest) (first ∷ with_name rest name)) ≡ (bytes_eq other name || (bytes_eq other first || is_among other rest))
    by Less e ih = refl
    by Equal e ih = or_twice (bytes_eq other name) (bytes_eq other first) (is_among other rest) (ap (bytes_eq other) (order.alike name first e))
    by Greater e ih = ap (λ b. bytes_eq other first || b) ih ∙ or_swap (bytes_eq other first) (bytes_eq other name) (is_among other rest)

or_none : (a b : Bool) → (a || b) ≡ false → (a ≡ false) × (b ≡ false)
or_none true b h = absurd (true≢false h)
or_none false b h = (refl, h)

-- what rows add to names does not have a name that they do not have
none_among : (names : List (List ℕ)) (rows : List CounterRow) (name : List ℕ) → is_among name (fold (λ (ns : List (List ℕ)) (r : CounterRow). with_name ns r.counter) names rows) ≡ false
    → (is_among name names ≡ false) × (limits_of rows name ≡ [])
none_among names [] name h = (h, refl)
none_among names (row ∷ rows) name h =
    let rest = none_among (with_name names row.counter) rows name h in
    let both = or_none _ _ (sym (among_with names row.counter name) ∙ rest.0) in
    (both.1, ap (λ b. cons_option (if b then Some row.limit else None) (limits_of rows name)) (turned name row.counter both.0) ∙ rest.1)

-- a counter that has no row has no limit
pub no_limits : (rows : List CounterRow) (name : List ℕ) → is_among name (names_of rows) ≡ false → limits_of rows name ≡ []
no_limits rows name h = (none_among [] rows name h).1

-- the names of rows ascend
ascending_on : (names : List (List ℕ)) (rows : List CounterRow) → AreAscending names → AreAscending (fold (λ (ns : List (List ℕ)) (r : CounterRow). with_name ns r.counter) names rows)
ascending_on names [] up = up
ascending_on names (row ∷ rows) up = ascending_on (with_name names row.counter) rows (still_ascending names row.counter up)

pub names_ascend : (rows : List CounterRow) → AreAscending (names_of rows)
names_ascend rows = ascending_on [] rows tt

-- the limits of counters other than the row's
pub others : (rows : List CounterRow) (row : CounterRow) (names : List (List ℕ)) → is_among row.counter names ≡ false → map (limits_of (rows ++ row ∷ [])) names ≡ map (limits_of rows) names
others rows row [] h = refl
others rows row (first ∷ rest) h =
    let both = or_none (bytes_eq row.counter first) (is_among row.counter rest) h in
    (λ i. limits_other rows row first both.0 i ∷ others rows row rest both.1 i)

-- the limits of all, where the row's counter is among them
pub map_more : (rows : List CounterRow) (row : CounterRow) (names : List (List ℕ)) (at : ℕ) → AreAscending names → at < length names → get_or names at [] ≡ row.counter
    → map (limits_of (rows ++ row ∷ [])) names ≡ set (map (limits_of rows) names) at (limits_of rows row.counter ++ row.limit ∷ [])
map_more rows row [] at up l is = absurd (omega arith)
map_more rows row (first ∷ rest) zero up l is =
    let apart = among_below rest row.counter (subst (λ (n : List ℕ). IsBelow n rest) is up.0) in
    (λ i. (limits_more rows row first is ∙ ap (λ n. limits_of rows n ++ row.limit ∷ []) is) i ∷ others rows row rest apart i)
map_more rows row (first ∷ rest) (suc k) up l is =
    let under : slice_cmp nat_cmp first row.counter ≡ Less = ap (slice_cmp nat_cmp first) (sym is) ∙ below_at first rest up.0 k [] (omega arith) in
    let apart = order.other_bytes row.counter first (order.greater_not row.counter first (order.above first row.counter under)) in
    (λ i. limits_other rows row first apart i ∷ map_more rows row rest k up.1 (omega arith) is i)

-- a map over a list with one more
map_insert : {X Y : Type 0} (f : X → Y) (xs : List X) (at : ℕ) (x : X) → map f (insert xs at x) ≡ insert (map f xs) at (f x)
map_insert f [] zero x = refl
map_insert f [] (suc k) x = refl
map_insert f (y ∷ ys) zero x = refl
map_insert f (y ∷ ys) (suc k) x = ap (λ zs. f y ∷ zs) (map_insert f ys k x)

-- the limits of all, where the row's counter is a new one
pub map_begun : (rows : List CounterRow) (row : CounterRow) (names : List (List ℕ)) (at : ℕ) → is_among row.counter names ≡ false → limits_of rows row.counter ≡ []
    → map (limits_of (rows ++ row ∷ [])) (insert names at row.counter) ≡ insert (map (limits_of rows) names) at (row.limit ∷ [])
map_begun rows row names at apart none =
    map_insert (limits_of (rows ++ row ∷ [])) names at row.counter
    ∙ (λ i. insert (others rows row names apart i) at ((limits_more rows row row.counter refl ∙ ap (λ ls. ls ++ row.limit ∷ []) none) i))
