-- The price of a run's sums at its first moment is the sum of its reports' prices.
use Rattle.std.proofs.Common.{◌≡◌, ◌⊎◌, inl, inr, ⊎_elim, ℕ, zero, suc, ◌+◌, ◌-◌, ◌<◌, ◌≤◌, true, List, [], ◌∷◌, ◌++◌, length, take, drop, get_or, Option, Some, None, All, Contains, sum_by, ◌==◌, refl, sym, ◌∙◌, ap, subst, arith, append_assoc}
use Rattle.std.proofs.lemmas.List.Elements.{All-head, All-tail, All-take, All-drop, All-weaker, filter_passes}
use Rattle.std.proofs.lemmas.List.Sums.{sum_by-cons, sum_by-append}
use Rattle.std.proofs.lemmas.List.Sorted.{IsNonDecreasingBy-take, IsNonDecreasingBy-drop}
use Rattle.units.specs.declared.report.Report.{Report}
use Rattle.units.specs.declared.report.Container.{Container}
use Rattle.units.specs.Cut.{IsRun, IsCut, NoSwitchWithin, first_moment, last_moment, reports_of, containers_of}
use Rattle.rating.specs.declared.period.Period.{Period}
use Rattle.rating.specs.Tariff.{periods}
use Rattle.rating.specs.Price.{hour_of, in_time, period_at, cost, price, report_price, container_price}
use Rattle.rating.specs.Switch.{is_switch}
use Rattle.rating.specs.Runs.{AreInOrder, IsPricedRight, RunsArePricedRight, CutsArePricedRight, reports_price, containers_price}
use Rattle.rating.proofs.Steady.{steady}
use Rattle.rating.proofs.Ranges.{periods_of_day}
use Rattle.rating.proofs.Numbers.{is_eq}

cost_add : (o : Option Period) (u d s v e t : ℕ) → cost o u d s + cost o v e t ≡ cost o (u + v) (d + e) (s + t)
cost_add None u d s v e t = omega arith
cost_add (Some p) u d s v e t = omega arith

cost_none : (o : Option Period) → cost o 0 0 0 ≡ 0
cost_none None = refl
cost_none (Some p) = omega arith

sums_more : (o : Option Period) (r : Report) (run : List Report) → cost o (r.up + sum_by (λ r. r.up) run) (r.down + sum_by (λ r. r.down) run) (r.seconds + sum_by (λ r. r.seconds) run) ≡ cost o (sum_by (λ r. r.up) (r ∷ run)) (sum_by (λ r. r.down) (r ∷ run)) (sum_by (λ r. r.seconds) (r ∷ run))
sums_more o r run =
    let up : r.up + sum_by (λ r. r.up) run ≡ sum_by (λ r. r.up) (r ∷ run) = sym (sum_by-cons (λ (q : Report). q.up) r run) in
    let down : r.down + sum_by (λ r. r.down) run ≡ sum_by (λ r. r.down) (r ∷ run) = sym (sum_by-cons (λ (q : Report). q.down) r run) in
    let seconds : r.seconds + sum_by (λ r. r.seconds) run ≡ sum_by (λ r. r.seconds) (r ∷ run) = sym (sum_by-cons (λ (q : Report). q.seconds) r run) in
    λ i. cost o (up i) (down i) (seconds i)

-- where each report has the prices of one period, all together cost what their sums cost
sums_cost : (o : Option Period) (f : Report → ℕ) (run : List Report) → All (λ r. f r ≡ cost o r.up r.down r.seconds) run → sum_by f run ≡ cost o (sum_by (λ r. r.up) run) (sum_by (λ r. r.down) run) (sum_by (λ r. r.seconds) run)
sums_cost o f [] all = sym (cost_none o)
sums_cost o f (r ∷ run) all =
    let here : f r ≡ cost o r.up r.down r.seconds = All-head (λ (q : Report). f q ≡ cost o q.up q.down q.seconds) r run all in
    let rest = sums_cost o f run (All-tail (λ (q : Report). f q ≡ cost o q.up q.down q.seconds) r run all) in
    sum_by-cons f r run ∙ (λ i. here i + rest i)
    ∙ cost_add o r.up r.down r.seconds (sum_by (λ r. r.up) run) (sum_by (λ r. r.down) run) (sum_by (λ r. r.seconds) run)
    ∙ sums_more o r run

-- the last moment by its place
last_moment_at : (run : List Report) (i : ℕ) (d : Report) → length run ≡ suc i → last_moment run ≡ (get_or run i d).moment
last_moment_at [] i d is = absurd (omega arith)
last_moment_at (r ∷ []) zero d is = refl
last_moment_at (r ∷ []) (suc i) d is = absurd (omega arith)
last_moment_at (r ∷ q ∷ run) zero d is = absurd (omega arith)
last_moment_at (r ∷ q ∷ run) (suc i) d is = last_moment_at (q ∷ run) i d (omega arith)

first_moment_at : (run : List Report) (d : Report) → 0 < length run → first_moment run ≡ (get_or run 0 d).moment
first_moment_at [] d l = absurd (omega arith)
first_moment_at (r ∷ run) d l = refl

-- each report of a run has the prices of the first moment
same_prices : (rows : List (List (List ℕ))) (group : ℕ) (run : List Report) → All (λ (r : Report). r.group ≡ group) run → AreInOrder run → NoSwitchWithin (is_switch rows group) (first_moment run) (last_moment run)
    → All (λ r. report_price rows r ≡ cost (period_at (hour_of (in_time (first_moment run))) (periods rows group)) r.up r.down r.seconds) run
same_prices rows group run groups order none k d l =
    let after : first_moment run ≤ (get_or run k d).moment = let o = order 0 k d (omega arith) l in let f = first_moment_at run d (omega arith) in omega (arith, o, f) in
    let until : (get_or run k d).moment ≤ last_moment run = let o = order k (length run - 1) d (omega arith) (omega arith) in let f = last_moment_at run (length run - 1) d (omega arith) in omega (arith, o, f) in
    let held = steady (periods rows group) (first_moment run) (get_or run k d).moment (periods_of_day rows group) after (λ m a b. none m a (omega (arith, b, until))) in
    let one : report_price rows (get_or run k d) ≡ cost (period_at (hour_of (in_time (get_or run k d).moment)) (periods rows group)) (get_or run k d).up (get_or run k d).down (get_or run k d).seconds =
    ap (λ g. price rows g (get_or run k d).up (get_or run k d).down (get_or run k d).seconds (get_or run k d).moment) (groups k d l) in
    one ∙ ap (λ o. cost o (get_or run k d).up (get_or run k d).down (get_or run k d).seconds) held

-- the law of runs
pub run_price : (rows : List (List (List ℕ))) → RunsArePricedRight rows
run_price rows run c groups order is =
    let s = is.summed in
    let sums = sums_cost (period_at (hour_of (in_time (first_moment run))) (periods rows c.group)) (report_price rows) run (same_prices rows c.group run groups order is.unbroken) in
    (λ i. cost (period_at (hour_of (in_time (s.first i))) (periods rows c.group)) (s.up i) (s.down i) (s.seconds i)) ∙ sym sums

take_front : {X : Type 0} (xs ys : List X) → take (length xs) (xs ++ ys) ≡ xs
take_front [] ys = refl
take_front (x ∷ xs) ys = ap (λ zs. x ∷ zs) (take_front xs ys)

drop_front : {X : Type 0} (xs ys : List X) → drop (length xs) (xs ++ ys) ≡ ys
drop_front [] ys = refl
drop_front (x ∷ xs) ys = drop_front xs ys

-- what a cut's first run is
contains_cases : (c d : Container) (cs : List Container) → Contains (c ∷ cs) d → (c ≡ d) ⊎ Contains cs d
contains_cases c d cs (zero, l, is) = inl is
contains_cases c d cs (suc k, l, is) = inr (k, omega arith, is)

-- the law of cuts
pub cut_price : (rows : List (List (List ℕ))) (group : ℕ) (reports : List Report) (containers : List Container) → All (λ (r : Report). r.group ≡ group) reports → All (λ (c : Container). c.group ≡ group) containers → AreInOrder reports → IsCut (is_switch rows group) reports containers
    → ((c : Container) → Contains containers c → IsPricedRight rows reports c) × (containers_price rows containers ≡ reports_price rows reports)
cut_price rows group reports [] groups same order is = (λ c h. absurd (let l = h.1 in omega (arith, l)), sym (ap (reports_price rows) is))
cut_price rows group reports (c ∷ cs) groups same order (run, rest, is, first, others) =
    let front : run ≡ take (length run) reports = sym (ap (take (length run)) is ∙ take_front run rest) in
    let back : rest ≡ drop (length run) reports = sym (ap (drop (length run)) is ∙ drop_front run rest) in
    let here : c.group ≡ group = All-head (λ (c : Container). c.group ≡ group) c cs same in
    let run_groups : All (λ (r : Report). r.group ≡ c.group) run = All-weaker (λ (r : Report). r.group ≡ group) (λ (r : Report). r.group ≡ c.group) (λ r e. e ∙ sym here) run (subst (All (λ (r : Report). r.group ≡ group)) (sym front) (All-take (λ (r : Report). r.group ≡ group) (length run) reports groups)) in
    let run_order : AreInOrder run = subst AreInOrder (sym front) (IsNonDecreasingBy-take (λ (r : Report). r.moment) (length run) reports order) in
    let run_is : IsRun (is_switch rows c.group) run c = subst (λ g. IsRun (is_switch rows g) run c) (sym here) first in
    let one : container_price rows c ≡ reports_price rows run = run_price rows run c run_groups run_order run_is in
    let more = cut_price rows group rest cs (subst (All (λ (r : Report). r.group ≡ group)) (sym back) (All-drop (λ (r : Report). r.group ≡ group) (length run) reports groups)) (All-tail (λ (c : Container). c.group ≡ group) c cs same) (subst AreInOrder (sym back) (IsNonDecreasingBy-drop (λ (r : Report). r.moment) (length run) reports order)) others in (
      λ d h. ⊎_elim
          (λ (e : c ≡ d). subst (IsPricedRight rows reports) e (record { before = []; run = run; after = rest; part = is; summed = first.summed; price = one }))
          (λ (g : Contains cs d). let p = more.0 d g in record { before = run ++ p.before; run = p.run; after = p.after; part = is ∙ ap (λ ys. run ++ ys) p.part ∙ sym (append_assoc run p.before (p.run ++ p.after)); summed = p.summed; price = p.price })
          (contains_cases c d cs h),
      sum_by-cons (container_price rows) c cs ∙ (λ i. one i + more.1 i) ∙ sym (sum_by-append (report_price rows) run rest) ∙ ap (reports_price rows) (sym is),
    )

-- so for the reports and containers of a group
pub cut_of_group : (rows : List (List (List ℕ))) → CutsArePricedRight rows
cut_of_group rows group reports containers order is =
    cut_price rows group (reports_of group reports) (containers_of group containers)
    (All-weaker (λ (r : Report). (r.group == group) ≡ true) (λ (r : Report). r.group ≡ group) (λ r e. is_eq r.group group e) (reports_of group reports) (filter_passes (λ (r : Report). r.group == group) reports))
    (All-weaker (λ (c : Container). (c.group == group) ≡ true) (λ (c : Container). c.group ≡ group) (λ c e. is_eq c.group group e) (containers_of group containers) (filter_passes (λ (c : Container). c.group == group) containers))
    order is
