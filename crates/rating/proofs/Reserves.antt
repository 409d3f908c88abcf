-- Usage of a group with quotas costs no more than its units at the top price, where no row is bad.
use Rattle.std.proofs.Common.{◌≡◌, ℕ, zero, suc, ◌+◌, ◌*◌, ◌<◌, ◌≤◌, ◌==◌, ◌/◌, ◌^◌, min, Bool, true, false, List, [], ◌∷◌, ◌++◌, length, get_or, nat_lt, nat_le, Option, Some, None, All, IfSome, is_none, if◌then◌else◌, filter, refl, sym, ◌∙◌, ap, subst, arith, append_assoc, mul-le-mul_left}
use Rattle.std.proofs.Math.Nat.{mul-div-le}
use mathlib.Core.Bool.{true≢false}
use Rattle.std.specs.List.{list_all, cons_option}
use Rattle.std.specs.Option.{option_or}
use Rattle.std.proofs.lemmas.List.Elements.{All-nil, All-head, All-tail, All-push, All-filter}
use Rattle.rating.specs.declared.terms.Kind.{Kind}
use Rattle.rating.specs.declared.terms.Kind.TheVariants.{Volume, Time, Offline}
use Rattle.rating.specs.declared.period.Period.{Period}
use Rattle.rating.specs.declared.row.TariffRow.{TariffRow}
use Rattle.rating.specs.declared.row.TariffRow.TheVariants.{Group, Price}
use Rattle.rating.specs.Row.{tariff_row, IsInRange, IsSmall}
use Rattle.rating.specs.Tariff.{GroupTariff, extended, tariff, tariff_of, tariff_rows, terms_of, periods, periods_by}
use Rattle.rating.specs.Grammar.{suits, may_extend_some, may_follow, first_bad, read_on, groups_of}
use Rattle.rating.specs.Price.{hour_of, in_time, last_of, period_at, cost, price}
use Rattle.units.specs.declared.answer.Code.TheVariants.{NotApplicable}
use Rattle.units.specs.declared.request.Ask.{Ask}
use Rattle.rating.specs.declared.grant.Grant.{Grant}
use Rattle.rating.specs.Grant.{asked, grant, granted, is_managed, no_quota, quota, top_price, unit_price, wish_of}
use Rattle.rating.specs.Laws.{units_used, GrantsAreCovered, PricesAreBounded}
use Rattle.rating.specs.Caches.{AreSound}
use Rattle.rating.proofs.Rows.{tariff_group, tariff_price, append_none}
use Rattle.rating.proofs.Sound.{both, sound_more, sound_none}
use Rattle.rating.proofs.Ranges.{row_small, periods_small}
use Rattle.rating.proofs.Numbers.{is_eq}

-- the periods of each tariff suit its kind
abbrev Suits : Option GroupTariff → Type 0
Suits None = Unit {0}
Suits (Some t) = All (λ p. suits t.terms.kind p ≡ true) t.periods

-- a period more that suits
suits_more : (o : Option GroupTariff) (p : Period) → Suits o → may_extend_some o p ≡ true → Suits (extended o p)
suits_more None p s h = tt
suits_more (Some t) p s h = All-push (λ (q : Period). suits t.terms.kind q ≡ true) t.periods p s (both (suits t.terms.kind p) (list_all (λ q. nat_lt q.hour p.hour) t.periods) h).0

suits_push : (rows : List TariffRow) (r : TariffRow) → AreSound rows → ((g : ℕ) → Suits (tariff_of rows g)) → may_follow rows r ≡ true → (g : ℕ) → Suits (tariff_of (rows ++ r ∷ []) g)
suits_push rows (Group g t) sound all h q =
    let nothing : terms_of rows g ≡ None = none_is (terms_of rows g) (both (nat_lt (length (groups_of rows)) 1000) (is_none (terms_of rows g)) h).1 in
    subst Suits (sym (tariff_group rows g t q sound nothing)) (by (g == q))
  where
    none_is : {X : Type 0} (o : Option X) → is_none o ≡ true → o ≡ None
    none_is None i = refl
    none_is (Some x) i = absurd (true≢false (sym i))

    by : (b : Bool) → Suits (if b then Some (record { terms = t; periods = [] }) else tariff_of rows q)
    by true = All-nil (λ (p : Period). suits t.kind p ≡ true)
    by false = all q
suits_push rows (Price g p) sound all h q = subst Suits (sym (tariff_price rows g p q)) (by (g == q))
  where
    by : (b : Bool) → Suits (if b then extended (tariff_of rows g) p else tariff_of rows q)
    by true = suits_more (tariff_of rows g) p (all g) h
    by false = all q

-- what rows with none bad say
record Goes (before : List TariffRow) (o : Option TariffRow) (rest : List (List (List ℕ))) : Type 0 where
  row : TariffRow
  is : o ≡ Some row
  may : may_follow before row ≡ true
  more : first_bad (before ++ row ∷ []) rest ≡ None

goes : (before : List TariffRow) (o : Option TariffRow) (rest : List (List (List ℕ))) → read_on before o (λ more. first_bad more rest) ≡ None → Goes before o rest
goes before None rest h = absurd (let f : Some (length before + 1) ≡ None = h in cc)
goes before (Some r) rest h = by (may_follow before r) refl h
  where
    by : (b : Bool) → may_follow before r ≡ b → (if b then first_bad (before ++ r ∷ []) rest else Some (length before + 1)) ≡ None → Goes before (Some r) rest
    by true e i = record { row = r; is = refl; may = e; more = i }
    by false e i = absurd (let f : Some (length before + 1) ≡ None = i in cc)

all_suit : (before : List TariffRow) (rows : List (List (List ℕ))) → AreSound before → ((g : ℕ) → Suits (tariff_of before g)) → first_bad before rows ≡ None → (g : ℕ) → Suits (tariff_of (before ++ tariff_rows rows) g)
all_suit before [] sound all good g = subst (λ rs. Suits (tariff_of rs g)) (sym (append_none before)) (all g)
all_suit before (fields ∷ rows) sound all good g =
    let s = goes before (tariff_row fields) rows good in
    let range : IsInRange s.row = subst (λ o. IfSome o IsInRange) s.is (row_small fields) in
    let rest = all_suit (before ++ s.row ∷ []) rows (sound_more before s.row sound range s.may) (suits_push before s.row sound all s.may) s.more g in
    subst (λ rs. Suits (tariff_of rs g)) (append_assoc before (s.row ∷ []) (tariff_rows rows) ∙ ap (λ o. before ++ cons_option o (tariff_rows rows)) (sym s.is)) rest

-- what holds of all periods holds of the one that holds an hour
last_all : {X : Type 0} (P : X → Type 0) (xs : List X) → All P xs → IfSome (last_of xs) P
last_all P [] all = tt
last_all P (x ∷ []) all = All-head P x [] all
last_all P (x ∷ y ∷ xs) all = last_all P (y ∷ xs) (All-tail P x (y ∷ xs) all)

held_all : (P : Period → Type 0) (ps : List Period) (hour : ℕ) → All P ps → IfSome (period_at hour ps) P
held_all P ps hour all = by (last_of (filter (λ (p : Period). nat_le p.hour hour) ps)) (last_all P (filter (λ (p : Period). nat_le p.hour hour) ps) (All-filter (λ (p : Period). nat_le p.hour hour) P ps all))
  where
    by : (o : Option Period) → IfSome o P → IfSome (option_or o (last_of ps)) P
    by None i = last_all P ps all
    by (Some p) i = i

-- no unit costs more than the top price
below_top : (kind : Kind) (ps : List Period) → All (λ p. unit_price kind p ≤ top_price kind ps) ps
below_top kind [] = All-nil (λ (p : Period). unit_price kind p ≤ 0)
below_top kind (p ∷ ps) = λ k d l. at k d l (below_top kind ps)
  where
    at : (k : ℕ) (d : Period) → k < length (p ∷ ps) → All (λ q. unit_price kind q ≤ top_price kind ps) ps → unit_price kind (get_or (p ∷ ps) k d) ≤ top_price kind (p ∷ ps)
    at zero d l rest = omega arith
    at (suc k) d l rest = let r = rest k d (omega arith) in omega (arith, r)

times_le : (n a b : ℕ) → a ≤ b → n * a ≤ n * b
times_le n a b l = mul-le-mul_left n l

-- what usage costs in one period
cost_by_top : (kind : Kind) (p : Period) (top up down seconds : ℕ) → is_managed kind ≡ true → suits kind p ≡ true → unit_price kind p ≤ top → cost (Some p) up down seconds ≤ units_used kind up down seconds * top
cost_by_top Volume p top up down seconds managed fits l =
    let free : p.seconds ≡ 0 = is_eq p.seconds 0 fits in
    let none : seconds * p.seconds ≡ 0 = ap (λ n. seconds * n) free ∙ omega arith in
    let u = times_le up p.up top (omega arith) in
    let d = times_le down p.down top (omega arith) in
    let sum : (up + down) * top ≡ up * top + down * top = omega arith in
    omega (arith, none, u, d, sum)
cost_by_top Time p top up down seconds managed fits l =
    let parts = both (p.up == 0) (p.down == 0) fits in
    let u : up * p.up ≡ 0 = ap (λ n. up * n) (is_eq p.up 0 parts.0) ∙ omega arith in
    let d : down * p.down ≡ 0 = ap (λ n. down * n) (is_eq p.down 0 parts.1) ∙ omega arith in
    let s = times_le seconds p.seconds top l in
    omega (arith, u, d, s)
cost_by_top Offline p top up down seconds managed fits l = absurd (true≢false (sym managed))

record Fitting (kind : Kind) (top : ℕ) (p : Period) : Type 0 where
  fits : suits kind p ≡ true
  below : unit_price kind p ≤ top

cost_held : (kind : Kind) (top up down seconds : ℕ) (o : Option Period) → is_managed kind ≡ true → IfSome o (Fitting kind top) → cost o up down seconds ≤ units_used kind up down seconds * top
cost_held kind top up down seconds None managed h = omega arith
cost_held kind top up down seconds (Some p) managed h = cost_by_top kind p top up down seconds managed h.fits h.below

-- the law
pub reserve_pays : (rows : List (List (List ℕ))) → first_bad [] rows ≡ None → (group : ℕ) (t : GroupTariff) → tariff rows group ≡ Some t → is_managed t.terms.kind ≡ true
    → (up down seconds moment : ℕ) → price rows group up down seconds moment ≤ units_used t.terms.kind up down seconds * top_price t.terms.kind t.periods
reserve_pays rows good group t is managed up down seconds moment =
    let suit : All (λ p. suits t.terms.kind p ≡ true) t.periods = subst Suits is (all_suit [] rows sound_none (λ g. tt) good group) in
    let fitting : All (Fitting t.terms.kind (top_price t.terms.kind t.periods)) t.periods = λ k d l. record { fits = suit k d l; below = below_top t.terms.kind t.periods k d l } in
    let held = held_all (Fitting t.terms.kind (top_price t.terms.kind t.periods)) t.periods (hour_of (in_time moment)) fitting in
    subst (λ o. cost (period_at (hour_of (in_time moment)) (periods_by o)) up down seconds ≤ units_used t.terms.kind up down seconds * top_price t.terms.kind t.periods) (sym is) (cost_held t.terms.kind (top_price t.terms.kind t.periods) up down seconds (period_at (hour_of (in_time moment)) t.periods) managed held)

-- what a grant sets aside pays for the units that it grants
pub grant_pays : (rows : List (List (List ℕ))) → first_bad [] rows ≡ None → (group : ℕ) (t : GroupTariff) → tariff rows group ≡ Some t → is_managed t.terms.kind ≡ true
    → (free : ℕ) (ask : Ask) (up down seconds moment : ℕ) → units_used t.terms.kind up down seconds ≤ (grant rows group free ask).units
    → price rows group up down seconds moment ≤ (grant rows group free ask).reserve
grant_pays rows good group t is managed free ask up down seconds moment within =
    let top = top_price t.terms.kind t.periods in
    let q = quota (wish_of t.terms.chunk (asked t.terms.kind ask)) top free in
    let g : grant rows group free ask ≡ q = ap (λ o. granted o free ask) is ∙ ap (λ b. if b then q else no_quota NotApplicable) managed in
    let r : (grant rows group free ask).reserve ≡ (grant rows group free ask).units * top = ap (λ (x : Grant). x.reserve) g ∙ ap (λ (x : Grant). x.units * top) (sym g) in
    let p = reserve_pays rows good group t is managed up down seconds moment in
    let m = times_le top (units_used t.terms.kind up down seconds) (grant rows group free ask).units within in
    omega (arith, r, p, m)

-- a price is bounded by the amounts, since no unit costs more than 2 ^ 32
cost_small : (up down seconds : ℕ) (o : Option Period) → IfSome o IsSmall → cost o up down seconds ≤ (up + down + seconds) * 2 ^ 32
cost_small up down seconds None small = omega arith
cost_small up down seconds (Some p) small =
    let u = times_le up p.up (2 ^ 32) small.up in
    let d = times_le down p.down (2 ^ 32) small.down in
    let s = times_le seconds p.seconds (2 ^ 32) small.seconds in
    omega (arith, u, d, s)

pub price_bounded : (rows : List (List (List ℕ))) → PricesAreBounded rows
price_bounded rows group up down seconds moment = cost_small up down seconds (period_at (hour_of (in_time moment)) (periods rows group)) (held_all IsSmall (periods rows group) (hour_of (in_time moment)) (periods_small rows group))

-- a reserve is covered by what is free
quota_covered : (wish top free : ℕ) → (quota wish top free).reserve ≤ free
quota_covered wish top free = by (top == 0) refl
  where
    by : (b : Bool) → (top == 0) ≡ b → (if b then wish else min wish (free / top)) * top ≤ free
    by true e = let none : wish * top ≡ 0 = ap (λ n. wish * n) (is_eq top 0 e) ∙ omega arith in omega (arith, none)
    by false e =
        let most = times_le top (min wish (free / top)) (free / top) (omega arith) in
        let whole = mul-div-le free top in
        omega (arith, most, whole)

pub grant_covered : (rows : List (List (List ℕ))) → GrantsAreCovered rows
grant_covered rows group free ask = by (tariff rows group)
  where
    by : (o : Option GroupTariff) → (granted o free ask).reserve ≤ free
    by None = omega arith
    by (Some t) = managed (is_managed t.terms.kind)
      where
        managed : (b : Bool) → (if b then quota (wish_of t.terms.chunk (asked t.terms.kind ask)) (top_price t.terms.kind t.periods) free else no_quota NotApplicable).reserve ≤ free
        managed true = quota_covered (wish_of t.terms.chunk (asked t.terms.kind ask)) (top_price t.terms.kind t.periods) free
        managed false = omega arith
