-- Rows that were read stay sound with one row more, and are few.
use Rattle.std.proofs.Common.{◌≡◌, ℕ, ◌+◌, ◌*◌, ◌≤◌, ◌==◌, ◌&&◌, ◌||◌, Bool, true, false, List, [], ◌∷◌, ◌++◌, length, nat_lt, Option, Some, None, is_none, is_some, if◌then◌else◌, option_map, refl, sym, ◌∙◌, ap, subst, arith, length-append}
use mathlib.Core.Bool.{true≢false}
use Rattle.std.specs.List.{list_all, list_any, filter_map, cons_option}
use Rattle.std.proofs.lemmas.Bool.Decides.{nat_tests}
use Rattle.std.proofs.lemmas.List.Folds.{list_all-append}
use Rattle.rating.specs.declared.terms.Terms.{Terms}
use Rattle.rating.specs.declared.period.Period.{Period}
use Rattle.rating.specs.declared.row.TariffRow.{TariffRow}
use Rattle.rating.specs.declared.row.TariffRow.TheVariants.{Group, Price}
use Rattle.rating.specs.Row.{IsInRange}
use Rattle.rating.specs.Tariff.{terms_of, periods_of}
use Rattle.rating.specs.Grammar.{groups_of, group_in, suits, may_extend_some, may_follow}
use Rattle.rating.specs.Caches.{is_known, AreFew, AreSound}
use Rattle.rating.proofs.Rows.{groups_push, periods_push, terms_known, append_none}
use Rattle.rating.proofs.Numbers.{lt_is, is_eq}

pub both : (a b : Bool) → (a && b) ≡ true → (a ≡ true) × (b ≡ true)
both true b h = (refl, h)
both false b h = absurd (true≢false (sym h))

-- what a tariff that may be extended says
pub record Extends (rows : List TariffRow) (group : ℕ) (period : Period) : Type 0 where
  pub terms : Terms
  pub is : terms_of rows group ≡ Some terms
  pub later : list_all (λ p. nat_lt p.hour period.hour) (periods_of rows group) ≡ true

pub extends : (rows : List TariffRow) (group : ℕ) (period : Period) → may_follow rows (Price group period) ≡ true → Extends rows group period
extends rows group period h = by (terms_of rows group) refl h
  where
    by : (o : Option Terms) → terms_of rows group ≡ o → may_extend_some (option_map (λ ts. record { terms = ts; periods = periods_of rows group }) o) period ≡ true → Extends rows group period
    by None e i = absurd (true≢false (sym i))
    by (Some ts) e i = record {
      terms = ts;
      is = e;
      later = (both (suits ts.kind period) (list_all (λ p. nat_lt p.hour period.hour) (periods_of rows group)) i).1;
    }

-- no more periods with one more
few_more : (ps : List Period) (p : Period) → AreFew ps → p.hour ≤ 23 → list_all (λ q. nat_lt q.hour p.hour) ps ≡ true → AreFew (ps ++ p ∷ [])
few_more ps p few small later =
    let l : length (ps ++ p ∷ []) ≡ length ps + 1 = length-append ps (p ∷ []) in
    let under : length ps ≤ p.hour = few.below p.hour later in
    record {
      below = λ hour all.
          let parts = both (list_all (λ q. nat_lt q.hour hour) ps) (nat_lt p.hour hour && true) (sym (list_all-append (λ (q : Period). nat_lt q.hour hour) ps (p ∷ [])) ∙ all) in
          let lt = lt_is p.hour hour (both (nat_lt p.hour hour) true parts.1).0 in
          omega (arith, l, under, lt);
      most = omega (arith, l, under, small);
    }

-- groups that are known stay so with more groups
any_more : (test : ℕ → Bool) (gs hs : List ℕ) → list_any test gs ≡ true → list_any test (gs ++ hs) ≡ true
any_more test [] hs h = absurd (true≢false (sym h))
any_more test (g ∷ gs) hs h = by (test g) h (any_more test gs hs)
  where
    by : (b : Bool) → (b || list_any test gs) ≡ true → (list_any test gs ≡ true → list_any test (gs ++ hs) ≡ true) → (b || list_any test (gs ++ hs)) ≡ true
    by true i ih = refl
    by false i ih = ih i

known_one : (gs hs : List ℕ) (r : TariffRow) → is_known gs r ≡ true → is_known (gs ++ hs) r ≡ true
known_one gs hs (Group g t) h = refl
known_one gs hs (Price g p) h = any_more (λ k. k == g) gs hs h

known_more : (gs hs : List ℕ) (rows : List TariffRow) → list_all (is_known gs) rows ≡ true → list_all (is_known (gs ++ hs)) rows ≡ true
known_more gs hs [] h = refl
known_more gs hs (r ∷ rows) h =
    let parts = both (is_known gs r) (list_all (is_known gs) rows) h in
    rw (known_one gs hs r parts.0, known_more gs hs rows parts.1) refl

known_push : (rows : List TariffRow) (r : TariffRow) → list_all (is_known (groups_of rows)) rows ≡ true → is_known (groups_of rows ++ cons_option (group_in r) []) r ≡ true → list_all (is_known (groups_of (rows ++ r ∷ []))) (rows ++ r ∷ []) ≡ true
known_push rows r all one =
    let before = known_more (groups_of rows) (cons_option (group_in r) []) rows all in
    ap (λ gs. list_all (is_known gs) (rows ++ r ∷ [])) (groups_push rows r)
    ∙ list_all-append (is_known (groups_of rows ++ cons_option (group_in r) [])) rows (r ∷ [])
    ∙ (rw (before, one) refl)

-- sound rows with one that may follow
pub sound_more : (rows : List TariffRow) (r : TariffRow) → AreSound rows → IsInRange r → may_follow rows r ≡ true → AreSound (rows ++ r ∷ [])
sound_more rows (Group g t) sound range follows =
    let l = ap length (groups_push rows (Group g t)) ∙ length-append (groups_of rows) (g ∷ []) in
    let lt = lt_is (length (groups_of rows)) 1000 (both (nat_lt (length (groups_of rows)) 1000) (is_none (terms_of rows g)) follows).0 in
    record {
      most = omega (arith, l, lt);
      known = known_push rows (Group g t) sound.known refl;
      few = λ q. subst AreFew (sym (periods_push rows (Group g t) q ∙ append_none (periods_of rows q))) (sound.few q);
    }
sound_more rows (Price g p) sound range follows =
    let ext = extends rows g p follows in
    let l = ap length (groups_push rows (Price g p) ∙ append_none (groups_of rows)) in
    let known : list_any (λ h. h == g) (groups_of rows) ≡ true = sym (terms_known rows g) ∙ ap is_some ext.is in
    let most = sound.most in
    record {
      most = omega (arith, l, most);
      known = known_push rows (Price g p) sound.known (any_more (λ h. h == g) (groups_of rows) [] known);
      few = λ q. few_at q (g == q) refl;
    }
  where
    few_at : (q : ℕ) (b : Bool) → (g == q) ≡ b → AreFew (periods_of (rows ++ Price g p ∷ []) q)
    few_at q true e = subst AreFew (sym (periods_push rows (Price g p) q ∙ ap (λ b. periods_of rows q ++ cons_option (if b then Some p else None) []) e))
        (few_more (periods_of rows q) p (sound.few q) range.hour (ap (λ k. list_all (λ (o : Period). nat_lt o.hour p.hour) (periods_of rows k)) (sym (is_eq g q e)) ∙ (extends rows g p follows).later))
    few_at q false e = subst AreFew (sym (periods_push rows (Price g p) q ∙ ap (λ b. periods_of rows q ++ cons_option (if b then Some p else None) []) e ∙ append_none (periods_of rows q))) (sound.few q)

-- no rows are sound
pub sound_none : AreSound []
sound_none = record {
  most = omega arith;
  known = refl;
  few = λ q. record { below = λ hour all. omega arith; most = omega arith };
}

-- the price rows, of whatever group
abbrev price_in : TariffRow → Option Period
price_in (Group g t) = None
price_in (Price g p) = Some p

-- how many periods the groups have, in sum
abbrev periods_count : List TariffRow → List ℕ → ℕ
periods_count rows [] = 0
periods_count rows (g ∷ gs) = length (periods_of rows g) + periods_count rows gs

-- a price row counts for its group
counts_same : (rows : List TariffRow) (h : ℕ) (p : Period) (gs : List ℕ) → periods_count rows gs ≤ periods_count (Price h p ∷ rows) gs
counts_same rows h p [] = omega arith
counts_same rows h p (g ∷ gs) = by (h == g) (counts_same rows h p gs)
  where
    by : (b : Bool) → periods_count rows gs ≤ periods_count (Price h p ∷ rows) gs → length (periods_of rows g) + periods_count rows gs ≤ length (cons_option (if b then Some p else None) (periods_of rows g)) + periods_count (Price h p ∷ rows) gs
    by true i = omega arith
    by false i = omega arith

counts_one : (rows : List TariffRow) (h : ℕ) (p : Period) (gs : List ℕ) → list_any (λ k. k == h) gs ≡ true → periods_count rows gs + 1 ≤ periods_count (Price h p ∷ rows) gs
counts_one rows h p [] k = absurd (true≢false (sym k))
counts_one rows h p (g ∷ gs) k = by (g == h) refl k (counts_one rows h p gs) (counts_same rows h p gs)
  where
    back : (g == h) ≡ true → (h == g) ≡ true
    back e = grind (arith, nat_tests)

    at : (b : Bool) → length (periods_of rows g) ≤ length (cons_option (if b then Some p else None) (periods_of rows g))
    at true = omega arith
    at false = omega arith

    by : (b : Bool) → (g == h) ≡ b → (b || list_any (λ k. k == h) gs) ≡ true → (list_any (λ k. k == h) gs ≡ true → periods_count rows gs + 1 ≤ periods_count (Price h p ∷ rows) gs) → periods_count rows gs ≤ periods_count (Price h p ∷ rows) gs → periods_count rows (g ∷ gs) + 1 ≤ periods_count (Price h p ∷ rows) (g ∷ gs)
    by true e i ih least = let l = ap (λ b. length (cons_option (if b then Some p else None) (periods_of rows g))) (back e) in omega (arith, l, least)
    by false e i ih least = let more = ih i in let l = at (h == g) in omega (arith, more, l)

prices_counted : (rows : List TariffRow) (gs : List ℕ) → list_all (is_known gs) rows ≡ true → length (filter_map price_in rows) ≤ periods_count rows gs
prices_counted [] gs known = omega arith
prices_counted (Group g t ∷ rows) gs known = subst (λ n. length (filter_map price_in rows) ≤ n) (sym (skipped gs)) (prices_counted rows gs known)
  where
    skipped : (gs : List ℕ) → periods_count (Group g t ∷ rows) gs ≡ periods_count rows gs
    skipped [] = refl
    skipped (k ∷ ks) = ap (λ n. length (periods_of rows k) + n) (skipped ks)
prices_counted (Price g p ∷ rows) gs known =
    let parts = both (list_any (λ k. k == g) gs) (list_all (is_known gs) rows) known in
    let ih = prices_counted rows gs parts.1 in
    let one = counts_one rows g p gs parts.0 in
    omega (arith, ih, one)

counted_most : (rows : List TariffRow) (gs : List ℕ) → ((g : ℕ) → length (periods_of rows g) ≤ 24) → periods_count rows gs ≤ 24 * length gs
counted_most rows [] few = omega arith
counted_most rows (g ∷ gs) few = let here = few g in let rest = counted_most rows gs few in omega (arith, here, rest)

rows_counted : (rows : List TariffRow) → length rows ≡ length (groups_of rows) + length (filter_map price_in rows)
rows_counted [] = refl
rows_counted (Group g t ∷ rows) = let rest = rows_counted rows in omega (arith, rest)
rows_counted (Price g p ∷ rows) = let rest = rows_counted rows in omega (arith, rest)

-- sound rows are at most 25 for each of at most 1,000 groups
pub few_rows : (rows : List TariffRow) → AreSound rows → length rows ≤ 25000
few_rows rows sound =
    let most = sound.most in
    let all = rows_counted rows in
    let prices = prices_counted rows (groups_of rows) sound.known in
    let counted = counted_most rows (groups_of rows) (λ g. (sound.few g).most) in
    omega (arith, most, all, prices, counted)
