-- One row more: the tariffs and the groups of the rows that were read.
use Rattle.std.proofs.Common.{◌≡◌, ℕ, ◌==◌, ◌&&◌, ◌||◌, Bool, true, false, List, [], ◌∷◌, ◌++◌, Option, Some, None, is_none, is_some, if◌then◌else◌, option_map, refl, sym, ◌∙◌, ap}
use mathlib.Core.Bool.{true≢false}
use Rattle.std.specs.List.{list_all, list_any, filter_map, cons_option, slice_get}
use Rattle.std.specs.Option.{option_or}
use Rattle.std.proofs.lemmas.List.Elements.{filter_map-append}
use Rattle.rating.specs.declared.terms.Terms.{Terms}
use Rattle.rating.specs.declared.period.Period.{Period}
use Rattle.rating.specs.declared.row.TariffRow.{TariffRow}
use Rattle.rating.specs.declared.row.TariffRow.TheVariants.{Group, Price}
use Rattle.rating.specs.Tariff.{GroupTariff, extended, tariff_of, terms_of, periods_of, terms_in, period_in}
use Rattle.rating.specs.Grammar.{groups_of, group_in}
use Rattle.rating.specs.Caches.{is_known, AreSound}
use Rattle.rating.proofs.Numbers.{is_eq}

first_append : {X : Type 0} (xs ys : List X) → slice_get (xs ++ ys) 0 ≡ option_or (slice_get xs 0) (slice_get ys 0)
first_append [] ys = refl
first_append (x ∷ xs) ys = refl

first_option : {X : Type 0} (o : Option X) → slice_get (cons_option o []) 0 ≡ o
first_option None = refl
first_option (Some x) = refl

or_none : {X : Type 0} (o : Option X) → option_or o None ≡ o
or_none None = refl
or_none (Some x) = refl

pub append_none : {X : Type 0} (xs : List X) → xs ++ [] ≡ xs
append_none [] = refl
append_none (x ∷ xs) = ap (λ ys. x ∷ ys) (append_none xs)

-- the terms and periods of a group with one row more
pub terms_push : (rows : List TariffRow) (r : TariffRow) (q : ℕ) → terms_of (rows ++ r ∷ []) q ≡ option_or (terms_of rows q) (terms_in q r)
terms_push rows r q = ap (λ xs. slice_get xs 0) (filter_map-append (terms_in q) rows (r ∷ [])) ∙ first_append (filter_map (terms_in q) rows) (cons_option (terms_in q r) []) ∙ ap (option_or (terms_of rows q)) (first_option (terms_in q r))

pub periods_push : (rows : List TariffRow) (r : TariffRow) (q : ℕ) → periods_of (rows ++ r ∷ []) q ≡ periods_of rows q ++ cons_option (period_in q r) []
periods_push rows r q = filter_map-append (period_in q) rows (r ∷ [])

pub groups_push : (rows : List TariffRow) (r : TariffRow) → groups_of (rows ++ r ∷ []) ≡ groups_of rows ++ cons_option (group_in r) []
groups_push rows r = filter_map-append group_in rows (r ∷ [])

-- a group has terms where it is among the groups
pub terms_known : (rows : List TariffRow) (g : ℕ) → is_some (terms_of rows g) ≡ list_any (λ h. h == g) (groups_of rows)
terms_known [] g = refl
terms_known (Price h p ∷ rows) g = terms_known rows g
terms_known (Group h t ∷ rows) g = by (h == g) refl (terms_known rows g)
  where
    by : (b : Bool) → (h == g) ≡ b → is_some (terms_of rows g) ≡ list_any (λ h. h == g) (groups_of rows) → is_some (slice_get (cons_option (if b then Some t else None) (filter_map (terms_in g) rows)) 0) ≡ (b || list_any (λ h. h == g) (groups_of rows))
    by true e i = refl
    by false e i = i

-- a group that is not among the groups has no period, where each price row's group is among them
pub unknown_none : (gs : List ℕ) (rows : List TariffRow) (g : ℕ) → list_all (is_known gs) rows ≡ true → list_any (λ h. h == g) gs ≡ false → periods_of rows g ≡ []
unknown_none gs [] g all unknown = refl
unknown_none gs (Group h t ∷ rows) g all unknown = unknown_none gs rows g all unknown
unknown_none gs (Price h p ∷ rows) g all unknown = by (h == g) refl (list_any (λ k. k == h) gs) refl all (λ rest. unknown_none gs rows g rest unknown)
  where
    by : (b : Bool) → (h == g) ≡ b → (c : Bool) → list_any (λ k. k == h) gs ≡ c → (c && list_all (is_known gs) rows) ≡ true → (list_all (is_known gs) rows ≡ true → periods_of rows g ≡ []) → cons_option (if b then Some p else None) (periods_of rows g) ≡ []
    by b e false f a ih = absurd (true≢false (sym a))
    by false e true f a ih = ih a
    by true e true f a ih = absurd (true≢false (sym f ∙ ap (λ k. list_any (λ h. h == k) gs) (is_eq h g e) ∙ unknown))

some_not : {X : Type 0} (o : Option X) → o ≡ None → is_some o ≡ false
some_not o e = rw e refl

-- a new group's tariff has its terms and no period
pub tariff_group : (rows : List TariffRow) (g : ℕ) (t : Terms) (q : ℕ) → AreSound rows → terms_of rows g ≡ None → tariff_of (rows ++ Group g t ∷ []) q ≡ (if g == q then Some (record { terms = t; periods = [] }) else tariff_of rows q)
tariff_group rows g t q sound new = by (g == q) refl
  where
    none : periods_of rows g ≡ []
    none = unknown_none (groups_of rows) rows g sound.known (sym (terms_known rows g) ∙ some_not (terms_of rows g) new)

    by : (b : Bool) → (g == q) ≡ b → tariff_of (rows ++ Group g t ∷ []) q ≡ (if b then Some (record { terms = t; periods = [] }) else tariff_of rows q)
    by true e =
        let same : g ≡ q = is_eq g q e in
        let terms : terms_of (rows ++ Group g t ∷ []) q ≡ Some t = terms_push rows (Group g t) q ∙ ap (λ b. option_or (terms_of rows q) (if b then Some t else None)) e ∙ ap (λ o. option_or o (Some t)) (ap (terms_of rows) (sym same) ∙ new) in
        let periods : periods_of (rows ++ Group g t ∷ []) q ≡ [] = periods_push rows (Group g t) q ∙ append_none (periods_of rows q) ∙ ap (periods_of rows) (sym same) ∙ none in
        (λ i. option_map (λ ts. record { terms = ts; periods = periods i }) (terms i))
    by false e =
        let terms : terms_of (rows ++ Group g t ∷ []) q ≡ terms_of rows q = terms_push rows (Group g t) q ∙ ap (λ b. option_or (terms_of rows q) (if b then Some t else None)) e ∙ or_none (terms_of rows q) in
        let periods : periods_of (rows ++ Group g t ∷ []) q ≡ periods_of rows q = periods_push rows (Group g t) q ∙ append_none (periods_of rows q) in
        (λ i. option_map (λ ts. record { terms = ts; periods = periods i }) (terms i))

extended_map : (o : Option Terms) (ps : List Period) (p : Period) → option_map (λ (ts : Terms). record { terms = ts; periods = ps ++ p ∷ [] }) o ≡ extended (option_map (λ ts. record { terms = ts; periods = ps }) o) p
extended_map None ps p = refl
extended_map (Some t) ps p = refl

-- a price row adds a period to its group's tariff
pub tariff_price : (rows : List TariffRow) (g : ℕ) (p : Period) (q : ℕ) → tariff_of (rows ++ Price g p ∷ []) q ≡ (if g == q then extended (tariff_of rows g) p else tariff_of rows q)
tariff_price rows g p q = by (g == q) refl
  where
    terms : terms_of (rows ++ Price g p ∷ []) q ≡ terms_of rows q
    terms = terms_push rows (Price g p) q ∙ or_none (terms_of rows q)

    by : (b : Bool) → (g == q) ≡ b → tariff_of (rows ++ Price g p ∷ []) q ≡ (if b then extended (tariff_of rows g) p else tariff_of rows q)
    by true e =
        let same : g ≡ q = is_eq g q e in
        let periods : periods_of (rows ++ Price g p ∷ []) q ≡ periods_of rows q ++ p ∷ [] = periods_push rows (Price g p) q ∙ ap (λ b. periods_of rows q ++ cons_option (if b then Some p else None) []) e in
        (λ i. option_map (λ ts. record { terms = ts; periods = periods i }) (terms i)) ∙ extended_map (terms_of rows q) (periods_of rows q) p ∙ ap (λ k. extended (tariff_of rows k) p) (sym same)
    by false e =
        let periods : periods_of (rows ++ Price g p ∷ []) q ≡ periods_of rows q = periods_push rows (Price g p) q ∙ ap (λ b. periods_of rows q ++ cons_option (if b then Some p else None) []) e ∙ append_none (periods_of rows q) in
        (λ i. option_map (λ ts. record { terms = ts; periods = periods i }) (terms i))

-- no tariff, no terms
pub no_terms : (rows : List TariffRow) (g : ℕ) → is_none (tariff_of rows g) ≡ true → terms_of rows g ≡ None
no_terms rows g h = by (terms_of rows g) h
  where
    by : (o : Option Terms) → is_none {T = GroupTariff} (option_map (λ ts. record { terms = ts; periods = periods_of rows g }) o) ≡ true → o ≡ None
    by None i = refl
    by (Some ts) i = absurd (true≢false (sym i))
