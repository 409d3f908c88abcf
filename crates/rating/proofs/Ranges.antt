-- The ranges of the rows of a tariff.
use Rattle.std.proofs.Common.{◌≡◌, ℕ, ◌-◌, ◌^◌, ◌≤◌, ◌&&◌, Bool, true, false, List, [], ◌∷◌, nat_le, Option, Some, None, All, IfSome, if◌then◌else◌, option_and_then, option_map, slice_get, codes, nat_eq, refl, ap, subst, arith}
use Rattle.std.specs.List.{filter_map, cons_option}
use Rattle.std.specs.Cmp.Lexicographic.{pointwise}
use Rattle.std.specs.Str.Parse.{digits_value}
use Rattle.std.proofs.lemmas.Bool.Decides.{nat_tests}
use Rattle.std.proofs.lemmas.List.Elements.{All-nil, All-cons, All-head, All-tail, All-weaker}
use Rattle.rows.specs.Number.{number_of, is_numeral}
use Rattle.rating.specs.declared.terms.Terms.{Terms}
use Rattle.rating.specs.declared.period.Period.{Period}
use Rattle.rating.specs.declared.row.TariffRow.{TariffRow}
use Rattle.rating.specs.declared.row.TariffRow.TheVariants.{Group, Price}
use Rattle.units.specs.Words.{action_named}
use Rattle.rating.specs.declared.terms.Kind.{Kind}
use Rattle.rating.specs.Row.{IsInRange, IsSmall, AreSmall, most_chunk, kind_of, chunk_of, group_row, price_row, tariff_row}
use Rattle.rating.specs.Tariff.{GroupTariff, tariff, tariff_rows, terms_of, terms_in, periods, periods_by, periods_of, period_in}
use Rattle.rating.proofs.Steady.{AreOfDay}

and_then : {A B : Type 0} (o : Option A) (f : A → Option B) (P : B → Type 0) → ((x : A) → o ≡ Some x → IfSome (f x) P) → IfSome (option_and_then f o) P
and_then None f P h = tt
and_then (Some x) f P h = h x refl

number_most : (most : ℕ) (bytes : List ℕ) (n : ℕ) → number_of most bytes ≡ Some n → n ≤ most
number_most most bytes n h = by (is_numeral bytes) (nat_le (digits_value 10 bytes) most) refl h
  where
    by : (a b : Bool) → nat_le (digits_value 10 bytes) most ≡ b → (if a && b then Some (digits_value 10 bytes) else None) ≡ Some n → n ≤ most
    by true true e i = let same : digits_value 10 bytes ≡ n = cc in let l : digits_value 10 bytes ≤ most = grind (arith, nat_tests) in omega (arith, same, l)
    by true false e i = absurd (let f : None ≡ Some n = i in cc)
    by false b e i = absurd (let f : None ≡ Some n = i in cc)

price_small : (group : List ℕ) (rest : List (List ℕ)) → IfSome (price_row group rest) IsInRange
price_small group [] = tt
price_small group (a ∷ []) = tt
price_small group (a ∷ b ∷ []) = tt
price_small group (a ∷ b ∷ c ∷ []) = tt
price_small group (hour ∷ up ∷ down ∷ seconds ∷ []) =
    and_then (number_of (2 ^ 32 - 1) group) _ IsInRange (λ g eg. and_then (number_of 23 hour) _ IsInRange (λ h eh. and_then (number_of (2 ^ 32) up) _ IsInRange (λ u eu. and_then (number_of (2 ^ 32) down) _ IsInRange (λ d ed. and_then (number_of (2 ^ 32) seconds) _ IsInRange (λ s es.
    record { hour = number_most 23 hour h eh; up = number_most (2 ^ 32) up u eu; down = number_most (2 ^ 32) down d ed; seconds = number_most (2 ^ 32) seconds s es })))))
price_small group (a ∷ b ∷ c ∷ d ∷ e ∷ rest) = tt

chunk_most : (kind : Kind) (bytes : List ℕ) (n : ℕ) → chunk_of kind bytes ≡ Some n → n ≤ most_chunk kind
chunk_most kind bytes n h = by (number_of (most_chunk kind) bytes) refl h
  where
    of : (m : ℕ) → number_of (most_chunk kind) bytes ≡ Some m → (b : Bool) → (if b then None else Some m) ≡ Some n → n ≤ most_chunk kind
    of m e true i = absurd (let f : None ≡ Some n = i in cc)
    of m e false i = let same : m ≡ n = cc in let l = number_most (most_chunk kind) bytes m e in omega (arith, same, l)

    by : (o : Option ℕ) → number_of (most_chunk kind) bytes ≡ o → option_and_then (λ m. if nat_eq m 0 then None else Some m) o ≡ Some n → n ≤ most_chunk kind
    by None e i = absurd (let f : None ≡ Some n = i in cc)
    by (Some m) e i = of m e (nat_eq m 0) i

group_small : (group : List ℕ) (rest : List (List ℕ)) → IfSome (group_row group rest) IsInRange
group_small group [] = tt
group_small group (a ∷ []) = tt
group_small group (a ∷ b ∷ []) = tt
group_small group (a ∷ b ∷ c ∷ []) = tt
group_small group (a ∷ b ∷ c ∷ d ∷ []) = tt
group_small group (a ∷ b ∷ c ∷ d ∷ e ∷ []) = tt
group_small group (kind ∷ chunk ∷ threshold ∷ validity ∷ holding ∷ action ∷ []) =
    and_then (number_of (2 ^ 32 - 1) group) _ IsInRange (λ g eg. and_then (kind_of kind) _ IsInRange (λ k ek. and_then (chunk_of k chunk) _ IsInRange (λ c ec. and_then (number_of (2 ^ 32 - 1) threshold) _ IsInRange (λ t et. and_then (number_of 604800 validity) _ IsInRange (λ v ev. and_then (number_of 604800 holding) _ IsInRange (λ h eh. and_then (action_named action) _ IsInRange (λ a ea. tt)))))))
group_small group (a ∷ b ∷ c ∷ d ∷ e ∷ f ∷ g ∷ rest) = tt

-- the terms of a group row are in range
abbrev pub HasTerms : TariffRow → Type 0
HasTerms (Group group terms) = AreSmall terms
HasTerms (Price group period) = Unit {0}

price_terms : (group : List ℕ) (rest : List (List ℕ)) → IfSome (price_row group rest) HasTerms
price_terms group [] = tt
price_terms group (a ∷ []) = tt
price_terms group (a ∷ b ∷ []) = tt
price_terms group (a ∷ b ∷ c ∷ []) = tt
price_terms group (hour ∷ up ∷ down ∷ seconds ∷ []) =
    and_then (number_of (2 ^ 32 - 1) group) _ HasTerms (λ g eg. and_then (number_of 23 hour) _ HasTerms (λ h eh. and_then (number_of (2 ^ 32) up) _ HasTerms (λ u eu. and_then (number_of (2 ^ 32) down) _ HasTerms (λ d ed. and_then (number_of (2 ^ 32) seconds) _ HasTerms (λ s es. tt)))))
price_terms group (a ∷ b ∷ c ∷ d ∷ e ∷ rest) = tt

group_terms : (group : List ℕ) (rest : List (List ℕ)) → IfSome (group_row group rest) HasTerms
group_terms group [] = tt
group_terms group (a ∷ []) = tt
group_terms group (a ∷ b ∷ []) = tt
group_terms group (a ∷ b ∷ c ∷ []) = tt
group_terms group (a ∷ b ∷ c ∷ d ∷ []) = tt
group_terms group (a ∷ b ∷ c ∷ d ∷ e ∷ []) = tt
group_terms group (kind ∷ chunk ∷ threshold ∷ validity ∷ holding ∷ action ∷ []) =
    and_then (number_of (2 ^ 32 - 1) group) _ HasTerms (λ g eg. and_then (kind_of kind) _ HasTerms (λ k ek. and_then (chunk_of k chunk) _ HasTerms (λ c ec. and_then (number_of (2 ^ 32 - 1) threshold) _ HasTerms (λ t et. and_then (number_of 604800 validity) _ HasTerms (λ v ev. and_then (number_of 604800 holding) _ HasTerms (λ h eh. and_then (action_named action) _ HasTerms (λ a ea.
    record { chunk = chunk_most k chunk c ec; threshold = number_most (2 ^ 32 - 1) threshold t et; validity = number_most 604800 validity v ev; holding = number_most 604800 holding h eh })))))))
group_terms group (a ∷ b ∷ c ∷ d ∷ e ∷ f ∷ g ∷ rest) = tt

-- what holds of group rows and of price rows holds of each row
row_by : (P : TariffRow → Type 0) → ((group : List ℕ) (rest : List (List ℕ)) → IfSome (group_row group rest) P)
    → ((group : List ℕ) (rest : List (List ℕ)) → IfSome (price_row group rest) P)
    → (fields : List (List ℕ)) → IfSome (tariff_row fields) P
row_by P of_group of_price [] = tt
row_by P of_group of_price (a ∷ []) = tt
row_by P of_group of_price (word ∷ group ∷ rest) = by (pointwise nat_eq word (codes "group")) (pointwise nat_eq word (codes "price")) (of_group group rest) (of_price group rest)
  where
    by : (a b : Bool) → IfSome (group_row group rest) P → IfSome (price_row group rest) P → IfSome (if a then group_row group rest else (if b then price_row group rest else None)) P
    by true b g p = g
    by false true g p = p
    by false false g p = tt

pub row_small : (fields : List (List ℕ)) → IfSome (tariff_row fields) IsInRange
row_small fields = row_by IsInRange group_small price_small fields

-- what holds of each item that is given holds of all
all_given : {X Y : Type 0} (h : X → Option Y) (Q : X → Type 0) (P : Y → Type 0) → ((x : X) → Q x → IfSome (h x) P) → (xs : List X) → All Q xs → All P (filter_map h xs)
all_given h Q P each [] all = All-nil P
all_given h Q P each (x ∷ xs) all = by (h x) (each x (All-head Q x xs all)) (all_given h Q P each xs (All-tail Q x xs all))
  where
    by : (o : Option _) → IfSome o P → All P (filter_map h xs) → All P (cons_option o (filter_map h xs))
    by None i rest = rest
    by (Some y) i rest = All-cons P y (filter_map h xs) i rest

rows_small : (rows : List (List (List ℕ))) → All IsInRange (tariff_rows rows)
rows_small rows = all_given tariff_row (λ fields. Unit {0}) IsInRange (λ fields u. row_small fields) rows (λ k d l. tt)

period_small : (g : ℕ) (r : TariffRow) → IsInRange r → IfSome (period_in g r) IsSmall
period_small g (Group h t) small = tt
period_small g (Price h p) small = by (nat_eq h g)
  where
    by : (b : Bool) → IfSome (if b then Some p else None) IsSmall
    by true = small
    by false = tt

-- each period of a group is in range
pub periods_small : (rows : List (List (List ℕ))) (g : ℕ) → All IsSmall (periods rows g)
periods_small rows g = by (terms_of (tariff_rows rows) g)
  where
    of : All IsSmall (periods_of (tariff_rows rows) g)
    of = all_given (period_in g) IsInRange IsSmall (period_small g) (tariff_rows rows) (rows_small rows)

    by : (o : Option Terms) → All IsSmall (periods_by (option_map (λ ts. record { terms = ts; periods = periods_of (tariff_rows rows) g }) o))
    by None = All-nil IsSmall
    by (Some ts) = of

pub periods_of_day : (rows : List (List (List ℕ))) (g : ℕ) → AreOfDay (periods rows g)
periods_of_day rows g = All-weaker IsSmall (λ (p : Period). p.hour ≤ 23) (λ p s. s.hour) (periods rows g) (periods_small rows g)

terms_small : (g : ℕ) (r : TariffRow) → HasTerms r → IfSome (terms_in g r) AreSmall
terms_small g (Price h p) small = tt
terms_small g (Group h ts) small = by (nat_eq h g)
  where
    by : (b : Bool) → IfSome (if b then Some ts else None) AreSmall
    by true = small
    by false = tt

first_of : (l : List Terms) (ts : Terms) → All AreSmall l → slice_get l 0 ≡ Some ts → AreSmall ts
first_of [] ts all e = absurd (cc)
first_of (x ∷ l) ts all e = let same : x ≡ ts = cc in subst AreSmall same (All-head AreSmall x l all)

rows_terms : (rows : List (List (List ℕ))) → All HasTerms (tariff_rows rows)
rows_terms rows =
    all_given tariff_row (λ fields. Unit {0}) HasTerms (λ fields u. row_by HasTerms group_terms price_terms fields) rows
    (λ k d l. tt)

-- the terms of a group are in range
pub group_terms_small : (rows : List (List (List ℕ))) (g : ℕ) (t : GroupTariff) → tariff rows g ≡ Some t → AreSmall t.terms
group_terms_small rows g t e = by (terms_of (tariff_rows rows) g) refl e
  where
    by : (o : Option Terms) → terms_of (tariff_rows rows) g ≡ o
        → option_map (λ ts. record { terms = ts; periods = periods_of (tariff_rows rows) g }) o ≡ Some t → AreSmall t.terms
    by None f i = absurd (let w : None ≡ Some t = i in cc)
    by (Some ts) f i =
        let same : record { terms = ts; periods = periods_of (tariff_rows rows) g } ≡ t = cc in
        let whole : ts ≡ t.terms = ap (λ (x : GroupTariff). x.terms) same in
        subst AreSmall whole
        (first_of (filter_map (terms_in g) (tariff_rows rows)) ts
        (all_given (terms_in g) HasTerms AreSmall (terms_small g) (tariff_rows rows) (rows_terms rows)) f)
