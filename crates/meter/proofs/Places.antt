-- How many groups there are, and that there are at most 16.
use Rattle.std.proofs.Common.{◌≡◌, ◌≢◌, ◌==◌, ℕ, ◌+◌, ◌<◌, ◌≤◌, ◌||◌, nat_lt, ◌⊎◌, inl, inr, Bool, true, false, not, cond, List, [], ◌∷◌, ◌++◌, length, map, fold, filter, refl, sym, ◌∙◌, ap, arith, eq-eqb, Option, Some, None, is_some, is_none}
use Rattle.std.specs.List.{list_any, position, count_by, find}
use Rattle.std.proofs.lemmas.Bool.Decides.{nat_tests}
use Rattle.std.proofs.lemmas.Bool.{eqb-true}
use Rattle.std.proofs.lemmas.List.{length-append, map-append, length-map}
use Rattle.std.proofs.lemmas.List.Folds.{list_any-append}
use Rattle.std.proofs.lemmas.List.Sums.{fold-append, sum_by-cons}
use mathlib.Core.Bool.{true≢false}
use Rattle.units.specs.declared.report.Container.{Container}
use Rattle.meter.specs.declared.counts.GroupCount.{GroupCount}
use Rattle.meter.specs.declared.horizon.Horizon.{Horizon}
use Rattle.meter.specs.Meter.{Contents, groups_of, is_in, with_group, with_horizon, HasPlaceFor}
use Rattle.meter.specs.Caches.{AreDistinct}
use Rattle.meter.proofs.Finds.{position_finds, list_any-map}
use Rattle.meter.proofs.Groups.{is_in-with_group, is_in-fold, distinct-fold}
use Rattle.meter.proofs.Lasts.{not_eq}

-- without one number
abbrev without : ℕ → List ℕ → List ℕ
without x ys = filter (λ y. not (y == x)) ys

short : (x : ℕ) (ys : List ℕ) → length (without x ys) ≤ length ys
short x [] = omega arith
short x (y ∷ ys) = let h = short x ys in by (y == x) h
  where
    by : (b : Bool) → length (without x ys) ≤ length ys → length (cond (not b) (y ∷ without x ys) (without x ys)) ≤ length (y ∷ ys)
    by true h = omega arith
    by false h = omega arith

shorter : (x : ℕ) (ys : List ℕ) → is_in x ys ≡ true → length (without x ys) + 1 ≤ length ys
shorter x [] h = cc
shorter x (y ∷ ys) h = by (y == x) h (short x ys) (λ e. shorter x ys e)
  where
    by : (b : Bool) → (b || is_in x ys) ≡ true → length (without x ys) ≤ length ys → (is_in x ys ≡ true → length (without x ys) + 1 ≤ length ys) → length (cond (not b) (y ∷ without x ys) (without x ys)) + 1 ≤ length (y ∷ ys)
    by true h le more = omega arith
    by false h le more = let m = more h in omega arith

still_in : (g x : ℕ) (ys : List ℕ) → g ≢ x → is_in g ys ≡ true → is_in g (without x ys) ≡ true
still_in g x [] n h = cc
still_in g x (y ∷ ys) n h = by (y == x) refl (y == g) refl h (λ e. still_in g x ys n e)
  where
    by : (b : Bool) → (y == x) ≡ b → (c : Bool) → (y == g) ≡ c → (c || is_in g ys) ≡ true → (is_in g ys ≡ true → is_in g (without x ys) ≡ true) → is_in g (cond (not b) (y ∷ without x ys) (without x ys)) ≡ true
    by true e true f h more = absurd (n (sym (eqb-true y g f) ∙ eqb-true y x e))
    by true e false f h more = more h
    by false e true f h more = rw f refl
    by false e false f h more = rw f (more h)

-- each of the first list once, and all in the second: the first is no longer
pub fewer : (xs ys : List ℕ) → AreDistinct xs → ((g : ℕ) → is_in g xs ≡ true → is_in g ys ≡ true) → length xs ≤ length ys
fewer [] ys apart all = omega arith
fewer (x ∷ xs) ys apart all =
    let there : is_in x ys ≡ true = all x (rw (eq-eqb x x refl) refl) in
    let rest = fewer xs (without x ys) apart.1 (λ g h.
    let other : g ≢ x = λ e. true≢false (sym h ∙ ap (λ k. is_in k xs) e ∙ apart.0) in
    still_in g x ys other (all g (or_right (x == g) (is_in g xs) h))) in
    let one = shorter x ys there in
    omega (arith, rest, one)
  where
    or_right : (a b : Bool) → b ≡ true → (a || b) ≡ true
    or_right true b h = refl
    or_right false b h = h

-- the groups, with one more container or horizon
abbrev container_groups : List Container → List ℕ
container_groups cs = map (λ c. c.group) cs

abbrev horizon_groups : List Horizon → List ℕ
horizon_groups hs = map (λ h. h.group) hs

in_all : (g : ℕ) (xs bs : List ℕ) → is_in g (fold with_group [] (xs ++ bs)) ≡ (is_in g xs || is_in g bs)
in_all g xs bs = is_in-fold g [] (xs ++ bs) ∙ list_any-append (λ h. h == g) xs bs

with_place : (gs : List ℕ) (g : ℕ) → length gs ≤ 16 → (is_in g gs ≡ true) ⊎ (length gs < 16) → length (with_group gs g) ≤ 16
with_place gs g le place = by (is_in g gs) place
  where
    by : (b : Bool) → (b ≡ true) ⊎ (length gs < 16) → length (cond b gs (gs ++ g ∷ [])) ≤ 16
    by true p = le
    by false p = let long = length-append gs (g ∷ []) in elim p as (λ q. length (gs ++ g ∷ []) ≤ 16) [ inl e ↦ absurd (true≢false (sym e)) | inr l ↦ omega (arith, long) ]

-- the groups of two lists, with a group more in the first or the second, fit
grows_within : (xs bs cs : List ℕ) (g : ℕ) → ((h : ℕ) → is_in h cs ≡ true → (is_in h (xs ++ bs) || (g == h)) ≡ true) → length (fold with_group [] (xs ++ bs)) ≤ 16 → (is_in g (fold with_group [] (xs ++ bs)) ≡ true) ⊎ (length (fold with_group [] (xs ++ bs)) < 16) → length (fold with_group [] cs) ≤ 16
grows_within xs bs cs g all le place =
    let fits = with_place (fold with_group [] (xs ++ bs)) g le place in
    let few = fewer (fold with_group [] cs) (with_group (fold with_group [] (xs ++ bs)) g) (distinct-fold [] cs tt) (λ h e.
    is_in-with_group h g (fold with_group [] (xs ++ bs)) ∙ ap (λ b. b || (g == h)) (is_in-fold h [] (xs ++ bs)) ∙ all h (sym (is_in-fold h [] cs) ∙ e)) in
    omega (arith, fits, few)

middle_in : (h g : ℕ) (xs bs : List ℕ) → is_in h ((xs ++ g ∷ []) ++ bs) ≡ true → (is_in h (xs ++ bs) || (g == h)) ≡ true
middle_in h g xs bs e =
    let one = list_any-append (λ k. k == h) (xs ++ g ∷ []) bs in
    let two = list_any-append (λ k. k == h) xs (g ∷ []) in
    let three = list_any-append (λ k. k == h) xs bs in
    grind (arith, e, one, two, three)

pub places_opened : (s : Contents) (c : Container) → length (groups_of s) ≤ 16 → HasPlaceFor s c.group → length (groups_of (record s { containers = s.containers ++ c ∷ [] })) ≤ 16
places_opened s c le place =
    grows_within (container_groups s.containers) (horizon_groups s.horizons) (container_groups (s.containers ++ c ∷ []) ++ horizon_groups s.horizons) c.group
    (λ h e. middle_in h c.group (container_groups s.containers) (horizon_groups s.horizons) (ap (λ l. is_in h (l ++ horizon_groups s.horizons)) (sym (map-append (λ (k : Container). k.group) s.containers (c ∷ []))) ∙ e))
    le place

in_with_horizon : (h : ℕ) (hs : List Horizon) (k : Horizon) → is_in h (horizon_groups (with_horizon hs k)) ≡ (is_in h (horizon_groups hs) || (k.group == h))
in_with_horizon h [] k = grind arith
in_with_horizon h (j ∷ js) k = by (j.group == k.group) refl (in_with_horizon h js k)
  where
    by : (b : Bool) → (j.group == k.group) ≡ b → is_in h (horizon_groups (with_horizon js k)) ≡ (is_in h (horizon_groups js) || (k.group == h)) → is_in h (horizon_groups (cond b (k ∷ js) (j ∷ with_horizon js k))) ≡ (is_in h (horizon_groups (j ∷ js)) || (k.group == h))
    by true e more = let same = ap (λ g. g == h) (eqb-true j.group k.group e) in grind (arith, same)
    by false e more = grind (arith, more)

pub places_horizon : (s : Contents) (k : Horizon) → length (groups_of s) ≤ 16 → HasPlaceFor s k.group → length (groups_of (record s { horizons = with_horizon s.horizons k })) ≤ 16
places_horizon s k le place =
    let xs : List ℕ = container_groups s.containers in
    let bs : List ℕ = horizon_groups s.horizons in
    grows_within xs bs (xs ++ horizon_groups (with_horizon s.horizons k)) k.group
    (λ h e.
    let one = list_any-append (λ j. j == h) xs (horizon_groups (with_horizon s.horizons k)) in
    let two = list_any-append (λ j. j == h) xs bs in
    let three = in_with_horizon h s.horizons k in
    grind (arith, e, one, two, three))
    le place

pub distinct_horizons : (hs : List Horizon) (k : Horizon) → AreDistinct (map (λ h. h.group) hs) → AreDistinct (map (λ h. h.group) (with_horizon hs k))
distinct_horizons [] k apart = (refl, tt)
distinct_horizons (j ∷ js) k apart = by (j.group == k.group) refl (distinct_horizons js k apart.1)
  where
    by : (b : Bool) → (j.group == k.group) ≡ b → AreDistinct (horizon_groups (with_horizon js k)) → AreDistinct (horizon_groups (cond b (k ∷ js) (j ∷ with_horizon js k)))
    by true e more = (ap (λ g. is_in g (horizon_groups js)) (sym (eqb-true j.group k.group e)) ∙ apart.0, apart.1)
    by false e more =
        let away : (k.group == j.group) ≡ false = not_eq k.group j.group (λ is. true≢false (sym (eq-eqb j.group k.group (sym is)) ∙ e)) in
        (in_with_horizon j.group js k ∙ grind (arith, away, apart.0), more)

-- a horizon of a group that has none leaves a place among 16
pub horizon_place : (s : Contents) (g : ℕ) → AreDistinct (map (λ h. h.group) s.horizons) → length (groups_of s) ≤ 16 → HasPlaceFor s g → is_in g (map (λ h. h.group) s.horizons) ≡ false → length s.horizons < 16
horizon_place s g apart le place none =
    let gs : List ℕ = groups_of s in
    let fits = with_place gs g le place in
    let few = fewer (g ∷ horizon_groups s.horizons) (with_group gs g) (none, apart) (λ h e.
    is_in-with_group h g gs ∙ ap (λ b. b || (g == h)) (in_all h (container_groups s.containers) (horizon_groups s.horizons)) ∙ grind (arith, e)) in
    let long = length-map s.horizons (λ (h : Horizon). h.group) in
    omega (arith, fits, few, long)

-- how many groups there are: those with a container, and the horizons of others
skipped : (cs : List ℕ) (b : ℕ) (hs : List Horizon) → is_in b (horizon_groups hs) ≡ false → count_by (λ h. not (is_in h.group (with_group cs b))) hs ≡ count_by (λ h. not (is_in h.group cs)) hs
skipped cs b [] none = refl
skipped cs b (h ∷ hs) none =
    let rest = skipped cs b hs (grind (arith, none)) in
    let apart : (b == h.group) ≡ false = not_eq b h.group (λ e. let t = eq-eqb h.group b (sym e) in grind (arith, t, none)) in
    let same : is_in h.group (with_group cs b) ≡ is_in h.group cs = is_in-with_group h.group b cs ∙ grind (arith, apart) in
    let one = sum_by-cons (λ (k : Horizon). cond (not (is_in k.group (with_group cs b))) 1 0) h hs in
    let two = sum_by-cons (λ (k : Horizon). cond (not (is_in k.group cs)) 1 0) h hs in
    one ∙ ap (λ t. cond (not t) 1 0 + count_by (λ (k : Horizon). not (is_in k.group (with_group cs b))) hs) same ∙ ap (λ n. cond (not (is_in h.group cs)) 1 0 + n) rest ∙ sym two

counted_groups : (cs : List ℕ) (hs : List Horizon) → AreDistinct (horizon_groups hs) → length (fold with_group cs (horizon_groups hs)) ≡ length cs + count_by (λ h. not (is_in h.group cs)) hs
counted_groups cs [] apart = omega arith
counted_groups cs (h ∷ hs) apart =
    let rest = counted_groups (with_group cs h.group) hs apart.1 in
    let same = skipped cs h.group hs apart.0 in
    let one = sum_by-cons (λ (k : Horizon). cond (not (is_in k.group cs)) 1 0) h hs in
    let grown : length (with_group cs h.group) ≡ length cs + cond (not (is_in h.group cs)) 1 0 = longer (is_in h.group cs) in
    omega (arith, rest, same, one, grown)
  where
    longer : (b : Bool) → length (cond b cs (cs ++ h.group ∷ [])) ≡ length cs + cond (not b) 1 0
    longer true = omega arith
    longer false = length-append cs (h.group ∷ [])

none_is : (g : ℕ) (ks : List GroupCount) → is_none (position (λ k. k.group == g) ks) ≡ not (is_in g (map (λ k. k.group) ks))
none_is g ks = negated (position (λ k. k.group == g) ks) ∙ ap not (position_finds (λ (k : GroupCount). k.group == g) ks ∙ sym (list_any-map (λ h. h == g) (λ (k : GroupCount). k.group) ks))
  where
    negated : (o : Option ℕ) → is_none o ≡ not (is_some o)
    negated None = refl
    negated (Some n) = refl

same_count : (hs : List Horizon) (ks : List GroupCount) → count_by (λ h. is_none (position (λ g. g.group == h.group) ks)) hs ≡ count_by (λ h. not (is_in h.group (map (λ k. k.group) ks))) hs
same_count [] ks = refl
same_count (h ∷ hs) ks =
    let rest = same_count hs ks in
    let one = sum_by-cons (λ (k : Horizon). cond (is_none (position (λ (g : GroupCount). g.group == k.group) ks)) 1 0) h hs in
    let two = sum_by-cons (λ (k : Horizon). cond (not (is_in k.group (map (λ (j : GroupCount). j.group) ks))) 1 0) h hs in
    one ∙ ap (λ t. cond t 1 0 + count_by (λ (k : Horizon). is_none (position (λ (g : GroupCount). g.group == k.group) ks)) hs) (none_is h.group ks) ∙ ap (λ n. cond (not (is_in h.group (map (λ (j : GroupCount). j.group) ks))) 1 0 + n) rest ∙ sym two

pub group_number : (s : Contents) (ks : List GroupCount) → map (λ g. g.group) ks ≡ fold with_group [] (map (λ c. c.group) s.containers) → AreDistinct (map (λ h. h.group) s.horizons)
    → length (groups_of s) ≡ length ks + count_by (λ h. is_none (position (λ g. g.group == h.group) ks)) s.horizons
group_number s ks e apart =
    let all = fold-append with_group [] (container_groups s.containers) (horizon_groups s.horizons) ∙ ap (λ l. fold with_group l (horizon_groups s.horizons)) (sym e) in
    let counted = counted_groups (map (λ k. k.group) ks) s.horizons apart in
    let long = length-map ks (λ (k : GroupCount). k.group) in
    ap length all ∙ counted ∙ ap (λ n. n + count_by (λ (h : Horizon). not (is_in h.group (map (λ (k : GroupCount). k.group) ks))) s.horizons) long ∙ ap (λ n. length ks + n) (sym (same_count s.horizons ks))

-- which groups there are
pub group_there : (s : Contents) (ks : List GroupCount) (g : ℕ) → map (λ k. k.group) ks ≡ fold with_group [] (map (λ c. c.group) s.containers)
    → is_in g (groups_of s) ≡ (is_some (position (λ k. k.group == g) ks) || is_some (find (λ h. h.group == g) s.horizons))
group_there s ks g e =
    let all = in_all g (container_groups s.containers) (horizon_groups s.horizons) in
    let counted : is_some (position (λ k. k.group == g) ks) ≡ is_in g (container_groups s.containers) =
    position_finds (λ (k : GroupCount). k.group == g) ks ∙ sym (list_any-map (λ h. h == g) (λ (k : GroupCount). k.group) ks) ∙ ap (λ gs. is_in g gs) e ∙ is_in-fold g [] (container_groups s.containers) in
    let set : is_some (find (λ h. h.group == g) s.horizons) ≡ is_in g (horizon_groups s.horizons) = found s.horizons ∙ sym (list_any-map (λ h. h == g) (λ (h : Horizon). h.group) s.horizons) in
    all ∙ ap (λ b. b || is_in g (horizon_groups s.horizons)) (sym counted) ∙ ap (λ b. is_some (position (λ (k : GroupCount). k.group == g) ks) || b) (sym set)
  where
    found : (hs : List Horizon) → is_some (find (λ h. h.group == g) hs) ≡ list_any (λ h. h.group == g) hs
    found [] = refl
    found (h ∷ hs) = by (h.group == g) (found hs)
      where
        by : (b : Bool) → is_some (find (λ h. h.group == g) hs) ≡ list_any (λ h. h.group == g) hs → is_some (cond b (Some h) (find (λ h. h.group == g) hs)) ≡ (b || list_any (λ h. h.group == g) hs)
        by true e = refl
        by false e = e

-- room for a report is room for 16 horizons
pub horizons_fit : (capacity reports : ℕ) → 0 < cond (nat_lt capacity 16) 0 reports → 16 ≤ capacity
horizons_fit capacity reports room = by (nat_lt capacity 16) refl room
  where
    by : (b : Bool) → nat_lt capacity 16 ≡ b → 0 < cond b 0 reports → 16 ≤ capacity
    by true e r = absurd (omega arith)
    by false e r = grind (arith, nat_tests, e)
