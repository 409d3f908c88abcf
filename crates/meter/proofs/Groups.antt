-- Groups: which there are, and what is counted of each.
use Rattle.std.proofs.Common.{◌≡◌, ◌≢◌, ◌==◌, ℕ, suc, zero, ◌+◌, ◌<◌, ◌||◌, Bool, true, false, cond, List, [], ◌∷◌, ◌++◌, length, map, fold, get_or, set, refl, sym, ◌∙◌, ap, arith, Some, None, is_some, eq-eqb}
use Rattle.std.specs.List.{find, list_any, position, AllByRecursion}
use Rattle.std.proofs.lemmas.Bool.Decides.{nat_tests}
use Rattle.std.proofs.lemmas.Bool.{eqb-true}
use Rattle.std.proofs.lemmas.List.Folds.{list_any-append}
use Rattle.units.specs.Cut.{containers_of}
use Rattle.units.specs.declared.report.Container.{Container}
use Rattle.meter.specs.declared.counts.GroupCount.{GroupCount}
use Rattle.meter.specs.declared.horizon.Horizon.{Horizon}
use Rattle.meter.specs.Meter.{group_total, is_in, with_group, with_horizon}
use Rattle.std.proofs.lemmas.List.Quantifiers.{position-Some}
use Rattle.meter.specs.Caches.{AreDistinct, counted_on, IsCountOf}
use Rattle.meter.proofs.Finds.{position_finds, list_any-map}

-- membership
pub is_in-with_group : (g h : ℕ) (gs : List ℕ) → is_in g (with_group gs h) ≡ (is_in g gs || (h == g))
is_in-with_group g h gs =
    let same : (h == g) ≡ true → is_in h gs ≡ is_in g gs = λ t. ap (λ k. is_in k gs) (eqb-true h g t) in
    let more = list_any-append (λ x. x == g) gs (h ∷ []) in
    grind (arith, same, more)

pub is_in-fold : (g : ℕ) (gs hs : List ℕ) → is_in g (fold with_group gs hs) ≡ (is_in g gs || is_in g hs)
is_in-fold g gs [] = grind arith
is_in-fold g gs (h ∷ hs) = let e = is_in-fold g (with_group gs h) hs in let k = is_in-with_group g h gs in grind (arith, e, k)

-- each group once
pub distinct-append : (gs : List ℕ) (h : ℕ) → AreDistinct gs → is_in h gs ≡ false → AreDistinct (gs ++ h ∷ [])
distinct-append [] h a n = (refl, tt)
distinct-append (g ∷ gs) h a n =
    let apart : (h == g) ≡ false = grind (arith, nat_tests, n) in
    (list_any-append (λ x. x == g) gs (h ∷ []) ∙ grind (arith, nat_tests, a.0, apart), distinct-append gs h a.1 (grind (arith, n)))

pub distinct-with_group : (gs : List ℕ) (h : ℕ) → AreDistinct gs → AreDistinct (with_group gs h)
distinct-with_group gs h a = by (is_in h gs) refl
  where
    by : (b : Bool) → is_in h gs ≡ b → AreDistinct (cond b gs (gs ++ h ∷ []))
    by true e = a
    by false e = distinct-append gs h a e

pub distinct-fold : (gs hs : List ℕ) → AreDistinct gs → AreDistinct (fold with_group gs hs)
distinct-fold gs [] a = a
distinct-fold gs (h ∷ hs) a = distinct-fold (with_group gs h) hs (distinct-with_group gs h a)

-- the counts after one more report
pub groups-counted : (counts : List GroupCount) (g lsn : ℕ) → map (λ k. k.group) (counted_on counts g lsn) ≡ with_group (map (λ k. k.group) counts) g
groups-counted [] g lsn = refl
groups-counted (k ∷ ks) g lsn = by (k.group == g) refl (is_in g (map (λ k. k.group) ks)) refl (groups-counted ks g lsn)
  where
    by : (b : Bool) → (k.group == g) ≡ b → (c : Bool) → is_in g (map (λ k. k.group) ks) ≡ c → map (λ k. k.group) (counted_on ks g lsn) ≡ with_group (map (λ k. k.group) ks) g → map (λ k. k.group) (counted_on (k ∷ ks) g lsn) ≡ with_group (map (λ k. k.group) (k ∷ ks)) g
    by true e c f more = rw e refl
    by false e true f more = rw (e, f) (ap (λ l. k.group ∷ l) (more ∙ rw f refl))
    by false e false f more = rw (e, f) (ap (λ l. k.group ∷ l) (more ∙ rw f refl))

-- each count after one more report, where those of other groups stay right
others_stay : (cs ds : List Container) (ks : List GroupCount) (g : ℕ) → is_in g (map (λ k. k.group) ks) ≡ false → ((k : GroupCount) → k.group ≢ g → IsCountOf cs k → IsCountOf ds k) → AllByRecursion (IsCountOf cs) ks → AllByRecursion (IsCountOf ds) ks
others_stay cs ds [] g none others all = tt
others_stay cs ds (k ∷ ks) g none others (first, rest) =
    (others k (λ e. let t = eq-eqb k.group g e in grind (arith, t, none)) first, others_stay cs ds ks g (grind (arith, none)) others rest)

pub record StaysCounted (cs ds : List Container) (g lsn : ℕ) : Type 0 where
  pub own : (k : GroupCount) → k.group ≡ g → IsCountOf cs k → IsCountOf ds (record { group = k.group; expected = k.expected + 1; lsn = lsn })
  pub others : (k : GroupCount) → k.group ≢ g → IsCountOf cs k → IsCountOf ds k

pub all_counted : (cs ds : List Container) (ks : List GroupCount) (g lsn : ℕ) → AreDistinct (map (λ k. k.group) ks) → StaysCounted cs ds g lsn → (is_in g (map (λ k. k.group) ks) ≡ false → IsCountOf ds (record { group = g; expected = 2; lsn = lsn })) → AllByRecursion (IsCountOf cs) ks → AllByRecursion (IsCountOf ds) (counted_on ks g lsn)
all_counted cs ds [] g lsn apart stays fresh all = (fresh refl, tt)
all_counted cs ds (k ∷ ks) g lsn (first, apart) stays fresh (here, rest) = by (k.group == g) refl (λ f. all_counted cs ds ks g lsn apart stays f rest)
  where
    by : (b : Bool) → (k.group == g) ≡ b → ((is_in g (map (λ k. k.group) ks) ≡ false → IsCountOf ds (record { group = g; expected = 2; lsn = lsn })) → AllByRecursion (IsCountOf ds) (counted_on ks g lsn)) → AllByRecursion (IsCountOf ds) (cond b (record { group = k.group; expected = k.expected + 1; lsn = lsn } ∷ ks) (k ∷ counted_on ks g lsn))
    by true e more =
        let same : k.group ≡ g = eqb-true k.group g e in
        (stays.own k same here, others_stay cs ds ks g (ap (λ h. is_in h (map (λ k. k.group) ks)) (sym same) ∙ first) stays.others rest)
    by false e more = (stays.others k (λ is. let t = eq-eqb k.group g is in grind (arith, t, e)) here, more (λ none. fresh (grind (arith, e, none))))

pub all_at : {X : Type 0} (P : X → Type 0) (xs : List X) (i : ℕ) (d : X) → i < length xs → AllByRecursion P xs → P (get_or xs i d)
all_at P [] i d l all = absurd (omega arith)
all_at P (x ∷ xs) zero d l all = all.0
all_at P (x ∷ xs) (suc i) d l all = all_at P xs i d (omega arith) all.1

-- the counts after one more report, by the place of the group's count
in_rest : (h : ℕ) (xs : List GroupCount) (i : ℕ) (d : GroupCount) → i < length xs → (get_or xs i d).group ≡ h → is_in h (map (λ x. x.group) xs) ≡ true
in_rest h [] i d l e = absurd (omega arith)
in_rest h (x ∷ xs) zero d l e = let t = eq-eqb x.group h e in grind (arith, t)
in_rest h (x ∷ xs) (suc i) d l e = let t = in_rest h xs i d (omega arith) e in grind (arith, t)

counted_at : (ks : List GroupCount) (g lsn i : ℕ) (d : GroupCount) → i < length ks → (get_or ks i d).group ≡ g → ((k : ℕ) → k < i → ((get_or ks k d).group == g) ≡ false) → set ks i (record { group = (get_or ks i d).group; expected = (get_or ks i d).expected + 1; lsn = lsn }) ≡ counted_on ks g lsn
counted_at [] g lsn i d l e before = absurd (omega arith)
counted_at (k ∷ ks) g lsn zero d l e before = rw (eq-eqb k.group g e) refl
counted_at (k ∷ ks) g lsn (suc i) d l e before = rw (before 0 (omega arith)) (ap (λ l. k ∷ l) (counted_at ks g lsn i d (omega arith) e (λ j h. before (suc j) (omega arith))))

counted_fresh : (ks : List GroupCount) (g lsn : ℕ) → list_any (λ k. k.group == g) ks ≡ false → ks ++ record { group = g; expected = 2; lsn = lsn } ∷ [] ≡ counted_on ks g lsn
counted_fresh [] g lsn none = refl
counted_fresh (k ∷ ks) g lsn none =
    let apart : (k.group == g) ≡ false = grind (arith, none) in
    let rest : list_any (λ k. k.group == g) ks ≡ false = grind (arith, none) in
    rw apart (ap (λ l. k ∷ l) (counted_fresh ks g lsn rest))

-- a group that is not among the counts has no container
pub none_of : (g : ℕ) (cs : List Container) → list_any (λ c. c.group == g) cs ≡ false → containers_of g cs ≡ []
none_of g [] h = refl
none_of g (c ∷ cs) h = let e = none_of g cs in grind (arith, e)

pub none_counted : (g : ℕ) (cs : List Container) → list_any (λ c. c.group == g) cs ≡ false → group_total cs g ≡ 0
none_counted g [] h = refl
none_counted g (c ∷ cs) h = let e = none_counted g cs in grind (arith, e, nat_tests)

pub uncounted : (g : ℕ) (counts : List GroupCount) (cs : List Container) → map (λ k. k.group) counts ≡ fold with_group [] (map (λ c. c.group) cs) → is_in g (map (λ k. k.group) counts) ≡ false → list_any (λ c. c.group == g) cs ≡ false
uncounted g counts cs e none =
    sym (list_any-map (λ h. h == g) (λ (c : Container). c.group) cs) ∙ sym (is_in-fold g [] (map (λ c. c.group) cs)) ∙ ap (λ gs. is_in g gs) (sym e) ∙ none

pub unplaced : (g : ℕ) (counts : List GroupCount) → position (λ k. k.group == g) counts ≡ None → is_in g (map (λ k. k.group) counts) ≡ false
unplaced g counts none = list_any-map (λ h. h == g) (λ (k : GroupCount). k.group) counts ∙ sym (position_finds (λ k. k.group == g) counts) ∙ ap is_some none

pub counted_read : (ks : List GroupCount) (g lsn i : ℕ) (k : GroupCount) → position (λ h. h.group == g) ks ≡ Some i → k ≡ get_or ks i k → set ks i (record { group = k.group; expected = k.expected + 1; lsn = lsn }) ≡ counted_on ks g lsn
counted_read ks g lsn i k at is =
    let here = position-Some (λ (h : GroupCount). h.group == g) ks i k at in
    ap (λ (h : GroupCount). set ks i (record { group = h.group; expected = h.expected + 1; lsn = lsn })) is ∙ counted_at ks g lsn i k here.0 (eqb-true (get_or ks i k).group g here.1) here.2

pub counted_new : (ks : List GroupCount) (g lsn : ℕ) → position (λ h. h.group == g) ks ≡ None → ks ++ record { group = g; expected = 2; lsn = lsn } ∷ [] ≡ counted_on ks g lsn
counted_new ks g lsn none = counted_fresh ks g lsn (sym (position_finds (λ (h : GroupCount). h.group == g) ks) ∙ ap is_some none)

-- the horizons after one is set
set_at_first : (hs : List Horizon) (h : Horizon) (i : ℕ) (d : Horizon) → i < length hs → ((get_or hs i d).group == h.group) ≡ true → ((k : ℕ) → k < i → ((get_or hs k d).group == h.group) ≡ false) → set hs i h ≡ with_horizon hs h
set_at_first [] h i d l e before = absurd (omega arith)
set_at_first (k ∷ ks) h zero d l e before = rw e refl
set_at_first (k ∷ ks) h (suc i) d l e before = rw (before 0 (omega arith)) (ap (λ l. k ∷ l) (set_at_first ks h i d (omega arith) e (λ j m. before (suc j) (omega arith))))

push_new : (hs : List Horizon) (h : Horizon) → list_any (λ k. k.group == h.group) hs ≡ false → hs ++ h ∷ [] ≡ with_horizon hs h
push_new [] h none = refl
push_new (k ∷ ks) h none =
    let apart : (k.group == h.group) ≡ false = grind (arith, none) in
    let rest : list_any (λ k. k.group == h.group) ks ≡ false = grind (arith, none) in
    rw apart (ap (λ l. k ∷ l) (push_new ks h rest))

pub horizon_set : (hs : List Horizon) (h : Horizon) (i : ℕ) → position (λ k. k.group == h.group) hs ≡ Some i → set hs i h ≡ with_horizon hs h
horizon_set hs h i at = let here = position-Some (λ (k : Horizon). k.group == h.group) hs i h at in set_at_first hs h i h here.0 here.1 here.2

pub horizon_pushed : (hs : List Horizon) (h : Horizon) → position (λ k. k.group == h.group) hs ≡ None → hs ++ h ∷ [] ≡ with_horizon hs h
horizon_pushed hs h none = push_new hs h (sym (position_finds (λ (k : Horizon). k.group == h.group) hs) ∙ ap is_some none)

pub no_horizon : (hs : List Horizon) (g : ℕ) → position (λ k. k.group == g) hs ≡ None → is_in g (map (λ k. k.group) hs) ≡ false
no_horizon hs g none = list_any-map (λ h. h == g) (λ (k : Horizon). k.group) hs ∙ sym (position_finds (λ (k : Horizon). k.group == g) hs) ∙ ap is_some none

-- what is read at the place of a group's count
pub place_read : (g : ℕ) (ks : List GroupCount) (i : ℕ) (k : GroupCount) → position (λ h. h.group == g) ks ≡ Some i → k ≡ get_or ks i k → (i < length ks) × (k.group ≡ g)
place_read g ks i k at is =
    let here = position-Some (λ (h : GroupCount). h.group == g) ks i k at in
    (here.0, ap (λ (h : GroupCount). h.group) is ∙ eqb-true (get_or ks i k).group g here.1)

-- the group's horizon once it is set, and those of other groups
pub horizon_is : (hs : List Horizon) (h : Horizon) → find (λ k. k.group == h.group) (with_horizon hs h) ≡ Some h
horizon_is [] h = rw (eq-eqb h.group h.group refl) refl
horizon_is (k ∷ ks) h = by (k.group == h.group) refl (horizon_is ks h)
  where
    by : (b : Bool) → (k.group == h.group) ≡ b → find (λ j. j.group == h.group) (with_horizon ks h) ≡ Some h → find (λ j. j.group == h.group) (cond b (h ∷ ks) (k ∷ with_horizon ks h)) ≡ Some h
    by true e more = rw (eq-eqb h.group h.group refl) refl
    by false e more = rw e more

pub horizon_other : (hs : List Horizon) (h : Horizon) (g : ℕ) → g ≢ h.group → find (λ k. k.group == g) (with_horizon hs h) ≡ find (λ k. k.group == g) hs
horizon_other [] h g n = let away : (h.group == g) ≡ false = grind (arith, nat_tests) in rw away refl
horizon_other (k ∷ ks) h g n = by (k.group == h.group) refl (horizon_other ks h g n)
  where
    by : (b : Bool) → (k.group == h.group) ≡ b → find (λ j. j.group == g) (with_horizon ks h) ≡ find (λ j. j.group == g) ks → find (λ j. j.group == g) (cond b (h ∷ ks) (k ∷ with_horizon ks h)) ≡ find (λ j. j.group == g) (k ∷ ks)
    by true e more =
        let away : (h.group == g) ≡ false = grind (arith, nat_tests) in
        let gone : (k.group == g) ≡ false = ap (λ j. j == g) (eqb-true k.group h.group e) ∙ away in
        rw (away, gone) refl
    by false e more = at (k.group == g)
      where
        at : (b : Bool) → cond b (Some k) (find (λ j. j.group == g) (with_horizon ks h)) ≡ cond b (Some k) (find (λ j. j.group == g) ks)
        at true = refl
        at false = more
