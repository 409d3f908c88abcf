-- The heap of deadlines and the chains of groups, after a reservation was put, made less or taken away.
use Rattle.std.proofs.Common.{zero, suc, ◌≡◌, ◌≢◌, ◌⊎◌, ◌≤◌, ◌<◌, ◌==◌, nat_le, ℕ, Bool, true, false, cond, not, ◌&&◌, ◌||◌, List, [], ◌∷◌, Option, Some, None, is_some, All, Contains, slice_get, refl, sym, ap, ◌∙◌, subst, arith, inl, inr, ⊎_elim}
use Rattle.std.proofs.lemmas.Bool.{cases_eq}
use Rattle.std.proofs.lemmas.Bool.Decides.{nat_tests}
use Rattle.std.proofs.lemmas.List.Elements.{All-contains}
use Rattle.std.proofs.lemmas.List.Sorted.{Contains-permutation}
use Rattle.std.specs.List.Sorted.{IsPermutation}
use Rattle.std.specs.FinMap as map
use Rattle.accounts.specs.declared.reservation.Key.{Key}
use Rattle.accounts.specs.declared.reservation.Reservation.{Reservation}
use Rattle.accounts.specs.declared.due.Due.{Due}
use Rattle.accounts.specs.declared.groups.Groups.{Groups}
use Rattle.accounts.specs.Reservations.{at, key_eq, ReservationMap}
use Rattle.accounts.specs.Endings.{Session, Until, is_passed, ends}
use Rattle.accounts.specs.Deadlines.{deadline_of, deadline_at, IsLeast}
use Rattle.accounts.specs.Chains.{first_of, next_of, among, Follow, IsChained}
use Rattle.accounts.specs.Indexes.{due_at, AreDue, IsQueued, AreLinked, LatestIsThere, IsGrouped}
use Rattle.accounts.proofs.Tables.{same_key}
use Rattle.accounts.proofs.Chained.{stays_chained}

contains_tail : (x d : Due) (xs : List Due) → Contains (x ∷ xs) d → (x ≡ d) ⊎ Contains xs d
contains_tail x d xs (zero, lt, e) = inl e
contains_tail x d xs (suc k, lt, e) = inr (k, (omega arith), e)

pub contains_head : (x : Due) (xs : List Due) → Contains (x ∷ xs) x
contains_head x xs = (0, (omega arith), refl)

pub contains_later : (x d : Due) (xs : List Due) → Contains xs d → Contains (x ∷ xs) d
contains_later x d xs (k, lt, e) = (suc k, (omega arith), e)

-- what is no deadline may be taken from the queue
pub pop_due : (deadline : Key → Option ℕ) (old new : List Due) (d : Due) → AreDue deadline old → IsPermutation old (d ∷ new) → (deadline (at d.session d.group) ≡ Some d.deadline → ⊥) → AreDue deadline new
pop_due deadline old new d due moved not t g x e = ⊎_elim
    (λ (same : d ≡ due_at x t g). absurd (not (subst (λ (z : Due). deadline (at z.session z.group) ≡ Some z.deadline) (sym same) e)))
    (λ (there : Contains new (due_at x t g)). there)
    (contains_tail d (due_at x t g) new (Contains-permutation old (d ∷ new) (due_at x t g) moved (due t g x e)))

-- a deadline was put
pub put_due : (deadline last : Key → Option ℕ) (old new : List Due) (k : Key) (r : Option ℕ) → AreDue deadline old → ((d : ℕ) → r ≡ Some d → Contains new (due_at d k.session k.group)) → ((d : Due) → Contains old d → Contains new d)
    → ((q : Key) → last q ≡ cond (key_eq k q) r (deadline q)) → AreDue last new
put_due deadline last old new k r due added kept says t g d e = elim (key_eq k (at t g)) as (λ b. key_eq k (at t g) ≡ b → Contains new (due_at d t g)) [
  | true ↦ λ w. subst (λ (j : Key). Contains new (due_at d j.session j.group)) (same_key k (at t g) w) (added d (sym (says (at t g) ∙ ap (λ b. cond b r (deadline (at t g))) w) ∙ e))
  | false ↦ λ w. kept (due_at d t g) (due t g d (sym (says (at t g) ∙ ap (λ b. cond b r (deadline (at t g))) w) ∙ e))
] refl

-- a deadline was taken away
pub remove_due : (deadline last : Key → Option ℕ) (dues : List Due) (k : Key) → AreDue deadline dues → ((q : Key) → last q ≡ cond (key_eq k q) None (deadline q)) → AreDue last dues
remove_due deadline last dues k due says = put_due deadline last dues dues k None due (λ d e. absurd (cc)) (λ d c. c) says

-- nothing changed
pub same_queued : (deadline last : Key → Option ℕ) (old new : List Due) → new ≡ old → ((q : Key) → last q ≡ deadline q) → IsQueued deadline old → IsQueued last new
same_queued deadline last old new e same h = subst (IsQueued last) (sym e) (record {
  due = λ t g d f. h.due t g d (sym (same (at t g)) ∙ f);
  first = λ d f. same (at d.session d.group) ∙ h.first d f;
})

pub same_chained : (g h : Groups) → IsChained g → ((t : ℕ) → first_of h t ≡ first_of g t) → ((q : Key) → next_of h q ≡ next_of g q) → IsChained h
same_chained g h old firsts nexts t = stays_chained (next_of g) (next_of h) t (first_of g t) (first_of h t) (firsts t) (λ x. nexts (at t x)) (old t)

pub same_grouped : (there last : Key → Bool) (g h : Groups) → IsGrouped there g → IsChained h → ((t : ℕ) → first_of h t ≡ first_of g t) → ((q : Key) → next_of h q ≡ next_of g q) → ((q : Key) → last q ≡ there q) → IsGrouped last h
same_grouped there last g h old chained firsts nexts same = record {
  chained = chained;
  linked = λ t x e. ap is_some (nexts (at t x)) ∙ old.linked t x (sym (same (at t x)) ∙ e);
  latest = λ t x e. same (at t x) ∙ old.latest t x (sym (firsts t) ∙ e);
}

or_left : (a b : Bool) → a ≡ true → (a || b) ≡ true
or_left true b e = refl
or_left false b e = absurd (cc)

or_right : (a b : Bool) → b ≡ true → (a || b) ≡ true
or_right true b e = refl
or_right false b e = e

or_cases : (a b : Bool) → (a || b) ≡ true → (a ≡ true) ⊎ (b ≡ true)
or_cases true b e = inl refl
or_cases false b e = inr e

key_itself : (k : Key) → key_eq k k ≡ true
key_itself k = ap (λ c. c && (k.group == k.group)) (yes k.session) ∙ yes k.group
  where
    yes : (a : ℕ) → ◌==◌ a a ≡ true
    yes a = grind (arith, nat_tests)

-- a reservation was put
pub put_grouped : (there last : Key → Bool) (g h : Groups) (k : Key) → IsGrouped there g → IsChained h → ((q : Key) → is_some (next_of h q) ≡ (key_eq k q || is_some (next_of g q)))
    → ((t : ℕ) → (first_of h t ≡ first_of g t) ⊎ ((t ≡ k.session) × (first_of h t ≡ Some k.group))) → ((q : Key) → last q ≡ (key_eq k q || there q)) → IsGrouped last h
put_grouped there last g h k old chained linked latest says = record {
  chained = chained;
  linked = λ t x e. linked (at t x) ∙ ⊎_elim
      (λ (own : key_eq k (at t x) ≡ true). or_left (key_eq k (at t x)) (is_some (next_of g (at t x))) own)
      (λ (was : there (at t x) ≡ true). or_right (key_eq k (at t x)) (is_some (next_of g (at t x))) (old.linked t x was))
      (or_cases (key_eq k (at t x)) (there (at t x)) (sym (says (at t x)) ∙ e));
  latest = λ t x e. says (at t x) ∙ ⊎_elim
      (λ (was : first_of h t ≡ first_of g t). or_right (key_eq k (at t x)) (there (at t x)) (old.latest t x (sym was ∙ e)))
      (λ (own : (t ≡ k.session) × (first_of h t ≡ Some k.group)). or_left (key_eq k (at t x)) (there (at t x)) (here t x own.0 (same_some k.group x (sym own.1 ∙ e))))
      (latest t);
}
  where
    same_some : (a b : ℕ) → Some a ≡ Some b → a ≡ b
    same_some a b e = cc

    here : (t x : ℕ) → t ≡ k.session → k.group ≡ x → key_eq k (at t x) ≡ true
    here t x e f = subst (λ y. key_eq k (at t y) ≡ true) f (subst (λ s. key_eq k (at s k.group) ≡ true) (sym e) (key_itself k))

and_right : (a b : Bool) → (not a && b) ≡ true → b ≡ true
and_right true b e = absurd (cc)
and_right false b e = e

-- a reservation was taken away
pub remove_linked : (there last : Key → Bool) (g : Groups) (k : Key) → AreLinked there g → ((q : Key) → last q ≡ (not (key_eq k q) && there q)) → AreLinked last g
remove_linked there last g k old says t x e = old t x (and_right (key_eq k (at t x)) (there (at t x)) (sym (says (at t x)) ∙ e))

pub remove_latest : (there last : Key → Bool) (g : Groups) (k : Key) → IsGrouped there g → ((q : Key) → last q ≡ (not (key_eq k q) && there q)) → (t : ℕ) → t ≢ k.session → LatestIsThere last g t
remove_latest there last g k old says t n x e = says (at t x) ∙ stays (key_eq k (at t x)) (there (at t x)) (apart t x n) (old.latest t x e)
  where
    stays : (a b : Bool) → a ≡ false → b ≡ true → (not a && b) ≡ true
    stays a b e f = cc

    differ : (a b : ℕ) → b ≢ a → ◌==◌ a b ≡ false
    differ a b n = grind (arith, nat_tests)

    apart : (t x : ℕ) → t ≢ k.session → key_eq k (at t x) ≡ false
    apart t x n = ap (λ c. c && (k.group == x)) (differ k.session t n)

-- a group without a reservation was taken off its chain
pub unlink_linked : (there : Key → Bool) (g h : Groups) (t x : ℕ) → AreLinked there g → there (at t x) ≡ false → ((q : Key) → is_some (next_of h q) ≡ (not (key_eq (at t x) q) && is_some (next_of g q))) → AreLinked there h
unlink_linked there g h t x old none linked u y e = linked (at u y) ∙ elim (key_eq (at t x) (at u y)) as (λ b. key_eq (at t x) (at u y) ≡ b → (not b && is_some (next_of g (at u y))) ≡ true) [
  | true ↦ λ w. (let both : there (at u y) ≡ false = subst (λ q. there q ≡ false) (same_key (at t x) (at u y) w) none in absurd (cc))
  | false ↦ λ w. old u y e
] refl

pub unlink_latest : (there : Key → Bool) (g h : Groups) (t : ℕ) → ((u : ℕ) → u ≢ t → LatestIsThere there g u) → ((u : ℕ) → u ≢ t → first_of h u ≡ first_of g u) → (u : ℕ) → u ≢ t → LatestIsThere there h u
unlink_latest there g h t old others u n x e = old u n x (sym (others u n) ∙ e)

pub grouped_from : (there : Key → Bool) (g : Groups) (t : ℕ) → IsChained g → AreLinked there g → ((u : ℕ) → u ≢ t → LatestIsThere there g u) → LatestIsThere there g t → IsGrouped there g
grouped_from there g t chained linked others own = record {
  chained = chained;
  linked = linked;
  latest = λ u. ⊎_elim (λ (e : u ≡ t). subst (LatestIsThere there g) (sym e) own) (λ (n : u ≢ t). others u n) (cases_eq u t);
}

-- a session without a latest group has none
none_linked : (g : Groups) (t x : ℕ) → IsChained g → first_of g t ≡ None → is_some (next_of g (at t x)) ≡ false
none_linked g t x chained none = (chained t).1.linked x ∙ empty (chained t).0 (chained t).1.follow
  where
    empty : (gs : List ℕ) → Follow (next_of g) t (first_of g t) gs → among x gs ≡ false
    empty [] f = refl
    empty (y ∷ gs) f = absurd (cc)

pub session_has : (m : ReservationMap) (there : Key → Bool) (g : Groups) (t x : ℕ) → ((q : Key) → there q ≡ is_some (map.get m q)) → IsGrouped there g → first_of g t ≡ Some x → ends (Session t) (at t x) (map.get m (at t x)) ≡ true
session_has m there g t x same h e = some (map.get m (at t x)) (sym (same (at t x)) ∙ h.latest t x e)
  where
    yes : (a : ℕ) → ◌==◌ a a ≡ true
    yes a = grind (arith, nat_tests)

    some : (w : Option Reservation) → is_some w ≡ true → ends (Session t) (at t x) w ≡ true
    some None e = absurd (cc)
    some (Some r) e = yes t

pub session_has_none : (m : ReservationMap) (there : Key → Bool) (g : Groups) (t : ℕ) → ((q : Key) → there q ≡ is_some (map.get m q)) → IsGrouped there g → first_of g t ≡ None → (k : Key) → ends (Session t) k (map.get m k) ≡ false
session_has_none m there g t same h none k = by_case (map.get m k) refl
  where
    equal : (a b : ℕ) → ◌==◌ a b ≡ true → a ≡ b
    equal a b e = grind (arith, nat_tests)

    by_case : (w : Option Reservation) → map.get m k ≡ w → ends (Session t) k w ≡ false
    by_case None e = refl
    by_case (Some r) e = elim (k.session == t) as (λ b. ◌==◌ k.session t ≡ b → b ≡ false) [
      | true ↦ λ w.
          (let there_is : there (at t k.group) ≡ true = subst (λ s. there (at s k.group) ≡ true) (equal k.session t w) (same k ∙ ap is_some e) in
          let linked = h.linked t k.group there_is in
          let none = none_linked g t k.group h.chained none in absurd (cc))
      | false ↦ λ w. refl
    ] refl

no_dues : (dues : List Due) → slice_get dues 0 ≡ None → dues ≡ []
no_dues [] e = refl
no_dues (d ∷ dues) e = absurd (cc)

pub least_none : (m : ReservationMap) (deadline : Key → Option ℕ) (dues : List Due) → ((q : Key) → deadline q ≡ deadline_at m q) → IsQueued deadline dues → slice_get dues 0 ≡ None → (k : Key) → deadline_at m k ≡ None
least_none m deadline dues same h e k = by_case (deadline_at m k) refl
  where
    empty : (d : Due) → Contains [] d → ⊥
    empty d (i, lt, e) = omega arith

    by_case : (w : Option ℕ) → deadline_at m k ≡ w → w ≡ None
    by_case None f = refl
    by_case (Some d) f = absurd (empty (due_at d k.session k.group) (subst (λ ds. Contains ds (due_at d k.session k.group)) (no_dues dues e) (h.due k.session k.group d (same k ∙ f))))

pub least_some : (m : ReservationMap) (deadline : Key → Option ℕ) (dues : List Due) (d : Due) → ((q : Key) → deadline q ≡ deadline_at m q) → IsQueued deadline dues → slice_get dues 0 ≡ Some d → All (λ (e : Due). d.deadline ≤ e.deadline) dues → IsLeast m (Some d.deadline)
least_some m deadline dues d same h e all =
    ((at d.session d.group, sym (same (at d.session d.group)) ∙ h.first d e), λ k x f. All-contains (λ (e : Due). d.deadline ≤ e.deadline) dues (due_at x k.session k.group) all (h.due k.session k.group x (same k ∙ f)))

pub first_deadline : (m : ReservationMap) (deadline : Key → Option ℕ) (dues : List Due) (d : Due) → ((q : Key) → deadline q ≡ deadline_at m q) → IsQueued deadline dues → slice_get dues 0 ≡ Some d → deadline_at m (at d.session d.group) ≡ Some d.deadline
first_deadline m deadline dues d same h e = sym (same (at d.session d.group)) ∙ h.first d e

pub ends_until : (moment d : ℕ) (k : Key) (w : Option Reservation) → deadline_of w ≡ Some d → d ≤ moment → ends (Until moment) k w ≡ true
ends_until moment d k None e le = absurd (cc)
ends_until moment d k (Some r) e le = ap (is_passed moment) e ∙ (let t : nat_le d moment ≡ true = grind (arith, nat_tests) in t)

stays_until : (moment : ℕ) (k : Key) (w : Option Reservation) → ((d : ℕ) → deadline_of w ≡ Some d → moment < d) → ends (Until moment) k w ≡ false
stays_until moment k None later = refl
stays_until moment k (Some r) later = by_case r.deadline refl
  where
    by_case : (o : Option ℕ) → r.deadline ≡ o → is_passed moment r.deadline ≡ false
    by_case None e = ap (is_passed moment) e
    by_case (Some d) e = ap (is_passed moment) e ∙ (let lt = later d e in let t : nat_le d moment ≡ false = grind (arith, nat_tests) in t)

pub none_until : (m : ReservationMap) (deadline : Key → Option ℕ) (dues : List Due) (moment : ℕ) → ((q : Key) → deadline q ≡ deadline_at m q) → IsQueued deadline dues → slice_get dues 0 ≡ None → (k : Key) → ends (Until moment) k (map.get m k) ≡ false
none_until m deadline dues moment same h e k = stays_until moment k (map.get m k) (λ d f. let n = least_none m deadline dues same h e k in absurd (cc))

pub later_until : (m : ReservationMap) (deadline : Key → Option ℕ) (dues : List Due) (moment : ℕ) (d : Due) → ((q : Key) → deadline q ≡ deadline_at m q) → IsQueued deadline dues → slice_get dues 0 ≡ Some d → All (λ (e : Due). d.deadline ≤ e.deadline) dues → moment < d.deadline → (k : Key) → ends (Until moment) k (map.get m k) ≡ false
later_until m deadline dues moment d same h e all lt k = stays_until moment k (map.get m k) (λ x f. let le = (least_some m deadline dues d same h e all).1 k x f in omega arith)

-- nothing is there at first
pub new_indexed : (f : Key → Option Reservation) (dues : List Due) (g : Groups) → ((q : Key) → f q ≡ None) → dues ≡ [] → IsChained g → ((t : ℕ) → first_of g t ≡ None) → IsQueued (λ k. deadline_of (f k)) dues × IsGrouped (λ k. is_some (f k)) g
new_indexed f dues g none empty chained firsts = (
  record {
    due = λ t x d e. (let n = ap deadline_of (none (at t x)) in absurd (cc));
    first = λ d e. (let n = ap (λ (ds : List Due). slice_get ds 0) empty in absurd (cc));
  },
  record {
    chained = chained;
    linked = λ t x e. (let n = ap is_some (none (at t x)) in absurd (cc));
    latest = λ t x e. (let n = firsts t in absurd (cc));
  },
)

deadline_cond : (b : Bool) (r : Reservation) (w : Option Reservation) → deadline_of (cond b (Some r) w) ≡ cond b r.deadline (deadline_of w)
deadline_cond true r w = refl
deadline_cond false r w = refl

some_cond : (b : Bool) (r : Reservation) (w : Option Reservation) → is_some (cond b (Some r) w) ≡ (b || is_some w)
some_cond true r w = refl
some_cond false r w = refl

deadline_none : (b : Bool) (w : Option Reservation) → deadline_of (cond b None w) ≡ cond b None (deadline_of w)
deadline_none true w = refl
deadline_none false w = refl

some_none : (b : Bool) (w : Option Reservation) → is_some (cond b None w) ≡ (not b && is_some w)
some_none true w = refl
some_none false w = refl

-- the same by what the table has
module _ (f h : Key → Option Reservation) (k : Key) where
  pub put_deadline : (r : Reservation) → ((q : Key) → h q ≡ cond (key_eq k q) (Some r) (f q)) → (q : Key) → deadline_of (h q) ≡ cond (key_eq k q) r.deadline (deadline_of (f q))
  put_deadline r says q = ap deadline_of (says q) ∙ deadline_cond (key_eq k q) r (f q)

  pub put_there : (r : Reservation) → ((q : Key) → h q ≡ cond (key_eq k q) (Some r) (f q)) → (q : Key) → is_some (h q) ≡ (key_eq k q || is_some (f q))
  put_there r says q = ap is_some (says q) ∙ some_cond (key_eq k q) r (f q)

  pub remove_deadline : ((q : Key) → h q ≡ cond (key_eq k q) None (f q)) → (q : Key) → deadline_of (h q) ≡ cond (key_eq k q) None (deadline_of (f q))
  remove_deadline says q = ap deadline_of (says q) ∙ deadline_none (key_eq k q) (f q)

  pub remove_there : ((q : Key) → h q ≡ cond (key_eq k q) None (f q)) → (q : Key) → is_some (h q) ≡ (not (key_eq k q) && is_some (f q))
  remove_there says q = ap is_some (says q) ∙ some_none (key_eq k q) (f q)

  -- another reservation with the same deadline in the place of one
  pub same_deadline : (r s : Reservation) → f k ≡ Some r → s.deadline ≡ r.deadline → ((q : Key) → h q ≡ cond (key_eq k q) (Some s) (f q)) → (q : Key) → deadline_of (h q) ≡ deadline_of (f q)
  same_deadline r s e d says q = put_deadline s says q ∙ elim (key_eq k q) as (λ b. key_eq k q ≡ b → cond b s.deadline (deadline_of (f q)) ≡ deadline_of (f q)) [
    | true ↦ λ w. d ∙ sym (ap (λ j. deadline_of (f j)) (sym (same_key k q w)) ∙ ap deadline_of e)
    | false ↦ λ w. refl
  ] refl

  pub same_there : (r s : Reservation) → f k ≡ Some r → ((q : Key) → h q ≡ cond (key_eq k q) (Some s) (f q)) → (q : Key) → is_some (h q) ≡ is_some (f q)
  same_there r s e says q = put_there s says q ∙ elim (key_eq k q) as (λ b. key_eq k q ≡ b → (b || is_some (f q)) ≡ is_some (f q)) [
    | true ↦ λ w. sym (ap (λ j. is_some (f j)) (sym (same_key k q w)) ∙ ap is_some e)
    | false ↦ λ w. refl
  ] refl
