-- The laws of each account over every list of moves.
use Rattle.std.proofs.Common.{◌-◌, ◌≡◌, ◌≢◌, ◌≤◌, ℕ, ◌+◌, Bool, true, false, cond, not, ◌&&◌, ◌||◌, List, [], ◌∷◌, Option, Some, None, refl, sym, ap, ◌∙◌, subst, arith, sum_by}
use Rattle.std.proofs.lemmas.Bool.Decides.{nat_tests}
use Rattle.std.proofs.lemmas.List.Sums.{sum_by-cons}
use Rattle.std.specs.declared.cmp.Ordering.{Ordering}
use Rattle.std.specs.Ordering.{eq_by_cmp, is_eq}
use Rattle.std.specs.Cmp.{eq_by_cmp_equiv}
use Rattle.std.specs.Map.{keys_of}
use Rattle.std.specs.FinMap as map
use Rattle.accounts.specs.declared.reservation.Key.{Key}
use Rattle.accounts.specs.declared.reservation.Reservation.{Reservation}
use Rattle.accounts.specs.Endings.{Ending, without_at}
use Rattle.accounts.specs.Endings.{Session, Until}
use Rattle.accounts.specs.Reservations.{key_eq, key_cmp, keys_total, ReservationMap, at, keys_exact, keys_tied}
use Rattle.accounts.specs.Endings.{ends, without}
use Rattle.accounts.specs.Ledger.{Numbers, State, numbers, share, from_own, from_free, uncovered}
use Rattle.accounts.specs.Moves.{Move, Added, ToppedUp, Charged, Reserved, Released, ReleasedAll, Expired, topped_up, debited, after, state_of, IsAllowed, AreAllowed}
use Rattle.accounts.specs.Caches.{IsSound}
use Rattle.accounts.specs.Balanced.{IsBalanced, BooksBalance, TopupsAreSummed, topup_of}
use Rattle.accounts.specs.Steps.{BalanceStays}
use Rattle.accounts.proofs.Tables.{same_key}
use Rattle.accounts.proofs.FinSums.{sum-remove}
use Rattle.accounts.proofs.Sound.{at_write, sound_topup, sound_charge, sound_add, sound_release, sound_reserve, get_or_push}

tied_equal : (r : Ordering) → is_eq r ≡ true → r ≡ Rattle.std.specs.declared.cmp.Ordering.TheVariants.Equal
tied_equal Rattle.std.specs.declared.cmp.Ordering.TheVariants.Less e = cc
tied_equal Rattle.std.specs.declared.cmp.Ordering.TheVariants.Equal e = refl
tied_equal Rattle.std.specs.declared.cmp.Ordering.TheVariants.Greater e = cc

module _ (g : Ending) where
  -- without the reservation at a key, if it ends
  abbrev step : ReservationMap → Key → ReservationMap
  step m k = cond (ends g k (map.get m k)) (map.remove m k) m

  -- and at each of some keys
  abbrev steps : List Key → ReservationMap → ReservationMap
  steps [] m = m
  steps (k ∷ ks) m = steps ks (step m k)

  abbrev listed : Key → List Key → Bool
  listed q [] = false
  listed q (k ∷ ks) = key_eq k q || listed q ks

  step_get : (m : ReservationMap) (k q : Key) → map.get (step m k) q ≡ cond (key_eq k q && ends g q (map.get m q)) None (map.get m q)
  step_get m k q = elim (key_eq k q) as (λ b. key_eq k q ≡ b → map.get (step m k) q ≡ cond (b && ends g q (map.get m q)) None (map.get m q)) [
    | true ↦ λ t. ap (λ z. map.get (step m z) q) (same_key k q t) ∙ here q
    | false ↦ λ t. apart t
  ] refl
    where
      here : (q : Key) → map.get (step m q) q ≡ cond (ends g q (map.get m q)) None (map.get m q)
      here q = elim (ends g q (map.get m q)) as (λ b. map.get (cond b (map.remove m q) m) q ≡ cond b None (map.get m q)) [
        | true ↦ map.get-remove keys_total m q q ∙ ap (λ b. cond b None (map.get m q)) (ap is_eq (Rattle.std.specs.Cmp.tied_itself keys_total q))
        | false ↦ refl
      ]

      apart : key_eq k q ≡ false → map.get (step m k) q ≡ map.get m q
      apart n = elim (ends g k (map.get m k)) as (λ b. map.get (cond b (map.remove m k) m) q ≡ map.get m q) [
        | true ↦ map.get-remove keys_total m k q ∙ ap (λ b. cond b None (map.get m q)) ((eq_by_cmp_equiv keys_total).symm q k ∙ keys_tied k q ∙ n)
        | false ↦ refl
      ]

  both_ways : (a b e : Bool) (w : Option Reservation) (q : Key) → ends g q w ≡ e → cond (b && ends g q (cond (a && e) None w)) None (cond (a && e) None w) ≡ cond ((a || b) && e) None w
  both_ways true true true w q h = refl
  both_ways true false true w q h = refl
  both_ways true true false w q h = ap (λ c. cond c None w) h
  both_ways true false false w q h = refl
  both_ways false true e w q h = ap (λ c. cond c None w) h
  both_ways false false e w q h = refl

  steps_get : (ks : List Key) (m : ReservationMap) (q : Key) → map.get (steps ks m) q ≡ cond (listed q ks && ends g q (map.get m q)) None (map.get m q)
  steps_get [] m q = refl
  steps_get (k ∷ ks) m q =
      steps_get ks (step m k) q
      ∙ ap (λ w. cond (listed q ks && ends g q w) None w) (step_get m k q)
      ∙ both_ways (key_eq k q) (listed q ks) (ends g q (map.get m q)) (map.get m q) q refl

  -- what is not among the keys is not there
  unlisted : (es : List (Key × Reservation)) (q : Key) → listed q (keys_of es) ≡ false → map.find key_cmp q es ≡ None
  unlisted [] q n = refl
  unlisted (e ∷ es) q n = elim (eq_by_cmp key_cmp q e.0) as (λ b. eq_by_cmp key_cmp q e.0 ≡ b → cond b (Some e.1) (map.find key_cmp q es) ≡ None) [
    | true ↦ λ t. (let same : key_eq e.0 q ≡ true = sym (keys_tied e.0 q) ∙ (eq_by_cmp_equiv keys_total).symm e.0 q ∙ t in let first = halves (key_eq e.0 q) (listed q (keys_of es)) n in absurd (cc))
    | false ↦ λ t. unlisted es q (halves (key_eq e.0 q) (listed q (keys_of es)) n).1
  ] refl
    where
      halves : (a b : Bool) → (a || b) ≡ false → (a ≡ false) × (b ≡ false)
      halves true b e = absurd (cc)
      halves false b e = (refl, e)

  all_steps : (m : ReservationMap) → steps (keys_of (map.entries m)) m ≡ without m g
  all_steps m = map.same_map keys_total keys_exact _ _ (λ q. steps_get (keys_of (map.entries m)) m q ∙ same q ∙ sym (without_at m g q))
    where
      turned : (e : Bool) (w : Option Reservation) → cond e None w ≡ cond (not e) w None
      turned true w = refl
      turned false w = refl

      same : (q : Key) → cond (listed q (keys_of (map.entries m)) && ends g q (map.get m q)) None (map.get m q) ≡ cond (not (ends g q (map.get m q))) (map.get m q) None
      same q = elim (listed q (keys_of (map.entries m))) as (λ b. listed q (keys_of (map.entries m)) ≡ b → cond (b && ends g q (map.get m q)) None (map.get m q) ≡ cond (not (ends g q (map.get m q))) (map.get m q) None) [
        | true ↦ λ t. turned (ends g q (map.get m q)) (map.get m q)
        | false ↦ λ t. (let none : map.get m q ≡ None = map.get-entries m q ∙ unlisted (map.entries m) q t in none ∙ ap (λ w. cond (not (ends g q w)) w None) (sym none))
      ] refl

  less_step : (b : ℕ) (m : ReservationMap) (k : Key) → sum_by (share b) (map.values (step m k)) ≤ sum_by (share b) (map.values m)
  less_step b m k = elim (ends g k (map.get m k)) as (λ e. sum_by (share b) (map.values (cond e (map.remove m k) m)) ≤ sum_by (share b) (map.values m)) [
    | true ↦ let r = sum-remove keys_total (share b) keys_exact m k in omega arith
    | false ↦ omega arith
  ]

  less_steps : (b : ℕ) (ks : List Key) (m : ReservationMap) → sum_by (share b) (map.values (steps ks m)) ≤ sum_by (share b) (map.values m)
  less_steps b [] m = omega arith
  less_steps b (k ∷ ks) m = let rest = less_steps b ks (step m k) in let one = less_step b m k in omega arith

  -- what stays is set aside for no more than before
  pub less_without : (b : ℕ) (m : ReservationMap) → sum_by (share b) (map.values (without m g)) ≤ sum_by (share b) (map.values m)
  less_without b m = subst (λ n. sum_by (share b) (map.values n) ≤ sum_by (share b) (map.values m)) (all_steps m) (less_steps b (keys_of (map.entries m)) m)

  fewer_step : (m : ReservationMap) (k : Key) → map.len (step m k) ≤ map.len m
  fewer_step m k = elim (ends g k (map.get m k)) as (λ e. map.len (cond e (map.remove m k) m) ≤ map.len m) [
    | true ↦ subst (λ n. n ≤ map.len m) (sym (map.len-remove keys_total m k)) (either (map.contains_key m k))
    | false ↦ omega arith
  ]
    where
      either : (b : Bool) → cond b (map.len m - 1) (map.len m) ≤ map.len m
      either true = omega arith
      either false = omega arith

  fewer_steps : (ks : List Key) (m : ReservationMap) → map.len (steps ks m) ≤ map.len m
  fewer_steps [] m = omega arith
  fewer_steps (k ∷ ks) m = let rest = fewer_steps ks (step m k) in let one = fewer_step m k in omega arith

  -- and no more stay than were there
  pub fewer_without : (m : ReservationMap) → map.len (without m g) ≤ map.len m
  fewer_without m = subst (λ n. map.len n ≤ map.len m) (all_steps m) (fewer_steps (keys_of (map.entries m)) m)

sound_without : (s : State) (g : Ending) (b : ℕ) → IsSound s b → IsSound (record s { reservations = without s.reservations g }) b
sound_without s g b h = record { balance = let less = less_without g b s.reservations in let k = h.balance in omega arith; debits = h.debits }

sound_after : (s : State) (m : Move) (b : ℕ) → IsAllowed s m → IsSound s b → IsSound (after m s) b
sound_after s Added b allowed h = sound_add s b h
sound_after s (ToppedUp a x) b allowed h = sound_topup s a x b allowed h
sound_after s (Charged a t g lsn x) b allowed h = sound_charge s a t g lsn x b allowed.0 allowed.1 h
sound_after s (Reserved a t g x d) b allowed h = sound_reserve s a t g x d b allowed.1 allowed.2 h
sound_after s (Released t g) b allowed h = sound_release s t g b h
sound_after s (ReleasedAll t) b allowed h = sound_without s (Session t) b h
sound_after s (Expired m) b allowed h = sound_without s (Until m) b h

pub sound_all : (ms : List Move) (b : ℕ) → AreAllowed ms → IsSound (state_of ms) b
sound_all [] b allowed = record { balance = let n = Rattle.accounts.proofs.Changes.none_set_aside b in omega arith; debits = refl }
sound_all (m ∷ ms) b allowed = sound_after (state_of ms) m b allowed.0 (sound_all ms b allowed.1)

-- in the words of the clauses
pub balanced : (s : State) (b : ℕ) → IsSound s b → IsBalanced s b
balanced s b h = let k = h.balance in let d = h.debits in record { taken = omega arith; sums = omega arith; within = omega arith }

pub sound_from : (s : State) (b : ℕ) → IsBalanced s b → IsSound s b
sound_from s b h = let taken = h.taken in let sums = h.sums in let within = h.within in record { balance = omega arith; debits = omega arith }

pub balance_stays : BalanceStays
balance_stays s m b allowed h = balanced (after m s) b (sound_after s m b allowed (sound_from s b h))

pub books_balance : BooksBalance
books_balance ms b allowed = balanced (state_of ms) b (sound_all ms b allowed)

topup_is : (a b x : ℕ) → b ≡ a → topup_of a (ToppedUp b x) ≡ x
topup_is a b x e = grind (arith, nat_tests)

topup_not : (a b x : ℕ) → b ≢ a → topup_of a (ToppedUp b x) ≡ 0
topup_not a b x e = grind (arith, nat_tests)

topups_after : (s : State) (m : Move) (a : ℕ) → IsAllowed s m → (numbers (after m s) a).topups ≡ topup_of a m + (numbers s a).topups
topups_after s Added a allowed = subst (λ (n : Numbers). n.topups ≡ 0 + (numbers s a).topups) (sym (get_or_push s.accounts a)) (omega arith)
topups_after s (ToppedUp b x) a allowed = at_write s.accounts b a (topped_up (numbers s b) x) (λ n. n.topups ≡ topup_of a (ToppedUp b x) + (numbers s a).topups) allowed
    (λ e. let t = topup_is a b x (sym e) in let n : (numbers s b).topups ≡ (numbers s a).topups = ap (λ j. (numbers s j).topups) (sym e) in omega arith)
    (λ e. let t = topup_not a b x (λ z. e (sym z)) in omega arith)
topups_after s (Charged b t g lsn x) a allowed = at_write s.accounts b a (debited (numbers s b) (from_own s (at t g) x + from_free s b (at t g) x) (uncovered s b (at t g) x)) (λ n. n.topups ≡ 0 + (numbers s a).topups) allowed.0
    (λ e. let n : (numbers s b).topups ≡ (numbers s a).topups = ap (λ j. (numbers s j).topups) (sym e) in omega arith)
    (λ e. omega arith)
topups_after s (Reserved b t g x d) a allowed = omega arith
topups_after s (Released t g) a allowed = omega arith
topups_after s (ReleasedAll t) a allowed = omega arith
topups_after s (Expired m) a allowed = omega arith

pub topups_are_summed : TopupsAreSummed
topups_are_summed [] a allowed = refl
topups_are_summed (m ∷ ms) a allowed = topups_after (state_of ms) m a allowed.0 ∙ ap (λ n. topup_of a m + n) (topups_are_summed ms a allowed.1) ∙ sym (sum_by-cons (topup_of a) m ms)
