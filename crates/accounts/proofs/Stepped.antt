-- What one move does to what is free and what is left.
use Rattle.std.proofs.Common.{◌≡◌, ◌≢◌, ◌≤◌, ◌==◌, nat_le, ℕ, ◌+◌, ◌-◌, true, false, cond, Option, Some, None, IfSome, refl, sym, ap, ◌∙◌, arith, sum_by, slice_index_or, slice_set}
use Rattle.std.proofs.lemmas.Bool.Decides.{nat_tests}
use Rattle.std.proofs.lemmas.List.{get_or-set_same, get_or-set_other}
use Rattle.std.specs.FinMap as map
use Rattle.accounts.specs.declared.reservation.Key.{Key}
use Rattle.accounts.specs.declared.reservation.Reservation.{Reservation}
use Rattle.accounts.specs.Reservations.{at, keys_total, ReservationMap, left_of, keys_exact}
use Rattle.accounts.specs.Ledger.{Numbers, nothing, numbers, share, free, left, from_own, from_free, uncovered}
use Rattle.accounts.specs.Moves.{debited, lessened, lessened_at}
use Rattle.accounts.specs.Steps.{ChargesTake, ReservesTake, ReleasesGive}
use Rattle.accounts.proofs.FinSums.{weight, sum-insert, sum-remove}
use Rattle.accounts.proofs.Sound.{lessened_own, lessened_other, share_is, share_not}
use Rattle.accounts.proofs.Since.{less_apart, tied, tests}

-- what is left after a charge
lessened_left : (m : ReservationMap) (k : Key) (x : ℕ) → left_of (map.get (lessened m k x) k) ≡ left_of (map.get m k) - x
lessened_left m k x = by_case (map.get m k) refl
  where
    by_case : (w : Option Reservation) → map.get m k ≡ w → left_of (map.get (lessened_at m k x w) k) ≡ left_of w - x
    by_case None e = let z : left_of (map.get m k) ≡ 0 = ap left_of e in omega arith
    by_case (Some r) e =
        let g : Reservation = record { account = r.account; left = r.left - x; deadline = r.deadline } in
        let gone : left_of (map.get (map.remove m k) k) ≡ 0 = ap left_of (map.get-remove keys_total m k k ∙ ap (λ b. cond b None (map.get m k)) (tied k)) in
        let less : left_of (map.get (map.insert m k g) k) ≡ r.left - x = ap left_of (map.get-insert keys_total m k g k ∙ ap (λ b. cond b (Some g) (map.get m k)) (tied k)) in
        elim (nat_le r.left x) as (λ b. nat_le r.left x ≡ b → left_of (map.get (cond b (map.remove m k) (map.insert m k g)) k) ≡ r.left - x) [
          | true ↦ λ t. let q : r.left ≤ x = grind (arith, nat_tests) in omega arith
          | false ↦ λ t. less
        ] refl

pub charges_take : ChargesTake
charges_take s a t g lsn x lt own h =
    let n = debited (numbers s a) (from_own s (at t g) x + from_free s a (at t g) x) (uncovered s a (at t g) x) in
    let new : slice_index_or (slice_set s.accounts a n) a nothing ≡ n = get_or-set_same s.accounts a n nothing lt in
    let taken : (slice_index_or (slice_set s.accounts a n) a nothing).taken ≡ n.taken = ap (λ (z : Numbers). z.taken) new in
    let topups : (slice_index_or (slice_set s.accounts a n) a nothing).topups ≡ n.topups = ap (λ (z : Numbers). z.topups) new in
    let less = lessened_own s.reservations (at t g) x a own in
    let within = h.within in
    let some = h.taken in
    record {
      free = omega arith;
      left = lessened_left s.reservations (at t g) x;
      others = record {
        free = λ b e.
            let same : slice_index_or (slice_set s.accounts a n) b nothing ≡ slice_index_or s.accounts b nothing = get_or-set_other s.accounts a b n nothing e in
            let sums = lessened_other s.reservations (at t g) x a b own e in
            ap (λ (z : Numbers). z.topups - z.taken - sum_by (share b) (map.values (lessened s.reservations (at t g) x))) same ∙ ap (λ z. (numbers s b).topups - (numbers s b).taken - z) sums;
        left = λ k e. ap left_of (less_apart s.reservations (at t g) k x e);
      };
    }

pub reserves_take : ReservesTake
reserves_take s a t g x d none = record {
  free = let i = sum-insert keys_total (share a) s.reservations (at t g) new in let v : share a new ≡ x = share_is new a refl in let w : weight (share a) (map.get s.reservations (at t g)) ≡ 0 = ap (weight (share a)) none in
      elim (x == 0) as (λ b. ◌==◌ x 0 ≡ b → (numbers s a).topups - (numbers s a).taken - sum_by (share a) (map.values (cond b s.reservations (map.insert s.reservations (at t g) new))) ≡ free s a - x) [
        | true ↦ λ e. let z : x ≡ 0 = grind (arith, nat_tests) in omega arith
        | false ↦ λ e. omega arith
      ] refl;
  left = elim (x == 0) as (λ b. ◌==◌ x 0 ≡ b → left_of (map.get (cond b s.reservations (map.insert s.reservations (at t g) new)) (at t g)) ≡ x) [
    | true ↦ λ e. let z : x ≡ 0 = grind (arith, nat_tests) in let l : left_of (map.get s.reservations (at t g)) ≡ 0 = ap left_of none in omega arith
    | false ↦ λ e. ap left_of (map.get-insert keys_total s.reservations (at t g) new (at t g) ∙ ap (λ b. cond b (Some new) (map.get s.reservations (at t g))) (tied (at t g)))
  ] refl;
  others = record {
    free = λ b n. let i = sum-insert keys_total (share b) s.reservations (at t g) new in let v : share b new ≡ 0 = share_not new b (λ z. n (sym z)) in let w : weight (share b) (map.get s.reservations (at t g)) ≡ 0 = ap (weight (share b)) none in
        elim (x == 0) as (λ c. (numbers s b).topups - (numbers s b).taken - sum_by (share b) (map.values (cond c s.reservations (map.insert s.reservations (at t g) new))) ≡ free s b) [ true ↦ refl | false ↦ omega arith ];
    left = λ k e. elim (x == 0) as (λ c. left_of (map.get (cond c s.reservations (map.insert s.reservations (at t g) new)) k) ≡ left s k) [
      | true ↦ refl
      | false ↦ ap left_of (map.get-insert keys_total s.reservations (at t g) new k ∙ ap (λ b. cond b (Some new) (map.get s.reservations k)) (tests (at t g) k ∙ e))
    ];
  };
}
  where
    new : Reservation
    new = record { account = a; left = x; deadline = d }

-- what a reservation weighs for its account, and for another
own_weight : (w : Option Reservation) (a : ℕ) → IfSome w (λ r. r.account ≡ a) → weight (share a) w ≡ left_of w
own_weight None a o = refl
own_weight (Some r) a o = share_is r a o

no_weight : (w : Option Reservation) (a b : ℕ) → IfSome w (λ r. r.account ≡ a) → b ≢ a → weight (share b) w ≡ 0
no_weight None a b o n = refl
no_weight (Some r) a b o n = share_not r b (λ z. n (sym z ∙ o))

pub releases_give : ReleasesGive
releases_give s a t g own h = record {
  free = let r = sum-remove keys_total (share a) keys_exact s.reservations (at t g) in let w = own_weight (map.get s.reservations (at t g)) a own in let within = h.within in omega arith;
  left = ap left_of (map.get-remove keys_total s.reservations (at t g) (at t g) ∙ ap (λ b. cond b None (map.get s.reservations (at t g))) (tied (at t g)));
  others = record {
    free = λ b n. let r = sum-remove keys_total (share b) keys_exact s.reservations (at t g) in let w = no_weight (map.get s.reservations (at t g)) a b own n in omega arith;
    left = λ k e. ap left_of (map.get-remove keys_total s.reservations (at t g) k ∙ ap (λ b. cond b None (map.get s.reservations k)) (tests (at t g) k ∙ e));
  };
}
