-- What each move keeps: reservations are within the balance, and what was debited is taken or owed.
use Rattle.std.proofs.Common.{zero, suc, ◌≡◌, ◌≢◌, ◌≤◌, ◌<◌, ℕ, ◌+◌, ◌-◌, min, true, false, cond, ◌==◌, nat_le, List, [], ◌∷◌, ◌++◌, length, Option, Some, None, IfSome, refl, sym, ap, ◌∙◌, subst, arith, sum_by, slice_index_or, slice_set, ⊎_elim}
use Rattle.std.proofs.lemmas.Bool.{cases_eq}
use Rattle.std.proofs.lemmas.Bool.Decides.{nat_tests}
use Rattle.std.proofs.lemmas.List.{get_or-set_same, get_or-set_other}
use Rattle.std.proofs.lemmas.List.Sums.{sum_by_push}
use Rattle.std.specs.FinMap as map
use Rattle.accounts.proofs.FinSums.{weight, sum-insert, sum-remove}
use Rattle.accounts.specs.declared.reservation.Key.{Key}
use Rattle.accounts.specs.declared.reservation.Reservation.{Reservation}
use Rattle.accounts.specs.declared.line.Line.{Line}
use Rattle.accounts.specs.Reservations.{at, keys_total, ReservationMap, left_of, keys_exact}
use Rattle.accounts.specs.Ledger.{Numbers, State, nothing, numbers, left, share, reserved, free, line_share, debits, from_own, from_free, uncovered}
use Rattle.accounts.specs.Moves.{Added, ToppedUp, Charged, Reserved, Released, topped_up, debited, lessened_at, lessened, after}
use Rattle.accounts.specs.Caches.{IsSound}

-- an account after a write, and each other
pub at_write : (xs : List Numbers) (a b : ℕ) (n : Numbers) (P : Numbers → Type 0) → a < length xs → (b ≡ a → P n) → (b ≢ a → P (slice_index_or xs b nothing)) → P (slice_index_or (slice_set xs a n) b nothing)
at_write xs a b n P lt same other = ⊎_elim
    (λ (e : b ≡ a). subst (λ j. P (slice_index_or (slice_set xs a n) j nothing)) (sym e) (subst P (sym (get_or-set_same xs a n nothing lt)) (same e)))
    (λ (e : b ≢ a). subst P (sym (get_or-set_other xs a b n nothing e)) (other e))
    (cases_eq b a)

pub share_is : (h : Reservation) (b : ℕ) → h.account ≡ b → share b h ≡ h.left
share_is h b e = grind (arith, nat_tests)

pub share_not : (h : Reservation) (b : ℕ) → h.account ≢ b → share b h ≡ 0
share_not h b e = grind (arith, nat_tests)

set_aside : ℕ → ReservationMap → ℕ
set_aside b m = sum_by (share b) (map.values m)

-- an account's reservations after its own is made lessened, and those of each other account
pub lessened_own : (m : ReservationMap) (k : Key) (x a : ℕ) → IfSome (map.get m k) (λ h. h.account ≡ a) → sum_by (share a) (map.values (lessened m k x)) + min x (left_of (map.get m k)) ≡ sum_by (share a) (map.values m)
lessened_own m k x a = by_case (map.get m k) refl
  where
    by_case : (w : Option Reservation) → map.get m k ≡ w → IfSome w (λ h. h.account ≡ a) → sum_by (share a) (map.values (lessened_at m k x w)) + min x (left_of w) ≡ sum_by (share a) (map.values m)
    by_case None e o = omega arith
    by_case (Some h) e o =
        let w : weight (share a) (map.get m k) ≡ h.left = ap (weight (share a)) e ∙ share_is h a o in
        let r = sum-remove keys_total (share a) keys_exact m k in
        let g : Reservation = record { account = h.account; left = h.left - x; deadline = h.deadline } in
        let i = sum-insert keys_total (share a) m k g in
        let s : share a g ≡ h.left - x = share_is g a o in
        elim (nat_le h.left x) as (λ b. nat_le h.left x ≡ b → sum_by (share a) (map.values (cond b (map.remove m k) (map.insert m k g))) + min x h.left ≡ sum_by (share a) (map.values m)) [
          | true ↦ λ t. let q : h.left ≤ x = grind (arith, nat_tests) in omega arith
          | false ↦ λ t. let q : x < h.left = grind (arith, nat_tests) in omega arith
        ] refl

pub lessened_other : (m : ReservationMap) (k : Key) (x a b : ℕ) → IfSome (map.get m k) (λ h. h.account ≡ a) → b ≢ a → sum_by (share b) (map.values (lessened m k x)) ≡ sum_by (share b) (map.values m)
lessened_other m k x a b = by_case (map.get m k) refl
  where
    by_case : (w : Option Reservation) → map.get m k ≡ w → IfSome w (λ h. h.account ≡ a) → b ≢ a → sum_by (share b) (map.values (lessened_at m k x w)) ≡ sum_by (share b) (map.values m)
    by_case None e o n = refl
    by_case (Some h) e o n =
        let no : h.account ≢ b = λ (z : h.account ≡ b). n (sym z ∙ o) in
        let w : weight (share b) (map.get m k) ≡ 0 = ap (weight (share b)) e ∙ share_not h b no in
        let r = sum-remove keys_total (share b) keys_exact m k in
        let g : Reservation = record { account = h.account; left = h.left - x; deadline = h.deadline } in
        let i = sum-insert keys_total (share b) m k g in
        let s : share b g ≡ 0 = share_not g b no in
        elim (nat_le h.left x) as (λ c. sum_by (share b) (map.values (cond c (map.remove m k) (map.insert m k g))) ≡ sum_by (share b) (map.values m)) [
          | true ↦ omega arith
          | false ↦ omega arith
        ]

pub sound_topup : (s : State) (a x b : ℕ) → a < length s.accounts → IsSound s b → IsSound (after (ToppedUp a x) s) b
sound_topup s a x b lt h = record {
  balance = at_write s.accounts a b (topped_up (numbers s a) x) (λ n. reserved s b + n.taken ≤ n.topups) lt
      (λ e. subst (λ j. reserved s j + (topped_up (numbers s a) x).taken ≤ (topped_up (numbers s a) x).topups) (sym e) (let i : reserved s a + (numbers s a).taken ≤ (numbers s a).topups = subst (λ j. reserved s j + (numbers s j).taken ≤ (numbers s j).topups) e h.balance in omega arith))
      (λ _. h.balance);
  debits = at_write s.accounts a b (topped_up (numbers s a) x) (λ n. debits s.lines b ≡ n.taken + n.owed) lt
      (λ e. let i : debits s.lines b ≡ (numbers s a).taken + (numbers s a).owed = subst (λ j. debits s.lines b ≡ (numbers s j).taken + (numbers s j).owed) e h.debits in omega arith)
      (λ _. h.debits);
}

line_is : (l : Line) (b : ℕ) → l.account ≡ b → line_share b l ≡ l.amount
line_is l b e = grind (arith, nat_tests)

line_not : (l : Line) (b : ℕ) → l.account ≢ b → line_share b l ≡ 0
line_not l b e = grind (arith, nat_tests)

pub sound_charge : (s : State) (a t g lsn x b : ℕ) → a < length s.accounts → IfSome (map.get s.reservations (at t g)) (λ h. h.account ≡ a) → IsSound s b → IsSound (after (Charged a t g lsn x) s) b
sound_charge s a t g lsn x b lt own h =
    let l : Line = record { account = a; session = t; lsn = lsn; amount = x } in
    let n = debited (numbers s a) (from_own s (at t g) x + from_free s a (at t g) x) (uncovered s a (at t g) x) in
    let pushed : debits (s.lines ++ l ∷ []) b ≡ debits s.lines b + line_share b l = sum_by_push (line_share b) s.lines l in
    let kept = lessened s.reservations (at t g) x in
    let mine : a ≡ b → sum_by (share b) (map.values kept) + min x (left s (at t g)) ≡ reserved s b =
    λ (e : a ≡ b). subst (λ j. sum_by (share j) (map.values kept) + min x (left s (at t g)) ≡ reserved s j) e (lessened_own s.reservations (at t g) x a own) in
    record {
      balance = at_write s.accounts a b n (λ n. sum_by (share b) (map.values kept) + n.taken ≤ n.topups) lt
          (λ e. let m = mine (sym e) in let i : reserved s b + (numbers s a).taken ≤ (numbers s a).topups = subst (λ j. reserved s b + (numbers s j).taken ≤ (numbers s j).topups) e h.balance in
          let k : reserved s a ≡ reserved s b = ap (λ j. reserved s j) (sym e) in omega arith)
          (λ e. let o = lessened_other s.reservations (at t g) x a b own e in let i = h.balance in omega arith);
      debits = at_write s.accounts a b n (λ n. debits (s.lines ++ l ∷ []) b ≡ n.taken + n.owed) lt
          (λ e. let i : debits s.lines b ≡ (numbers s a).taken + (numbers s a).owed = subst (λ j. debits s.lines b ≡ (numbers s j).taken + (numbers s j).owed) e h.debits in
          let j = line_is l b (sym e) in omega arith)
          (λ e. let j = line_not l b (λ z. e (sym z)) in let i = h.debits in omega arith);
    }

pub get_or_push : (xs : List Numbers) (b : ℕ) → slice_index_or (xs ++ nothing ∷ []) b nothing ≡ slice_index_or xs b nothing
get_or_push [] zero = refl
get_or_push [] (suc b) = refl
get_or_push (x ∷ xs) zero = refl
get_or_push (x ∷ xs) (suc b) = get_or_push xs b

pub sound_add : (s : State) (b : ℕ) → IsSound s b → IsSound (after Added s) b
sound_add s b h = record {
  balance = subst (λ (n : Numbers). reserved s b + n.taken ≤ n.topups) (sym (get_or_push s.accounts b)) h.balance;
  debits = subst (λ (n : Numbers). debits s.lines b ≡ n.taken + n.owed) (sym (get_or_push s.accounts b)) h.debits;
}

pub sound_release : (s : State) (t g b : ℕ) → IsSound s b → IsSound (after (Released t g) s) b
sound_release s t g b h = record {
  balance = let r = sum-remove keys_total (share b) keys_exact s.reservations (at t g) in let k = h.balance in omega arith;
  debits = h.debits;
}

pub sound_reserve : (s : State) (a t g x : ℕ) (d : Option ℕ) (b : ℕ) → map.get s.reservations (at t g) ≡ None → x ≤ free s a → IsSound s b → IsSound (after (Reserved a t g x d) s) b
sound_reserve s a t g x d b e le h = record {
  balance = elim (x == 0) as (λ c. sum_by (share b) (map.values (cond c s.reservations (map.insert s.reservations (at t g) new))) + (numbers s b).taken ≤ (numbers s b).topups) [
    | true ↦ h.balance
    | false ↦ ⊎_elim
        (λ (z : a ≡ b). let r = sum-insert keys_total (share b) s.reservations (at t g) new in let v = share_is new b z in let k = h.balance in let f : x ≤ free s b = subst (λ j. x ≤ free s j) z le in omega arith)
        (λ (z : a ≢ b). let r = sum-insert keys_total (share b) s.reservations (at t g) new in let v = share_not new b z in let k = h.balance in omega arith)
        (cases_eq a b)
  ];
  debits = h.debits;
}
  where
    new : Reservation
    new = record { account = a; left = x; deadline = d }
