-- What one event gives up as too much.
use Rattle.std.proofs.Common.{◌≡◌, ◌⊎◌, inl, inr, ⊎_elim, ℕ, zero, suc, ◌+◌, ◌-◌, ◌<◌, ◌≤◌, ◌==◌, ◌&&◌, nat_lt, Bool, true, false, cond, List, [], ◌∷◌, ◌++◌, length, map, refl, sym, ◌∙◌, ap, subst, arith}
use Rattle.std.specs.Prelude.{Option, Some, None}
use Rattle.std.specs.List.{AllByRecursion}
use Rattle.std.proofs.lemmas.Bool.{eqb-true, eq-eqb, lt-ltb, ltb-true, cases_eq, cases_lt}
use Rattle.std.proofs.lemmas.Bool.Decides.{nat_tests}
use Rattle.std.proofs.lemmas.List.Sums.{sum_by-cons}
use Rattle.sessions.specs.Kept.{uses}
use Rattle.sessions.specs.Trace.{Move, Cause, requests, settled as answered_requests, closed_as, or_cause, given_up, IsWaiting}
use Rattle.sessions.specs.Trace.Move.{Drops}
use Rattle.sessions.specs.Trace.Cause.{HeldFull as HeldFullCause}
use Rattle.smf_model.specs.declared.session.Holding.{Holding}
use Rattle.smf_model.specs.declared.session.Session.{Session}
use Rattle.smf_model.specs.Settle.{is_waiting}
use Rattle.smf_model.specs.Freeze.{waiting_count}
use Rattle.smf_model.specs.Trace.{drop_moves}
use Rattle.smf_model.specs.Places.{place_of, AreInOrder}
use Rattle.smf_model.specs.Contents.{waiting_to}
use Rattle.smf_model.specs.Excess.{NoneWaitsAfter, waiting_between, GivesUpBeyond}
use Rattle.smf_model.proofs.TraceLaws.{first_cause}
use Rattle.smf_model.proofs.Placed.{IsAt, is_waiting_by, WaitsBy, waits_by, head_stays}
use Rattle.smf_model.proofs.Held.{Stands}
use Rattle.smf_model.proofs.Contents.{waiting_next, waits_by_moves}

-- the drops, by their numbers
abbrev pub drop_numbers : ℕ → List Holding → List ℕ
drop_numbers most [] = []
drop_numbers most (h ∷ hs) = cond (is_waiting h.place && nat_lt 0 most) (h.container.lsn ∷ drop_numbers (most - 1) hs) (drop_numbers most hs)

pub drops_numbered : (most : ℕ) (hs : List Holding) → drop_moves most hs ≡ map Drops (drop_numbers most hs)
drops_numbered most [] = refl
drops_numbered most (h ∷ hs) = at (is_waiting h.place && nat_lt 0 most) (λ n. drops_numbered n hs)
  where
    at : (b : Bool) → ((n : ℕ) → drop_moves n hs ≡ map Drops (drop_numbers n hs))
        → cond b (Drops h.container.lsn ∷ drop_moves (most - 1) hs) (drop_moves most hs) ≡ map Drops (cond b (h.container.lsn ∷ drop_numbers (most - 1) hs) (drop_numbers most hs))
    at true k = ap (λ l. Drops h.container.lsn ∷ l) (k (most - 1))
    at false k = k most

-- what is given up stays so
caused : (o : Option Cause) (b : Bool) (c later : Cause) → o ≡ Some c → or_cause o b later ≡ Some c
caused None b c later e = cc
caused (Some d) b c later e = e

given_stays : (u : List Move) (hs : List Holding) (most k : ℕ) (c : Cause) → given_up u k ≡ Some c → given_up (drop_moves most hs ++ u) k ≡ Some c
given_stays u [] most k c e = e
given_stays u (h ∷ hs) most k c e = at (is_waiting h.place && nat_lt 0 most) (λ n. given_stays u hs n k c e)
  where
    at : (b : Bool) → ((n : ℕ) → given_up (drop_moves n hs ++ u) k ≡ Some c) → given_up (cond b (Drops h.container.lsn ∷ drop_moves (most - 1) hs) (drop_moves most hs) ++ u) k ≡ Some c
    at true f = caused (given_up (drop_moves (most - 1) hs ++ u) k) (h.container.lsn == k) c HeldFullCause (f (most - 1))
    at false f = f most

-- how many waiting containers are counted before and at a container
counted : (u : List Move) (n : ℕ) (h : Holding) → h.container.lsn ≡ n + 1 → IsAt u h → waiting_to u (n + 1) ≡ cond (is_waiting h.place) 1 0 + waiting_to u n
counted u n h lsn a = waiting_next u n ∙ ap (λ b. cond b 1 0 + waiting_to u n) (sym (ap is_waiting a.place ∙ ap (λ k. is_waiting (place_of u k)) lsn))

-- what is dropped waits, and is among the oldest
dropped_old : (u : List Move) (over n : ℕ) (hs : List Holding) (most k : ℕ) → most ≡ over - waiting_to u n → AreInOrder (n + 1) hs → AllByRecursion (IsAt u) hs → given_up (drop_moves most hs ++ u) k ≡ Some HeldFullCause
    → (given_up u k ≡ Some HeldFullCause) ⊎ (IsWaiting u k × (waiting_to u k ≤ over))
dropped_old u over n [] most k left o a e = inl e
dropped_old u over n (h ∷ hs) most k left o a e = at (is_waiting h.place) (nat_lt 0 most) refl refl e (λ m l f. dropped_old u over (n + 1) hs m k l o.1 a.1 f)
  where
    count : waiting_to u (n + 1) ≡ cond (is_waiting h.place) 1 0 + waiting_to u n
    count = counted u n h o.0 a.0

    at : (x b : Bool) → is_waiting h.place ≡ x → nat_lt 0 most ≡ b → given_up (cond (x && b) (Drops h.container.lsn ∷ drop_moves (most - 1) hs) (drop_moves most hs) ++ u) k ≡ Some HeldFullCause
        → ((m : ℕ) → m ≡ over - waiting_to u (n + 1) → given_up (drop_moves m hs ++ u) k ≡ Some HeldFullCause → (given_up u k ≡ Some HeldFullCause) ⊎ (IsWaiting u k × (waiting_to u k ≤ over)))
        → (given_up u k ≡ Some HeldFullCause) ⊎ (IsWaiting u k × (waiting_to u k ≤ over))
    at true true w l e rest =
        let one : waiting_to u (n + 1) ≡ 1 + waiting_to u n = count ∙ ap (λ b. cond b 1 0 + waiting_to u n) w in
        let some : 0 < most = ltb-true 0 most l in
        ⊎_elim
        (λ (f : given_up (drop_moves (most - 1) hs ++ u) k ≡ Some HeldFullCause). rest (most - 1) (omega (arith, one, left)) f)
        (λ (same : (h.container.lsn == k) ≡ true).
        let is : h.container.lsn ≡ k = eqb-true h.container.lsn k same in
        inr (subst (IsWaiting u) is (is_waiting_by u h w a.0), subst (λ m. waiting_to u m ≤ over) (sym o.0 ∙ is) (omega (arith, one, some, left))))
        (first_cause (given_up (drop_moves (most - 1) hs ++ u) k) (h.container.lsn == k) HeldFullCause HeldFullCause e)
    at true false w l e rest =
        let one : waiting_to u (n + 1) ≡ 1 + waiting_to u n = count ∙ ap (λ b. cond b 1 0 + waiting_to u n) w in
        let none_left : most ≡ 0 = grind (arith, l, nat_tests) in
        rest most (omega (arith, one, left, none_left)) e
    at false b w l e rest =
        let same : waiting_to u (n + 1) ≡ waiting_to u n = count ∙ ap (λ b. cond b 1 0 + waiting_to u n) w ∙ omega arith in
        rest most (omega (arith, same, left)) e

-- what waits and is among the oldest is dropped
old_dropped : (u : List Move) (over n : ℕ) (hs : List Holding) (most k : ℕ) → most ≡ over - waiting_to u n → AreInOrder (n + 1) hs → AllByRecursion (IsAt u) hs → n < k → k ≤ n + length hs → IsWaiting u k → waiting_to u k ≤ over
    → given_up (drop_moves most hs ++ u) k ≡ Some HeldFullCause
old_dropped u over n [] most k left o a low high w old = absurd (omega (arith, low, high))
old_dropped u over n (h ∷ hs) most k left o a low high w old = ⊎_elim
    (λ (same : k ≡ n + 1). first same)
    (λ (other : k ≡ n + 1 → ⊥). later (λ m l. old_dropped u over (n + 1) hs m k l o.1 a.1 (omega (arith, low, other)) (omega (arith, high)) w old))
    (cases_eq k (n + 1))
  where
    count : waiting_to u (n + 1) ≡ cond (is_waiting h.place) 1 0 + waiting_to u n
    count = counted u n h o.0 a.0

    here : (m : ℕ) → IsAt (drop_moves m hs ++ u) h
    here m = head_stays u h (n + 1 + 1) hs m o.1 (omega (arith, o.0)) a.0

    first : k ≡ n + 1 → given_up (drop_moves most (h ∷ hs) ++ u) k ≡ Some HeldFullCause
    first same =
        let lsn : h.container.lsn ≡ k = o.0 ∙ sym same in
        let waits : is_waiting h.place ≡ true = ap is_waiting a.0.place ∙ ap (λ m. is_waiting (place_of u m)) lsn ∙ waits_by_moves u k w in
        let one : waiting_to u (n + 1) ≡ 1 + waiting_to u n = count ∙ ap (λ b. cond b 1 0 + waiting_to u n) waits in
        let within : waiting_to u (n + 1) ≤ over = subst (λ m. waiting_to u m ≤ over) same old in
        let some : 0 < most = omega (arith, one, within, left) in
        let moved : (is_waiting h.place && nat_lt 0 most) ≡ true = ap (λ b. b && nat_lt 0 most) waits ∙ lt-ltb 0 most some in
        let none : given_up (drop_moves (most - 1) hs ++ u) k ≡ None = subst (λ m. given_up (drop_moves (most - 1) hs ++ u) m ≡ None) lsn (is_waiting_by (drop_moves (most - 1) hs ++ u) h waits (here (most - 1))).not_given_up in
        subst (λ b. given_up (cond b (Drops h.container.lsn ∷ drop_moves (most - 1) hs) (drop_moves most hs) ++ u) k ≡ Some HeldFullCause) (sym moved)
        (ap (λ b. or_cause (given_up (drop_moves (most - 1) hs ++ u) k) b HeldFullCause) (eq-eqb h.container.lsn k lsn) ∙ ap (λ g. or_cause g true HeldFullCause) none)

    later : ((m : ℕ) → m ≡ over - waiting_to u (n + 1) → given_up (drop_moves m hs ++ u) k ≡ Some HeldFullCause) → given_up (drop_moves most (h ∷ hs) ++ u) k ≡ Some HeldFullCause
    later next = at (is_waiting h.place) (nat_lt 0 most) refl refl next
      where
        at : (x b : Bool) → is_waiting h.place ≡ x → nat_lt 0 most ≡ b → ((m : ℕ) → m ≡ over - waiting_to u (n + 1) → given_up (drop_moves m hs ++ u) k ≡ Some HeldFullCause)
            → given_up (cond (x && b) (Drops h.container.lsn ∷ drop_moves (most - 1) hs) (drop_moves most hs) ++ u) k ≡ Some HeldFullCause
        at true true w l next =
            let one : waiting_to u (n + 1) ≡ 1 + waiting_to u n = count ∙ ap (λ b. cond b 1 0 + waiting_to u n) w in
            caused (given_up (drop_moves (most - 1) hs ++ u) k) (h.container.lsn == k) HeldFullCause HeldFullCause (next (most - 1) (omega (arith, one, left)))
        at true false w l next =
            let one : waiting_to u (n + 1) ≡ 1 + waiting_to u n = count ∙ ap (λ b. cond b 1 0 + waiting_to u n) w in
            let none_left : most ≡ 0 = grind (arith, l, nat_tests) in
            next most (omega (arith, one, left, none_left))
        at false b w l next =
            let same : waiting_to u (n + 1) ≡ waiting_to u n = count ∙ ap (λ b. cond b 1 0 + waiting_to u n) w ∙ omega arith in
            next most (omega (arith, same, left))

-- how many wait in all

total_from : (u : List Move) (n : ℕ) (hs : List Holding) → AreInOrder (n + 1) hs → AllByRecursion (IsAt u) hs → waiting_to u (n + length hs) ≡ waiting_to u n + waiting_count hs
total_from u n [] o a = let same : n + 0 ≡ n = omega arith in ap (waiting_to u) same ∙ omega arith
total_from u n (h ∷ hs) o a =
    let count : waiting_to u (n + 1) ≡ cond (is_waiting h.place) 1 0 + waiting_to u n = counted u n h o.0 a.0 in
    let cons : waiting_count (h ∷ hs) ≡ cond (is_waiting h.place) 1 0 + waiting_count hs = sum_by-cons (λ (k : Holding). cond (is_waiting k.place) 1 0) h hs in
    let rest : waiting_to u (n + 1 + length hs) ≡ waiting_to u (n + 1) + waiting_count hs = total_from u (n + 1) hs o.1 a.1 in
    let same : n + length (h ∷ hs) ≡ n + 1 + length hs = omega arith in
    ap (waiting_to u) same ∙ omega (arith, rest, count, cons)

not_waiting : (u : List Move) (k : ℕ) → (IsWaiting u k → ⊥) → is_waiting (place_of u k) ≡ false
not_waiting u k never = at (is_waiting (place_of u k)) refl
  where
    at : (b : Bool) → is_waiting (place_of u k) ≡ b → b ≡ false
    at false e = refl
    at true e =
        let w : WaitsBy (closed_as u k) (given_up u k) (uses k (requests u) == 0) = waits_by (closed_as u k) (given_up u k) (uses k (requests u) == 0) (uses k (answered_requests u) == 0) e in
        absurd (never (record { closed = w.closed; is_closed = w.is_closed; in_none = eqb-true (uses k (requests u)) 0 w.unused; not_given_up = w.not_given }))

total_stays : (u : List Move) (a d : ℕ) → NoneWaitsAfter u a → waiting_to u (a + d) ≡ waiting_to u a
total_stays u a zero none = let same : a + 0 ≡ a = omega arith in ap (waiting_to u) same
total_stays u a (suc d) none =
    let same : a + suc d ≡ a + d + 1 = omega arith in
    let off : is_waiting (place_of u (a + d + 1)) ≡ false = not_waiting u (a + d + 1) (none (a + d + 1) (omega arith)) in
    let step : waiting_to u (a + d + 1) ≡ waiting_to u (a + d) = waiting_next u (a + d) ∙ ap (λ b. cond b 1 0 + waiting_to u (a + d)) off ∙ omega arith in
    ap (waiting_to u) same ∙ step ∙ total_stays u a d none

same_total : (u : List Move) (a b : ℕ) → NoneWaitsAfter u a → NoneWaitsAfter u b → waiting_to u a ≡ waiting_to u b
same_total u a b none_a none_b = ⊎_elim
    (λ (less : a < b). let same : a + (b - a) ≡ b = omega (arith, less) in sym (ap (waiting_to u) (sym same) ∙ total_stays u a (b - a) none_a))
    (λ (least : b ≤ a). let same : b + (a - b) ≡ a = omega (arith, least) in ap (waiting_to u) (sym same) ∙ total_stays u b (a - b) none_b)
    (cases_lt a b)

-- the containers of a session: none waits after the last
pub none_after : (u : List Move) (s : Session) → Stands u s → NoneWaitsAfter u (length s.holdings)
none_after u s h lsn more w = let f : None ≡ Some w.closed = sym (h.beyond lsn more) ∙ w.is_closed in cc

pub total_is : (u : List Move) (s : Session) (last : ℕ) → Stands u s → NoneWaitsAfter u last → waiting_to u last ≡ waiting_count s.holdings
total_is u s last h none =
    let whole : waiting_to u (0 + length s.holdings) ≡ waiting_to u 0 + waiting_count s.holdings = total_from u 0 s.holdings h.numbered h.each in
    let long : 0 + length s.holdings ≡ length s.holdings = omega arith in
    same_total u last (length s.holdings) none (none_after u s h) ∙ sym (ap (waiting_to u) long) ∙ whole ∙ omega arith

-- a container that waits is counted
counted_at : (u : List Move) (k : ℕ) → 0 < k → IsWaiting u k → waiting_to u k ≡ 1 + waiting_to u (k - 1)
counted_at u k some w =
    let same : k - 1 + 1 ≡ k = omega (arith, some) in
    sym (ap (waiting_to u) same) ∙ waiting_next u (k - 1) ∙ ap (λ m. cond (is_waiting (place_of u m)) 1 0 + waiting_to u (k - 1)) same ∙ ap (λ b. cond b 1 0 + waiting_to u (k - 1)) (waits_by_moves u k w)

pub beyond : (most : ℕ) (u : List Move) (s : Session) → Stands u s → GivesUpBeyond most u (drop_moves (waiting_count s.holdings - most) s.holdings ++ u)
beyond most u s h last lsn none some = (to, from)
  where
    over : ℕ
    over = waiting_count s.holdings - most

    total : waiting_to u last ≡ waiting_count s.holdings
    total = total_is u s last h none

    to : given_up (drop_moves over s.holdings ++ u) lsn ≡ Some HeldFullCause → (given_up u lsn ≡ Some HeldFullCause) ⊎ (IsWaiting u lsn × (most < waiting_between u lsn last))
    to e = ⊎_elim
        (λ (before : given_up u lsn ≡ Some HeldFullCause). inl before)
        (λ (found : IsWaiting u lsn × (waiting_to u lsn ≤ over)).
        let one : waiting_to u lsn ≡ 1 + waiting_to u (lsn - 1) = counted_at u lsn some found.0 in
        inr (found.0, omega (arith, one, found.1, total)))
        (dropped_old u over 0 s.holdings over lsn (omega arith) h.numbered h.each e)

    from : (given_up u lsn ≡ Some HeldFullCause) ⊎ (IsWaiting u lsn × (most < waiting_between u lsn last)) → given_up (drop_moves over s.holdings ++ u) lsn ≡ Some HeldFullCause
    from (inl e) = given_stays u s.holdings over lsn HeldFullCause e
    from (inr (w, l)) =
        let one : waiting_to u lsn ≡ 1 + waiting_to u (lsn - 1) = counted_at u lsn some w in
        let within : lsn ≤ length s.holdings = ⊎_elim
        (λ (more : length s.holdings < lsn). absurd (none_after u s h lsn more w))
        (λ (fits : lsn ≤ length s.holdings). fits)
        (cases_lt (length s.holdings) lsn) in
        old_dropped u over 0 s.holdings over lsn (omega arith) h.numbered h.each some (omega (arith, within)) w (omega (arith, one, l, total))
