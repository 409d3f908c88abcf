-- Each request holds the oldest waiting containers, as they were closed.
use Rattle.std.proofs.Common.{◌≡◌, ℕ, suc, ◌+◌, ◌-◌, ◌<◌, ◌≤◌, ◌==◌, ◌&&◌, nat_lt, Bool, true, false, cond, List, [], ◌∷◌, length, refl, sym, ◌∙◌, ap, subst, arith, ⊎_elim}
use Rattle.std.specs.Prelude.{Option, Some, None, option_map}
use Rattle.std.specs.List.{AllByRecursion}
use Rattle.std.proofs.lemmas.Bool.{eqb-true, eq-eqb, and_parts, ltb-true, lt-ltb, cases_eq, cases_lt}
use Rattle.std.proofs.lemmas.Bool.Decides.{nat_tests}
use Rattle.units.specs.declared.trigger.TriggerType.{TriggerType}
use Rattle.units.specs.declared.trigger.Closed.{Closed}
use Rattle.units.specs.declared.request.Operation.{Operation}
use Rattle.sessions.specs.Kept.{uses, occurs_in}
use Rattle.sessions.specs.Trace.{Move, requests, settled as answered_requests, phase, closed_as, given_up, IsWaiting}
use Rattle.sessions.specs.Trace.Phase.{Idle}
use Rattle.smf_model.specs.declared.setup.SmfSetup.{SmfSetup}
use Rattle.smf_model.specs.declared.session.Place.TheVariants.{Frozen}
use Rattle.smf_model.specs.declared.session.Holding.{Holding}
use Rattle.smf_model.specs.declared.session.Entry.{Entry}
use Rattle.smf_model.specs.declared.session.Session.{Session}
use Rattle.smf_model.specs.Settle.{is_waiting, is_frozen}
use Rattle.smf_model.specs.Freeze.{move_oldest, names_of, used_as, is_frozen_of, used_of, usage_of, says_something, usages, request_of}
use Rattle.smf_model.specs.Places.{place_by, place_of, closed_holding, AreInOrder}
use Rattle.smf_model.specs.Contents.{used_closed, IsHeld, waiting_to, IsContent}
use Rattle.smf_model.proofs.TraceLaws.{all_answered, newest_by}
use Rattle.smf_model.proofs.Counted.{entries_at, standing, occurs_standing, standing_is, AreEntered}
use Rattle.smf_model.proofs.Placed.{IsAt, placed_by, is_waiting_by}
use Rattle.smf_model.proofs.Frozen.{none_frozen, IsChosen, chosen_each}
use Rattle.smf_model.proofs.Entries.{HasEntries}
use Rattle.smf_model.proofs.Held.{Stands}

-- as they were closed

some_trigger : (h : Holding) (o : Option TriggerType) (c : Closed) → h.trigger ≡ o → closed_holding h ≡ Some c → used_as h ≡ used_closed c
some_trigger h None c is e = absurd (let f : None ≡ Some c = sym (ap (option_map (λ trigger. record { container = h.container; trigger = trigger; moment = h.moment })) is) ∙ e in cc)
some_trigger h (Some x) c is e =
    let k : Closed = record { container = h.container; trigger = x; moment = h.moment } in
    let here : Some k ≡ Some c = sym (ap (option_map (λ trigger. record { container = h.container; trigger = trigger; moment = h.moment })) is) ∙ e in
    let same : k ≡ c = cc in
    ap (λ o. record { lsn = h.container.lsn; group = h.container.group; up = h.container.up; down = h.container.down; seconds = h.container.seconds; first = h.container.first; last = h.container.last; triggers = names_of o; moment = h.moment }) is
    ∙ ap used_closed same

frozen_held : (t : List Move) (h : Holding) → IsChosen t h → is_frozen h.place ≡ true → IsHeld t h.container.group (used_as h)
frozen_held t h c e =
    let w : IsWaiting t h.container.lsn = c.waits e in
    record { of_group = refl; closed = w.closed; is_closed = w.is_closed; same = some_trigger h h.trigger w.closed refl (c.closed ∙ w.is_closed) }

used_held : (t : List Move) (group : ℕ) (hs : List Holding) → AllByRecursion (IsChosen t) hs → AllByRecursion (IsHeld t group) (used_of group hs)
used_held t group [] a = tt
used_held t group (h ∷ hs) a = at (is_frozen_of group h) refl (used_held t group hs a.1)
  where
    at : (b : Bool) → is_frozen_of group h ≡ b → AllByRecursion (IsHeld t group) (used_of group hs) → AllByRecursion (IsHeld t group) (cond b (used_as h ∷ used_of group hs) (used_of group hs))
    at true e rest =
        let both = and_parts (is_frozen h.place) (h.container.group == group) e in
        (subst (λ g. IsHeld t g (used_as h)) (eqb-true h.container.group group both.1) (frozen_held t h a.0 both.0), rest)
    at false e rest = rest

usages_held : (t : List Move) (hs : List Holding) (es : List Entry) → AllByRecursion (IsChosen t) hs → AllByRecursion (λ u. AllByRecursion (IsHeld t u.group) u.used) (usages hs es)
usages_held t hs [] a = tt
usages_held t hs (e ∷ es) a = at (says_something e (used_of e.number hs)) (usages_held t hs es a)
  where
    at : (b : Bool) → AllByRecursion (λ u. AllByRecursion (IsHeld t u.group) u.used) (usages hs es) → AllByRecursion (λ u. AllByRecursion (IsHeld t u.group) u.used) (cond b (usage_of e (used_of e.number hs) ∷ usages hs es) (usages hs es))
    at true rest = (used_held t e.number hs a, rest)
    at false rest = rest

-- the oldest

pub waiting_next : (t : List Move) (n : ℕ) → waiting_to t (n + 1) ≡ cond (is_waiting (place_of t (n + 1))) 1 0 + waiting_to t n
waiting_next t n = let same : n + 1 ≡ suc n = omega arith in subst (λ m. waiting_to t m ≡ cond (is_waiting (place_of t m)) 1 0 + waiting_to t n) (sym same) refl

-- how many may still be chosen
abbrev rest_of : List Move → ℕ → ℕ
rest_of t n = 500 - waiting_to t n

-- what is chosen waits, and is among the oldest
chosen_old : (t : List Move) (n : ℕ) (hs : List Holding) (most : ℕ) → most ≡ rest_of t n → AreInOrder (n + 1) hs → AllByRecursion (IsAt t) hs → AllByRecursion (λ h. is_frozen h.place ≡ false) hs
    → AllByRecursion (λ h. is_frozen h.place ≡ true → IsWaiting t h.container.lsn × (waiting_to t h.container.lsn ≤ 500)) (move_oldest most Frozen hs)
chosen_old t n [] most left o a none = tt
chosen_old t n (h ∷ hs) most left o a none =
    at (is_waiting h.place) (nat_lt 0 most) refl refl (λ m e. chosen_old t (n + 1) hs m e o.1 a.1 none.1)
  where
    W : Holding → Type 0
    W g = is_frozen g.place ≡ true → IsWaiting t g.container.lsn × (waiting_to t g.container.lsn ≤ 500)

    here : is_waiting h.place ≡ is_waiting (place_of t (n + 1))
    here = ap is_waiting a.0.place ∙ ap (λ k. is_waiting (place_of t k)) o.0

    count : waiting_to t (n + 1) ≡ cond (is_waiting h.place) 1 0 + waiting_to t n
    count = waiting_next t n ∙ ap (λ b. cond b 1 0 + waiting_to t n) (sym here)

    never : W h
    never e = absurd (let f : true ≡ false = sym e ∙ none.0 in cc)

    at : (x b : Bool) → is_waiting h.place ≡ x → nat_lt 0 most ≡ b → ((m : ℕ) → m ≡ rest_of t (n + 1) → AllByRecursion W (move_oldest m Frozen hs))
        → AllByRecursion W (cond (x && b) (record h { place = Frozen } ∷ move_oldest (most - 1) Frozen hs) (h ∷ move_oldest most Frozen hs))
    at true true w l k =
        let one : waiting_to t (n + 1) ≡ 1 + waiting_to t n = count ∙ ap (λ b. cond b 1 0 + waiting_to t n) w in
        let some : 0 < most = ltb-true 0 most l in
        (λ e. (is_waiting_by t h w a.0, subst (λ m. waiting_to t m ≤ 500) (sym o.0) (omega (arith, one, some, left))), k (most - 1) (omega (arith, one, left)))
    at true false w l k =
        let one : waiting_to t (n + 1) ≡ 1 + waiting_to t n = count ∙ ap (λ b. cond b 1 0 + waiting_to t n) w in
        let zero_left : most ≡ 0 = grind (arith, l, nat_tests) in
        (never, k most (omega (arith, one, left, zero_left)))
    at false b w l k =
        let same : waiting_to t (n + 1) ≡ waiting_to t n = count ∙ ap (λ b. cond b 1 0 + waiting_to t n) w ∙ omega arith in
        (never, k most (omega (arith, same, left)))

-- a container that waits by the moves is at the waiting place
pub waits_by_moves : (t : List Move) (k : ℕ) → IsWaiting t k → is_waiting (place_of t k) ≡ true
waits_by_moves t k w =
    ap is_waiting (placed_by (closed_as t k) (given_up t k) (uses k (requests t) == 0) (uses k (answered_requests t) == 0) w.closed true (uses k (answered_requests t) == 0) w.is_closed w.not_given_up (eq-eqb (uses k (requests t)) 0 w.in_none) refl)

-- what waits and is among the oldest is chosen
old_chosen : (t : List Move) (n : ℕ) (hs : List Holding) (es : List Entry) (most k : ℕ) → most ≡ rest_of t n → AreInOrder (n + 1) hs → AllByRecursion (IsAt t) hs → AreEntered es hs
    → n < k → k ≤ n + length hs → IsWaiting t k → waiting_to t k ≤ 500 → 0 < standing k (move_oldest most Frozen hs) es
old_chosen t n [] es most k left o a entered low high w old = absurd (omega (arith, low, high))
old_chosen t n (h ∷ hs) es most k left o a entered low high w old = ⊎_elim
    (λ (same : k ≡ n + 1). first same)
    (λ (other : k ≡ n + 1 → ⊥). later other (λ m e. old_chosen t (n + 1) hs es m k e o.1 a.1 entered.1 (omega (arith, low, other)) (omega (arith, high)) w old))
    (cases_eq k (n + 1))
  where
    here : is_waiting h.place ≡ is_waiting (place_of t (n + 1))
    here = ap is_waiting a.0.place ∙ ap (λ m. is_waiting (place_of t m)) o.0

    count : waiting_to t (n + 1) ≡ cond (is_waiting h.place) 1 0 + waiting_to t n
    count = waiting_next t n ∙ ap (λ b. cond b 1 0 + waiting_to t n) (sym here)

    first : k ≡ n + 1 → 0 < standing k (move_oldest most Frozen (h ∷ hs)) es
    first same =
        let waits : is_waiting h.place ≡ true = here ∙ ap (λ m. is_waiting (place_of t m)) (sym same) ∙ waits_by_moves t k w in
        let one : waiting_to t (n + 1) ≡ 1 + waiting_to t n = count ∙ ap (λ b. cond b 1 0 + waiting_to t n) waits in
        let within : waiting_to t (n + 1) ≤ 500 = subst (λ m. waiting_to t m ≤ 500) same old in
        let some : 0 < most = omega (arith, one, within, left) in
        let moved : (is_waiting h.place && nat_lt 0 most) ≡ true = ap (λ b. b && nat_lt 0 most) waits ∙ lt-ltb 0 most some in
        let is : (h.container.lsn == k) ≡ true = eq-eqb h.container.lsn k (o.0 ∙ sym same) in
        let entries : 0 < entries_at h.container.group es = entered.0 in
        subst (λ b. 0 < standing k (cond b (record h { place = Frozen } ∷ move_oldest (most - 1) Frozen hs) (h ∷ move_oldest most Frozen hs)) es) (sym moved)
        (subst (λ b. 0 < cond b (entries_at h.container.group es) 0 + standing k (move_oldest (most - 1) Frozen hs) es) (sym is) (omega (arith, entries)))

    later : (k ≡ n + 1 → ⊥) → ((m : ℕ) → m ≡ rest_of t (n + 1) → 0 < standing k (move_oldest m Frozen hs) es) → 0 < standing k (move_oldest most Frozen (h ∷ hs)) es
    later other next = at (is_waiting h.place) (nat_lt 0 most) refl refl next
      where
        at : (x b : Bool) → is_waiting h.place ≡ x → nat_lt 0 most ≡ b → ((m : ℕ) → m ≡ rest_of t (n + 1) → 0 < standing k (move_oldest m Frozen hs) es)
            → 0 < standing k (cond (x && b) (record h { place = Frozen } ∷ move_oldest (most - 1) Frozen hs) (h ∷ move_oldest most Frozen hs)) es
        at true true w l next =
            let one : waiting_to t (n + 1) ≡ 1 + waiting_to t n = count ∙ ap (λ b. cond b 1 0 + waiting_to t n) w in
            let more : 0 < standing k (move_oldest (most - 1) Frozen hs) es = next (most - 1) (omega (arith, one, left)) in
            omega (arith, more)
        at true false w l next =
            let one : waiting_to t (n + 1) ≡ 1 + waiting_to t n = count ∙ ap (λ b. cond b 1 0 + waiting_to t n) w in
            let zero_left : most ≡ 0 = grind (arith, l, nat_tests) in
            let more : 0 < standing k (move_oldest most Frozen hs) es = next most (omega (arith, one, left, zero_left)) in
            omega (arith, more)
        at false b w l next =
            let same : waiting_to t (n + 1) ≡ waiting_to t n = count ∙ ap (λ b. cond b 1 0 + waiting_to t n) w ∙ omega arith in
            let more : 0 < standing k (move_oldest most Frozen hs) es = next most (omega (arith, same, left)) in
            omega (arith, more)

-- a request that is frozen

unfrozen : (t : List Move) (hs : List Holding) → requests t ≡ answered_requests t → AllByRecursion (IsAt t) hs → AllByRecursion (λ h. is_frozen h.place ≡ false) hs
unfrozen t [] all a = tt
unfrozen t (h ∷ hs) all a = (
  ap is_frozen a.0.place
      ∙ ap (λ rs. is_frozen (place_by (closed_as t h.container.lsn) (given_up t h.container.lsn) (uses h.container.lsn rs == 0) (uses h.container.lsn (answered_requests t) == 0))) all
      ∙ none_frozen (closed_as t h.container.lsn) (given_up t h.container.lsn) (uses h.container.lsn (answered_requests t) == 0),
  unfrozen t hs all a.1,
)

pub is_content : (setup : SmfSetup) (now : ℕ) (o : Operation) (t : List Move) (s : Session) → phase t ≡ Idle → Stands t s → HasEntries s → IsContent t (request_of setup now s o)
is_content setup now o t s idle h entries = record {
  as_closed = usages_held t moved s.groups (chosen_each t s.holdings 500 all h.each);
  oldest = λ lsn low. (λ l. in_it lsn l, λ w. of_old lsn low w.0 w.1);
}
  where
    moved : List Holding
    moved = move_oldest 500 Frozen s.holdings

    all : requests t ≡ answered_requests t
    all = all_answered t (newest_by t h.valid) idle

    stands : (lsn : ℕ) → occurs_in lsn (usages moved s.groups) ≡ standing lsn moved s.groups
    stands lsn = occurs_standing lsn moved s.groups

    in_it : (lsn : ℕ) → 0 < occurs_in lsn (usages moved s.groups) → IsWaiting t lsn × (waiting_to t lsn ≤ 500)
    in_it lsn l =
        standing_is (λ k. IsWaiting t k × (waiting_to t k ≤ 500)) lsn moved s.groups
        (chosen_old t 0 s.holdings 500 (omega arith) h.numbered h.each (unfrozen t s.holdings all h.each))
        (let e = stands lsn in omega (arith, l, e))

    within : (lsn : ℕ) → IsWaiting t lsn → lsn ≤ length s.holdings
    within lsn w = ⊎_elim
        (λ (more : length s.holdings < lsn). absurd (let f : None ≡ Some w.closed = sym (h.beyond lsn more) ∙ w.is_closed in cc))
        (λ (fits : lsn ≤ length s.holdings). fits)
        (cases_lt (length s.holdings) lsn)

    of_old : (lsn : ℕ) → 0 < lsn → IsWaiting t lsn → waiting_to t lsn ≤ 500 → 0 < occurs_in lsn (usages moved s.groups)
    of_old lsn low w old =
        let fits : lsn ≤ length s.holdings = within lsn w in
        let l : 0 < standing lsn moved s.groups = old_chosen t 0 s.holdings s.groups 500 lsn (omega arith) h.numbered h.each entries.entered low (omega (arith, fits)) w old in
        let e = stands lsn in
        omega (arith, l, e)
