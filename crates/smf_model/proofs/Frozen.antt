-- Containers as a freezing and a reply find and leave them.
use Rattle.std.proofs.Common.{◌≡◌, ℕ, ◌+◌, ◌-◌, ◌<◌, ◌≤◌, ◌==◌, ◌&&◌, ◌||◌, nat_lt, Bool, true, false, cond, List, [], ◌∷◌, length, refl, sym, ◌∙◌, ap, arith}
use Rattle.std.specs.Prelude.{Option, Some, None}
use Rattle.std.specs.List.{AllByRecursion}
use Rattle.std.proofs.lemmas.Bool.{eqb-true, eq-eqb, ne_eqb}
use Rattle.units.specs.declared.trigger.Closed.{Closed}
use Rattle.units.specs.declared.request.Request.{Request}
use Rattle.units.specs.declared.reply.Reply.{Reply}
use Rattle.sessions.specs.Kept.{is_success, uses, occurs_in}
use Rattle.sessions.specs.Trace.{Move, Cause, requests, settled, phase, closed_as, or_cause, given_up, IsWaiting, IsTrace}
use Rattle.sessions.specs.Trace.Move.{Freezes, GivesUp, Answers}
use Rattle.sessions.specs.Trace.Phase.{Idle}
use Rattle.sessions.specs.Trace.Cause.{WasNotSent, WasRefused}
use Rattle.smf_model.specs.declared.session.Place.{Place}
use Rattle.smf_model.specs.declared.session.Place.TheVariants.{Open, Waiting, Frozen, Answered, GivenUp}
use Rattle.smf_model.specs.declared.session.Holding.{Holding}
use Rattle.smf_model.specs.declared.session.Entry.{Entry}
use Rattle.smf_model.specs.Settle.{is_open, is_waiting, is_frozen}
use Rattle.smf_model.specs.Freeze.{move_oldest, usages}
use Rattle.smf_model.specs.Replies.{answer_holding}
use Rattle.smf_model.specs.Traffic.{give_up}
use Rattle.smf_model.specs.Places.{why_of, place_by, place_of, closed_holding, AreInOrder}
use Rattle.smf_model.proofs.TraceLaws.{uses_settled, all_answered, newest_by}
use Rattle.smf_model.proofs.Counted.{standing, occurs_standing, standing_is, AreApart, stands_once, AreEntered, StandsIf, stands_if}
use Rattle.smf_model.proofs.Placed.{IsAt, placed_by, is_waiting_by, order_moved, AreLeft}

-- where each request is answered none is frozen
pub none_frozen : (c : Option Closed) (g : Option Cause) (x : Bool) → is_frozen (place_by c g x x) ≡ false
none_frozen None g x = refl
none_frozen (Some c) (Some g) x = refl
none_frozen (Some c) None true = refl
none_frozen (Some c) None false = refl

waiting_not_frozen : (p : Place) → is_waiting p ≡ true → is_frozen p ≡ false
waiting_not_frozen Open e = refl
waiting_not_frozen Waiting e = refl
waiting_not_frozen Frozen e = cc
waiting_not_frozen Answered e = refl
waiting_not_frozen (GivenUp w) e = refl

pub is_frozen_then : (p : Place) → is_frozen p ≡ true → p ≡ Frozen
is_frozen_then Open e = cc
is_frozen_then Waiting e = cc
is_frozen_then Frozen e = refl
is_frozen_then Answered e = cc
is_frozen_then (GivenUp w) e = cc

-- a container as a freezing chooses it or leaves it
pub record IsChosen (t : List Move) (h : Holding) : Type 0 where
  pub closed : closed_holding h ≡ closed_as t h.container.lsn
  pub untouched : closed_as t h.container.lsn ≡ None → given_up t h.container.lsn ≡ None
  pub waits : is_frozen h.place ≡ true → IsWaiting t h.container.lsn
  pub stays : is_frozen h.place ≡ false → h.place ≡ place_of t h.container.lsn

chosen_left : (t : List Move) (h : Holding) → requests t ≡ settled t → IsAt t h → IsChosen t h
chosen_left t h all a =
    let k : ℕ = h.container.lsn in
    let none : is_frozen h.place ≡ false =
    ap is_frozen a.place ∙ ap (λ rs. is_frozen (place_by (closed_as t k) (given_up t k) (uses k rs == 0) (uses k (settled t) == 0))) all ∙ none_frozen (closed_as t k) (given_up t k) (uses k (settled t) == 0) in
    record { closed = a.closed; untouched = a.untouched; waits = λ e. absurd (let f : true ≡ false = sym e ∙ none in cc); stays = λ e. a.place }

chosen_moved : (t : List Move) (h : Holding) → is_waiting h.place ≡ true → IsAt t h → IsChosen t (record h { place = Frozen })
chosen_moved t h e a = record { closed = a.closed; untouched = a.untouched; waits = λ f. is_waiting_by t h e a; stays = λ f. cc }

pub chosen_each : (t : List Move) (hs : List Holding) (most : ℕ) → requests t ≡ settled t → AllByRecursion (IsAt t) hs → AllByRecursion (IsChosen t) (move_oldest most Frozen hs)
chosen_each t [] most all a = tt
chosen_each t (h ∷ hs) most all a = at (is_waiting h.place) (nat_lt 0 most) refl (λ n. chosen_each t hs n all a.1)
  where
    at : (x b : Bool) → is_waiting h.place ≡ x → ((n : ℕ) → AllByRecursion (IsChosen t) (move_oldest n Frozen hs))
        → AllByRecursion (IsChosen t) (cond (x && b) (record h { place = Frozen } ∷ move_oldest (most - 1) Frozen hs) (h ∷ move_oldest most Frozen hs))
    at true true e k = (chosen_moved t h e a.0, k (most - 1))
    at true false e k = (chosen_left t h all a.0, k most)
    at false b e k = (chosen_left t h all a.0, k most)

pub entered_moved : (hs : List Holding) (es : List Entry) (most : ℕ) → AreEntered es hs → AreEntered es (move_oldest most Frozen hs)
entered_moved [] es most a = tt
entered_moved (h ∷ hs) es most a = at (is_waiting h.place && nat_lt 0 most) (λ n. entered_moved hs es n a.1)
  where
    at : (b : Bool) → ((n : ℕ) → AreEntered es (move_oldest n Frozen hs)) → AreEntered es (cond b (record h { place = Frozen } ∷ move_oldest (most - 1) Frozen hs) (h ∷ move_oldest most Frozen hs))
    at true k = (a.0, k (most - 1))
    at false k = (a.0, k most)

frozen_at : (t : List Move) (q : Request) (h : Holding) → IsChosen t h → occurs_in h.container.lsn q.usage ≡ cond (is_frozen h.place) 1 0 → IsAt (Freezes q ∷ t) h
frozen_at t q h c stands = record { place = at (is_frozen h.place) refl stands; closed = c.closed; untouched = c.untouched }
  where
    k : ℕ
    k = h.container.lsn

    at : (b : Bool) → is_frozen h.place ≡ b → occurs_in k q.usage ≡ cond b 1 0 → h.place ≡ place_of (Freezes q ∷ t) k
    at true e s =
        let w : IsWaiting t k = c.waits e in
        let used : (occurs_in k q.usage + uses k (requests t) == 0) ≡ false = ne_eqb _ 0 (λ z. omega (arith, s, z)) in
        let unanswered : (uses k (settled t) == 0) ≡ true = eq-eqb _ 0 (let l = uses_settled t k in omega (arith, l, w.in_none)) in
        is_frozen_then h.place e
        ∙ sym (placed_by (closed_as t k) (given_up t k) (occurs_in k q.usage + uses k (requests t) == 0) (uses k (settled t) == 0) w.closed false true w.is_closed w.not_given_up used unanswered)
    at false e s =
        let same : uses k (requests t) ≡ occurs_in k q.usage + uses k (requests t) = omega (arith, s) in
        c.stays e ∙ ap (λ n. place_by (closed_as t k) (given_up t k) (n == 0) (uses k (settled t) == 0)) same

all_both : (P Q R : Holding → Type 0) (hs : List Holding) → ((h : Holding) → P h → Q h → R h) → AllByRecursion P hs → AllByRecursion Q hs → AllByRecursion R hs
all_both P Q R [] step a b = tt
all_both P Q R (h ∷ hs) step a b = (step h a.0 b.0, all_both P Q R hs step a.1 b.1)

all_each : (P Q : Holding → Type 0) (hs : List Holding) → ((h : Holding) → P h → Q h) → AllByRecursion P hs → AllByRecursion Q hs
all_each P Q [] step a = tt
all_each P Q (h ∷ hs) step a = (step h a.0, all_each P Q hs step a.1)

pub freezes_left : (t : List Move) (hs : List Holding) (es : List Entry) (q : Request) → q.usage ≡ usages (move_oldest 500 Frozen hs) es → q.number ≡ length (requests t) + 1
    → IsTrace t → phase t ≡ Idle → AreInOrder 1 hs → AreApart es → AreEntered es hs → AllByRecursion (IsAt t) hs → AreLeft (Freezes q ∷ t) (move_oldest 500 Frozen hs)
freezes_left t hs es q usage number v idle o apart entered a = record {
  valid = (record { idle = idle; next = number; once = once; waiting = waiting }, v);
  each = all_both (IsChosen t) (StandsIf moved es) (IsAt (Freezes q ∷ t)) moved (λ h c s. frozen_at t q h c (occurs h.container.lsn ∙ s)) chosen (stands_if 1 moved es order apart (entered_moved hs es 500 entered));
}
  where
    moved : List Holding
    moved = move_oldest 500 Frozen hs

    order : AreInOrder 1 moved
    order = order_moved 500 Frozen 1 hs o

    chosen : AllByRecursion (IsChosen t) moved
    chosen = chosen_each t hs 500 (all_answered t (newest_by t v) idle) a

    occurs : (lsn : ℕ) → occurs_in lsn q.usage ≡ standing lsn moved es
    occurs lsn = ap (occurs_in lsn) usage ∙ occurs_standing lsn moved es

    once : (lsn : ℕ) → occurs_in lsn q.usage ≤ 1
    once lsn = let l : standing lsn moved es ≤ 1 = stands_once lsn 1 moved es order apart in let e : occurs_in lsn q.usage ≡ standing lsn moved es = occurs lsn in omega (arith, l, e)

    waiting : (lsn : ℕ) → 0 < occurs_in lsn q.usage → IsWaiting t lsn
    waiting lsn l =
        standing_is (IsWaiting t) lsn moved es (all_each (IsChosen t) (λ h. is_frozen h.place ≡ true → IsWaiting t h.container.lsn) moved (λ h c. c.waits) chosen)
        (let e : occurs_in lsn q.usage ≡ standing lsn moved es = occurs lsn in omega (arith, l, e))

-- a reply with success: what was in the request is answered

answered_place : (c : Option Closed) (g : Option Cause) (x y : Bool) → cond (is_frozen (place_by c g x y)) Answered (place_by c g x y) ≡ place_by c g x x
answered_place None g x y = refl
answered_place (Some c) (Some g) x y = refl
answered_place (Some c) None true y = refl
answered_place (Some c) None false true = refl
answered_place (Some c) None false false = refl

pub answered_at : (p : Reply) (t : List Move) → is_success p ≡ true → (h : Holding) → IsAt t h → IsAt (Answers p ∷ t) (answer_holding h)
answered_at p t good h a = at (is_frozen h.place) refl
  where
    k : ℕ
    k = h.container.lsn

    given : given_up (Answers p ∷ t) k ≡ given_up t k
    given = ap (λ b. cond b (given_up t k) (or_cause (given_up t k) (uses k (settled t) == 0) WasRefused)) good

    place : cond (is_frozen h.place) Answered h.place ≡ place_of (Answers p ∷ t) k
    place =
        ap (λ x. cond (is_frozen x) Answered x) a.place
        ∙ answered_place (closed_as t k) (given_up t k) (uses k (requests t) == 0) (uses k (settled t) == 0)
        ∙ ap (λ g. place_by (closed_as t k) g (uses k (requests t) == 0) (uses k (requests t) == 0)) (sym given)
        ∙ ap (λ b. place_by (closed_as t k) (given_up (Answers p ∷ t) k) (uses k (requests t) == 0) (uses k (cond b (requests t) (settled t)) == 0)) (sym good)

    at : (b : Bool) → is_frozen h.place ≡ b → IsAt (Answers p ∷ t) (cond b (record h { place = Answered }) h)
    at true e = record { place = sym (ap (λ b. cond b Answered h.place) e) ∙ place; closed = a.closed; untouched = λ n. given ∙ a.untouched n }
    at false e = record { place = sym (ap (λ b. cond b Answered h.place) e) ∙ place; closed = a.closed; untouched = λ n. given ∙ a.untouched n }

-- the session is over: what waits or is frozen is given up

given_place : (cause : Cause) (c : Option Closed) (g : Option Cause) (x y : Bool) → (x ≡ true → y ≡ true)
    → cond (is_waiting (place_by c g x y) || is_frozen (place_by c g x y)) (GivenUp (why_of cause)) (place_by c g x y) ≡ place_by c (or_cause g y cause) x y
given_place cause None g x y h = refl
given_place cause (Some c) (Some g) x y h = refl
given_place cause (Some c) None true true h = refl
given_place cause (Some c) None true false h = absurd (let f : false ≡ true = h refl in cc)
given_place cause (Some c) None false true h = refl
given_place cause (Some c) None false false h = refl

is_closed_open : (c : Option Closed) (g : Option Cause) (x y : Bool) → c ≡ None → is_open (place_by c g x y) ≡ true
is_closed_open c g x y e = ap (λ o. is_open (place_by o g x y)) e

-- a move that gives up what is in no answered request
pub record IsGivingUp (cause : Cause) (t u : List Move) : Type 0 where
  pub same_closed : (lsn : ℕ) → closed_as u lsn ≡ closed_as t lsn
  pub same_requests : requests u ≡ requests t
  pub same_settled : settled u ≡ settled t
  pub given : (lsn : ℕ) → given_up u lsn ≡ or_cause (given_up t lsn) (uses lsn (settled t) == 0) cause

pub given_at : (cause : Cause) (t u : List Move) → IsGivingUp cause t u → (h : Holding) → is_open h.place ≡ false → IsAt t h → IsAt u (give_up (why_of cause) h)
given_at cause t u gives h shut a = at (is_waiting h.place || is_frozen h.place) refl
  where
    k : ℕ
    k = h.container.lsn

    unused : (uses k (requests t) == 0) ≡ true → (uses k (settled t) == 0) ≡ true
    unused e = eq-eqb _ 0 (let l = uses_settled t k in let z = eqb-true (uses k (requests t)) 0 e in omega (arith, l, z))

    place : cond (is_waiting h.place || is_frozen h.place) (GivenUp (why_of cause)) h.place ≡ place_of u k
    place =
        ap (λ x. cond (is_waiting x || is_frozen x) (GivenUp (why_of cause)) x) a.place
        ∙ given_place cause (closed_as t k) (given_up t k) (uses k (requests t) == 0) (uses k (settled t) == 0) unused
        ∙ ap (λ g. place_by (closed_as t k) g (uses k (requests t) == 0) (uses k (settled t) == 0)) (sym (gives.given k))
        ∙ ap (λ c. place_by c (given_up u k) (uses k (requests t) == 0) (uses k (settled t) == 0)) (sym (gives.same_closed k))
        ∙ ap (λ r. place_by (closed_as u k) (given_up u k) (uses k r == 0) (uses k (settled t) == 0)) (sym gives.same_requests)
        ∙ ap (λ r. place_by (closed_as u k) (given_up u k) (uses k (requests u) == 0) (uses k r == 0)) (sym gives.same_settled)

    never : {A : Type 0} → closed_as u k ≡ None → A
    never e = absurd (let f : true ≡ false = sym (is_closed_open (closed_as t k) (given_up t k) (uses k (requests t) == 0) (uses k (settled t) == 0) (sym (gives.same_closed k) ∙ e)) ∙ ap is_open (sym a.place) ∙ shut in cc)

    at : (b : Bool) → (is_waiting h.place || is_frozen h.place) ≡ b → IsAt u (cond b (record h { place = GivenUp (why_of cause) }) h)
    at true e = record { place = sym (ap (λ b. cond b (GivenUp (why_of cause)) h.place) e) ∙ place; closed = a.closed ∙ sym (gives.same_closed k); untouched = λ n. never n }
    at false e = record { place = sym (ap (λ b. cond b (GivenUp (why_of cause)) h.place) e) ∙ place; closed = a.closed ∙ sym (gives.same_closed k); untouched = λ n. never n }

-- a refusal does, and giving up unsent
pub refusal_gives : (p : Reply) (t : List Move) → is_success p ≡ false → IsGivingUp WasRefused t (Answers p ∷ t)
refusal_gives p t bad = record {
  same_closed = λ lsn. refl;
  same_requests = refl;
  same_settled = ap (λ b. cond b (requests t) (settled t)) bad;
  given = λ lsn. ap (λ b. cond b (given_up t lsn) (or_cause (given_up t lsn) (uses lsn (settled t) == 0) WasRefused)) bad;
}

pub unsent_gives : (t : List Move) → IsGivingUp WasNotSent t (GivesUp ∷ t)
unsent_gives t = record { same_closed = λ lsn. refl; same_requests = refl; same_settled = refl; given = λ lsn. refl }
