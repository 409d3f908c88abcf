-- Containers as closes and drops find and leave them.
use Rattle.std.proofs.Common.{◌≡◌, ℕ, ◌+◌, ◌-◌, ◌<◌, ◌≤◌, ◌==◌, ◌&&◌, nat_lt, Bool, true, false, cond, List, [], ◌∷◌, ◌++◌, length, map, refl, sym, ◌∙◌, ap, arith}
use Rattle.std.specs.Prelude.{Option, Some, None}
use Rattle.std.specs.List.{AllByRecursion}
use Rattle.std.proofs.lemmas.Bool.{eqb-true, eq-eqb, ne_eqb}
use Rattle.units.specs.declared.trigger.TriggerType.{TriggerType}
use Rattle.units.specs.declared.trigger.Closed.{Closed}
use Rattle.sessions.specs.Kept.{uses}
use Rattle.sessions.specs.Trace.{Move, Cause, requests, settled, phase, closed_as, or_cause, given_up, IsWaiting, IsTrace, flight, is_unsent}
use Rattle.sessions.specs.Trace.Move.{Closes, Drops}
use Rattle.sessions.specs.Trace.Cause.{HeldFull as HeldFullCause}
use Rattle.smf_model.specs.declared.session.Why.TheVariants.{HeldFull}
use Rattle.smf_model.specs.declared.session.Place.{Place}
use Rattle.smf_model.specs.declared.session.Place.TheVariants.{GivenUp}
use Rattle.smf_model.specs.declared.session.Holding.{Holding}
use Rattle.smf_model.specs.Settle.{is_open, is_waiting, close}
use Rattle.smf_model.specs.Freeze.{move_oldest}
use Rattle.smf_model.specs.Sent.{is_tried}
use Rattle.smf_model.specs.Trace.{close_moves, closes_of, drop_moves, unanswered}
use Rattle.smf_model.specs.Places.{place_closed, place_by, place_of, closed_holding, AreInOrder}
use Rattle.smf_model.proofs.TraceLaws.{unclosed_unused}

-- a container is as the moves leave it, and while it is open it is not given up
pub record IsAt (t : List Move) (h : Holding) : Type 0 where
  pub place : h.place ≡ place_of t h.container.lsn
  pub closed : closed_holding h ≡ closed_as t h.container.lsn
  pub untouched : closed_as t h.container.lsn ≡ None → given_up t h.container.lsn ≡ None

-- the place of a closed container that is not given up, from what is read of it
pub placed_by : (c : Option Closed) (g : Option Cause) (x y : Bool) (v : Closed) (a b : Bool) → c ≡ Some v → g ≡ None → x ≡ a → y ≡ b → place_by c g x y ≡ place_closed None a b
placed_by c g x y v a b ec eg ex ey =
    ap (λ o. place_by o g x y) ec ∙ ap (λ o. place_by (Some v) o x y) eg ∙ ap (λ z. place_by (Some v) None z y) ex ∙ ap (λ z. place_by (Some v) None a z) ey

-- what a place says

pub open_unclosed : (c : Option Closed) (g : Option Cause) (x y : Bool) → is_open (place_by c g x y) ≡ true → c ≡ None
open_unclosed None g x y e = refl
open_unclosed (Some c) (Some g) x y e = cc
open_unclosed (Some c) None true y e = cc
open_unclosed (Some c) None false true e = cc
open_unclosed (Some c) None false false e = cc

pub record WaitsBy (c : Option Closed) (g : Option Cause) (x : Bool) : Type 0 where
  pub closed : Closed
  pub is_closed : c ≡ Some closed
  pub not_given : g ≡ None
  pub unused : x ≡ true

pub waits_by : (c : Option Closed) (g : Option Cause) (x y : Bool) → is_waiting (place_by c g x y) ≡ true → WaitsBy c g x
waits_by None g x y e = cc
waits_by (Some c) (Some g) x y e = cc
waits_by (Some c) None true y e = record { closed = c; is_closed = refl; not_given = refl; unused = refl }
waits_by (Some c) None false true e = cc
waits_by (Some c) None false false e = cc

pub is_waiting_by : (t : List Move) (h : Holding) → is_waiting h.place ≡ true → IsAt t h → IsWaiting t h.container.lsn
is_waiting_by t h waits a =
    let k : ℕ = h.container.lsn in
    let w : WaitsBy (closed_as t k) (given_up t k) (uses k (requests t) == 0) = waits_by (closed_as t k) (given_up t k) (uses k (requests t) == 0) (uses k (settled t) == 0) (ap is_waiting (sym a.place) ∙ waits) in
    record { closed = w.closed; is_closed = w.is_closed; in_none = eqb-true (uses k (requests t)) 0 w.unused; not_given_up = w.not_given }

pub unclosed_by : (t : List Move) (h : Holding) → is_open h.place ≡ true → IsAt t h → closed_as t h.container.lsn ≡ None
unclosed_by t h open_it a =
    open_unclosed (closed_as t h.container.lsn) (given_up t h.container.lsn) (uses h.container.lsn (requests t) == 0) (uses h.container.lsn (settled t) == 0) (ap is_open (sym a.place) ∙ open_it)

-- lists in order

pub order_map : (f : Holding → Holding) (next : ℕ) (hs : List Holding) → ((h : Holding) → (f h).container.lsn ≡ h.container.lsn) → AreInOrder next hs → AreInOrder next (map f hs)
order_map f next [] same o = tt
order_map f next (h ∷ hs) same o = (same h ∙ o.0, order_map f (next + 1) hs same o.1)

pub all_map : (P Q : Holding → Type 0) (f : Holding → Holding) (hs : List Holding) → ((h : Holding) → P h → Q (f h)) → AllByRecursion P hs → AllByRecursion Q (map f hs)
all_map P Q f [] step a = tt
all_map P Q f (h ∷ hs) step a = (step h a.0, all_map P Q f hs step a.1)

-- closes

abbrev pub closed_with : ℕ → (Holding → Option TriggerType) → Holding → Holding
closed_with m closing h = close m (closing h) h

pub close_lsn : (m : ℕ) (o : Option TriggerType) (h : Holding) → (close m o h).container.lsn ≡ h.container.lsn
close_lsn m None h = refl
close_lsn m (Some x) h = refl

pass_close : (c : Closed) (t : List Move) (h : Holding) → (c.container.lsn == h.container.lsn) ≡ false → IsAt t h → IsAt (Closes c ∷ t) h
pass_close c t h apart a =
    let k : ℕ = h.container.lsn in
    let same : closed_as (Closes c ∷ t) k ≡ closed_as t k = ap (λ b. cond b (Some c) (closed_as t k)) apart in
    record {
      place = a.place ∙ ap (λ o. place_by o (given_up t k) (uses k (requests t) == 0) (uses k (settled t) == 0)) (sym same);
      closed = a.closed ∙ sym same;
      untouched = λ e. a.untouched (sym same ∙ e);
    }

own_close : (m : ℕ) (x : TriggerType) (t : List Move) (h : Holding) → IsTrace t → is_open h.place ≡ true → IsAt t h → IsAt (Closes (record { container = h.container; trigger = x; moment = m }) ∷ t) (close m (Some x) h)
own_close m x t h v open_it a =
    let k : ℕ = h.container.lsn in
    let c : Closed = record { container = h.container; trigger = x; moment = m } in
    let none : closed_as t k ≡ None = unclosed_by t h open_it a in
    let given : given_up t k ≡ None = a.untouched none in
    let unused : (uses k (requests t) == 0) ≡ true = eq-eqb (uses k (requests t)) 0 (unclosed_unused t k v none) in
    let is : closed_as (Closes c ∷ t) k ≡ Some c = ap (λ b. cond b (Some c) (closed_as t k)) (eq-eqb k k refl) in
    record {
      place = sym (ap (λ o. place_by o (given_up t k) (uses k (requests t) == 0) (uses k (settled t) == 0)) is
          ∙ ap (λ g. place_by (Some c) g (uses k (requests t) == 0) (uses k (settled t) == 0)) given
          ∙ ap (λ b. place_by (Some c) None b (uses k (settled t) == 0)) unused);
      closed = sym is;
      untouched = λ e. given;
    }

head_passes : (m : ℕ) (closing : Holding → Option TriggerType) (t : List Move) (h : Holding) (next : ℕ) (hs : List Holding) → AreInOrder next hs → h.container.lsn < next → IsAt t h → IsAt (closes_of m closing hs ++ t) h
head_passes m closing t h next [] o l a = a
head_passes m closing t h next (g ∷ hs) o l a = at (closing g) (head_passes m closing t h (next + 1) hs o.1 (omega arith) a)
  where
    at : (x : Option TriggerType) → IsAt (closes_of m closing hs ++ t) h → IsAt ((close_moves m g x ++ closes_of m closing hs) ++ t) h
    at None k = k
    at (Some x) k = pass_close _ (closes_of m closing hs ++ t) h (ne_eqb g.container.lsn h.container.lsn (λ e. omega (arith, o.0, l, e))) k

all_pass_close : (c : Closed) (t : List Move) (next : ℕ) (hs : List Holding) → AreInOrder next hs → c.container.lsn < next → AllByRecursion (IsAt t) hs → AllByRecursion (IsAt (Closes c ∷ t)) hs
all_pass_close c t next [] o l a = tt
all_pass_close c t next (h ∷ hs) o l a =
    (pass_close c t h (ne_eqb c.container.lsn h.container.lsn (λ e. omega (arith, o.0, l, e))) a.0, all_pass_close c t (next + 1) hs o.1 (omega arith) a.1)

-- after them each move may come where it stands, and each container is as they leave it
pub record AreLeft (u : List Move) (hs : List Holding) : Type 0 where
  pub valid : IsTrace u
  pub each : AllByRecursion (IsAt u) hs

pub closes_left : (m : ℕ) (closing : Holding → Option TriggerType) → ((h : Holding) (x : TriggerType) → closing h ≡ Some x → is_open h.place ≡ true) → (t : List Move) (next : ℕ) (hs : List Holding)
    → IsTrace t → AreInOrder next hs → AllByRecursion (IsAt t) hs → AreLeft (closes_of m closing hs ++ t) (map (closed_with m closing) hs)
closes_left m closing opens t next [] v o a = record { valid = v; each = tt }
closes_left m closing opens t next (h ∷ hs) v o a =
    at (closing h) refl (closes_left m closing opens t (next + 1) hs v o.1 a.1) (head_passes m closing t h (next + 1) hs o.1 (omega (arith, o.0)) a.0)
  where
    at : (x : Option TriggerType) → closing h ≡ x → AreLeft (closes_of m closing hs ++ t) (map (closed_with m closing) hs) → IsAt (closes_of m closing hs ++ t) h
        → AreLeft ((close_moves m h x ++ closes_of m closing hs) ++ t) (close m x h ∷ map (closed_with m closing) hs)
    at None e rest here = record { valid = rest.valid; each = (here, rest.each) }
    at (Some x) e rest here = record {
      valid = (unclosed_by (closes_of m closing hs ++ t) h (opens h x e) here, rest.valid);
      each = (
        own_close m x (closes_of m closing hs ++ t) h rest.valid (opens h x e) here,
        all_pass_close _ (closes_of m closing hs ++ t) (next + 1) (map (closed_with m closing) hs) (order_map (closed_with m closing) (next + 1) hs (λ g. close_lsn m (closing g) g) o.1) (omega (arith, o.0)) rest.each,
      );
    }

pub closes_beyond : (m : ℕ) (closing : Holding → Option TriggerType) (t : List Move) (next : ℕ) (hs : List Holding) (k : ℕ) → AreInOrder next hs → next + length hs ≤ k → closed_as (closes_of m closing hs ++ t) k ≡ closed_as t k
closes_beyond m closing t next [] k o l = refl
closes_beyond m closing t next (h ∷ hs) k o l = at (closing h) (closes_beyond m closing t (next + 1) hs k o.1 (omega arith))
  where
    at : (x : Option TriggerType) → closed_as (closes_of m closing hs ++ t) k ≡ closed_as t k → closed_as ((close_moves m h x ++ closes_of m closing hs) ++ t) k ≡ closed_as t k
    at None e = e
    at (Some x) e = ap (λ b. cond b (Some (record { container = h.container; trigger = x; moment = m })) (closed_as (closes_of m closing hs ++ t) k)) (ne_eqb h.container.lsn k (λ same. omega (arith, o.0, l, same))) ∙ e

-- closes and drops leave the requests as they are
pub record LeavesRequests (t u : List Move) : Type 0 where
  pub requests : requests u ≡ requests t
  pub phase : phase u ≡ phase t
  pub unanswered : unanswered u ≡ unanswered t
  pub flight : flight u ≡ flight t
  pub unsent : is_unsent u ≡ is_unsent t
  pub tried : is_tried u ≡ is_tried t

pub closes_leave : (m : ℕ) (closing : Holding → Option TriggerType) (t : List Move) (hs : List Holding) → LeavesRequests t (closes_of m closing hs ++ t)
closes_leave m closing t [] = record { requests = refl; phase = refl; unanswered = refl; flight = refl; unsent = refl; tried = refl }
closes_leave m closing t (h ∷ hs) = at (closing h) (closes_leave m closing t hs)
  where
    at : (x : Option TriggerType) → LeavesRequests t (closes_of m closing hs ++ t) → LeavesRequests t ((close_moves m h x ++ closes_of m closing hs) ++ t)
    at None k = k
    at (Some x) k = record { requests = k.requests; phase = k.phase; unanswered = k.unanswered; flight = k.flight; unsent = k.unsent; tried = k.tried }

-- drops

undropped : (o : Option Cause) → or_cause o false HeldFullCause ≡ o
undropped None = refl
undropped (Some c) = refl

pass_drop : (d : ℕ) (t : List Move) (h : Holding) → (d == h.container.lsn) ≡ false → IsAt t h → IsAt (Drops d ∷ t) h
pass_drop d t h apart a =
    let k : ℕ = h.container.lsn in
    let same : given_up (Drops d ∷ t) k ≡ given_up t k = ap (λ b. or_cause (given_up t k) b HeldFullCause) apart ∙ undropped (given_up t k) in
    record {
      place = a.place ∙ ap (λ g. place_by (closed_as t k) g (uses k (requests t) == 0) (uses k (settled t) == 0)) (sym same);
      closed = a.closed;
      untouched = λ e. same ∙ a.untouched e;
    }

own_drop : (t : List Move) (h : Holding) → is_waiting h.place ≡ true → IsAt t h → IsAt (Drops h.container.lsn ∷ t) (record h { place = GivenUp HeldFull })
own_drop t h waits a =
    let k : ℕ = h.container.lsn in
    let w : IsWaiting t k = is_waiting_by t h waits a in
    let given : given_up (Drops k ∷ t) k ≡ Some HeldFullCause = ap (λ b. or_cause (given_up t k) b HeldFullCause) (eq-eqb k k refl) ∙ ap (λ g. or_cause g true HeldFullCause) w.not_given_up in
    record {
      place = sym (ap (λ o. place_by o (given_up (Drops k ∷ t) k) (uses k (requests t) == 0) (uses k (settled t) == 0)) w.is_closed ∙ ap (λ g. place_by (Some w.closed) g (uses k (requests t) == 0) (uses k (settled t) == 0)) given);
      closed = a.closed;
      untouched = λ e. absurd (let f : None ≡ Some w.closed = sym e ∙ w.is_closed in cc);
    }

pub head_stays : (t : List Move) (h : Holding) (next : ℕ) (hs : List Holding) (most : ℕ) → AreInOrder next hs → h.container.lsn < next → IsAt t h → IsAt (drop_moves most hs ++ t) h
head_stays t h next [] most o l a = a
head_stays t h next (g ∷ hs) most o l a = at (is_waiting g.place && nat_lt 0 most) (λ n. head_stays t h (next + 1) hs n o.1 (omega arith) a)
  where
    at : (b : Bool) → ((n : ℕ) → IsAt (drop_moves n hs ++ t) h) → IsAt (cond b (Drops g.container.lsn ∷ drop_moves (most - 1) hs) (drop_moves most hs) ++ t) h
    at true k = pass_drop g.container.lsn (drop_moves (most - 1) hs ++ t) h (ne_eqb g.container.lsn h.container.lsn (λ e. omega (arith, o.0, l, e))) (k (most - 1))
    at false k = k most

all_pass_drop : (d : ℕ) (t : List Move) (next : ℕ) (hs : List Holding) → AreInOrder next hs → d < next → AllByRecursion (IsAt t) hs → AllByRecursion (IsAt (Drops d ∷ t)) hs
all_pass_drop d t next [] o l a = tt
all_pass_drop d t next (h ∷ hs) o l a = (pass_drop d t h (ne_eqb d h.container.lsn (λ e. omega (arith, o.0, l, e))) a.0, all_pass_drop d t (next + 1) hs o.1 (omega arith) a.1)

pub order_moved : (most : ℕ) (p : Place) (next : ℕ) (hs : List Holding) → AreInOrder next hs → AreInOrder next (move_oldest most p hs)
order_moved most p next [] o = tt
order_moved most p next (h ∷ hs) o = at (is_waiting h.place && nat_lt 0 most) (λ n. order_moved n p (next + 1) hs o.1)
  where
    at : (b : Bool) → ((n : ℕ) → AreInOrder (next + 1) (move_oldest n p hs)) → AreInOrder next (cond b (record h { place = p } ∷ move_oldest (most - 1) p hs) (h ∷ move_oldest most p hs))
    at true k = (o.0, k (most - 1))
    at false k = (o.0, k most)

pub drops_left : (t : List Move) (next : ℕ) (hs : List Holding) (most : ℕ) → IsTrace t → AreInOrder next hs → AllByRecursion (IsAt t) hs → AreLeft (drop_moves most hs ++ t) (move_oldest most (GivenUp HeldFull) hs)
drops_left t next [] most v o a = record { valid = v; each = tt }
drops_left t next (h ∷ hs) most v o a = at (is_waiting h.place) (nat_lt 0 most) refl (λ n. drops_left t (next + 1) hs n v o.1 a.1)
  where
    here : (n : ℕ) → IsAt (drop_moves n hs ++ t) h
    here n = head_stays t h (next + 1) hs n o.1 (omega (arith, o.0)) a.0

    at : (x b : Bool) → is_waiting h.place ≡ x → ((n : ℕ) → AreLeft (drop_moves n hs ++ t) (move_oldest n (GivenUp HeldFull) hs))
        → AreLeft (cond (x && b) (Drops h.container.lsn ∷ drop_moves (most - 1) hs) (drop_moves most hs) ++ t) (cond (x && b) (record h { place = GivenUp HeldFull } ∷ move_oldest (most - 1) (GivenUp HeldFull) hs) (h ∷ move_oldest most (GivenUp HeldFull) hs))
    at true true e k = record {
      valid = (is_waiting_by (drop_moves (most - 1) hs ++ t) h e (here (most - 1)), (k (most - 1)).valid);
      each = (
        own_drop (drop_moves (most - 1) hs ++ t) h e (here (most - 1)),
        all_pass_drop h.container.lsn (drop_moves (most - 1) hs ++ t) (next + 1) (move_oldest (most - 1) (GivenUp HeldFull) hs) (order_moved (most - 1) (GivenUp HeldFull) (next + 1) hs o.1) (omega (arith, o.0)) (k (most - 1)).each,
      );
    }
    at true false e k = record { valid = (k most).valid; each = (here most, (k most).each) }
    at false b e k = record { valid = (k most).valid; each = (here most, (k most).each) }

pub drops_leave : (t : List Move) (hs : List Holding) (most : ℕ) → LeavesRequests t (drop_moves most hs ++ t)
drops_leave t [] most = record { requests = refl; phase = refl; unanswered = refl; flight = refl; unsent = refl; tried = refl }
drops_leave t (h ∷ hs) most = at (is_waiting h.place && nat_lt 0 most) (λ n. drops_leave t hs n)
  where
    at : (b : Bool) → ((n : ℕ) → LeavesRequests t (drop_moves n hs ++ t)) → LeavesRequests t (cond b (Drops h.container.lsn ∷ drop_moves (most - 1) hs) (drop_moves most hs) ++ t)
    at true k = record { requests = (k (most - 1)).requests; phase = (k (most - 1)).phase; unanswered = (k (most - 1)).unanswered; flight = (k (most - 1)).flight; unsent = (k (most - 1)).unsent; tried = (k (most - 1)).tried }
    at false k = k most

pub drops_unclosed : (t : List Move) (hs : List Holding) (most k : ℕ) → closed_as (drop_moves most hs ++ t) k ≡ closed_as t k
drops_unclosed t [] most k = refl
drops_unclosed t (h ∷ hs) most k = at (is_waiting h.place && nat_lt 0 most) (λ n. drops_unclosed t hs n k)
  where
    at : (b : Bool) → ((n : ℕ) → closed_as (drop_moves n hs ++ t) k ≡ closed_as t k) → closed_as (cond b (Drops h.container.lsn ∷ drop_moves (most - 1) hs) (drop_moves most hs) ++ t) k ≡ closed_as t k
    at true e = e (most - 1)
    at false e = e most
