-- A session and its moves, through each part of an event.
use Rattle.std.proofs.Common.{◌≡◌, ℕ, ◌-◌, ◌<◌, ◌&&◌, nat_lt, Bool, true, false, cond, List, [], ◌∷◌, ◌++◌, length, map, refl, sym, ◌∙◌, ap, subst, arith, append_assoc}
use Rattle.std.specs.Prelude.{Option, Some, None, is_some}
use Rattle.std.specs.List.{AllByRecursion}
use Rattle.units.specs.declared.trigger.TriggerType.{TriggerType}
use Rattle.units.specs.declared.request.Operation.{Operation}
use Rattle.sessions.specs.Trace.{Move, requests, phase, closed_as, IsTrace}
use Rattle.sessions.specs.Trace.Move.{Freezes}
use Rattle.sessions.specs.Trace.Phase.{Idle, Asked}
use Rattle.smf_model.specs.declared.setup.SmfSetup.{SmfSetup}
use Rattle.smf_model.specs.declared.session.Life.{Life}
use Rattle.smf_model.specs.declared.session.Life.TheVariants.{Live, Ending, Aborting, Ended}
use Rattle.smf_model.specs.declared.session.Why.TheVariants.{HeldFull}
use Rattle.smf_model.specs.declared.session.Place.{Place}
use Rattle.smf_model.specs.declared.session.Place.TheVariants.{Frozen, GivenUp}
use Rattle.smf_model.specs.declared.session.Holding.{Holding}
use Rattle.smf_model.specs.declared.session.Session.{Session}
use Rattle.smf_model.specs.Settle.{is_open, is_waiting, entry_of, close, close_due, due_at, settled}
use Rattle.smf_model.specs.Freeze.{waiting_count, move_oldest, next_operation, operation_in, request_of, freeze_due, freeze_by, with_request}
use Rattle.smf_model.specs.Sending.{unmarked}
use Rattle.smf_model.specs.Traffic.{close_any}
use Rattle.smf_model.specs.Machine.{is_ended, finished}
use Rattle.smf_model.specs.Trace.{closes_of, closes_all, settle_moves, freeze_moves, freeze_moves_by, drop_moves, finish_moves, unanswered}
use Rattle.smf_model.specs.Places.{AreInOrder}
use Rattle.smf_model.proofs.Counted.{AreApart, AreEntered}
use Rattle.smf_model.proofs.Placed.{IsAt, order_map, closed_with, close_lsn, AreLeft, closes_left, closes_beyond, LeavesRequests, closes_leave, order_moved, drops_left, drops_leave, drops_unclosed}
use Rattle.smf_model.proofs.Frozen.{freezes_left}

-- a session is as its moves leave it, and they may come one after another
pub record Stands (t : List Move) (s : Session) : Type 0 where
  pub valid : IsTrace t
  pub numbered : AreInOrder 1 s.holdings
  pub each : AllByRecursion (IsAt t) s.holdings
  pub beyond : (lsn : ℕ) → length s.holdings < lsn → closed_as t lsn ≡ None
  pub count : s.count ≡ length (requests t)
  pub unanswered : unmarked s.request ≡ unanswered t
  pub asked : is_some s.request ≡ true → phase t ≡ Asked
  pub idle : is_some s.request ≡ false → is_ended s.life ≡ false → phase t ≡ Idle

pub length_map : (f : Holding → Holding) (hs : List Holding) → length (map f hs) ≡ length hs
length_map f [] = refl
length_map f (h ∷ hs) = let k = length_map f hs in omega (arith, k)

pub length_moved : (most : ℕ) (p : Place) (hs : List Holding) → length (move_oldest most p hs) ≡ length hs
length_moved most p [] = refl
length_moved most p (h ∷ hs) = at (is_waiting h.place && nat_lt 0 most) (λ n. length_moved n p hs)
  where
    at : (b : Bool) → ((n : ℕ) → length (move_oldest n p hs) ≡ length hs) → length (cond b (record h { place = p } ∷ move_oldest (most - 1) p hs) (h ∷ move_oldest most p hs)) ≡ length (h ∷ hs)
    at true k = let e = k (most - 1) in omega (arith, e)
    at false k = let e = k most in omega (arith, e)

-- a session with the same containers, count, request and life
pub same_stands : (t : List Move) (s u : Session) → u.holdings ≡ s.holdings → u.count ≡ s.count → u.request ≡ s.request → (is_ended u.life ≡ false → is_ended s.life ≡ false) → Stands t s → Stands t u
same_stands t s u holdings count request life h = record {
  valid = h.valid;
  numbered = subst (AreInOrder 1) (sym holdings) h.numbered;
  each = subst (λ hs. AllByRecursion (IsAt t) hs) (sym holdings) h.each;
  beyond = λ lsn l. h.beyond lsn (subst (λ hs. length hs < lsn) holdings l);
  count = count ∙ h.count;
  unanswered = ap unmarked request ∙ h.unanswered;
  asked = λ e. h.asked (ap is_some (sym request) ∙ e);
  idle = λ e on. h.idle (ap is_some (sym request) ∙ e) (life on);
}

-- some containers are closed
pub closed_stands : (m : ℕ) (closing : Holding → Option TriggerType) → ((h : Holding) (x : TriggerType) → closing h ≡ Some x → is_open h.place ≡ true) → (t : List Move) (s u : Session)
    → u.holdings ≡ map (closed_with m closing) s.holdings → u.count ≡ s.count → u.request ≡ s.request → (is_ended u.life ≡ false → is_ended s.life ≡ false) → Stands t s → Stands (closes_of m closing s.holdings ++ t) u
closed_stands m closing opens t s u holdings count request life h =
    let left : AreLeft (closes_of m closing s.holdings ++ t) (map (closed_with m closing) s.holdings) = closes_left m closing opens t 1 s.holdings h.valid h.numbered h.each in
    let same : LeavesRequests t (closes_of m closing s.holdings ++ t) = closes_leave m closing t s.holdings in
    let long : length u.holdings ≡ length s.holdings = ap length holdings ∙ length_map (closed_with m closing) s.holdings in
    record {
      valid = left.valid;
      numbered = subst (AreInOrder 1) (sym holdings) (order_map (closed_with m closing) 1 s.holdings (λ g. close_lsn m (closing g) g) h.numbered);
      each = subst (λ hs. AllByRecursion (IsAt (closes_of m closing s.holdings ++ t)) hs) (sym holdings) left.each;
      beyond = λ lsn l. closes_beyond m closing t 1 s.holdings lsn h.numbered (omega (arith, l, long)) ∙ h.beyond lsn (omega (arith, l, long));
      count = count ∙ h.count ∙ ap length (sym same.requests);
      unanswered = ap unmarked request ∙ h.unanswered ∙ sym same.unanswered;
      asked = λ e. same.phase ∙ h.asked (ap is_some (sym request) ∙ e);
      idle = λ e on. same.phase ∙ h.idle (ap is_some (sym request) ∙ e) (life on);
    }

pub same_map : (f g : Holding → Holding) (hs : List Holding) → ((h : Holding) → f h ≡ g h) → map f hs ≡ map g hs
same_map f g [] e = refl
same_map f g (h ∷ hs) e = ap (λ x. x ∷ map f hs) (e h) ∙ ap (λ xs. g h ∷ xs) (same_map f g hs e)

-- the three ways to close by a test
pub when : (b : Bool) (o : Option TriggerType) (x : TriggerType) → cond b o None ≡ Some x → b ≡ true
when true o x e = refl
when false o x e = cc

pub close_when : (b : Bool) (m : ℕ) (o : Option TriggerType) (h : Holding) → cond b (close m o h) h ≡ close m (cond b o None) h
close_when true m o h = refl
close_when false m o h = refl

pub settled_stands : (setup : SmfSetup) (now : ℕ) (t : List Move) (s : Session) → Stands t s → Stands (settle_moves setup now s ++ t) (settled setup now s)
settled_stands setup now t s h =
    let closing : Holding → Option TriggerType = λ h. cond (is_open h.place) (due_at setup now s (entry_of h.container.group s.groups)) None in
    closed_stands now closing (λ g x e. when (is_open g.place) (due_at setup now s (entry_of g.container.group s.groups)) x e) t s (settled setup now s)
    (same_map (close_due setup now s) (closed_with now closing) s.holdings (λ g. close_when (is_open g.place) now (due_at setup now s (entry_of g.container.group s.groups)) g))
    refl refl (λ e. e) h

pub any_stands : (m : ℕ) (x : TriggerType) (t : List Move) (s u : Session) → u.holdings ≡ map (close_any m x) s.holdings → u.count ≡ s.count → u.request ≡ s.request → (is_ended u.life ≡ false → is_ended s.life ≡ false)
    → Stands t s → Stands (closes_all m x s ++ t) u
any_stands m x t s u holdings count request life h =
    let closing : Holding → Option TriggerType = λ h. cond (is_open h.place) (Some x) None in
    closed_stands m closing (λ g y e. when (is_open g.place) (Some x) y e) t s u
    (holdings ∙ same_map (close_any m x) (closed_with m closing) s.holdings (λ g. close_when (is_open g.place) m (Some x) g)) count request life h

-- too many are given up
pub dropped_stands : (most : ℕ) (t : List Move) (s u : Session) → u.holdings ≡ move_oldest most (GivenUp HeldFull) s.holdings → u.count ≡ s.count → u.request ≡ s.request → u.life ≡ s.life → Stands t s → Stands (drop_moves most s.holdings ++ t) u
dropped_stands most t s u holdings count request life h =
    let left : AreLeft (drop_moves most s.holdings ++ t) (move_oldest most (GivenUp HeldFull) s.holdings) = drops_left t 1 s.holdings most h.valid h.numbered h.each in
    let same : LeavesRequests t (drop_moves most s.holdings ++ t) = drops_leave t s.holdings most in
    let long : length u.holdings ≡ length s.holdings = ap length holdings ∙ length_moved most (GivenUp HeldFull) s.holdings in
    record {
      valid = left.valid;
      numbered = subst (AreInOrder 1) (sym holdings) (order_moved most (GivenUp HeldFull) 1 s.holdings h.numbered);
      each = subst (λ hs. AllByRecursion (IsAt (drop_moves most s.holdings ++ t)) hs) (sym holdings) left.each;
      beyond = λ lsn l. drops_unclosed t s.holdings most lsn ∙ h.beyond lsn (omega (arith, l, long));
      count = count ∙ h.count ∙ ap length (sym same.requests);
      unanswered = ap unmarked request ∙ h.unanswered ∙ sym same.unanswered;
      asked = λ e. same.phase ∙ h.asked (ap is_some (sym request) ∙ e);
      idle = λ e on. same.phase ∙ h.idle (ap is_some (sym request) ∙ e) (ap is_ended (sym life) ∙ on);
    }

-- a request is frozen
pub may_freeze : (b : Bool) (setup : SmfSetup) (s : Session) (l : Life) (o : Operation) → cond b None (operation_in setup s l) ≡ Some o → (b ≡ false) × (is_ended l ≡ false)
may_freeze true setup s l o h = cc
may_freeze false setup s Live o h = (refl, refl)
may_freeze false setup s Ending o h = (refl, refl)
may_freeze false setup s Aborting o h = (refl, refl)
may_freeze false setup s Ended o h = cc

pub asking_stands : (setup : SmfSetup) (now : ℕ) (o : Operation) (t : List Move) (s : Session) → phase t ≡ Idle → AreApart s.groups → AreEntered s.groups s.holdings → Stands t s
    → Stands (Freezes (request_of setup now s o) ∷ t) (with_request setup now o s)
asking_stands setup now o t s idle apart entered h =
    let left : AreLeft (Freezes (request_of setup now s o) ∷ t) (move_oldest 500 Frozen s.holdings) =
    freezes_left t s.holdings s.groups (request_of setup now s o) refl (omega (arith, h.count)) h.valid idle h.numbered apart entered h.each in
    let long : length (move_oldest 500 Frozen s.holdings) ≡ length s.holdings = length_moved 500 Frozen s.holdings in
    record {
      valid = left.valid;
      numbered = order_moved 500 Frozen 1 s.holdings h.numbered;
      each = left.each;
      beyond = λ lsn l. h.beyond lsn (omega (arith, l, long));
      count = omega (arith, h.count);
      unanswered = refl;
      asked = λ e. refl;
      idle = λ e on. cc;
    }

freeze_stands_by : (next : Option Operation) (setup : SmfSetup) (now : ℕ) (t : List Move) (s : Session) → next_operation setup s ≡ next → AreApart s.groups → AreEntered s.groups s.holdings → Stands t s → Stands (freeze_moves_by setup now s next ++ t) (freeze_by setup now next s)
freeze_stands_by None setup now t s e apart entered h = h
freeze_stands_by (Some o) setup now t s e apart entered h =
    let free = may_freeze (is_some s.request) setup s s.life o e in
    asking_stands setup now o t s (h.idle free.0 free.1) apart entered h

-- an event up to its freezing
pub frozen_stands : (setup : SmfSetup) (now : ℕ) (t : List Move) (s : Session) → AreApart (settled setup now s).groups → AreEntered (settled setup now s).groups (settled setup now s).holdings → Stands t s
    → Stands (freeze_moves setup now (settled setup now s) ++ (settle_moves setup now s ++ t)) (freeze_due setup now (settled setup now s))
frozen_stands setup now t s apart entered h =
    let v : Session = settled setup now s in
    freeze_stands_by (next_operation setup v) setup now (settle_moves setup now s ++ t) v refl apart entered (settled_stands setup now t s h)

pub finished_stands : (setup : SmfSetup) (now : ℕ) (t : List Move) (s : Session) → AreApart (settled setup now s).groups → AreEntered (settled setup now s).groups (settled setup now s).holdings → Stands t s → Stands (finish_moves setup now s ++ t) (finished setup now s)
finished_stands setup now t s apart entered h =
    let u : Session = freeze_due setup now (settled setup now s) in
    let asking : List Move = freeze_moves setup now (settled setup now s) ++ (settle_moves setup now s ++ t) in
    rw (append_assoc, append_assoc) (dropped_stands (waiting_count u.holdings - setup.held_max) asking u (finished setup now s) refl refl refl refl (frozen_stands setup now t s apart entered h))
