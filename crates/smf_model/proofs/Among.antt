-- What the moves close is among the containers of the session.
use Rattle.std.proofs.Common.{◌≡◌, ⊎_elim, ℕ, zero, suc, ◌+◌, ◌-◌, ◌<◌, ◌≤◌, ◌==◌, ◌||◌, Bool, true, false, cond, List, [], ◌∷◌, ◌++◌, length, map, refl, sym, ◌∙◌, ap, subst, arith, append_assoc, append-nil}
use Rattle.std.specs.Prelude.{Option, Some, None, option_map}
use Rattle.std.specs.List.{Contains, AllByRecursion}
use Rattle.std.proofs.lemmas.Bool.{eqb-true, eqb-false, ne_eqb}
use Rattle.std.proofs.lemmas.List.Elements.{Contains-append_right}
use Rattle.units.specs.declared.trigger.Closed.{Closed}
use Rattle.units.specs.declared.trigger.TriggerType.{TriggerType}
use Rattle.units.specs.declared.trigger.TriggerType.TheVariants.{AbnormalRelease}
use Rattle.units.specs.declared.request.Operation.{Operation}
use Rattle.units.specs.declared.request.Operation.TheVariants.{Create}
use Rattle.units.specs.declared.request.Request.{Request}
use Rattle.units.specs.declared.reply.Reply.{Reply}
use Rattle.units.specs.declared.reply.Reply.TheVariants.{Created, Updated, Released, Refused}
use Rattle.sessions.specs.Trace.{Move, closed_as}
use Rattle.sessions.specs.Trace.Move.{Freezes}
use Rattle.smf_model.specs.declared.setup.SmfSetup.{SmfSetup}
use Rattle.smf_model.specs.declared.session.Why.{Why}
use Rattle.smf_model.specs.declared.session.Loss.{Loss}
use Rattle.smf_model.specs.declared.session.Loss.TheVariants.{Unsent, Unanswered}
use Rattle.smf_model.specs.declared.session.Holding.{Holding}
use Rattle.smf_model.specs.declared.session.Session.{Session}
use Rattle.smf_model.specs.declared.event.SmfEvent.{SmfEvent}
use Rattle.smf_model.specs.declared.event.SmfEvent.TheVariants.{Attach, Start, Count, Change, Tick, Detach, Answered, Attempt, NotSent, NoReply, Restart}
use Rattle.smf_model.specs.Settle.{is_open, is_waiting, is_frozen, settled}
use Rattle.smf_model.specs.Freeze.{waiting_count, next_operation, freeze_due, with_request, request_of}
use Rattle.smf_model.specs.Traffic.{close_any, give_up}
use Rattle.smf_model.specs.Machine.{machine_after, session_of, touches, effect, fresh, added_by}
use Rattle.smf_model.specs.Trace.{trace, close_moves, closes_of, settle_moves, freeze_moves_by, freeze_moves, finish_moves, reply_moves, loss_move, lost_moves, effect_moves, added_moves, moves_of}
use Rattle.smf_model.specs.History.{history}
use Rattle.smf_model.specs.Places.{closed_holding, AreInOrder}
use Rattle.smf_model.specs.Among.{IsAmong, AreOutside, StandAmong}
use Rattle.smf_model.proofs.Lifting.{IsNew, With, IsKept, over_all}
use Rattle.smf_model.proofs.Losing.{KeptByLoss, lost_kept}
use Rattle.smf_model.proofs.Placed.{IsAt, order_map, drops_unclosed}
use Rattle.smf_model.proofs.TraceLaws.{unclosed_unused}
use Rattle.smf_model.proofs.Traces.{StandsWhole, kept, effect_whole, trace_is}

-- what closes containers numbered from a number on closes none below it
closes_below : (m : ℕ) (closing : Holding → Option TriggerType) (t : List Move) (next : ℕ) (hs : List Holding) (k : ℕ) → AreInOrder next hs → k < next → closed_as (closes_of m closing hs ++ t) k ≡ closed_as t k
closes_below m closing t next [] k o l = refl
closes_below m closing t next (h ∷ hs) k o l = at (closing h) (closes_below m closing t (next + 1) hs k o.1 (omega (arith, l)))
  where
    at : (x : Option TriggerType) → closed_as (closes_of m closing hs ++ t) k ≡ closed_as t k → closed_as ((close_moves m h x ++ closes_of m closing hs) ++ t) k ≡ closed_as t k
    at None e = e
    at (Some x) e = ap (λ b. cond b (Some (record { container = h.container; trigger = x; moment = m })) (closed_as (closes_of m closing hs ++ t) k)) (ne_eqb h.container.lsn k (λ same. omega (arith, o.0, l, same))) ∙ e

closes_zero : (m : ℕ) (closing : Holding → Option TriggerType) (t : List Move) (hs : List Holding) → AreInOrder 1 hs → closed_as t 0 ≡ None → closed_as (closes_of m closing hs ++ t) 0 ≡ None
closes_zero m closing t hs o e = closes_below m closing t 1 hs 0 o (omega arith) ∙ e

freeze_zero : (next : Option Operation) (setup : SmfSetup) (now : ℕ) (t : List Move) (s : Session) → closed_as (freeze_moves_by setup now s next ++ t) 0 ≡ closed_as t 0
freeze_zero None setup now t s = refl
freeze_zero (Some o) setup now t s = refl

finish_zero : (setup : SmfSetup) (now : ℕ) (t : List Move) (s : Session) → AreInOrder 1 s.holdings → closed_as t 0 ≡ None → closed_as (finish_moves setup now s ++ t) 0 ≡ None
finish_zero setup now t s o e =
    let v : Session = settled setup now s in
    let w : Session = freeze_due setup now v in
    let c : List Move = settle_moves setup now s in
    let f : List Move = freeze_moves setup now v in
    rw (append_assoc, append_assoc) (drops_unclosed (f ++ (c ++ t)) w.holdings (waiting_count w.holdings - setup.held_max) 0 ∙ freeze_zero (next_operation setup v) setup now (c ++ t) v ∙ closes_zero now _ t s.holdings o e)

-- the end of an attempt
abbrev Numbered : List Move → Session → Type 0
Numbered t s = AreInOrder 1 s.holdings × (closed_as t 0 ≡ None)

one_lsn : (b : Bool) (x y h : Holding) → x.container.lsn ≡ h.container.lsn → y.container.lsn ≡ h.container.lsn → (cond b x y).container.lsn ≡ h.container.lsn
one_lsn true x y h e f = e
one_lsn false x y h e f = f

any_lsn : (m : ℕ) (x : TriggerType) (h : Holding) → (close_any m x h).container.lsn ≡ h.container.lsn
any_lsn m x h = one_lsn (is_open h.place) _ h h refl refl

give_lsn : (why : Why) (h : Holding) → (give_up why h).container.lsn ≡ h.container.lsn
give_lsn why h = one_lsn (is_waiting h.place || is_frozen h.place) _ h h refl refl

numbered_by_loss : KeptByLoss Numbered (λ o. Unit {0})
numbered_by_loss = record {
  sends = λ x t s latest flies unsent h. h;
  continues = λ t s h. h;
  breaks = λ now t s live h. (order_map (close_any now AbnormalRelease) 1 s.holdings (any_lsn now AbnormalRelease) h.0, closes_zero now _ t s.holdings h.0 h.1);
  gives_up = λ now t s landed unsent asked h. (order_map (give_up _) 1 (map (close_any now AbnormalRelease) s.holdings) (give_lsn _) (order_map (close_any now AbnormalRelease) 1 s.holdings (any_lsn now AbnormalRelease) h.0), closes_zero now _ t s.holdings h.0 h.1);
}

one_zero : (loss : Loss) (t : List Move) → closed_as t 0 ≡ None → closed_as (loss_move loss ∷ t) 0 ≡ None
one_zero Unsent t e = e
one_zero Unanswered t e = e

lost_zero : (setup : SmfSetup) (now : ℕ) (loss : Loss) (t : List Move) (s : Session) → AreInOrder 1 s.holdings → closed_as t 0 ≡ None → closed_as (lost_moves now loss s ++ t) 0 ≡ None
lost_zero setup now loss t s o e = (lost_kept Numbered (λ x. Unit {0}) numbered_by_loss setup now loss t s tt (o, one_zero loss t e)).1

replied_zero : (now : ℕ) (p : Reply) (q : Option Request) (t : List Move) (s : Session) → AreInOrder 1 s.holdings → closed_as t 0 ≡ None → closed_as (reply_moves now p q s ++ t) 0 ≡ None
replied_zero now p None t s o e = e
replied_zero now (Created reference answer) (Some q) t s o e = e
replied_zero now (Updated answer) (Some q) t s o e = e
replied_zero now Released (Some q) t s o e = closes_zero now _ t s.holdings o e
replied_zero now (Refused problem) (Some q) t s o e = closes_zero now _ t s.holdings o e

effect_zero : (event : SmfEvent) (setup : SmfSetup) (now : ℕ) (t : List Move) (s : Session) → AreInOrder 1 s.holdings → closed_as t 0 ≡ None → closed_as (effect_moves now event s ++ t) 0 ≡ None
effect_zero (Attach session subscriber groups moment) setup now t s o e = e
effect_zero (Start session group moment) setup now t s o e = e
effect_zero (Count session r) setup now t s o e = closes_zero r.moment _ t s.holdings o e
effect_zero (Change session trigger moment) setup now t s o e = closes_zero moment _ t s.holdings o e
effect_zero (Tick moment) setup now t s o e = e
effect_zero (Detach session abnormal moment) setup now t s o e = closes_zero moment _ t s.holdings o e
effect_zero (Answered session place reply) setup now t s o e = replied_zero now reply s.request t s o e
effect_zero (Attempt session peer) setup now t s o e = e
effect_zero (NotSent session) setup now t s o e = lost_zero setup now Unsent t s o e
effect_zero (NoReply session) setup now t s o e = lost_zero setup now Unanswered t s o e
effect_zero Restart setup now t s o e = lost_zero setup now Unanswered t s o e

next_zero : (b : Bool) (event : SmfEvent) (setup : SmfSetup) (now : ℕ) (t : List Move) (s : Session) → touches event s ≡ b → IsNew event s → StandsWhole t s → closed_as t 0 ≡ None
    → closed_as (cond b (finish_moves setup now (effect setup now event s) ++ effect_moves now event s) [] ++ t) 0 ≡ None
next_zero true event setup now t s on new w e =
    rw append_assoc (finish_zero setup now (effect_moves now event s ++ t) (effect setup now event s) (effect_whole event setup now t s on new w).0.numbered (effect_zero event setup now t s w.0.numbered e))
next_zero false event setup now t s on new w e = e

abbrev Both : List Move → Session → Type 0
Both t s = StandsWhole t s × (closed_as t 0 ≡ None)

created_zero : (b : Bool) (xs : List Move) → closed_as xs 0 ≡ None → closed_as (cond b xs [] ++ []) 0 ≡ None
created_zero true xs e = rw append-nil e
created_zero false xs e = refl

added_zero : (event : SmfEvent) (setup : SmfSetup) (now number : ℕ) → closed_as (added_moves setup now number event ++ []) 0 ≡ None
added_zero (Attach session subscriber groups moment) setup now number =
    created_zero (session == number) _ (finish_zero setup now (Freezes (request_of setup now (fresh setup session subscriber groups moment) Create) ∷ []) (with_request setup now Create (fresh setup session subscriber groups moment)) tt refl)
added_zero (Start session group moment) setup now number = refl
added_zero (Count session r) setup now number = refl
added_zero (Change session trigger moment) setup now number = refl
added_zero (Tick moment) setup now number = refl
added_zero (Detach session abnormal moment) setup now number = refl
added_zero (Answered session place reply) setup now number = refl
added_zero (Attempt session peer) setup now number = refl
added_zero (NotSent session) setup now number = refl
added_zero (NoReply session) setup now number = refl
added_zero Restart setup now number = refl

both_with : (t : List Move) (o : Option Session) → With StandsWhole t o → closed_as t 0 ≡ None → With Both t o
both_with t None h e = h
both_with t (Some s) h e = (h, e)

zero_kept : (setup : SmfSetup) → IsKept setup Both moves_of
zero_kept setup = record {
  next = λ now number event s t is new h. ((kept setup).next now number event s t is new h.0, next_zero (touches event s) event setup now t s refl new h.0 h.1);
  added = λ now number event. both_with (added_moves setup now number event ++ []) (session_of number (added_by setup now event)) ((kept setup).added now number event) (added_zero event setup now number);
}

-- the container of a number

abbrev HasNumber : List Move → List Holding → ℕ → Type 0
HasNumber t hs k = (h : Holding) × Contains hs h × (h.container.lsn ≡ k) × (closed_holding h ≡ closed_as t k)

first_is : (h : Holding) (hs : List Holding) → Contains (h ∷ hs) h
first_is h hs = (0, omega arith, refl)

has_number : (t : List Move) (next : ℕ) (hs : List Holding) (k : ℕ) → AreInOrder next hs → AllByRecursion (IsAt t) hs → next ≤ k → k < next + length hs → HasNumber t hs k
has_number t next [] k o a l m = absurd (omega (arith, l, m))
has_number t next (h ∷ hs) k o a l m = at (next == k) refl (λ past. has_number t (next + 1) hs k o.1 a.1 past (omega (arith, m)))
  where
    at : (b : Bool) → (next == k) ≡ b → (next + 1 ≤ k → HasNumber t hs k) → HasNumber t (h ∷ hs) k
    at true e later = let same : next ≡ k = eqb-true next k e in (h, first_is h hs, o.0 ∙ same, a.0.closed ∙ ap (closed_as t) (o.0 ∙ same))
    at false e later = let i : HasNumber t hs k = later (omega (arith, l, eqb-false next k e)) in (i.0, Contains-append_right (h ∷ []) hs i.0 i.1, i.2, i.3)

abbrev closing : Holding → TriggerType → Closed
closing h trigger = record { container = h.container; trigger = trigger; moment = h.moment }

closed_number : (h : Holding) (c : Closed) → closed_holding h ≡ Some c → h.container.lsn ≡ c.container.lsn
closed_number h c e = at h.trigger e
  where
    at : (o : Option TriggerType) → option_map (λ trigger. closing h trigger) o ≡ Some c → h.container.lsn ≡ c.container.lsn
    at None f = cc
    at (Some x) f = let g : closing h x ≡ c = cc in ap (λ (y : Closed). y.container.lsn) g

among_by : (t : List Move) (s : Session) (k : ℕ) (c : Closed) → Both t s → closed_as t k ≡ Some c → IsAmong c s
among_by t s k c h e = at k (k - length s.holdings) refl e
  where
    at : (n over : ℕ) → n - length s.holdings ≡ over → closed_as t n ≡ Some c → IsAmong c s
    at zero over d f = let g : None ≡ Some c = sym h.1 ∙ f in cc
    at (suc n) zero d f =
        let it = has_number t 1 s.holdings (suc n) h.0.0.numbered h.0.0.each (omega arith) (omega (arith, d)) in
        let same : closed_holding it.0 ≡ Some c = it.3 ∙ f in
        record { holding = it.0; held = it.1; same = same; number = closed_number it.0 c same }
    at (suc n) (suc over) d f = let g : None ≡ Some c = sym (h.0.0.beyond (suc n) (omega (arith, d))) ∙ f in cc

outside_by : (t : List Move) (s : Session) (k : ℕ) → Both t s → closed_as t k ≡ None → AreOutside t s k
outside_by t s k h e = record { closed = e; unused = unclosed_unused t k h.0.0.valid e }

own_by : (t : List Move) (o : Option Session) → With Both t o → StandAmong t o
own_by t None h = h
own_by t (Some s) h = record {
  among = λ k c e. among_by t s k c h e;
  outside = λ k. ⊎_elim (λ (z : k ≡ 0). outside_by t s k h (ap (closed_as t) z ∙ h.1)) (λ (m : length s.holdings < k). outside_by t s k h (h.0.0.beyond k m));
}

pub among_run : (setup : SmfSetup) (events : List SmfEvent) (number : ℕ) → StandAmong (trace setup events number) (session_of number (machine_after setup events).sessions)
among_run setup events number =
    subst (λ l. StandAmong l (session_of number (machine_after setup events).sessions)) (sym (trace_is setup events number))
    (own_by (history moves_of setup events number) (session_of number (machine_after setup events).sessions) (over_all setup Both moves_of (zero_kept setup) events number))
