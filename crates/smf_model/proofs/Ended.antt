-- A session that is over holds nothing, for every list of events.
use Rattle.smf_model.proofs.Losing.{KeptByLoss, lost_kept}
use Rattle.smf_model.specs.Rounds.{lost}
use Rattle.smf_model.specs.Sending.{marked, attempted}
use Rattle.smf_model.specs.declared.session.Why.{Why}
use Rattle.smf_model.specs.declared.session.Peer.{Peer}
use Rattle.smf_model.specs.declared.session.Loss.TheVariants.{Unsent, Unanswered}
use Rattle.smf_model.specs.declared.session.Loss.{Loss}
use Rattle.std.proofs.Common.{◌≡◌, ◌⊎◌, inl, inr, ℕ, ◌+◌, ◌-◌, ◌≤◌, ◌==◌, ◌&&◌, ◌||◌, nat_lt, Bool, true, false, cond, List, [], ◌∷◌, ◌++◌, map, refl, sym, ◌∙◌, ap, subst, arith, append-nil}
use Rattle.std.specs.Prelude.{Option, Some, None, is_some}
use Rattle.std.specs.List.{AllByRecursion}
use Rattle.std.proofs.lemmas.Bool.{and_parts}
use Rattle.std.proofs.lemmas.Bool.Decides.{nat_tests}
use Rattle.std.proofs.lemmas.List.Sums.{sum_by-cons}
use Rattle.units.specs.declared.trigger.TriggerType.{TriggerType}
use Rattle.units.specs.declared.trigger.TriggerType.TheVariants.{Final, AbnormalRelease}
use Rattle.units.specs.declared.request.Operation.{Operation}
use Rattle.units.specs.declared.request.Operation.TheVariants.{Create, Update, Release}
use Rattle.units.specs.declared.request.Request.{Request}
use Rattle.units.specs.declared.reply.Reply.{Reply}
use Rattle.units.specs.declared.reply.Reply.TheVariants.{Created, Updated, Released, Refused}
use Rattle.sessions.specs.Kept.{is_release}
use Rattle.sessions.specs.Trace.{Move, Phase, phase}
use Rattle.sessions.specs.Trace.Phase.{Idle, Asked, Released as ReleasedPhase}
use Rattle.smf_model.specs.declared.setup.SmfSetup.{SmfSetup}
use Rattle.smf_model.specs.declared.session.Life.{Life}
use Rattle.smf_model.specs.declared.session.Life.TheVariants.{Live, Ending, Aborting, Ended}
use Rattle.smf_model.specs.declared.session.Why.TheVariants.{HeldFull, Refused as WasRefused, NotSent as WasNotSent}
use Rattle.smf_model.specs.declared.session.Place.{Place}
use Rattle.smf_model.specs.declared.session.Place.TheVariants.{Open, Waiting, Frozen, Answered as AnsweredPlace, GivenUp}
use Rattle.smf_model.specs.declared.session.Holding.{Holding}
use Rattle.smf_model.specs.declared.session.Session.{Session}
use Rattle.smf_model.specs.declared.event.SmfEvent.{SmfEvent}
use Rattle.smf_model.specs.declared.event.SmfEvent.TheVariants.{Attach, Start, Count, Change, Tick, Detach, Answered, Attempt, NotSent, NoReply, Restart}
use Rattle.smf_model.specs.Settle.{is_open, is_waiting, is_frozen, entry_of, close, close_due, due_at, settled}
use Rattle.smf_model.specs.Freeze.{waiting_count, move_oldest, live_operation, ending_operation, operation_in, next_operation, request_of, freeze_due, freeze_by, with_request}
use Rattle.smf_model.specs.Traffic.{close_any, detached, give_up, without_traffic, ended_for}
use Rattle.smf_model.specs.Replies.{is_final_for, is_answer_to, answer_holding, replied, answered_by}
use Rattle.smf_model.specs.Machine.{is_live, is_ended, machine_after, session_of, touches, effect, finished, fresh, added_by}
use Rattle.smf_model.specs.Trace.{trace, moves_of, added_moves}
use Rattle.smf_model.specs.History.{history}
use Rattle.smf_model.specs.Apart.{is_lost}
use Rattle.smf_model.specs.Ended.{is_held, HoldsNothing}
use Rattle.smf_model.proofs.Lifting.{IsNew, With, IsKept, over_all}
use Rattle.smf_model.proofs.Runs.{number-next}
use Rattle.smf_model.proofs.Held.{Stands, may_freeze}
use Rattle.smf_model.proofs.Effects.{is_counted, is_final_answer, is_open_session, live_not_over, close_same, shut_all}
use Rattle.smf_model.proofs.Traces.{StandsWhole, kept, created_whole, trace_is}

-- no container is at a place of a kind
abbrev NoneAt : (Place → Bool) → List Holding → Type 0
NoneAt kind hs = AllByRecursion (λ h. kind h.place ≡ false) hs

-- what is not held is not open
held_open : (p : Place) → is_held p ≡ false → is_open p ≡ false
held_open Open e = cc
held_open Waiting e = cc
held_open Frozen e = cc
held_open AnsweredPlace e = refl
held_open (GivenUp w) e = refl

none_open : (hs : List Holding) → NoneAt is_held hs → NoneAt is_open hs
none_open [] a = tt
none_open (h ∷ hs) a = (held_open h.place a.0, none_open hs a.1)

-- what a session is that goes on no more: none is open; where its Release is unanswered none waits; and where it is over none is held
record IsShut (s : Session) : Type 0 where
  shut : is_live s.life ≡ false → NoneAt is_open s.holdings
  released : (q : Request) → s.request ≡ Some q → is_release q.operation ≡ true → (is_live s.life ≡ false) × NoneAt is_waiting s.holdings
  over : is_ended s.life ≡ true → NoneAt is_held s.holdings

-- a part that touches open containers alone
quiet_shut : (s v : Session) → v.life ≡ s.life → v.request ≡ s.request → (NoneAt is_open s.holdings → v.holdings ≡ s.holdings) → IsShut s → IsShut v
quiet_shut s v life request same h = record {
  shut = λ e. let none : NoneAt is_open s.holdings = h.shut (ap is_live (sym life) ∙ e) in subst (NoneAt is_open) (sym (same none)) none;
  released = λ q is r.
      let old = h.released q (sym request ∙ is) r in
      (ap is_live life ∙ old.0, subst (NoneAt is_waiting) (sym (same (h.shut old.0))) old.1);
  over = λ e. let none : NoneAt is_held s.holdings = h.over (ap is_ended (sym life) ∙ e) in subst (NoneAt is_held) (sym (same (none_open s.holdings none))) none;
}

unopened : (f : Holding → Holding) (hs : List Holding) → ((h : Holding) → is_open h.place ≡ false → f h ≡ h) → NoneAt is_open hs → map f hs ≡ hs
unopened f [] same a = refl
unopened f (h ∷ hs) same a = ap (λ k. k ∷ map f hs) (same h a.0) ∙ ap (λ ks. h ∷ ks) (unopened f hs same a.1)

settled_shut : (setup : SmfSetup) (now : ℕ) (s : Session) → IsShut s → IsShut (settled setup now s)
settled_shut setup now s h =
    quiet_shut s (settled setup now s) refl refl
    (unopened (close_due setup now s) s.holdings (λ k e. ap (λ b. cond b (close now (due_at setup now s (entry_of k.container.group s.groups)) k) k) e)) h

-- a live session
live_shut : (s v : Session) → is_live s.life ≡ true → v.life ≡ s.life → v.request ≡ s.request → IsShut s → IsShut v
live_shut s v live life request h = record {
  shut = λ e. absurd (let f : true ≡ false = sym live ∙ ap is_live (sym life) ∙ e in cc);
  released = λ q is r. absurd (let f : true ≡ false = sym live ∙ (h.released q (sym request ∙ is) r).0 in cc);
  over = λ e. absurd (let f : true ≡ false = sym e ∙ ap is_ended life ∙ live_not_over s.life live in cc);
}

-- containers that are moved

moved_kept : (kind : Place → Bool) (p : Place) (hs : List Holding) (most : ℕ) → kind p ≡ false → NoneAt kind hs → NoneAt kind (move_oldest most p hs)
moved_kept kind p [] most e a = tt
moved_kept kind p (h ∷ hs) most e a = at (is_waiting h.place && nat_lt 0 most) (λ n. moved_kept kind p hs n e a.1)
  where
    at : (b : Bool) → ((n : ℕ) → NoneAt kind (move_oldest n p hs)) → NoneAt kind (cond b (record h { place = p } ∷ move_oldest (most - 1) p hs) (h ∷ move_oldest most p hs))
    at true k = (e, k (most - 1))
    at false k = (a.0, k most)

-- where so many may be moved none is left
all_moved : (hs : List Holding) (most : ℕ) → waiting_count hs ≤ most → NoneAt is_waiting (move_oldest most Frozen hs)
all_moved [] most l = tt
all_moved (h ∷ hs) most l = at (is_waiting h.place) (nat_lt 0 most) refl refl (λ n m. all_moved hs n m)
  where
    count : waiting_count (h ∷ hs) ≡ cond (is_waiting h.place) 1 0 + waiting_count hs
    count = sum_by-cons (λ (k : Holding). cond (is_waiting k.place) 1 0) h hs

    at : (x b : Bool) → is_waiting h.place ≡ x → nat_lt 0 most ≡ b → ((n : ℕ) → waiting_count hs ≤ n → NoneAt is_waiting (move_oldest n Frozen hs))
        → NoneAt is_waiting (cond (x && b) (record h { place = Frozen } ∷ move_oldest (most - 1) Frozen hs) (h ∷ move_oldest most Frozen hs))
    at true true w s k =
        let one : waiting_count (h ∷ hs) ≡ 1 + waiting_count hs = count ∙ ap (λ b. cond b 1 0 + waiting_count hs) w in
        (refl, k (most - 1) (omega (arith, one, l)))
    at true false w s k =
        let one : waiting_count (h ∷ hs) ≡ 1 + waiting_count hs = count ∙ ap (λ b. cond b 1 0 + waiting_count hs) w in
        absurd (grind (arith, nat_tests, one, l, s))
    at false b w s k =
        let same : waiting_count (h ∷ hs) ≡ waiting_count hs = count ∙ ap (λ b. cond b 1 0 + waiting_count hs) w ∙ omega arith in
        (w, k most (omega (arith, same, l)))

-- a Release is due only where the session goes on no more, and it takes all that waits
ending_release : (s : Session) (x : Option ℕ) (o : Operation) → ending_operation s x ≡ Some o → is_release o ≡ true → waiting_count s.holdings ≤ 500
ending_release s None o e r = cc
ending_release s (Some n) o e r = at (nat_lt 500 (waiting_count s.holdings)) refl e
  where
    at : (b : Bool) → nat_lt 500 (waiting_count s.holdings) ≡ b → cond b (Some (Update n)) (Some (Release n)) ≡ Some o → waiting_count s.holdings ≤ 500
    at true l e = absurd (let same : Update n ≡ o = cc in let f : false ≡ true = ap is_release same ∙ r in cc)
    at false l e = grind (arith, nat_tests, l)

live_update : (setup : SmfSetup) (s : Session) (x : Option ℕ) (o : Operation) → live_operation setup s x ≡ Some o → is_release o ≡ false
live_update setup s None o e = cc
live_update setup s (Some n) o e = at _ e
  where
    at : (b : Bool) → cond b (Some (Update n)) None ≡ Some o → is_release o ≡ false
    at true e = let same : Update n ≡ o = cc in sym (ap is_release same)
    at false e = cc

release_due : (b : Bool) (l : Life) (setup : SmfSetup) (s : Session) (o : Operation) → cond b None (operation_in setup s l) ≡ Some o → is_release o ≡ true → (is_live l ≡ false) × (waiting_count s.holdings ≤ 500)
release_due true l setup s o e r = cc
release_due false Live setup s o e r = absurd (let f : false ≡ true = sym (live_update setup s s.reference o e) ∙ r in cc)
release_due false Ending setup s o e r = (refl, ending_release s s.reference o e r)
release_due false Aborting setup s o e r = (refl, ending_release s s.reference o e r)
release_due false Ended setup s o e r = cc

same_request : (q r : Request) → Some q ≡ Some r → q ≡ r
same_request q r e = cc

freeze_shut : (next : Option Operation) (setup : SmfSetup) (now : ℕ) (s : Session) → next_operation setup s ≡ next → IsShut s → IsShut (freeze_by setup now next s)
freeze_shut None setup now s e h = h
freeze_shut (Some o) setup now s e h = record {
  shut = λ l. moved_kept is_open Frozen s.holdings 500 refl (h.shut l);
  released = λ q is r.
      let due = release_due (is_some s.request) s.life setup s o e (ap (λ (x : Request). is_release x.operation) (same_request (request_of setup now s o) q is) ∙ r) in
      (due.0, all_moved s.holdings 500 due.1);
  over = λ l. absurd (let f : true ≡ false = sym l ∙ (may_freeze (is_some s.request) setup s s.life o e).1 in cc);
}

finished_shut : (setup : SmfSetup) (now : ℕ) (s : Session) → IsShut s → IsShut (finished setup now s)
finished_shut setup now s h =
    let v : Session = settled setup now s in
    let w : Session = freeze_due setup now v in
    let k : IsShut w = freeze_shut (next_operation setup v) setup now v refl (settled_shut setup now s h) in
    let most : ℕ = waiting_count w.holdings - setup.held_max in
    record {
      shut = λ e. moved_kept is_open (GivenUp HeldFull) w.holdings most refl (k.shut e);
      released = λ q is r. let old = k.released q is r in (old.0, moved_kept is_waiting (GivenUp HeldFull) w.holdings most refl old.1);
      over = λ e. moved_kept is_held (GivenUp HeldFull) w.holdings most refl (k.over e);
    }

-- replies

answer_kept : (h : Holding) → is_open h.place ≡ false → is_open (answer_holding h).place ≡ false
answer_kept h e = at (is_frozen h.place)
  where
    at : (b : Bool) → is_open (cond b (record h { place = AnsweredPlace }) h).place ≡ false
    at true = refl
    at false = e

answers_kept : (hs : List Holding) → NoneAt is_open hs → NoneAt is_open (map answer_holding hs)
answers_kept [] a = tt
answers_kept (h ∷ hs) a = (answer_kept h a.0, answers_kept hs a.1)

succeeded_shut : (s v : Session) → is_ended s.life ≡ false → v.life ≡ s.life → v.request ≡ None → v.holdings ≡ map answer_holding s.holdings → IsShut s → IsShut v
succeeded_shut s v on life request holdings h = record {
  shut = λ e. subst (NoneAt is_open) (sym holdings) (answers_kept s.holdings (h.shut (ap is_live (sym life) ∙ e)));
  released = λ q is r. absurd (let f : None ≡ Some q = sym request ∙ is in cc);
  over = λ e. absurd (let f : true ≡ false = sym e ∙ ap is_ended life ∙ on in cc);
}

-- by the tests of a place, none is held
not_held : (p : Place) → is_open p ≡ false → is_waiting p ≡ false → is_frozen p ≡ false → is_held p ≡ false
not_held Open o w f = cc
not_held Waiting o w f = cc
not_held Frozen o w f = cc
not_held AnsweredPlace o w f = refl
not_held (GivenUp x) o w f = refl

released_one : (now : ℕ) (h : Holding) → is_open h.place ≡ false → is_waiting h.place ≡ false → is_held (close_any now AbnormalRelease (answer_holding h)).place ≡ false
released_one now h o w = ap (λ (k : Holding). is_held k.place) (close_same now AbnormalRelease (answer_holding h) (answer_kept h o)) ∙ at (is_frozen h.place) refl
  where
    at : (b : Bool) → is_frozen h.place ≡ b → is_held (cond b (record h { place = AnsweredPlace }) h).place ≡ false
    at true f = refl
    at false f = not_held h.place o w f

released_all : (now : ℕ) (hs : List Holding) → NoneAt is_open hs → NoneAt is_waiting hs → NoneAt is_held (map (close_any now AbnormalRelease) (map answer_holding hs))
released_all now [] o w = tt
released_all now (h ∷ hs) o w = (released_one now h o.0 w.0, released_all now hs o.1 w.1)

given_one : (why : Why) (h : Holding) → is_open h.place ≡ false → is_held (give_up why h).place ≡ false
given_one why h o = at (is_waiting h.place) (is_frozen h.place) refl refl
  where
    at : (w f : Bool) → is_waiting h.place ≡ w → is_frozen h.place ≡ f → is_held (cond (w || f) (record h { place = GivenUp why }) h).place ≡ false
    at true f ew ef = refl
    at false true ew ef = refl
    at false false ew ef = not_held h.place o ew ef

given_all : (why : Why) (hs : List Holding) → NoneAt is_open hs → NoneAt is_held (map (give_up why) hs)
given_all why [] a = tt
given_all why (h ∷ hs) a = (given_one why h a.0, given_all why hs a.1)

over_shut : (v : Session) → v.request ≡ None → NoneAt is_held v.holdings → IsShut v
over_shut v request none = record {
  shut = λ e. none_open v.holdings none;
  released = λ q is r. absurd (let f : None ≡ Some q = sym request ∙ is in cc);
  over = λ e. none;
}

release_only : (o : Operation) (n : ℕ) → is_final_for o Released n ≡ true → is_release o ≡ true
release_only Create n e = cc
release_only (Update r) n e = cc
release_only (Release r) n e = refl

replied_shut : (now place : ℕ) (p : Reply) (q : Request) (s : Session) → is_ended s.life ≡ false → s.request ≡ Some q → is_final_for q.operation p place ≡ true → IsShut s → IsShut (replied now q.stamp p s)
replied_shut now place (Created reference answer) q s on is final h = succeeded_shut s (replied now q.stamp (Created reference answer) s) on refl refl refl h
replied_shut now place (Updated answer) q s on is final h = succeeded_shut s (replied now q.stamp (Updated answer) s) on refl refl refl h
replied_shut now place Released q s on is final h =
    let old = h.released q is (release_only q.operation place final) in
    over_shut (replied now q.stamp Released s) refl (released_all now s.holdings (h.shut old.0) old.1)
replied_shut now place (Refused problem) q s on is final h =
    over_shut (replied now q.stamp (Refused problem) s) refl (given_all WasRefused (map (close_any now AbnormalRelease) s.holdings) (shut_all now AbnormalRelease s.holdings))

answered_shut : (now place : ℕ) (p : Reply) (o : Option Request) (s : Session) → is_ended s.life ≡ false → s.request ≡ o → is_answer_to place p o ≡ true → IsShut s → IsShut (answered_by now p o s)
answered_shut now place p None s on is final h = h
answered_shut now place p (Some q) s on is final h =
    let k = replied_shut now place p q s on is (and_parts (q.number == place) (is_final_for q.operation p place) final).1 h in
    record { shut = k.shut; released = k.released; over = k.over }

-- events

detached_with : (x : TriggerType) (moment : ℕ) (s v : Session) → is_live s.life ≡ true → is_ended v.life ≡ false → v.request ≡ s.request → v.holdings ≡ map (close_any moment x) s.holdings → IsShut s → IsShut v
detached_with x moment s v live on request holdings h = record {
  shut = λ e. subst (NoneAt is_open) (sym holdings) (shut_all moment x s.holdings);
  released = λ q is r. absurd (let f : true ≡ false = sym live ∙ (h.released q (sym request ∙ is) r).0 in cc);
  over = λ e. absurd (let f : true ≡ false = sym e ∙ on in cc);
}

detached_shut : (abnormal : Bool) (moment : ℕ) (s : Session) → is_live s.life ≡ true → IsShut s → IsShut (detached abnormal moment s)
detached_shut true moment s live h = detached_with AbnormalRelease moment s (detached true moment s) live refl refl refl h
detached_shut false moment s live h = detached_with Final moment s (detached false moment s) live refl refl refl h

-- an attempt, and its end
attempted_shut : (peer : Peer) (s : Session) → IsShut s → IsShut (attempted peer s)
attempted_shut peer s h = record { shut = h.shut; released = λ q is r. at s.request refl q is r; over = h.over }
  where
    at : (o : Option Request) → s.request ≡ o → (q : Request) → marked o ≡ Some q → is_release q.operation ≡ true → (is_live s.life ≡ false) × NoneAt is_waiting s.holdings
    at None e q is r = cc
    at (Some p) e q is r = h.released p e (ap is_release (same_operation p q is) ∙ r)
      where
        same_operation : (p q : Request) → Some (record p { again = true }) ≡ Some q → p.operation ≡ q.operation
        same_operation p q is = let f : record p { again = true } ≡ q = cc in ap (λ (x : Request). x.operation) f

shut_by_loss : KeptByLoss (λ t s. IsShut s) (λ o. Unit {0})
shut_by_loss = record {
  sends = λ x t s latest flies unsent h. record { shut = h.shut; released = h.released; over = h.over };
  continues = λ t s h. record { shut = h.shut; released = h.released; over = h.over };
  breaks = λ now t s live h. detached_with AbnormalRelease now s (without_traffic Aborting now AbnormalRelease s) live refl refl refl h;
  gives_up = λ now t s landed unsent asked h. over_shut (ended_for WasNotSent now s) refl (given_all WasNotSent (map (close_any now AbnormalRelease) s.holdings) (shut_all now AbnormalRelease s.holdings));
}

lost_shut : (setup : SmfSetup) (now : ℕ) (loss : Loss) (s : Session) → IsShut s → IsShut (lost setup now loss s)
lost_shut setup now loss s h = lost_kept (λ t u. IsShut u) (λ o. Unit {0}) shut_by_loss setup now loss [] s tt (record { shut = h.shut; released = h.released; over = h.over })

effect_shut : (event : SmfEvent) (setup : SmfSetup) (now : ℕ) (s : Session) → touches event s ≡ true → IsNew event s → IsShut s → IsShut (effect setup now event s)
effect_shut (Attach session subscriber groups moment) setup now s on new h = h
effect_shut (Start session group moment) setup now s on new h = quiet_shut s (effect setup now (Start session group moment) s) refl refl (λ none. refl) h
effect_shut (Count session r) setup now s on new h = live_shut s (effect setup now (Count session r) s) (is_counted r s (new on)).live refl refl h
effect_shut (Change session trigger moment) setup now s on new h =
    quiet_shut s (effect setup now (Change session trigger moment) s) refl refl (unopened (close_any moment trigger) s.holdings (λ k e. close_same moment trigger k e)) h
effect_shut (Tick moment) setup now s on new h = h
effect_shut (Detach session abnormal moment) setup now s on new h = detached_shut abnormal moment s (and_parts (s.number == session) (is_live s.life) on).1 h
effect_shut (Answered session place reply) setup now s on new h = answered_shut now place reply s.request s (is_open_session place reply s (new on)) refl (is_final_answer place reply s (new on)) h
effect_shut (Attempt session peer) setup now s on new h = attempted_shut peer s h
effect_shut (NotSent session) setup now s on new h = lost_shut setup now Unsent s h
effect_shut (NoReply session) setup now s on new h = lost_shut setup now Unanswered s h
effect_shut Restart setup now s on new h = lost_shut setup now Unanswered s h

next_by : (b : Bool) (event : SmfEvent) (setup : SmfSetup) (now : ℕ) (s : Session) → touches event s ≡ b → IsNew event s → IsShut s → IsShut (cond b (finished setup now (effect setup now event s)) s)
next_by true event setup now s on new h = finished_shut setup now (effect setup now event s) (effect_shut event setup now s on new h)
next_by false event setup now s on new h = h

created_shut : (setup : SmfSetup) (now number : ℕ) (subscriber groups : List ℕ) (moment : ℕ) → IsShut (finished setup now (with_request setup now Create (fresh setup number subscriber groups moment)))
created_shut setup now number subscriber groups moment =
    let s : Session = with_request setup now Create (fresh setup number subscriber groups moment) in
    finished_shut setup now s (record {
      shut = λ e. cc;
      released = λ q is r. absurd (let f : false ≡ true = ap (λ (x : Request). is_release x.operation) (same_request (request_of setup now (fresh setup number subscriber groups moment) Create) q is) ∙ r in cc);
      over = λ e. cc;
    })

abbrev Both : List Move → Session → Type 0
Both t s = StandsWhole t s × IsShut s

attached_at : (b : Bool) (m : List Move) (s : Session) → Both m s → With Both (cond b m [] ++ []) (cond b (Some s) None)
attached_at true m s h = subst (λ l. Both l s) (sym (append-nil m)) h
attached_at false m s h = refl

attached : (setup : SmfSetup) (now number : ℕ) (event : SmfEvent) → With Both (added_moves setup now number event ++ []) (session_of number (added_by setup now event))
attached setup now number (Attach session subscriber groups moment) =
    let s : Session = with_request setup now Create (fresh setup session subscriber groups moment) in
    let P : Bool → Type 0 = λ b. With Both (added_moves setup now number (Attach session subscriber groups moment) ++ []) (cond b (Some (finished setup now s)) None) in
    subst P (ap (λ n. n == number) (sym (number-next (Tick now) setup now s)))
    (attached_at (session == number) _ _ (created_whole setup now session subscriber groups moment, created_shut setup now session subscriber groups moment))
attached setup now number (Start session group moment) = refl
attached setup now number (Count session r) = refl
attached setup now number (Change session trigger moment) = refl
attached setup now number (Tick moment) = refl
attached setup now number (Detach session abnormal moment) = refl
attached setup now number (Answered session place reply) = refl
attached setup now number (Attempt session peer) = refl
attached setup now number (NotSent session) = refl
attached setup now number (NoReply session) = refl
attached setup now number Restart = refl

shut_kept : (setup : SmfSetup) → IsKept setup Both moves_of
shut_kept setup = record {
  next = λ now number event s t is new h. ((kept setup).next now number event s t is new h.0, next_by (touches event s) event setup now s refl new h.1);
  added = λ now number event. attached setup now number event;
}

-- by the moves

abbrev IsOver : Phase → Type 0
IsOver p = (p ≡ ReleasedPhase) ⊎ (is_lost p ≡ true)

asked_on : (p : Phase) → p ≡ Asked → IsOver p → ⊥
asked_on p e (inl r) = cc
asked_on p e (inr l) = let f : true ≡ false = sym l ∙ ap is_lost e in cc

idle_on : (p : Phase) → p ≡ Idle → IsOver p → ⊥
idle_on p e (inl r) = cc
idle_on p e (inr l) = let f : true ≡ false = sym l ∙ ap is_lost e in cc

is_over : (t : List Move) (s : Session) → Stands t s → IsOver (phase t) → is_ended s.life ≡ true
is_over t s h over = at (is_ended s.life) (is_some s.request) refl refl
  where
    at : (b d : Bool) → is_ended s.life ≡ b → is_some s.request ≡ d → b ≡ true
    at true d e f = refl
    at false true e f = absurd (asked_on (phase t) (h.asked f) over)
    at false false e f = absurd (idle_on (phase t) (h.idle f e) over)

nothing_with : (t : List Move) (o : Option Session) → With Both t o → HoldsNothing t o
nothing_with t None h = h
nothing_with t (Some s) h = λ over. h.1.over (is_over t s h.0.0 over)

pub nothing_run : (setup : SmfSetup) (events : List SmfEvent) (number : ℕ) → HoldsNothing (trace setup events number) (session_of number (machine_after setup events).sessions)
nothing_run setup events number =
    subst (λ l. HoldsNothing l (session_of number (machine_after setup events).sessions)) (sym (trace_is setup events number))
    (nothing_with (history moves_of setup events number) (session_of number (machine_after setup events).sessions) (over_all setup Both moves_of (shut_kept setup) events number))
