-- A session and its moves, through what an event does first: reports, changes, ends and replies.
use Rattle.std.proofs.Common.{◌≡◌, ℕ, ◌+◌, ◌==◌, ◌&&◌, ◌||◌, not, nat_lt, nat_le, Bool, true, false, cond, List, [], ◌∷◌, ◌++◌, length, map, refl, sym, ◌∙◌, ap, subst, arith, length-append}
use Rattle.std.specs.Prelude.{Option, Some, None, is_some, option_map, Result, Ok, Err}
use Rattle.std.specs.List.{AllByRecursion, list_any}
use Rattle.std.proofs.lemmas.Bool.{and_parts}
use Rattle.units.specs.declared.report.Report.{Report}
use Rattle.units.specs.declared.report.Container.{Container}
use Rattle.units.specs.declared.trigger.TriggerType.{TriggerType}
use Rattle.units.specs.declared.trigger.TriggerType.TheVariants.{Final, AbnormalRelease}
use Rattle.units.specs.declared.trigger.Closed.{Closed}
use Rattle.units.specs.declared.request.Operation.{Operation}
use Rattle.units.specs.declared.request.Operation.TheVariants.{Create, Update, Release}
use Rattle.units.specs.declared.request.Request.{Request}
use Rattle.units.specs.declared.reply.Reply.{Reply}
use Rattle.units.specs.declared.reply.Reply.TheVariants.{Created, Updated, Released, Refused}
use Rattle.meter.specs.Joining.{extended}
use Rattle.meter.specs.Admission.{is_too_large}
use Rattle.sessions.specs.Kept.{is_success, is_release, uses}
use Rattle.sessions.specs.Trace.{Move, Cause, Admits, requests, settled, is_released, phase, closed_as, given_up}
use Rattle.sessions.specs.Trace.Move.{Answers}
use Rattle.sessions.specs.Trace.Cause.{WasRefused as CausedByRefusal}
use Rattle.sessions.specs.Content.{content}
use Rattle.sessions.specs.Trace.Phase.{Idle, Asked, Released as ReleasedPhase, Refused as RefusedPhase}
use Rattle.smf_model.specs.declared.session.Life.{Life}
use Rattle.smf_model.specs.declared.session.Life.TheVariants.{Live, Ending, Aborting, Ended}
use Rattle.smf_model.specs.declared.session.Why.{Why}
use Rattle.smf_model.specs.declared.session.Place.{Place}
use Rattle.smf_model.specs.declared.session.Place.TheVariants.{Open, Waiting, Frozen, Answered as AnsweredPlace, GivenUp}
use Rattle.smf_model.specs.declared.session.Holding.{Holding}
use Rattle.smf_model.specs.declared.session.Entry.{Entry}
use Rattle.smf_model.specs.declared.session.Session.{Session}
use Rattle.smf_model.specs.declared.refusal.Seen.{Seen}
use Rattle.smf_model.specs.declared.refusal.Seen.TheVariants.{New, Known}
use Rattle.smf_model.specs.declared.refusal.SmfRefusal.{SmfRefusal}
use Rattle.smf_model.specs.declared.refusal.SmfRefusal.TheVariants.{GateClosed, OutOfStep, TooLarge, MomentBack}
use Rattle.quotas.specs.declared.state.Gate.TheVariants.{Closed as ClosedGate}
use Rattle.smf_model.specs.Settle.{is_open, is_waiting, is_frozen, is_open_of, open_of, entry_of, close}
use Rattle.smf_model.specs.Traffic.{horizon_in, closes_before, close_of, extend_of, first_of, joined, counted, close_any, detached, give_up}
use Rattle.smf_model.specs.Sending.{unmarked, latest_peer, with_peer}
use Rattle.smf_model.specs.Replies.{is_final_for, is_answer_to, answer_holding, replied, answered_by}
use Rattle.smf_model.specs.Machine.{is_live, is_ended, gate_in, gate_for, is_passing, expected_of, count_answer, reply_answer}
use Rattle.smf_model.specs.Trace.{closes_of, closes_all, ending_moves, reply_moves, unanswered}
use Rattle.smf_model.specs.Places.{why_of, place_by, place_of, closed_holding, AreInOrder}
use Rattle.smf_model.specs.Apart.{is_lost}
use Rattle.smf_model.proofs.TraceLaws.{newest_is, IsNewest, unclosed_kept}
use Rattle.smf_model.proofs.Placed.{IsAt, unclosed_by, order_map, all_map, closed_with}
use Rattle.smf_model.proofs.Frozen.{answered_at, given_at, IsGivingUp, refusal_gives}
use Rattle.smf_model.proofs.Held.{Stands, length_map, same_stands, closed_stands, same_map, when, close_when, any_stands}

-- what an answer New says

abbrev new_or_known : Bool → Result Seen SmfRefusal
new_or_known b = cond b (Ok New) (Ok Known)

new_if : (b : Bool) → new_or_known b ≡ Ok New → b ≡ true
new_if true e = refl
new_if false e = cc

new_past_known : (b : Bool) (rest : Result Seen SmfRefusal) → cond b (Ok Known) rest ≡ Ok New → rest ≡ Ok New
new_past_known true rest e = cc
new_past_known false rest e = e

pub new_past_refusal : (b : Bool) (why : SmfRefusal) (rest : Result Seen SmfRefusal) → cond b (Err why) rest ≡ Ok New → (b ≡ false) × (rest ≡ Ok New)
new_past_refusal true why rest e = cc
new_past_refusal false why rest e = (refl, e)

not_true : (b : Bool) → not b ≡ true → b ≡ false
not_true true e = cc
not_true false e = refl

not_not : (b : Bool) → not b ≡ false → b ≡ true
not_not true e = refl
not_not false e = cc

pub record IsCounted (r : Report) (s : Session) : Type 0 where
  pub live : is_live s.life ≡ true
  pub entry : Entry
  pub found : entry_of r.group s.groups ≡ Some entry
  pub expected : (r.number == expected_of r.group s) ≡ true
  pub not_back : nat_lt r.moment s.last ≡ false

passing_live : (b : Bool) (o : Option Entry) → is_passing (cond b (gate_in o) ClosedGate) ≡ true → b ≡ true
passing_live true o e = refl
passing_live false o e = cc

-- the rating group's entry, where its gate is not waiting for want of one
record HasEntry (o : Option Entry) : Type 0 where
  entry : Entry
  is : o ≡ Some entry

passing_entry : (o : Option Entry) (b : Bool) → is_passing (cond b (gate_in o) ClosedGate) ≡ true → HasEntry o
passing_entry None true e = cc
passing_entry None false e = cc
passing_entry (Some e) b h = record { entry = e; is = refl }

pub is_counted : (r : Report) (s : Session) → count_answer r s ≡ Ok New → IsCounted r s
is_counted r s new =
    let past = new_past_known (nat_le 1 r.number && nat_lt r.number (expected_of r.group s)) _ new in
    let gate = new_past_refusal (not (is_passing (gate_for r.group s))) (GateClosed (gate_for r.group s)) _ past in
    let step = new_past_refusal (not (r.number == expected_of r.group s)) (OutOfStep (expected_of r.group s)) _ gate.1 in
    let small = new_past_refusal (is_too_large r) TooLarge _ step.1 in
    let back = new_past_refusal (nat_lt r.moment s.last) (MomentBack s.last) _ small.1 in
    let passing : is_passing (gate_for r.group s) ≡ true = not_not (is_passing (gate_for r.group s)) gate.0 in
    let has : HasEntry (entry_of r.group s.groups) = passing_entry (entry_of r.group s.groups) (is_live s.life) passing in
    record {
      live = passing_live (is_live s.life) (entry_of r.group s.groups) passing;
      entry = has.entry;
      found = has.is;
      expected = not_not (r.number == expected_of r.group s) step.0;
      not_back = back.0;
    }

pub live_not_over : (l : Life) → is_live l ≡ true → is_ended l ≡ false
live_not_over Live h = refl
live_not_over Ending h = cc
live_not_over Aborting h = cc
live_not_over Ended h = cc

-- a report

none_either : (f g : TriggerType → Closed) (o : Option TriggerType) → option_map f o ≡ None → option_map g o ≡ None
none_either f g None e = refl
none_either f g (Some x) e = cc

extended_at : (t : List Move) (c : Container) (h : Holding) → c.lsn ≡ h.container.lsn → is_open h.place ≡ true → IsAt t h → IsAt t (record h { container = c })
extended_at t c h lsn open_it a =
    let none : closed_as t h.container.lsn ≡ None = unclosed_by t h open_it a in
    let unset : closed_holding h ≡ None = a.closed ∙ none in
    let new : Holding = record h { container = c } in
    record {
      place = a.place ∙ ap (place_of t) (sym lsn);
      closed = none_either (λ trigger. record { container = h.container; trigger = trigger; moment = h.moment }) (λ trigger. record { container = c; trigger = trigger; moment = h.moment }) h.trigger unset ∙ sym none ∙ ap (closed_as t) (sym lsn);
      untouched = subst (λ k. closed_as t k ≡ None → given_up t k ≡ None) (sym lsn) a.untouched;
    }

extend_at : (r : Report) (t : List Move) (h : Holding) → IsAt t h → IsAt t (extend_of r h)
extend_at r t h a = at (is_open_of r.group h) refl
  where
    at : (b : Bool) → is_open_of r.group h ≡ b → IsAt t (cond b (record h { container = extended h.container r }) h)
    at true e = extended_at t (extended h.container r) h refl (and_parts (h.container.group == r.group) (is_open h.place) e).1 a
    at false e = a

extend_lsn : (r : Report) (h : Holding) → (extend_of r h).container.lsn ≡ h.container.lsn
extend_lsn r h = at (is_open_of r.group h)
  where
    at : (b : Bool) → (cond b (record h { container = extended h.container r }) h).container.lsn ≡ h.container.lsn
    at true = refl
    at false = refl

order_push : (next : ℕ) (hs : List Holding) (h : Holding) → h.container.lsn ≡ next + length hs → AreInOrder next hs → AreInOrder next (hs ++ h ∷ [])
order_push next [] h e o = (omega (arith, e), tt)
order_push next (g ∷ hs) h e o = (o.0, order_push (next + 1) hs h (omega (arith, e)) o.1)

all_push : (P : Holding → Type 0) (hs : List Holding) (h : Holding) → P h → AllByRecursion P hs → AllByRecursion P (hs ++ h ∷ [])
all_push P [] h p a = (p, tt)
all_push P (g ∷ hs) h p a = (a.0, all_push P hs h p a.1)

-- an unanswered request or none: it is not lost
not_lost : (t : List Move) (s : Session) → is_ended s.life ≡ false → Stands t s → is_lost (phase t) ≡ false
not_lost t s on h = at (is_some s.request) refl
  where
    at : (b : Bool) → is_some s.request ≡ b → is_lost (phase t) ≡ false
    at true e = ap is_lost (h.asked e)
    at false e = ap is_lost (h.idle e on)

extended_stands : (r : Report) (t : List Move) (s : Session) → Stands t s → Stands t (record s { holdings = map (extend_of r) s.holdings })
extended_stands r t s h = record {
  valid = h.valid;
  numbered = order_map (extend_of r) 1 s.holdings (extend_lsn r) h.numbered;
  each = all_map (IsAt t) (IsAt t) (extend_of r) s.holdings (extend_at r t) h.each;
  beyond = λ lsn l. h.beyond lsn (let e = length_map (extend_of r) s.holdings in omega (arith, l, e));
  count = h.count;
  unanswered = h.unanswered;
  asked = h.asked;
  idle = h.idle;
}

opened_stands : (r : Report) (t : List Move) (s : Session) → is_ended s.life ≡ false → Stands t s → Stands t (record s { holdings = s.holdings ++ first_of (length s.holdings + 1) r ∷ [] })
opened_stands r t s on h =
    let k : ℕ = length s.holdings + 1 in
    let none : closed_as t k ≡ None = h.beyond k (omega arith) in
    let given : given_up t k ≡ None = unclosed_kept t k h.valid (not_lost t s on h) none in
    let new : IsAt t (first_of k r) = record {
      place = sym (ap (λ o. place_by o (given_up t k) (uses k (requests t) == 0) (uses k (settled t) == 0)) none);
      closed = sym none;
      untouched = λ e. given;
    } in
    record {
      valid = h.valid;
      numbered = order_push 1 s.holdings (first_of k r) (omega arith) h.numbered;
      each = all_push (IsAt t) s.holdings (first_of k r) new h.each;
      beyond = λ lsn l. h.beyond lsn (let e = length-append s.holdings (first_of k r ∷ []) in omega (arith, l, e));
      count = h.count;
      unanswered = h.unanswered;
      asked = h.asked;
      idle = h.idle;
    }

joined_stands : (r : Report) (t : List Move) (s : Session) → is_ended s.life ≡ false → Stands t s → Stands t (record s { holdings = joined r s.holdings })
joined_stands r t s on h = at (list_any (is_open_of r.group) s.holdings)
  where
    at : (b : Bool) → Stands t (record s { holdings = cond b (map (extend_of r) s.holdings) (s.holdings ++ first_of (length s.holdings + 1) r ∷ []) })
    at true = extended_stands r t s h
    at false = opened_stands r t s on h

pub counted_stands : (r : Report) (t : List Move) (s : Session) → is_live s.life ≡ true → Stands t s
    → Stands (closes_of r.moment (λ h. cond (is_open_of r.group h) (closes_before (horizon_in (entry_of r.group s.groups)) r (open_of r.group s.holdings)) None) s.holdings ++ t) (counted r s)
counted_stands r t s live h =
    let on : is_ended s.life ≡ false = live_not_over s.life live in
    let o : Option TriggerType = closes_before (horizon_in (entry_of r.group s.groups)) r (open_of r.group s.holdings) in
    let closing : Holding → Option TriggerType = λ h. cond (is_open_of r.group h) o None in
    let closed : Session = record s { holdings = map (close_of r.group r.moment o) s.holdings } in
    let k : Stands (closes_of r.moment closing s.holdings ++ t) closed =
    closed_stands r.moment closing (λ g x e. (and_parts (g.container.group == r.group) (is_open g.place) (when (is_open_of r.group g) o x e)).1) t s closed
    (same_map (close_of r.group r.moment o) (closed_with r.moment closing) s.holdings (λ g. close_when (is_open_of r.group g) r.moment o g)) refl refl (λ e. e) h in
    same_stands (closes_of r.moment closing s.holdings ++ t) (record closed { holdings = joined r closed.holdings }) (counted r s) refl refl refl (λ e. e) (joined_stands r (closes_of r.moment closing s.holdings ++ t) closed on k)

-- a detach of a live session

pub detached_stands : (abnormal : Bool) (moment : ℕ) (t : List Move) (s : Session) → is_live s.life ≡ true → Stands t s → Stands (closes_all moment (cond abnormal AbnormalRelease Final) s ++ t) (detached abnormal moment s)
detached_stands true moment t s live h = any_stands moment AbnormalRelease t s (detached true moment s) refl refl refl (λ e. live_not_over s.life live) h
detached_stands false moment t s live h = any_stands moment Final t s (detached false moment s) refl refl refl (λ e. live_not_over s.life live) h

-- replies

-- a success that leaves a session open is of no Release
abbrev KeepsOpen : Reply → Type 0
KeepsOpen (Created reference answer) = Unit {0}
KeepsOpen (Updated answer) = Unit {0}
KeepsOpen Released = ⊥
KeepsOpen (Refused problem) = ⊥

no_release : (o : Operation) (p : Reply) (n : ℕ) → KeepsOpen p → is_final_for o p n ≡ true → is_release o ≡ false
no_release Create p n open_it e = refl
no_release (Update r) p n open_it e = refl
no_release (Release r) (Created reference answer) n open_it e = cc
no_release (Release r) (Updated answer) n open_it e = cc
no_release (Release r) Released n open_it e = absurd open_it
no_release (Release r) (Refused problem) n open_it e = absurd open_it

none_released : (t : List Move) (q : Request) (p : Reply) (n : ℕ) → KeepsOpen p → is_final_for q.operation p n ≡ true → unanswered t ≡ Some q → is_released (requests t) ≡ false
none_released t q p n open_it final is =
    let newest : is_released (requests t) ≡ is_release q.operation = subst (λ o. IsNewest o (requests t)) is (newest_is t) in
    newest ∙ no_release q.operation p n open_it final

answer_lsn : (h : Holding) → (answer_holding h).container.lsn ≡ h.container.lsn
answer_lsn h = at (is_frozen h.place)
  where
    at : (b : Bool) → (cond b (record h { place = AnsweredPlace }) h).container.lsn ≡ h.container.lsn
    at true = refl
    at false = refl

answered_with : (p : Reply) (t : List Move) (s u : Session) → is_success p ≡ true → phase t ≡ Asked → u.holdings ≡ map answer_holding s.holdings → u.count ≡ s.count → u.request ≡ None
    → (is_ended u.life ≡ false → is_released (requests t) ≡ false) → Stands t s → Stands (Answers p ∷ t) u
answered_with p t s u good asked holdings count request open_it h = record {
  valid = (asked, h.valid);
  numbered = subst (AreInOrder 1) (sym holdings) (order_map answer_holding 1 s.holdings answer_lsn h.numbered);
  each = subst (λ hs. AllByRecursion (IsAt (Answers p ∷ t)) hs) (sym holdings) (all_map (IsAt t) (IsAt (Answers p ∷ t)) answer_holding s.holdings (answered_at p t good) h.each);
  beyond = λ lsn l. h.beyond lsn (let e : length u.holdings ≡ length s.holdings = ap length holdings ∙ length_map answer_holding s.holdings in omega (arith, l, e));
  count = count ∙ h.count;
  unanswered = ap unmarked request;
  asked = λ e. absurd (let f : true ≡ false = sym e ∙ ap is_some request in cc);
  idle = λ e on. ap (λ b. cond b (cond (is_released (requests t)) ReleasedPhase Idle) RefusedPhase) good ∙ ap (λ b. cond b ReleasedPhase Idle) (open_it on);
}

-- answering what is frozen and closing what is open are apart
answer_same : (h : Holding) → is_frozen h.place ≡ false → answer_holding h ≡ h
answer_same h e = ap (λ b. cond b (record h { place = AnsweredPlace }) h) e

pub close_same : (m : ℕ) (x : TriggerType) (h : Holding) → is_open h.place ≡ false → close_any m x h ≡ h
close_same m x h e = ap (λ b. cond b (close m (Some x) h) h) e

open_not_frozen : (p : Place) → is_open p ≡ true → is_frozen p ≡ false
open_not_frozen Open e = refl
open_not_frozen Waiting e = cc
open_not_frozen Frozen e = cc
open_not_frozen AnsweredPlace e = cc
open_not_frozen (GivenUp w) e = cc

swapped_one : (m : ℕ) (x : TriggerType) (h : Holding) → close_any m x (answer_holding h) ≡ answer_holding (close_any m x h)
swapped_one m x h = at (is_open h.place) (is_frozen h.place) refl refl
  where
    at : (o f : Bool) → is_open h.place ≡ o → is_frozen h.place ≡ f → close_any m x (answer_holding h) ≡ answer_holding (close_any m x h)
    at true f o e =
        let shut : close_any m x h ≡ close m (Some x) h = ap (λ b. cond b (close m (Some x) h) h) o in
        ap (close_any m x) (answer_same h (open_not_frozen h.place o)) ∙ shut ∙ sym (ap answer_holding shut)
    at false true o e =
        let done : answer_holding h ≡ record h { place = AnsweredPlace } = ap (λ b. cond b (record h { place = AnsweredPlace }) h) e in
        ap (close_any m x) done ∙ sym done ∙ sym (ap answer_holding (close_same m x h o))
    at false false o e = ap (close_any m x) (answer_same h e) ∙ close_same m x h o ∙ sym (ap answer_holding (close_same m x h o) ∙ answer_same h e)

pub swapped : (m : ℕ) (x : TriggerType) (hs : List Holding) → map (close_any m x) (map answer_holding hs) ≡ map answer_holding (map (close_any m x) hs)
swapped m x [] = refl
swapped m x (h ∷ hs) = ap (λ y. y ∷ map (close_any m x) (map answer_holding hs)) (swapped_one m x h) ∙ ap (λ ys. answer_holding (close_any m x h) ∷ ys) (swapped m x hs)

-- after every open container is closed none is open
pub shut_one : (m : ℕ) (x : TriggerType) (h : Holding) → is_open (close_any m x h).place ≡ false
shut_one m x h = at (is_open h.place) refl
  where
    at : (b : Bool) → is_open h.place ≡ b → is_open (cond b (close m (Some x) h) h).place ≡ false
    at true e = refl
    at false e = e

pub shut_all : (m : ℕ) (x : TriggerType) (hs : List Holding) → AllByRecursion (λ h. is_open h.place ≡ false) (map (close_any m x) hs)
shut_all m x [] = tt
shut_all m x (h ∷ hs) = (shut_one m x h, shut_all m x hs)

given_all : (cause : Cause) (t u : List Move) → IsGivingUp cause t u → (hs : List Holding) → AllByRecursion (λ h. is_open h.place ≡ false) hs → AllByRecursion (IsAt t) hs → AllByRecursion (IsAt u) (map (give_up (why_of cause)) hs)
given_all cause t u gives [] shut a = tt
given_all cause t u gives (h ∷ hs) shut a = (given_at cause t u gives h shut.0 a.0, given_all cause t u gives hs shut.1 a.1)

give_lsn : (why : Why) (h : Holding) → (give_up why h).container.lsn ≡ h.container.lsn
give_lsn why h = at (is_waiting h.place || is_frozen h.place)
  where
    at : (b : Bool) → (cond b (record h { place = GivenUp why }) h).container.lsn ≡ h.container.lsn
    at true = refl
    at false = refl

-- a session that is over, with what it held given up
pub given_stands : (cause : Cause) (move : Move) (t : List Move) (s u : Session) → IsGivingUp cause t (move ∷ t) → Admits t move → unanswered (move ∷ t) ≡ None
    → AllByRecursion (λ h. is_open h.place ≡ false) s.holdings → u.holdings ≡ map (give_up (why_of cause)) s.holdings → u.count ≡ s.count → u.request ≡ None → is_ended u.life ≡ true → Stands t s → Stands (move ∷ t) u
given_stands cause move t s u gives admits none shut holdings count request over h = record {
  valid = (admits, h.valid);
  numbered = subst (AreInOrder 1) (sym holdings) (order_map (give_up (why_of cause)) 1 s.holdings (give_lsn (why_of cause)) h.numbered);
  each = subst (λ hs. AllByRecursion (IsAt (move ∷ t)) hs) (sym holdings) (given_all cause t (move ∷ t) gives s.holdings shut h.each);
  beyond = λ lsn l. gives.same_closed lsn ∙ h.beyond lsn (let e : length u.holdings ≡ length s.holdings = ap length holdings ∙ length_map (give_up (why_of cause)) s.holdings in omega (arith, l, e));
  count = count ∙ h.count ∙ ap length (sym gives.same_requests);
  unanswered = ap unmarked request ∙ sym none;
  asked = λ e. absurd (let f : true ≡ false = sym e ∙ ap is_some request in cc);
  idle = λ e on. absurd (let f : true ≡ false = sym over ∙ on in cc);
}

replied_stands : (now number : ℕ) (p : Reply) (q : Request) (t : List Move) (s : Session) → s.request ≡ Some q → is_final_for q.operation p number ≡ true → Stands t s → Stands (Answers p ∷ (ending_moves now p s ++ t)) (replied now q.stamp p s)
replied_stands now number (Created reference answer) q t s is final h =
    answered_with (Created reference answer) t s (replied now q.stamp (Created reference answer) s) refl (h.asked (ap is_some is)) refl refl refl (λ on. none_released t (content q) (Created reference answer) number tt final (sym h.unanswered ∙ ap unmarked is)) h
replied_stands now number (Updated answer) q t s is final h =
    answered_with (Updated answer) t s (replied now q.stamp (Updated answer) s) refl (h.asked (ap is_some is)) refl refl refl (λ on. none_released t (content q) (Updated answer) number tt final (sym h.unanswered ∙ ap unmarked is)) h
replied_stands now number Released q t s is final h =
    let shut : Session = record s { holdings = map (close_any now AbnormalRelease) s.holdings } in
    let k : Stands (closes_all now AbnormalRelease s ++ t) shut = any_stands now AbnormalRelease t s shut refl refl refl (λ e. e) h in
    answered_with Released (closes_all now AbnormalRelease s ++ t) shut (replied now q.stamp Released s) refl (k.asked (ap is_some is)) (swapped now AbnormalRelease s.holdings) refl refl (λ on. cc) k
replied_stands now number (Refused problem) q t s is final h =
    let shut : Session = record s { holdings = map (close_any now AbnormalRelease) s.holdings } in
    let k : Stands (closes_all now AbnormalRelease s ++ t) shut = any_stands now AbnormalRelease t s shut refl refl refl (λ e. e) h in
    given_stands CausedByRefusal (Answers (Refused problem)) (closes_all now AbnormalRelease s ++ t) shut (replied now q.stamp (Refused problem) s) (refusal_gives (Refused problem) (closes_all now AbnormalRelease s ++ t) refl) (k.asked (ap is_some is)) refl (shut_all now AbnormalRelease s.holdings) refl refl refl refl k

answered_stands_by : (now number : ℕ) (p : Reply) (o : Option Request) (t : List Move) (s : Session) → s.request ≡ o → is_answer_to number p o ≡ true → Stands t s → Stands (reply_moves now p o s ++ t) (answered_by now p o s)
answered_stands_by now number p None t s is new h = h
answered_stands_by now number p (Some q) t s is new h =
    same_stands (reply_moves now p (Some q) s ++ t) (replied now q.stamp p s) (with_peer (latest_peer s) (replied now q.stamp p s)) refl refl refl (λ e. e)
    (replied_stands now number p q t s is (and_parts (q.number == number) (is_final_for q.operation p number) new).1 h)

pub is_open_session : (number : ℕ) (p : Reply) (s : Session) → reply_answer number p s ≡ Ok New → is_ended s.life ≡ false
is_open_session number p s new =
    not_true (is_ended s.life) (and_parts (not (is_ended s.life)) (is_answer_to number p s.request) (new_if (not (is_ended s.life) && is_answer_to number p s.request) new)).0

pub is_final_answer : (number : ℕ) (p : Reply) (s : Session) → reply_answer number p s ≡ Ok New → is_answer_to number p s.request ≡ true
is_final_answer number p s new =
    let both : (not (is_ended s.life) && is_answer_to number p s.request) ≡ true = new_if (not (is_ended s.life) && is_answer_to number p s.request) new in
    (and_parts (not (is_ended s.life)) (is_answer_to number p s.request) both).1

pub answered_stands : (now number : ℕ) (p : Reply) (t : List Move) (s : Session) → reply_answer number p s ≡ Ok New → Stands t s → Stands (reply_moves now p s.request s ++ t) (answered_by now p s.request s)
answered_stands now number p t s new h = answered_stands_by now number p s.request t s refl (is_final_answer number p s new) h
