-- The reports of a session are in the order of their moments.
use Rattle.std.proofs.Common.{◌≡◌, ℕ, ◌-◌, ◌≤◌, ◌==◌, not, nat_lt, Bool, true, false, cond, List, [], ◌∷◌, ◌++◌, length, refl, sym, ap, subst, arith}
use Rattle.std.specs.Prelude.{Option, Some, None, Result, Ok, Err}
use Rattle.std.specs.List.{All}
use Rattle.std.specs.List.Sorted.{IsNonDecreasingBy}
use Rattle.std.proofs.lemmas.List.Sorted.{IsNonDecreasingBy-push}
use Rattle.std.proofs.lemmas.List.Kept.{IsNonDecreasingBy-filter}
use Rattle.std.proofs.lemmas.List.Elements.{All-push}
use Rattle.std.proofs.lemmas.Bool.{and_parts, ltb-false}
use Rattle.units.specs.declared.report.Report.{Report}
use Rattle.units.specs.declared.request.Request.{Request}
use Rattle.units.specs.declared.request.Operation.{Operation}
use Rattle.units.specs.declared.request.Operation.TheVariants.{Create}
use Rattle.units.specs.declared.reply.Reply.{Reply}
use Rattle.units.specs.declared.reply.Reply.TheVariants.{Created, Updated, Released, Refused}
use Rattle.units.specs.Cut.{reports_of}
use Rattle.smf_model.specs.declared.setup.SmfSetup.{SmfSetup}
use Rattle.smf_model.specs.declared.session.Loss.{Loss}
use Rattle.smf_model.specs.declared.session.Loss.TheVariants.{Unsent, Unanswered}
use Rattle.smf_model.specs.declared.session.Session.{Session}
use Rattle.smf_model.specs.declared.event.SmfEvent.{SmfEvent}
use Rattle.smf_model.specs.declared.event.SmfEvent.TheVariants.{Attach, Start, Count, Change, Tick, Detach, Answered, Attempt, NotSent, NoReply, Restart}
use Rattle.smf_model.specs.declared.refusal.Seen.{Seen}
use Rattle.smf_model.specs.declared.refusal.Seen.TheVariants.{New, Known}
use Rattle.smf_model.specs.declared.refusal.SmfRefusal.{SmfRefusal}
use Rattle.smf_model.specs.declared.refusal.SmfRefusal.TheVariants.{MomentBack}
use Rattle.smf_model.specs.Settle.{settled, entry_of}
use Rattle.smf_model.specs.Freeze.{freeze_by, next_operation, with_request}
use Rattle.smf_model.specs.Rounds.{lost}
use Rattle.smf_model.specs.Replies.{answered_by}
use Rattle.smf_model.specs.Machine.{machine_after, session_of, touches, effect, finished, added_by, fresh, is_live, is_served, start_answer, count_answer, change_answer, detach_answer}
use Rattle.smf_model.specs.History.{history}
use Rattle.smf_model.specs.Reports.{in_order, report_in, reports}
use Rattle.smf_model.proofs.Lifting.{IsNew, With, IsKept, over_all}
use Rattle.smf_model.proofs.Losing.{KeptByLoss, lost_kept}
use Rattle.smf_model.proofs.Effects.{is_counted}

-- the reports so far are in order, and none is later than the session's last moment
abbrev InOrder : List Report → Session → Type 0
InOrder u s = IsNonDecreasingBy (λ (r : Report). r.moment) (in_order u) × All (λ (r : Report). r.moment ≤ s.last) (in_order u)

later_order : (u : List Report) (s v : Session) → s.last ≤ v.last → InOrder u s → InOrder u v
later_order u s v l h = (h.0, λ k d b. let m = h.1 k d b in omega (arith, m, l))

taken_order : (r : Report) (u : List Report) (s v : Session) → s.last ≤ r.moment → v.last ≡ r.moment → InOrder u s → InOrder (r ∷ u) v
taken_order r u s v l is h = (
  IsNonDecreasingBy-push (λ (x : Report). x.moment) (in_order u) r h.0 (λ d some. let m = h.1 (length (in_order u) - 1) d (omega (arith, some)) in omega (arith, m, l)),
  All-push (λ (x : Report). x.moment ≤ v.last) (in_order u) r (λ k d b. let m = h.1 k d b in omega (arith, m, l, is)) (omega (arith, is)),
)

-- the end of an event leaves the last moment
same_freeze : (next : Option Operation) (setup : SmfSetup) (now : ℕ) (s : Session) → (freeze_by setup now next s).last ≡ s.last
same_freeze None setup now s = refl
same_freeze (Some o) setup now s = refl

same_finished : (setup : SmfSetup) (now : ℕ) (s : Session) → (finished setup now s).last ≡ s.last
same_finished setup now s = same_freeze (next_operation setup (settled setup now s)) setup now (settled setup now s)

-- so do replies and ends of attempts
same_answered : (now : ℕ) (p : Reply) (q : Option Request) (s : Session) → (answered_by now p q s).last ≡ s.last
same_answered now p None s = refl
same_answered now (Created reference answer) (Some q) s = refl
same_answered now (Updated answer) (Some q) s = refl
same_answered now Released (Some q) s = refl
same_answered now (Refused problem) (Some q) s = refl

last_by_loss : (last : ℕ) → KeptByLoss (λ t s. s.last ≡ last) (λ o. Unit {0})
last_by_loss last = record {
  sends = λ x t s latest flies unsent h. h;
  continues = λ t s h. h;
  breaks = λ now t s live h. h;
  gives_up = λ now t s landed unsent asked h. h;
}

same_lost : (setup : SmfSetup) (now : ℕ) (loss : Loss) (s : Session) → (lost setup now loss s).last ≡ s.last
same_lost setup now loss s = lost_kept (λ t x. x.last ≡ s.last) (λ o. Unit {0}) (last_by_loss s.last) setup now loss [] s tt refl

-- what is answered New is not before the last moment

abbrev the_answer : Result Seen SmfRefusal → Result Seen SmfRefusal
the_answer r = r

not_before : (a b : ℕ) → nat_lt a b ≡ false → b ≤ a
not_before a b e = ltb-false a b e

not_back : (back : Bool) (e : SmfRefusal) (rest : Result Seen SmfRefusal) → cond back (the_answer (Err e)) rest ≡ Ok New → back ≡ false
not_back true e rest h = cc
not_back false e rest h = refl

past_refusal : (b : Bool) (e : SmfRefusal) (rest : Result Seen SmfRefusal) → cond b (the_answer (Err e)) rest ≡ Ok New → rest ≡ Ok New
past_refusal true e rest h = cc
past_refusal false e rest h = h

past_known : (b : Bool) (rest : Result Seen SmfRefusal) → cond b (the_answer (Ok Known)) rest ≡ Ok New → rest ≡ Ok New
past_known true rest h = cc
past_known false rest h = h

count_later : (r : Report) (s : Session) → count_answer r s ≡ Ok New → s.last ≤ r.moment
count_later r s new = not_before r.moment s.last (is_counted r s new).not_back

start_later : (group moment : ℕ) (s : Session) → start_answer group moment s ≡ Ok New → s.last ≤ moment
start_later group moment s new =
    let a = past_refusal (not (is_live s.life)) _ _ new in
    let b = past_known (is_served (entry_of group s.groups)) _ a in
    not_before moment s.last (not_back (nat_lt moment s.last) (MomentBack s.last) _ b)

change_later : (moment : ℕ) (s : Session) → change_answer moment s ≡ Ok New → s.last ≤ moment
change_later moment s new = not_before moment s.last (not_back (nat_lt moment s.last) (MomentBack s.last) _ (past_refusal (not (is_live s.life)) _ _ new))

detach_later : (moment : ℕ) (s : Session) → detach_answer moment s ≡ Ok New → s.last ≤ moment
detach_later moment s new = not_before moment s.last (not_back (nat_lt moment s.last) (MomentBack s.last) _ (past_known (not (is_live s.life)) _ new))

-- each event
same_order : (u : List Report) (s v : Session) → v.last ≡ s.last → InOrder u s → InOrder u v
same_order u s v e h = later_order u s v (omega (arith, e)) h

effect_order : (event : SmfEvent) (setup : SmfSetup) (now number : ℕ) (u : List Report) (s : Session) → touches event s ≡ true → IsNew event s → InOrder u s → InOrder (report_in setup now number event (Some s) ++ u) (effect setup now event s)
effect_order (Attach session subscriber groups moment) setup now number u s on new h = h
effect_order (Start session group moment) setup now number u s on new h = later_order u s (effect setup now (Start session group moment) s) (start_later group moment s (new on)) h
effect_order (Count session r) setup now number u s on new h =
    subst (λ b. InOrder (cond b (r ∷ []) [] ++ u) (effect setup now (Count session r) s)) (sym on) (taken_order r u s (effect setup now (Count session r) s) (count_later r s (new on)) refl h)
effect_order (Change session trigger moment) setup now number u s on new h = later_order u s (effect setup now (Change session trigger moment) s) (change_later moment s (new on)) h
effect_order (Tick moment) setup now number u s on new h = h
effect_order (Detach session abnormal moment) setup now number u s on new h = later_order u s (effect setup now (Detach session abnormal moment) s) (detach_later moment s (new (and_parts (s.number == session) (is_live s.life) on).0)) h
effect_order (Answered session place reply) setup now number u s on new h = same_order u s (effect setup now (Answered session place reply) s) (same_answered now reply s.request s) h
effect_order (Attempt session peer) setup now number u s on new h = same_order u s (effect setup now (Attempt session peer) s) refl h
effect_order (NotSent session) setup now number u s on new h = same_order u s (effect setup now (NotSent session) s) (same_lost setup now Unsent s) h
effect_order (NoReply session) setup now number u s on new h = same_order u s (effect setup now (NoReply session) s) (same_lost setup now Unanswered s) h
effect_order Restart setup now number u s on new h = same_order u s (effect setup now Restart s) (same_lost setup now Unanswered s) h

untouched : (event : SmfEvent) (setup : SmfSetup) (now number : ℕ) (s : Session) → touches event s ≡ false → report_in setup now number event (Some s) ≡ []
untouched (Attach session subscriber groups moment) setup now number s off = refl
untouched (Start session group moment) setup now number s off = refl
untouched (Count session r) setup now number s off = ap (λ b. cond b (r ∷ []) []) off
untouched (Change session trigger moment) setup now number s off = refl
untouched (Tick moment) setup now number s off = refl
untouched (Detach session abnormal moment) setup now number s off = refl
untouched (Answered session place reply) setup now number s off = refl
untouched (Attempt session peer) setup now number s off = refl
untouched (NotSent session) setup now number s off = refl
untouched (NoReply session) setup now number s off = refl
untouched Restart setup now number s off = refl

next_order : (b : Bool) (event : SmfEvent) (setup : SmfSetup) (now number : ℕ) (u : List Report) (s : Session) → touches event s ≡ b → IsNew event s → InOrder u s
    → InOrder (report_in setup now number event (Some s) ++ u) (cond b (finished setup now (effect setup now event s)) s)
next_order true event setup now number u s on new h =
    same_order (report_in setup now number event (Some s) ++ u) (effect setup now event s) (finished setup now (effect setup now event s)) (same_finished setup now (effect setup now event s)) (effect_order event setup now number u s on new h)
next_order false event setup now number u s off new h = subst (λ l. InOrder (l ++ u) s) (sym (untouched event setup now number s off)) h

none_order : (s : Session) → InOrder [] s
none_order s = (λ i j d l b. absurd (omega (arith, b)), λ k d b. absurd (omega (arith, b)))

attached_at : (b : Bool) (s : Session) → With InOrder [] (cond b (Some s) None)
attached_at true s = none_order s
attached_at false s = refl

attached : (setup : SmfSetup) (now number : ℕ) (event : SmfEvent) → With InOrder (report_in setup now number event None ++ []) (session_of number (added_by setup now event))
attached setup now number (Attach session subscriber groups moment) =
    let s : Session = finished setup now (with_request setup now Create (fresh setup session subscriber groups moment)) in attached_at (s.number == number) s
attached setup now number (Start session group moment) = refl
attached setup now number (Count session r) = refl
attached setup now number (Change session trigger moment) = refl
attached setup now number (Tick moment) = refl
attached setup now number (Detach session abnormal moment) = refl
attached setup now number (Answered session place reply) = refl
attached setup now number (Attempt session peer) = refl
attached setup now number (NotSent session) = refl
attached setup now number (NoReply session) = refl
attached setup now number Restart = refl

order_kept : (setup : SmfSetup) → IsKept setup InOrder report_in
order_kept setup = record {
  next = λ now number event s u is new h. next_order (touches event s) event setup now number u s refl new h;
  added = λ now number event. attached setup now number event;
}

order_of : (u : List Report) (o : Option Session) → With InOrder u o → IsNonDecreasingBy (λ (r : Report). r.moment) (in_order u)
order_of u None h = subst (λ l. IsNonDecreasingBy (λ (r : Report). r.moment) (in_order l)) (sym h) (λ i j d l b. absurd (omega (arith, b)))
order_of u (Some s) h = h.0

pub order_run : (setup : SmfSetup) (events : List SmfEvent) (number group : ℕ) → IsNonDecreasingBy (λ (r : Report). r.moment) (reports_of group (reports setup events number))
order_run setup events number group =
    IsNonDecreasingBy-filter (λ (r : Report). r.moment) (λ r. r.group == group) (reports setup events number)
    (order_of (history report_in setup events number) (session_of number (machine_after setup events).sessions) (over_all setup InOrder report_in (order_kept setup) events number))
