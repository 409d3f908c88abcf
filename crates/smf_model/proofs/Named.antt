-- After any events each request of a session is named by it.
use Rattle.smf_model.proofs.Losing.{KeptByLoss, lost_kept}
use Rattle.smf_model.specs.declared.session.Why.TheVariants.{NotSent as NotSentWhy}
use Rattle.smf_model.specs.Rounds.{with_loss, continue_entry, lost}
use Rattle.smf_model.specs.Sending.{unmarked, attempted, latest_peer, with_peer}
use Rattle.units.specs.declared.trigger.TriggerType.TheVariants.{AbnormalRelease}
use Rattle.sessions.specs.Content.{content}
use Rattle.smf_model.specs.declared.session.Loss.TheVariants.{Unsent, Unanswered}
use Rattle.smf_model.specs.declared.session.Loss.{Loss}
use Rattle.std.proofs.Common.{◌≡◌, ◌⊎◌, ℕ, ◌-◌, ◌≤◌, ◌==◌, ◌&&◌, nat_lt, nat_le, ◌||◌, Bool, true, false, cond, List, [], ◌∷◌, ◌++◌, length, inl, inr, refl, sym, ◌∙◌, ap, subst, arith, append_assoc, append-nil, map}
use Rattle.std.specs.Prelude.{Option, Some, None, is_some}
use Rattle.std.specs.List.{list_any}
use Rattle.std.proofs.lemmas.Bool.{eqb-true, eq-eqb, and_parts}
use Rattle.units.specs.declared.trigger.TriggerType.{TriggerType}
use Rattle.units.specs.declared.answer.Answer.{Answer}
use Rattle.units.specs.declared.request.Operation.{Operation}
use Rattle.units.specs.declared.request.Operation.TheVariants.{Create, Update, Release}
use Rattle.units.specs.declared.request.Request.{Request}
use Rattle.units.specs.declared.reply.Reply.{Reply}
use Rattle.units.specs.declared.reply.Reply.TheVariants.{Created, Updated, Released, Refused}
use Rattle.sessions.specs.Trace.{Move, requests, outcome}
use Rattle.sessions.specs.Trace.Move.{Closes, Drops, Freezes, Attempts, NotSent, NoReply, GivesUp, Answers}
use Rattle.smf_model.specs.declared.setup.SmfSetup.{SmfSetup}
use Rattle.smf_model.specs.declared.session.Life.{Life}
use Rattle.smf_model.specs.declared.session.Life.TheVariants.{Live, Ending, Aborting, Ended}
use Rattle.smf_model.specs.declared.session.Holding.{Holding}
use Rattle.smf_model.specs.declared.session.Session.{Session}
use Rattle.smf_model.specs.declared.event.SmfEvent.{SmfEvent}
use Rattle.smf_model.specs.declared.event.SmfEvent.TheVariants.{Attach, Start, Count, Change, Tick, Detach, Answered, Attempt, NotSent as CameUnsent, NoReply as CameNoReply, Restart}
use Rattle.smf_model.specs.Rules.{changes_of}
use Rattle.smf_model.specs.Settle.{is_waiting, settled}
use Rattle.smf_model.specs.Freeze.{waiting_count, is_wanting, live_operation, ending_operation, operation_in, next_operation, request_of, freeze_due, freeze_by, with_request}
use Rattle.smf_model.specs.Traffic.{detached, without_traffic, ended_for}
use Rattle.smf_model.specs.Replies.{is_final_for, is_answer_to, replied, answered_by}
use Rattle.smf_model.specs.Machine.{machine_after, session_of, touches, effect, finished, next_session, fresh, added_by}
use Rattle.smf_model.specs.Trace.{trace, close_moves, closes_of, settle_moves, freeze_moves_by, drop_moves, finish_moves, ending_moves, reply_moves, effect_moves, moves_of, added_moves, unanswered, closes_all, loss_move, lost_moves}
use Rattle.smf_model.specs.History.{history}
use Rattle.smf_model.specs.RequestNames.{IsReference, IsLaterOperation, AreNamed}
use Rattle.smf_model.proofs.Runs.{number-next, same_effect}
use Rattle.smf_model.proofs.Lifting.{FoundIs, found_is, IsNew, With, IsKept, over_all}
use Rattle.smf_model.proofs.Effects.{is_final_answer}
use Rattle.smf_model.proofs.Placed.{closes_leave}
use Rattle.smf_model.proofs.Traces.{StandsWhole, kept, created_whole, trace_is}

-- the requests are named, and the session's reference is that of the first success
record IsNamedSession (setup : SmfSetup) (number : ℕ) (t : List Move) (s : Session) : Type 0 where
  named : AreNamed setup number t
  reference : (r : ℕ) → s.reference ≡ Some r → IsReference t r

-- moves that neither freeze nor answer

record LeavesNames (t u : List Move) : Type 0 where
  outcome : outcome u 1 ≡ outcome t 1
  named : (setup : SmfSetup) (number : ℕ) → AreNamed setup number t → AreNamed setup number u

closes_names : (m : ℕ) (closing : Holding → Option TriggerType) (hs : List Holding) (t : List Move) → LeavesNames t (closes_of m closing hs ++ t)
closes_names m closing [] t = record { outcome = refl; named = λ setup number a. a }
closes_names m closing (h ∷ hs) t = at (closing h) (closes_names m closing hs t)
  where
    at : (x : Option TriggerType) → LeavesNames t (closes_of m closing hs ++ t) → LeavesNames t ((close_moves m h x ++ closes_of m closing hs) ++ t)
    at None k = k
    at (Some x) k = record { outcome = k.outcome; named = k.named }

drops_names : (most : ℕ) (hs : List Holding) (t : List Move) → LeavesNames t (drop_moves most hs ++ t)
drops_names most [] t = record { outcome = refl; named = λ setup number a. a }
drops_names most (h ∷ hs) t = at (is_waiting h.place && nat_lt 0 most) (λ n. drops_names n hs t)
  where
    at : (b : Bool) → ((n : ℕ) → LeavesNames t (drop_moves n hs ++ t)) → LeavesNames t (cond b (Drops h.container.lsn ∷ drop_moves (most - 1) hs) (drop_moves most hs) ++ t)
    at true k = record { outcome = (k (most - 1)).outcome; named = (k (most - 1)).named }
    at false k = k most

same_outcome : (t u : List Move) (r : ℕ) → outcome u 1 ≡ outcome t 1 → IsReference t r → IsReference u r
same_outcome t u r e (answer, is) = (answer, e ∙ is)

left_named : (setup : SmfSetup) (number : ℕ) (t u : List Move) (s v : Session) → LeavesNames t u → v.reference ≡ s.reference → IsNamedSession setup number t s → IsNamedSession setup number u v
left_named setup number t u s v l same h = record { named = l.named setup number h.named; reference = λ r e. same_outcome t u r l.outcome (h.reference r (sym same ∙ e)) }

-- a freezing

abbrev MayName : Session → Operation → Type 0
MayName s o = (r : ℕ) × (s.reference ≡ Some r) × ((o ≡ Update r) ⊎ (o ≡ Release r))

live_named : (setup : SmfSetup) (s : Session) (x : Option ℕ) (o : Operation) → s.reference ≡ x → live_operation setup s x ≡ Some o → MayName s o
live_named setup s None o is e = cc
live_named setup s (Some r) o is e = at (s.at_once || (list_any is_wanting s.groups || nat_le (changes_of setup s) (waiting_count s.holdings))) e
  where
    at : (b : Bool) → cond b (Some (Update r)) None ≡ Some o → MayName s o
    at true e = (r, is, inl (let same : Update r ≡ o = cc in sym same))
    at false e = cc

ending_named : (s : Session) (x : Option ℕ) (o : Operation) → s.reference ≡ x → ending_operation s x ≡ Some o → MayName s o
ending_named s None o is e = cc
ending_named s (Some r) o is e = at (nat_lt 500 (waiting_count s.holdings)) e
  where
    at : (b : Bool) → cond b (Some (Update r)) (Some (Release r)) ≡ Some o → MayName s o
    at true e = (r, is, inl (let same : Update r ≡ o = cc in sym same))
    at false e = (r, is, inr (let same : Release r ≡ o = cc in sym same))

operation_named : (b : Bool) (l : Life) (setup : SmfSetup) (s : Session) (o : Operation) → cond b None (operation_in setup s l) ≡ Some o → MayName s o
operation_named true l setup s o e = cc
operation_named false Live setup s o e = live_named setup s s.reference o refl e
operation_named false Ending setup s o e = ending_named s s.reference o refl e
operation_named false Aborting setup s o e = ending_named s s.reference o refl e
operation_named false Ended setup s o e = cc

freeze_named : (next : Option Operation) (setup : SmfSetup) (now number : ℕ) (t : List Move) (s : Session) → next_operation setup s ≡ next → s.number ≡ number → IsNamedSession setup number t s → IsNamedSession setup number (freeze_moves_by setup now s next ++ t) (freeze_by setup now next s)
freeze_named None setup now number t s e is h = h
freeze_named (Some o) setup now number t s e is h =
    let may : MayName s o = operation_named (is_some s.request) s.life setup s o e in
    record {
      named = (record { consumer = refl; charging_id = ap Some is; unmarked = refl; operation = inr (may.0, h.reference may.0 may.1, may.2) }, h.named);
      reference = λ r same. same_outcome t (Freezes (request_of setup now s o) ∷ t) r refl (h.reference r same);
    }

finished_named : (setup : SmfSetup) (now number : ℕ) (t : List Move) (s : Session) → s.number ≡ number → IsNamedSession setup number t s → IsNamedSession setup number (finish_moves setup now s ++ t) (finished setup now s)
finished_named setup now number t s is h =
    let v : Session = settled setup now s in
    let w : Session = freeze_due setup now v in
    let c : List Move = settle_moves setup now s in
    let f : List Move = freeze_moves_by setup now v (next_operation setup v) in
    let closed : IsNamedSession setup number (c ++ t) v = left_named setup number t (c ++ t) s v (closes_names now _ s.holdings t) refl h in
    let k : IsNamedSession setup number (f ++ (c ++ t)) w = freeze_named (next_operation setup v) setup now number (c ++ t) v refl is closed in
    rw (append_assoc, append_assoc) (left_named setup number (f ++ (c ++ t)) _ w (finished setup now s) (drops_names (waiting_count w.holdings - setup.held_max) w.holdings (f ++ (c ++ t))) refl k)

-- replies

-- only frozen requests have an outcome
outcome_within : (t : List Move) (n : ℕ) (p : Reply) → outcome t n ≡ Some p → n ≤ length (requests t)
outcome_within [] n p e = cc
outcome_within (Closes c ∷ t) n p e = outcome_within t n p e
outcome_within (Drops d ∷ t) n p e = outcome_within t n p e
outcome_within (Attempts ∷ t) n p e = outcome_within t n p e
outcome_within (NotSent ∷ t) n p e = outcome_within t n p e
outcome_within (NoReply ∷ t) n p e = outcome_within t n p e
outcome_within (GivesUp ∷ t) n p e = outcome_within t n p e
outcome_within (Freezes q ∷ t) n p e = let l = outcome_within t n p e in omega (arith, l)
outcome_within (Answers a ∷ t) n p e = at (length (requests t) == n) refl e (λ f. outcome_within t n p f)
  where
    at : (b : Bool) → (length (requests t) == n) ≡ b → cond b (Some a) (outcome t n) ≡ Some p → (outcome t n ≡ Some p → n ≤ length (requests t)) → n ≤ length (requests t)
    at true is e rest = let same = eqb-true (length (requests t)) n is in omega (arith, same)
    at false is e rest = rest e

-- an unanswered request has none
not_yet : (t : List Move) (q : Request) (p : Reply) → unanswered t ≡ Some q → outcome t (length (requests t)) ≡ Some p → ⊥
not_yet [] q p is e = cc
not_yet (Closes c ∷ t) q p is e = not_yet t q p is e
not_yet (Drops d ∷ t) q p is e = not_yet t q p is e
not_yet (Attempts ∷ t) q p is e = not_yet t q p is e
not_yet (NotSent ∷ t) q p is e = not_yet t q p is e
not_yet (NoReply ∷ t) q p is e = not_yet t q p is e
not_yet (GivesUp ∷ t) q p is e = cc
not_yet (Freezes r ∷ t) q p is e = let l = outcome_within t (length (r ∷ requests t)) p e in omega (arith, l)
not_yet (Answers a ∷ t) q p is e = cc

-- what is known of the first request stays known
still_known : (t : List Move) (q : Request) (p : Reply) (r : ℕ) → unanswered t ≡ Some q → IsReference t r → IsReference (Answers p ∷ t) r
still_known t q p r is (answer, known) = (answer, ap (λ b. cond b (Some p) (outcome t 1)) (at (length (requests t) == 1) refl) ∙ known)
  where
    at : (b : Bool) → (length (requests t) == 1) ≡ b → b ≡ false
    at false e = refl
    at true e = absurd (not_yet t q (Created r answer) is (ap (outcome t) (eqb-true (length (requests t)) 1 e) ∙ known))

-- a Create is the first request
create_first : (setup : SmfSetup) (number : ℕ) (t : List Move) (q : Request) → AreNamed setup number t → unanswered t ≡ Some q → q.operation ≡ Create → length (requests t) ≡ 1
create_first setup number [] q a is e = cc
create_first setup number (Closes c ∷ t) q a is e = create_first setup number t q a is e
create_first setup number (Drops d ∷ t) q a is e = create_first setup number t q a is e
create_first setup number (Attempts ∷ t) q a is e = create_first setup number t q a is e
create_first setup number (NotSent ∷ t) q a is e = create_first setup number t q a is e
create_first setup number (NoReply ∷ t) q a is e = create_first setup number t q a is e
create_first setup number (GivesUp ∷ t) q a is e = cc
create_first setup number (Answers p ∷ t) q a is e = cc
create_first setup number (Freezes r ∷ t) q a is e = by a.0.operation
  where
    create : r.operation ≡ Create
    create = let same : r ≡ q = cc in ap (λ (x : Request). x.operation) same ∙ e

    by : ((requests t ≡ []) × (r.operation ≡ Create)) ⊎ IsLaterOperation t r.operation → length (r ∷ requests t) ≡ 1
    by (inl first) = let none : length (requests t) ≡ 0 = ap length first.0 in omega (arith, none)
    by (inr (reference, known, inl update)) = absurd (let f : Create ≡ Update reference = sym create ∙ update in cc)
    by (inr (reference, known, inr release)) = absurd (let f : Create ≡ Release reference = sym create ∙ release in cc)

created_of : (o : Operation) (reference number : ℕ) (answer : Answer) → is_final_for o (Created reference answer) number ≡ true → o ≡ Create
created_of Create reference number answer e = refl
created_of (Update r) reference number answer e = cc
created_of (Release r) reference number answer e = cc

some_reference : (a b : ℕ) → Some a ≡ Some b → a ≡ b
some_reference a b e = cc

-- closes between change nothing of it
same_first : (p : Reply) (t u : List Move) → requests u ≡ requests t → outcome u 1 ≡ outcome t 1 → outcome (Answers p ∷ u) 1 ≡ outcome (Answers p ∷ t) 1
same_first p t u rs o = ap (λ x. cond (length x == 1) (Some p) (outcome u 1)) rs ∙ ap (λ x. cond (length (requests t) == 1) (Some p) x) o

over_named : (setup : SmfSetup) (number : ℕ) (p : Reply) (q : Request) (t u : List Move) (s v : Session) → unanswered t ≡ Some q → LeavesNames t u → requests u ≡ requests t → v.reference ≡ s.reference → IsNamedSession setup number t s → IsNamedSession setup number (Answers p ∷ u) v
over_named setup number p q t u s v is l rs same h = record {
  named = l.named setup number h.named;
  reference = λ r e. same_outcome (Answers p ∷ t) (Answers p ∷ u) r (same_first p t u rs l.outcome) (still_known t q p r is (h.reference r (sym same ∙ e)));
}

replied_named : (now place number : ℕ) (setup : SmfSetup) (p : Reply) (q : Request) (t : List Move) (s : Session) → unanswered t ≡ Some (content q) → is_final_for q.operation p place ≡ true → IsNamedSession setup number t s
    → IsNamedSession setup number (Answers p ∷ (ending_moves now p s ++ t)) (replied now q.stamp p s)
replied_named now place number setup (Created reference answer) q t s is final h = record {
  named = h.named;
  reference = λ r e.
      let first : length (requests t) ≡ 1 = create_first setup number t (content q) h.named is (created_of q.operation reference place answer final) in
      subst (IsReference (Answers (Created reference answer) ∷ t)) (some_reference reference r e)
      (answer, ap (λ b. cond b (Some (Created reference answer)) (outcome t 1)) (eq-eqb (length (requests t)) 1 first));
}
replied_named now place number setup (Updated answer) q t s is final h = record { named = h.named; reference = λ r e. still_known t (content q) (Updated answer) r is (h.reference r e) }
replied_named now place number setup Released q t s is final h =
    over_named setup number Released (content q) t (ending_moves now Released s ++ t) s (replied now q.stamp Released s) is (closes_names now _ s.holdings t) (closes_leave now _ t s.holdings).requests refl h
replied_named now place number setup (Refused problem) q t s is final h =
    over_named setup number (Refused problem) (content q) t (ending_moves now (Refused problem) s ++ t) s (replied now q.stamp (Refused problem) s) is (closes_names now _ s.holdings t) (closes_leave now _ t s.holdings).requests refl h

same_moves : (setup : SmfSetup) (number : ℕ) (t : List Move) (s v : Session) → v.reference ≡ s.reference → IsNamedSession setup number t s → IsNamedSession setup number t v
same_moves setup number t s v same h = record { named = h.named; reference = λ r e. h.reference r (sym same ∙ e) }

answered_named : (now place number : ℕ) (setup : SmfSetup) (p : Reply) (o : Option Request) (t : List Move) (s : Session) → unanswered t ≡ unmarked o → is_answer_to place p o ≡ true → IsNamedSession setup number t s
    → IsNamedSession setup number (reply_moves now p o s ++ t) (answered_by now p o s)
answered_named now place number setup p None t s is final h = h
answered_named now place number setup p (Some q) t s is final h =
    same_moves setup number (reply_moves now p (Some q) s ++ t) (replied now q.stamp p s) (with_peer (latest_peer s) (replied now q.stamp p s)) refl
    (replied_named now place number setup p q t s is (and_parts (q.number == place) (is_final_for q.operation p place) final).1 h)

-- events

detached_reference : (abnormal : Bool) (moment : ℕ) (s : Session) → (detached abnormal moment s).reference ≡ s.reference
detached_reference true moment s = refl
detached_reference false moment s = refl

-- the end of an attempt
named_by_loss : (setup : SmfSetup) (number : ℕ) → KeptByLoss (IsNamedSession setup number) (λ o. Unit {0})
named_by_loss setup number = record {
  sends = λ x t s latest flies unsent h. same_moves setup number t s (record s { sending = x }) refl h;
  continues = λ t s h. same_moves setup number t s (record s { groups = map continue_entry s.groups }) refl h;
  breaks = λ now t s live h. left_named setup number t (closes_all now AbnormalRelease s ++ t) s (without_traffic Aborting now AbnormalRelease s) (closes_names now _ s.holdings t) refl h;
  gives_up = λ now t s landed unsent asked h.
      let l : LeavesNames t (closes_all now AbnormalRelease s ++ t) = closes_names now _ s.holdings t in
      left_named setup number t (GivesUp ∷ (closes_all now AbnormalRelease s ++ t)) s (ended_for NotSentWhy now s) (record { outcome = l.outcome; named = l.named }) refl h;
}

loss_names : (loss : Loss) (t : List Move) → LeavesNames t (loss_move loss ∷ t)
loss_names Unsent t = record { outcome = refl; named = λ setup number a. a }
loss_names Unanswered t = record { outcome = refl; named = λ setup number a. a }

lost_named : (setup : SmfSetup) (now number : ℕ) (loss : Loss) (t : List Move) (s : Session) → IsNamedSession setup number t s → IsNamedSession setup number (lost_moves now loss s ++ t) (lost setup now loss s)
lost_named setup now number loss t s h =
    lost_kept (IsNamedSession setup number) (λ o. Unit {0}) (named_by_loss setup number) setup now loss t s tt (left_named setup number t (loss_move loss ∷ t) s (with_loss loss s) (loss_names loss t) refl h)

effect_named : (event : SmfEvent) (setup : SmfSetup) (now number : ℕ) (t : List Move) (s : Session) → touches event s ≡ true → IsNew event s → unmarked s.request ≡ unanswered t → IsNamedSession setup number t s
    → IsNamedSession setup number (effect_moves now event s ++ t) (effect setup now event s)
effect_named (Attach session subscriber groups moment) setup now number t s on new is h = h
effect_named (Start session group moment) setup now number t s on new is h = same_moves setup number t s (effect setup now (Start session group moment) s) refl h
effect_named (Count session r) setup now number t s on new is h = left_named setup number t _ s (effect setup now (Count session r) s) (closes_names r.moment _ s.holdings t) refl h
effect_named (Change session trigger moment) setup now number t s on new is h = left_named setup number t _ s (effect setup now (Change session trigger moment) s) (closes_names moment _ s.holdings t) refl h
effect_named (Tick moment) setup now number t s on new is h = h
effect_named (Detach session abnormal moment) setup now number t s on new is h = left_named setup number t _ s (effect setup now (Detach session abnormal moment) s) (closes_names moment _ s.holdings t) (detached_reference abnormal moment s) h
effect_named (Answered session place reply) setup now number t s on new is h = answered_named now place number setup reply s.request t s (sym is) (is_final_answer place reply s (new on)) h
effect_named (Attempt session peer) setup now number t s on new is h = left_named setup number t (Attempts ∷ t) s (attempted peer s) (record { outcome = refl; named = λ setup number a. a }) refl h
effect_named (CameUnsent session) setup now number t s on new is h = lost_named setup now number Unsent t s h
effect_named (CameNoReply session) setup now number t s on new is h = lost_named setup now number Unanswered t s h
effect_named Restart setup now number t s on new is h = lost_named setup now number Unanswered t s h

abbrev Both : SmfSetup → List Move → Session → Type 0
Both setup t s = StandsWhole t s × IsNamedSession setup s.number t s

next_by : (b : Bool) (event : SmfEvent) (setup : SmfSetup) (now number : ℕ) (t : List Move) (s : Session) → touches event s ≡ b → IsNew event s → s.number ≡ number → StandsWhole t s → IsNamedSession setup number t s
    → IsNamedSession setup number (cond b (finish_moves setup now (effect setup now event s) ++ effect_moves now event s) [] ++ t) (cond b (finished setup now (effect setup now event s)) s)
next_by true event setup now number t s on new is w h =
    subst (λ l. IsNamedSession setup number l (finished setup now (effect setup now event s))) (sym (append_assoc (finish_moves setup now (effect setup now event s)) (effect_moves now event s) t))
    (finished_named setup now number (effect_moves now event s ++ t) (effect setup now event s) (same_effect event setup now s ∙ is) (effect_named event setup now number t s on new w.0.unanswered h))
next_by false event setup now number t s on new is w h = h

created_named : (setup : SmfSetup) (now number : ℕ) (subscriber groups : List ℕ) (moment : ℕ)
    → IsNamedSession setup number (finish_moves setup now (with_request setup now Create (fresh setup number subscriber groups moment)) ++ Freezes (request_of setup now (fresh setup number subscriber groups moment) Create) ∷ []) (finished setup now (with_request setup now Create (fresh setup number subscriber groups moment)))
created_named setup now number subscriber groups moment =
    let s : Session = fresh setup number subscriber groups moment in
    finished_named setup now number (Freezes (request_of setup now s Create) ∷ []) (with_request setup now Create s) refl
    (record { named = (record { consumer = refl; charging_id = refl; unmarked = refl; operation = inl (refl, refl) }, tt); reference = λ r e. cc })

attached_at : (b : Bool) (setup : SmfSetup) (number : ℕ) (m : List Move) (s : Session) → s.number ≡ number → StandsWhole m s → IsNamedSession setup number m s → With (Both setup) (cond b m [] ++ []) (cond b (Some s) None)
attached_at true setup number m s is w h = subst (λ l. Both setup l s) (sym (append-nil m)) (w, subst (λ n. IsNamedSession setup n m s) (sym is) h)
attached_at false setup number m s is w h = refl

attached : (setup : SmfSetup) (now number : ℕ) (event : SmfEvent) → With (Both setup) (added_moves setup now number event ++ []) (session_of number (added_by setup now event))
attached setup now number (Attach session subscriber groups moment) =
    let s : Session = with_request setup now Create (fresh setup session subscriber groups moment) in
    let P : Bool → Type 0 = λ b. With (Both setup) (added_moves setup now number (Attach session subscriber groups moment) ++ []) (cond b (Some (finished setup now s)) None) in
    subst P (ap (λ n. n == number) (sym (number-next (Tick now) setup now s)))
    (attached_at (session == number) setup session _ _ (number-next (Tick now) setup now s) (created_whole setup now session subscriber groups moment) (created_named setup now session subscriber groups moment))
attached setup now number (Start session group moment) = refl
attached setup now number (Count session r) = refl
attached setup now number (Change session trigger moment) = refl
attached setup now number (Tick moment) = refl
attached setup now number (Detach session abnormal moment) = refl
attached setup now number (Answered session place reply) = refl
attached setup now number (Attempt session peer) = refl
attached setup now number (CameUnsent session) = refl
attached setup now number (CameNoReply session) = refl
attached setup now number Restart = refl

named_kept : (setup : SmfSetup) → IsKept setup (Both setup) moves_of
named_kept setup = record {
  next = λ now number event s t is new h. (
    (kept setup).next now number event s t is new h.0,
    subst (λ n. IsNamedSession setup n (moves_of setup now number event (Some s) ++ t) (next_session setup now event s)) (sym (number-next event setup now s)) (next_by (touches event s) event setup now s.number t s refl new refl h.0 h.1),
  );
  added = λ now number event. attached setup now number event;
}

named_with : (setup : SmfSetup) (number : ℕ) (t : List Move) (o : Option Session) → FoundIs number o → With (Both setup) t o → AreNamed setup number t
named_with setup number t None is h = subst (AreNamed setup number) (sym h) tt
named_with setup number t (Some s) is h = subst (λ n. AreNamed setup n t) (eqb-true s.number number is) h.1.named

pub named_run : (setup : SmfSetup) (events : List SmfEvent) (number : ℕ) → AreNamed setup number (trace setup events number)
named_run setup events number =
    subst (AreNamed setup number) (sym (trace_is setup events number))
    (named_with setup number (history moves_of setup events number) (session_of number (machine_after setup events).sessions) (found_is number (machine_after setup events).sessions)
    (over_all setup (Both setup) moves_of (named_kept setup) events number))
