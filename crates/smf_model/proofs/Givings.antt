-- When a session is given up unsent.
use Rattle.std.proofs.Common.{◌≡◌, ◌⊎◌, inl, inr, ⊎_elim, ℕ, ◌-◌, ◌==◌, ◌&&◌, not, nat_lt, Bool, true, false, cond, List, [], ◌∷◌, ◌++◌, refl, sym, ◌∙◌, ap, subst, append_assoc}
use Rattle.std.specs.Prelude.{◌↔◌, Option, Some, None, Result, Ok, Err}
use Rattle.std.proofs.lemmas.Bool.{eqb-true, and_parts}
use Rattle.units.specs.declared.trigger.TriggerType.{TriggerType}
use Rattle.units.specs.declared.trigger.TriggerType.TheVariants.{AbnormalRelease}
use Rattle.units.specs.declared.request.Operation.{Operation}
use Rattle.units.specs.declared.request.Operation.TheVariants.{Create}
use Rattle.units.specs.declared.request.Request.{Request}
use Rattle.units.specs.declared.reply.Reply.{Reply}
use Rattle.units.specs.declared.reply.Reply.TheVariants.{Created, Updated, Released, Refused}
use Rattle.sessions.specs.Kept.{is_success}
use Rattle.sessions.specs.Trace.{Move, Phase, phase, is_released, requests, is_unsent, IsTrace}
use Rattle.sessions.specs.Trace.Move.{Closes, Drops, Freezes, Attempts, NotSent, NoReply, GivesUp, Answers}
use Rattle.sessions.specs.Trace.Phase.{Idle, Asked, Released as IsReleased, Unsent as IsLeft, Refused as IsRefused}
use Rattle.smf_model.specs.declared.setup.SmfSetup.{SmfSetup}
use Rattle.smf_model.specs.declared.session.Life.{Life}
use Rattle.smf_model.specs.declared.session.Life.TheVariants.{Live, Ending, Aborting, Ended}
use Rattle.smf_model.specs.declared.session.Loss.{Loss}
use Rattle.smf_model.specs.declared.session.Loss.TheVariants.{Unsent, Unanswered}
use Rattle.smf_model.specs.declared.session.Holding.{Holding}
use Rattle.smf_model.specs.declared.session.Session.{Session}
use Rattle.smf_model.specs.declared.session.Machine.{Machine}
use Rattle.smf_model.specs.declared.event.SmfEvent.{SmfEvent}
use Rattle.smf_model.specs.declared.event.SmfEvent.TheVariants.{Attach, Start, Count, Change, Tick, Detach, Answered, Attempt, NotSent as CameUnsent, NoReply as CameNoReply, Restart}
use Rattle.smf_model.specs.declared.refusal.Seen.{Seen}
use Rattle.smf_model.specs.declared.refusal.Seen.TheVariants.{New, Known}
use Rattle.smf_model.specs.declared.refusal.SmfRefusal.{SmfRefusal}
use Rattle.smf_model.specs.Settle.{is_waiting, settled}
use Rattle.smf_model.specs.Freeze.{waiting_count, next_operation, request_of, freeze_due, with_request}
use Rattle.smf_model.specs.Rounds.{is_continue, is_last, with_loss}
use Rattle.smf_model.specs.Machine.{machine_after, answer_of, now_after, session_of, touches, effect, fresh}
use Rattle.smf_model.specs.Trace.{trace, close_moves, closes_of, closes_all, settle_moves, freeze_moves_by, drop_moves, finish_moves, reply_moves, loss_move, breaking_moves, round_moves, moved_moves, lost_moves, effect_moves, added_moves, moves_of, moves_if}
use Rattle.smf_model.specs.Flights.{breaks_off, IsGivenUp}
use Rattle.smf_model.proofs.Lifting.{FoundIs, found_is, IsNew, is_new, With}
use Rattle.smf_model.proofs.Sends.{Sends}
use Rattle.smf_model.proofs.Traces.{StandsWhole, whole_run, valid_run}

-- moves that give up no request
abbrev NoGiving : List Move → Type 0
NoGiving [] = Unit {0}
NoGiving (GivesUp ∷ ms) = ⊥
NoGiving (Closes c ∷ ms) = NoGiving ms
NoGiving (Drops lsn ∷ ms) = NoGiving ms
NoGiving (Freezes q ∷ ms) = NoGiving ms
NoGiving (Attempts ∷ ms) = NoGiving ms
NoGiving (NotSent ∷ ms) = NoGiving ms
NoGiving (NoReply ∷ ms) = NoGiving ms
NoGiving (Answers p ∷ ms) = NoGiving ms

both_giving : (xs ys : List Move) → NoGiving xs → NoGiving ys → NoGiving (xs ++ ys)
both_giving [] ys n m = m
both_giving (GivesUp ∷ xs) ys n m = absurd n
both_giving (Closes c ∷ xs) ys n m = both_giving xs ys n m
both_giving (Drops lsn ∷ xs) ys n m = both_giving xs ys n m
both_giving (Freezes q ∷ xs) ys n m = both_giving xs ys n m
both_giving (Attempts ∷ xs) ys n m = both_giving xs ys n m
both_giving (NotSent ∷ xs) ys n m = both_giving xs ys n m
both_giving (NoReply ∷ xs) ys n m = both_giving xs ys n m
both_giving (Answers p ∷ xs) ys n m = both_giving xs ys n m

closes_giving : (m : ℕ) (closing : Holding → Option TriggerType) (hs : List Holding) → NoGiving (closes_of m closing hs)
closes_giving m closing [] = tt
closes_giving m closing (h ∷ hs) = at (closing h) (closes_giving m closing hs)
  where
    at : (x : Option TriggerType) → NoGiving (closes_of m closing hs) → NoGiving (close_moves m h x ++ closes_of m closing hs)
    at None n = n
    at (Some x) n = n

drops_giving : (most : ℕ) (hs : List Holding) → NoGiving (drop_moves most hs)
drops_giving most [] = tt
drops_giving most (h ∷ hs) = at (is_waiting h.place && nat_lt 0 most) (λ n. drops_giving n hs)
  where
    at : (b : Bool) → ((n : ℕ) → NoGiving (drop_moves n hs)) → NoGiving (cond b (Drops h.container.lsn ∷ drop_moves (most - 1) hs) (drop_moves most hs))
    at true n = n (most - 1)
    at false n = n most

freeze_giving : (next : Option Operation) (setup : SmfSetup) (now : ℕ) (s : Session) → NoGiving (freeze_moves_by setup now s next)
freeze_giving None setup now s = tt
freeze_giving (Some o) setup now s = tt

finish_giving : (setup : SmfSetup) (now : ℕ) (s : Session) → NoGiving (finish_moves setup now s)
finish_giving setup now s =
    let v : Session = settled setup now s in
    let w : Session = freeze_due setup now v in
    both_giving (drop_moves (waiting_count w.holdings - setup.held_max) w.holdings) (freeze_moves_by setup now v (next_operation setup v) ++ settle_moves setup now s) (drops_giving (waiting_count w.holdings - setup.held_max) w.holdings)
    (both_giving (freeze_moves_by setup now v (next_operation setup v)) (settle_moves setup now s) (freeze_giving (next_operation setup v) setup now v) (closes_giving now _ s.holdings))

-- where each move may come after those before it, moves that give up no request leave whether the session is given up
not_asked : (p : Phase) → p ≡ Asked → p ≡ IsLeft → ⊥
not_asked p e f = let g : Asked ≡ IsLeft = sym e ∙ f in cc

not_idle : (p : Phase) → p ≡ Idle → p ≡ IsLeft → ⊥
not_idle p e f = let g : Idle ≡ IsLeft = sym e ∙ f in cc

-- what a reply leaves
reply_phase : (b d : Bool) → cond b (cond d IsReleased Idle) IsRefused ≡ IsLeft → ⊥
reply_phase true true e = cc
reply_phase true false e = cc
reply_phase false d e = cc

leaves_left : (xs t : List Move) → NoGiving xs → IsTrace (xs ++ t) → (phase (xs ++ t) ≡ IsLeft) ↔ (phase t ≡ IsLeft)
leaves_left [] t n v = (λ e. e, λ e. e)
leaves_left (GivesUp ∷ xs) t n v = absurd n
leaves_left (Closes c ∷ xs) t n v = leaves_left xs t n v.1
leaves_left (Drops lsn ∷ xs) t n v = leaves_left xs t n v.1
leaves_left (Attempts ∷ xs) t n v = leaves_left xs t n v.1
leaves_left (NotSent ∷ xs) t n v = leaves_left xs t n v.1
leaves_left (NoReply ∷ xs) t n v = leaves_left xs t n v.1
leaves_left (Freezes q ∷ xs) t n v = (λ e. cc, λ e. absurd (not_idle (phase (xs ++ t)) v.0.idle ((leaves_left xs t n v.1).1 e)))
leaves_left (Answers p ∷ xs) t n v = (λ e. absurd (reply_phase (is_success p) (is_released (requests (xs ++ t))) e), λ e. absurd (not_asked (phase (xs ++ t)) v.0 ((leaves_left xs t n v.1).1 e)))

-- when an event gives up the request of a session
pub record Leaves (event : SmfEvent) (number : ℕ) (s : Session) : Type 0 where
  pub ended : event ≡ CameUnsent number
  pub round : breaks_off (Some s) ≡ true
  pub unsent : s.sending.unsent ≡ true

-- moves give up a request, and then none
pub record GivesOne (xs : List Move) : Type 0 where
  pub later : List Move
  pub earlier : List Move
  pub is : xs ≡ later ++ (GivesUp ∷ earlier)
  pub none : NoGiving later

-- moves give up a request exactly where the event does so
abbrev GivesBy : SmfEvent → ℕ → Session → List Move → Type 0
GivesBy event number s xs = (NoGiving xs × (Leaves event number s → ⊥)) ⊎ (GivesOne xs × Leaves event number s)

abbrev IsLoss : SmfEvent → Type 0
IsLoss event = (session : ℕ) × (event ≡ CameUnsent session)

-- a round under any handling
round_giving : (c u : Bool) (now : ℕ) (l : Life) (s : Session) → NoGiving (breaking_moves now l s) → ((c ≡ false) × (u ≡ true) → ⊥) → NoGiving (cond c [] (cond u (GivesUp ∷ closes_all now AbnormalRelease s) (breaking_moves now l s)))
round_giving true u now l s n h = tt
round_giving false true now l s n h = absurd (h (refl, refl))
round_giving false false now l s n h = n

breaking_giving : (now : ℕ) (l : Life) (s : Session) → NoGiving (breaking_moves now l s)
breaking_giving now Live s = closes_giving now _ s.holdings
breaking_giving now Ending s = tt
breaking_giving now Aborting s = tt
breaking_giving now Ended s = tt

moved_giving : (b : Bool) (now : ℕ) (s : Session) → (b ≡ true → (is_continue s.handling ≡ false) × (s.sending.unsent ≡ true) → ⊥) → NoGiving (cond b (round_moves now s) [])
moved_giving true now s h = round_giving (is_continue s.handling) s.sending.unsent now s.life s (breaking_giving now s.life s) (h refl)
moved_giving false now s h = tt

one_giving : (loss : Loss) → NoGiving (loss_move loss ∷ [])
one_giving Unsent = tt
one_giving Unanswered = tt

lost_giving : (now : ℕ) (loss : Loss) (s : Session) → (is_last (with_loss loss s) ≡ true → (is_continue s.handling ≡ false) × ((with_loss loss s).sending.unsent ≡ true) → ⊥) → NoGiving (lost_moves now loss s)
lost_giving now loss s h = both_giving (moved_moves now (with_loss loss s)) (loss_move loss ∷ []) (moved_giving (is_last (with_loss loss s)) now (with_loss loss s) h) (one_giving loss)

and_false : (b : Bool) → (b && false) ≡ true → ⊥
and_false true e = cc
and_false false e = cc

and_true : (b : Bool) → (b && true) ≡ b
and_true true = refl
and_true false = refl

-- no reply came: the request may have left
silent_giving : (now : ℕ) (s : Session) → NoGiving (lost_moves now Unanswered s)
silent_giving now s = lost_giving now Unanswered s (λ last h. and_false s.sending.unsent h.1)

replied_giving : (now : ℕ) (p : Reply) (o : Option Request) (s : Session) → NoGiving (reply_moves now p o s)
replied_giving now p None s = tt
replied_giving now (Created reference answer) (Some q) s = tt
replied_giving now (Updated answer) (Some q) s = tt
replied_giving now Released (Some q) s = closes_giving now _ s.holdings
replied_giving now (Refused problem) (Some q) s = closes_giving now _ s.holdings

-- the moves of a round that is given up
moved_gives : (b c u : Bool) (now : ℕ) (l : Life) (s : Session) → b ≡ true → c ≡ false → u ≡ true
    → cond b (cond c [] (cond u (GivesUp ∷ closes_all now AbnormalRelease s) (breaking_moves now l s))) [] ≡ GivesUp ∷ closes_all now AbnormalRelease s
moved_gives true true u now l s e f g = cc
moved_gives true false true now l s e f g = refl
moved_gives true false false now l s e f g = cc
moved_gives false c u now l s e f g = cc

unsent_gives : (setup : SmfSetup) (now : ℕ) (s : Session) → is_last s ≡ true → is_continue s.handling ≡ false → s.sending.unsent ≡ true → (after : Session) → GivesOne (finish_moves setup now after ++ lost_moves now Unsent s)
unsent_gives setup now s last breaks unsent after =
    let v : Session = with_loss Unsent s in
    let m : moved_moves now v ≡ GivesUp ∷ closes_all now AbnormalRelease v = moved_gives (is_last v) (is_continue v.handling) v.sending.unsent now v.life v last breaks (and_true s.sending.unsent ∙ unsent) in
    record {
      later = finish_moves setup now after;
      earlier = closes_all now AbnormalRelease v ++ loss_move Unsent ∷ [];
      is = ap (λ l. finish_moves setup now after ++ (l ++ loss_move Unsent ∷ [])) m;
      none = finish_giving setup now after;
    }

not_true : (b : Bool) → not b ≡ true → b ≡ false
not_true true e = cc
not_true false e = refl

is_not : (b : Bool) → b ≡ false → not b ≡ true
is_not true e = cc
is_not false e = refl

both_true : (a b : Bool) → a ≡ true → b ≡ true → (a && b) ≡ true
both_true true b e f = f
both_true false b e f = cc

parts_of : (event : SmfEvent) (number : ℕ) (s : Session) → Leaves event number s → (is_last s ≡ true) × (is_continue s.handling ≡ false) × (s.sending.unsent ≡ true)
parts_of event number s l =
    let p = and_parts (is_last s) (not (is_continue s.handling)) l.round in
    (p.0, not_true (is_continue s.handling) p.1, l.unsent)

unsent_by : (a b c : Bool) (setup : SmfSetup) (now session number : ℕ) (s after : Session) → is_last s ≡ a → is_continue s.handling ≡ b → s.sending.unsent ≡ c → session ≡ number
    → GivesBy (CameUnsent session) number s (finish_moves setup now after ++ lost_moves now Unsent s)
unsent_by true false true setup now session number s after ea eb ec here =
    inr (unsent_gives setup now s ea eb ec after, record { ended = ap CameUnsent here; round = both_true (is_last s) (not (is_continue s.handling)) ea (is_not (is_continue s.handling) eb); unsent = ec })
unsent_by false b c setup now session number s after ea eb ec here =
    inl (
      both_giving (finish_moves setup now after) (lost_moves now Unsent s) (finish_giving setup now after) (lost_giving now Unsent s (λ last h. let e : false ≡ true = sym ea ∙ last in cc)),
      λ l. let e : false ≡ true = sym ea ∙ (parts_of (CameUnsent session) number s l).0 in cc,
    )
unsent_by true true c setup now session number s after ea eb ec here =
    inl (
      both_giving (finish_moves setup now after) (lost_moves now Unsent s) (finish_giving setup now after) (lost_giving now Unsent s (λ last h. let e : true ≡ false = sym eb ∙ h.0 in cc)),
      λ l. let e : true ≡ false = sym eb ∙ (parts_of (CameUnsent session) number s l).1 in cc,
    )
unsent_by true false false setup now session number s after ea eb ec here =
    inl (
      both_giving (finish_moves setup now after) (lost_moves now Unsent s) (finish_giving setup now after) (lost_giving now Unsent s (λ last h. let e : false ≡ true = sym ec ∙ (sym (and_true s.sending.unsent) ∙ h.1) in cc)),
      λ l. let e : false ≡ true = sym ec ∙ l.unsent in cc,
    )

-- an event's moves at a session that it touches
other_gives : (event : SmfEvent) (setup : SmfSetup) (now number : ℕ) (s after : Session) (xs : List Move) → NoGiving xs → (event ≡ CameUnsent number → ⊥) → GivesBy event number s (finish_moves setup now after ++ xs)
other_gives event setup now number s after xs n not_it = inl (both_giving (finish_moves setup now after) xs (finish_giving setup now after) n, λ l. not_it l.ended)

touched_gives : (event : SmfEvent) (setup : SmfSetup) (now number : ℕ) (s after : Session) → (s.number == number) ≡ true → touches event s ≡ true → GivesBy event number s (finish_moves setup now after ++ effect_moves now event s)
touched_gives (Attach session subscriber groups moment) setup now number s after is on = other_gives (Attach session subscriber groups moment) setup now number s after [] tt (λ e. cc)
touched_gives (Start session group moment) setup now number s after is on = other_gives (Start session group moment) setup now number s after [] tt (λ e. cc)
touched_gives (Count session r) setup now number s after is on = other_gives (Count session r) setup now number s after (effect_moves now (Count session r) s) (closes_giving r.moment _ s.holdings) (λ e. cc)
touched_gives (Change session trigger moment) setup now number s after is on = other_gives (Change session trigger moment) setup now number s after (effect_moves now (Change session trigger moment) s) (closes_giving moment _ s.holdings) (λ e. cc)
touched_gives (Tick moment) setup now number s after is on = other_gives (Tick moment) setup now number s after [] tt (λ e. cc)
touched_gives (Detach session abnormal moment) setup now number s after is on = other_gives (Detach session abnormal moment) setup now number s after (effect_moves now (Detach session abnormal moment) s) (closes_giving moment _ s.holdings) (λ e. cc)
touched_gives (Answered session place reply) setup now number s after is on = other_gives (Answered session place reply) setup now number s after (effect_moves now (Answered session place reply) s) (replied_giving now reply s.request s) (λ e. cc)
touched_gives (Attempt session peer) setup now number s after is on = other_gives (Attempt session peer) setup now number s after (Attempts ∷ []) tt (λ e. cc)
touched_gives (CameUnsent session) setup now number s after is on = unsent_by (is_last s) (is_continue s.handling) s.sending.unsent setup now session number s after refl refl refl (sym (eqb-true s.number session on) ∙ eqb-true s.number number is)
touched_gives (CameNoReply session) setup now number s after is on = other_gives (CameNoReply session) setup now number s after (lost_moves now Unanswered s) (silent_giving now s) (λ e. cc)
touched_gives Restart setup now number s after is on = other_gives Restart setup now number s after (lost_moves now Unanswered s) (silent_giving now s) (λ e. cc)

untouched_not : (event : SmfEvent) (number : ℕ) (s : Session) → (s.number == number) ≡ true → touches event s ≡ false → Leaves event number s → ⊥
untouched_not event number s is off l =
    let e : touches (CameUnsent number) s ≡ false = subst (λ x. touches x s ≡ false) l.ended off in
    let f : true ≡ false = sym is ∙ e in cc

session_gives : (b : Bool) (event : SmfEvent) (setup : SmfSetup) (now number : ℕ) (s : Session) → (s.number == number) ≡ true → touches event s ≡ b → GivesBy event number s (cond b (finish_moves setup now (effect setup now event s) ++ effect_moves now event s) [])
session_gives true event setup now number s is on = touched_gives event setup now number s (effect setup now event s) is on
session_gives false event setup now number s is off = inl (tt, untouched_not event number s is off)

-- so the session is given up exactly there

left_by : (xs t : List Move) → GivesOne xs → IsTrace (xs ++ t) → phase (xs ++ t) ≡ IsLeft
left_by xs t g v =
    let e : xs ++ t ≡ g.later ++ (GivesUp ∷ (g.earlier ++ t)) = ap (λ l. l ++ t) g.is ∙ append_assoc g.later (GivesUp ∷ g.earlier) t in
    ap phase e ∙ (leaves_left g.later (GivesUp ∷ (g.earlier ++ t)) g.none (subst IsTrace e v)).1 refl

left_at : (event : SmfEvent) (number : ℕ) (s : Session) (xs t : List Move) → GivesBy event number s xs → IsTrace (xs ++ t) → (phase (xs ++ t) ≡ IsLeft) ↔ ((phase t ≡ IsLeft) ⊎ Leaves event number s)
left_at event number s xs t (inl none) v = (λ e. inl ((leaves_left xs t none.0 v).0 e), ⊎_elim (leaves_left xs t none.0 v).1 (λ l. absurd (none.1 l)))
left_at event number s xs t (inr gives) v = (λ e. inr gives.1, λ h. left_by xs t gives.0 v)

-- the words of the law

added_giving : (event : SmfEvent) (setup : SmfSetup) (now number : ℕ) → NoGiving (added_moves setup now number event)
added_giving (Attach session subscriber groups moment) setup now number = at (session == number)
  where
    at : (b : Bool) → NoGiving (cond b (finish_moves setup now (with_request setup now Create (fresh setup session subscriber groups moment)) ++ Freezes (request_of setup now (fresh setup session subscriber groups moment) Create) ∷ []) [])
    at true = both_giving (finish_moves setup now (with_request setup now Create (fresh setup session subscriber groups moment))) (Freezes (request_of setup now (fresh setup session subscriber groups moment) Create) ∷ []) (finish_giving setup now (with_request setup now Create (fresh setup session subscriber groups moment))) tt
    at false = tt
added_giving (Start session group moment) setup now number = tt
added_giving (Count session r) setup now number = tt
added_giving (Change session trigger moment) setup now number = tt
added_giving (Tick moment) setup now number = tt
added_giving (Detach session abnormal moment) setup now number = tt
added_giving (Answered session place reply) setup now number = tt
added_giving (Attempt session peer) setup now number = tt
added_giving (CameUnsent session) setup now number = tt
added_giving (CameNoReply session) setup now number = tt
added_giving Restart setup now number = tt

-- what the law says of an event that is answered so
abbrev LeftBy : SmfEvent → ℕ → Option Session → List Move → List Move → Result Seen SmfRefusal → Type 0
LeftBy event number o xs t r =
    (phase (xs ++ t) ≡ IsLeft) ↔ ((phase t ≡ IsLeft) ⊎ ((event ≡ CameUnsent number) × (r ≡ Ok New) × (breaks_off o ≡ true) × (is_unsent t ≡ true)))

asked_of : (event : SmfEvent) (number : ℕ) (s : Session) (t : List Move) → IsNew event s → event ≡ CameUnsent number → (s.number == number) ≡ true → Sends t s → s.sending.unsent ≡ is_unsent t
asked_of event number s t new e is h = h.unsent (h.asked (subst (λ x. IsNew x s) e new is))

found_left : (o : Option Session) (event : SmfEvent) (m : Machine) (now number : ℕ) (t : List Move) → FoundIs number o → ((s : Session) → o ≡ Some s → IsNew event s) → With StandsWhole t o → IsTrace (moves_of m.setup now number event o ++ t)
    → LeftBy event number o (moves_of m.setup now number event o) t (Ok New)
found_left None event m now number t is new h v = (λ e. inl ((leaves_left (added_moves m.setup now number event) t (added_giving event m.setup now number) v).0 e), ⊎_elim (leaves_left (added_moves m.setup now number event) t (added_giving event m.setup now number) v).1 (λ l. cc))
found_left (Some s) event m now number t is new h v =
    let both = left_at event number s _ t (session_gives (touches event s) event m.setup now number s is refl) v in (
      λ e. ⊎_elim (λ f. inl f) (λ (l : Leaves event number s). inr (l.ended, refl, l.round, sym (asked_of event number s t (new s refl) l.ended is h.2) ∙ l.unsent)) (both.0 e),
      ⊎_elim (λ f. both.1 (inl f)) (λ l. both.1 (inr (record { ended = l.0; round = l.2; unsent = asked_of event number s t (new s refl) l.0 is h.2 ∙ l.3 }))),
    )

abbrev the_answer : Result Seen SmfRefusal → Result Seen SmfRefusal
the_answer r = r

answer_left : (r : Result Seen SmfRefusal) (m : Machine) (event : SmfEvent) (number : ℕ) (t : List Move) → answer_of m event ≡ r → With StandsWhole t (session_of number m.sessions) → IsTrace (moves_if m number event r ++ t)
    → LeftBy event number (session_of number m.sessions) (moves_if m number event r) t r
answer_left (Ok New) m event number t new h v =
    found_left (session_of number m.sessions) event m (now_after m.moment event) number t (found_is number m.sessions)
    (λ s found. is_new event m number s found (subst (FoundIs number) found (found_is number m.sessions)) new) h v
answer_left (Ok Known) m event number t new h v = (λ e. inl e, ⊎_elim (λ e. e) (λ l. let f : the_answer (Ok Known) ≡ the_answer (Ok New) = l.1 in cc))
answer_left (Err x) m event number t new h v = (λ e. inl e, ⊎_elim (λ e. e) (λ l. let f : the_answer (Err x) ≡ the_answer (Ok New) = l.1 in cc))

pub left_run : (setup : SmfSetup) (event : SmfEvent) (events : List SmfEvent) (number : ℕ) → IsGivenUp setup event events number
left_run setup event events number =
    let m = machine_after setup events in
    answer_left (answer_of m event) m event number (trace setup events number) refl (whole_run setup events number) (valid_run setup (event ∷ events) number)
