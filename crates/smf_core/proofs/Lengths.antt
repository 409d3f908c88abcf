-- An event adds at most one container to a session, and takes none away.
use Rattle.smf_model.specs.declared.session.Loss.TheVariants.{Unsent, Unanswered}
use Rattle.smf_model.specs.declared.session.Loss.{Loss}
use Rattle.smf_model.specs.declared.session.Why.{Why}
use Rattle.smf_model.specs.declared.session.Life.TheVariants.{Live, Ending, Aborting, Ended}
use Rattle.smf_model.specs.declared.session.Life.{Life}
use Rattle.std.proofs.Common.{◌≡◌, ℕ, ◌+◌, ◌-◌, ◌≤◌, ◌&&◌, nat_lt, List, [], ◌∷◌, ◌++◌, length, map, refl, ◌∙◌, arith, Bool, true, false, cond}
use Rattle.std.specs.Prelude.{Option, Some, None}
use Rattle.std.specs.List.{list_any}
use Rattle.std.proofs.lemmas.List.{length-map, length-append}
use Rattle.units.specs.declared.report.Report.{Report}
use Rattle.units.specs.declared.trigger.TriggerType.TheVariants.{Final, AbnormalRelease}
use Rattle.units.specs.declared.request.Operation.{Operation}
use Rattle.units.specs.declared.request.Request.{Request}
use Rattle.units.specs.declared.reply.Reply.{Reply}
use Rattle.units.specs.declared.reply.Reply.TheVariants.{Created, Updated, Released, Refused}
use Rattle.smf_model.specs.declared.setup.SmfSetup.{SmfSetup}
use Rattle.smf_model.specs.declared.session.Why.TheVariants.{HeldFull, Refused as WasRefused, NotSent as WhyNotSent}
use Rattle.smf_model.specs.declared.session.Place.{Place}
use Rattle.smf_model.specs.declared.session.Place.TheVariants.{Frozen, GivenUp}
use Rattle.smf_model.specs.declared.session.Holding.{Holding}
use Rattle.smf_model.specs.declared.session.Session.{Session}
use Rattle.smf_model.specs.declared.event.SmfEvent.{SmfEvent}
use Rattle.smf_model.specs.declared.event.SmfEvent.TheVariants.{Attach, Start, Count, Change, Tick, Detach, Answered, Attempt, NotSent, NoReply, Restart}
use Rattle.smf_model.specs.Settle.{is_waiting, is_open_of, open_of, entry_of, close_due, settled}
use Rattle.smf_model.specs.Freeze.{waiting_count, move_oldest, next_operation, freeze_by, freeze_due}
use Rattle.smf_model.specs.Traffic.{horizon_in, closes_before, close_of, extend_of, first_of, close_any, give_up, ended, detached, ended_for}
use Rattle.smf_model.specs.Rounds.{is_continue, with_loss, is_last, next_turn, next_round, continue_entry, broken_off, after_round, lost}
use Rattle.smf_model.specs.Replies.{answer_holding, replied, answered_by}
use Rattle.smf_model.specs.Machine.{finished}
use Rattle.smf_core.specs.Draft.{joined_past, effect_past}

length-moved : (n : ℕ) (p : Place) (hs : List Holding) → length (move_oldest n p hs) ≡ length hs
length-moved n p [] = refl
length-moved n p (h ∷ hs) = at (is_waiting h.place && nat_lt 0 n) (length-moved (n - 1) p hs) (length-moved n p hs)
  where
    at : (b : Bool) → length (move_oldest (n - 1) p hs) ≡ length hs → length (move_oldest n p hs) ≡ length hs → length (cond b (record h { place = p } ∷ move_oldest (n - 1) p hs) (h ∷ move_oldest n p hs)) ≡ length (h ∷ hs)
    at true a b = omega (arith, a)
    at false a b = omega (arith, b)

length-frozen : (setup : SmfSetup) (now : ℕ) (o : Option Operation) (s : Session) → length (freeze_by setup now o s).holdings ≡ length s.holdings
length-frozen setup now None s = refl
length-frozen setup now (Some o) s = length-moved 500 Frozen s.holdings

pub length-finished : (setup : SmfSetup) (now : ℕ) (s : Session) → length (finished setup now s).holdings ≡ length s.holdings
length-finished setup now s =
    let t : Session = settled setup now s in
    length-moved (waiting_count (freeze_due setup now t).holdings - setup.held_max) (GivenUp HeldFull) (freeze_due setup now t).holdings
    ∙ length-frozen setup now (next_operation setup t) t
    ∙ length-map s.holdings (close_due setup now s)

abbrev pub GrowsByOne : List Holding → List Holding → Type 0
GrowsByOne hs ks = (length hs ≤ length ks) × (length ks ≤ length hs + 1)

as_long : (hs ks : List Holding) → length ks ≡ length hs → GrowsByOne hs ks
as_long hs ks e = (omega (arith, e), omega (arith, e))

grows_joined : (past : ℕ) (r : Report) (hs : List Holding) → GrowsByOne hs (joined_past past r hs)
grows_joined past r hs = at (list_any (is_open_of r.group) hs)
  where
    at : (b : Bool) → GrowsByOne hs (cond b (map (extend_of r) hs) (hs ++ first_of (past + length hs + 1) r ∷ []))
    at true = as_long hs (map (extend_of r) hs) (length-map hs (extend_of r))
    at false = let l = length-append hs (first_of (past + length hs + 1) r ∷ []) in (omega (arith, l), omega (arith, l))

grows_counted : (past : ℕ) (r : Report) (f : Holding → Holding) (hs : List Holding) → GrowsByOne hs (joined_past past r (map f hs))
grows_counted past r f hs = let g = grows_joined past r (map f hs) in let l = length-map hs f in (omega (arith, g.0, l), omega (arith, g.1, l))

length-detached : (abnormal : Bool) (moment : ℕ) (s : Session) → length (detached abnormal moment s).holdings ≡ length s.holdings
length-detached true moment s = length-map s.holdings (close_any moment AbnormalRelease)
length-detached false moment s = length-map s.holdings (close_any moment Final)

length-over : (why : Why) (now : ℕ) (s : Session) → length (ended_for why now s).holdings ≡ length s.holdings
length-over why now s = length-map (ended now s).holdings (give_up why) ∙ length-map s.holdings (close_any now AbnormalRelease)

length-broken : (l : Life) (now : ℕ) (s : Session) → length (broken_off now l s).holdings ≡ length s.holdings
length-broken Live now s = length-map s.holdings (close_any now AbnormalRelease)
length-broken Ending now s = refl
length-broken Aborting now s = refl
length-broken Ended now s = refl

length-round : (setup : SmfSetup) (now : ℕ) (s : Session) → length (after_round setup now s).holdings ≡ length s.holdings
length-round setup now s = at (is_continue s.handling) s.sending.unsent
  where
    at : (c u : Bool) → length (cond c (record (next_round setup now s) { groups = map continue_entry s.groups }) (cond u (ended_for WhyNotSent now s) (next_round setup now (broken_off now s.life s)))).holdings ≡ length s.holdings
    at true u = refl
    at false true = length-over WhyNotSent now s
    at false false = length-broken s.life now s

length-lost : (setup : SmfSetup) (now : ℕ) (loss : Loss) (s : Session) → length (lost setup now loss s).holdings ≡ length s.holdings
length-lost setup now loss s = at (is_last s)
  where
    at : (b : Bool) → length (cond b (after_round setup now (with_loss loss s)) (next_turn (with_loss loss s))).holdings ≡ length s.holdings
    at true = length-round setup now (with_loss loss s)
    at false = refl

length-replied : (p : Reply) (now stamp : ℕ) (s : Session) → length (replied now stamp p s).holdings ≡ length s.holdings
length-replied (Created reference a) now stamp s = length-map s.holdings answer_holding
length-replied (Updated a) now stamp s = length-map s.holdings answer_holding
length-replied Released now stamp s = length-map (map answer_holding s.holdings) (close_any now AbnormalRelease) ∙ length-map s.holdings answer_holding
length-replied (Refused problem) now stamp s = length-over WasRefused now s

length-answered : (q : Option Request) (p : Reply) (now : ℕ) (s : Session) → length (answered_by now p q s).holdings ≡ length s.holdings
length-answered None p now s = refl
length-answered (Some q) p now s = length-replied p now q.stamp s

grows_effect : (event : SmfEvent) (setup : SmfSetup) (past now : ℕ) (s : Session) → GrowsByOne s.holdings (effect_past setup past now event s).holdings
grows_effect (Attach session subscriber groups moment) setup past now s = as_long s.holdings s.holdings refl
grows_effect (Start session group moment) setup past now s = as_long s.holdings s.holdings refl
grows_effect (Count session r) setup past now s = grows_counted past r (close_of r.group r.moment (closes_before (horizon_in (entry_of r.group s.groups)) r (open_of r.group s.holdings))) s.holdings
grows_effect (Change session trigger moment) setup past now s = as_long s.holdings (map (close_any moment trigger) s.holdings) (length-map s.holdings (close_any moment trigger))
grows_effect (Tick moment) setup past now s = as_long s.holdings s.holdings refl
grows_effect (Detach session abnormal moment) setup past now s = as_long s.holdings (detached abnormal moment s).holdings (length-detached abnormal moment s)
grows_effect (Answered session number reply) setup past now s = as_long s.holdings (answered_by now reply s.request s).holdings (length-answered s.request reply now s)
grows_effect (Attempt session peer) setup past now s = as_long s.holdings s.holdings refl
grows_effect (NotSent session) setup past now s = as_long s.holdings (lost setup now Unsent s).holdings (length-lost setup now Unsent s)
grows_effect (NoReply session) setup past now s = as_long s.holdings (lost setup now Unanswered s).holdings (length-lost setup now Unanswered s)
grows_effect Restart setup past now s = as_long s.holdings (lost setup now Unanswered s).holdings (length-lost setup now Unanswered s)

pub grows : (event : SmfEvent) (setup : SmfSetup) (past now : ℕ) (s : Session) → GrowsByOne s.holdings (finished setup now (effect_past setup past now event s)).holdings
grows event setup past now s =
    let g = grows_effect event setup past now s in
    let l = length-finished setup now (effect_past setup past now event s) in
    (omega (arith, g.0, l), omega (arith, g.1, l))
