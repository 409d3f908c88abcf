-- A session and the reports that were counted, through a reply and a report.
use Rattle.smf_model.proofs.Losing.{KeptByLoss, lost_kept}
use Rattle.smf_model.specs.Rounds.{with_loss, continue_entry, lost}
use Rattle.smf_model.specs.declared.setup.SmfSetup.{SmfSetup}
use Rattle.smf_model.specs.declared.session.Life.TheVariants.{Aborting}
use Rattle.smf_model.specs.declared.session.Why.{Why}
use Rattle.smf_model.specs.declared.session.Loss.TheVariants.{Unsent, Unanswered}
use Rattle.smf_model.specs.declared.session.Loss.{Loss}
use Rattle.sessions.specs.Content.{content}
use Rattle.smf_model.specs.Sending.{unmarked, latest_peer, with_peer}
use Rattle.std.proofs.Common.{◌≡◌, ℕ, ◌+◌, ◌==◌, ◌&&◌, ◌||◌, Bool, true, false, cond, List, [], ◌∷◌, ◌++◌, length, map, refl, sym, ◌∙◌, ap, subst, arith, append-nil, length-append}
use Rattle.std.specs.Prelude.{Option, Some, None, is_some}
use Rattle.std.specs.List.{list_any}
use Rattle.std.proofs.lemmas.Bool.{eqb-true, eq-eqb, ne_eqb}
use Rattle.std.proofs.lemmas.List.Elements.{filter-append}
use Rattle.units.specs.declared.report.Report.{Report}
use Rattle.units.specs.declared.report.Container.{Container}
use Rattle.units.specs.declared.trigger.TriggerType.{TriggerType}
use Rattle.units.specs.declared.trigger.TriggerType.TheVariants.{AbnormalRelease}
use Rattle.units.specs.declared.answer.UnitInfo.{UnitInfo}
use Rattle.units.specs.declared.request.Request.{Request}
use Rattle.units.specs.declared.reply.Reply.{Reply}
use Rattle.units.specs.declared.reply.Reply.TheVariants.{Created, Updated, Released, Refused}
use Rattle.units.specs.Cut.{reports_of, containers_of, IsCut}
use Rattle.meter.specs.declared.horizon.Horizon.{Horizon}
use Rattle.meter.specs.Horizons.{AreForeseen}
use Rattle.meter.specs.Joining.{may_join, trigger_of}
use Rattle.meter.specs.Laws.{ReportsKeepCuts}
use Rattle.quotas.specs.Quota.{used}
use Rattle.sessions.specs.Trace.{Move}
use Rattle.sessions.specs.Trace.Move.{Answers, GivesUp}
use Rattle.smf_model.specs.declared.session.Why.TheVariants.{Refused as WasRefused, NotSent as WasNotSent}
use Rattle.smf_model.specs.declared.session.Place.TheVariants.{Answered as AnsweredPlace, GivenUp}
use Rattle.smf_model.specs.declared.session.Holding.{Holding}
use Rattle.smf_model.specs.declared.session.Entry.{Entry}
use Rattle.smf_model.specs.declared.session.Session.{Session}
use Rattle.smf_model.specs.Settle.{is_open, is_waiting, is_frozen, is_open_of, open_of, entry_of, close}
use Rattle.smf_model.specs.Traffic.{horizon_in, closes_before, close_of, extend_of, first_of, joined, count_entry, counted, close_any, give_up, without_traffic, ended_for}
use Rattle.smf_model.specs.Replies.{answer_holding, info_of, horizon_after, answer_entry, replied, answered_by}
use Rattle.smf_model.specs.Machine.{expected_in, expected_of}
use Rattle.smf_model.specs.Trace.{closes_of, closes_all, ending_moves, reply_moves, unanswered, loss_move, lost_moves}
use Rattle.smf_model.specs.Reports.{in_order, AreCountedFrom}
use Rattle.smf_model.specs.GivenHorizons.{units_in, horizon_given, horizons_in, AreAllowed}
use Rattle.smf_model.proofs.Effects.{swapped}
use Rattle.smf_model.proofs.Lookups.{entry_then, found_mapped, found_group}
use Rattle.smf_model.proofs.Lasts.{AreSame, same_mapped, same_containers, own, OpenAreLast, last_same, Joins, joins, joins_other, last_extended, opens, opens_other, last_pushed, same_self}
use Rattle.smf_model.proofs.Reported.{Reported, IsQuiet, quiet, closes_horizons, shut_quiet, shut_if, close_same, continued_quiet}

-- a success: horizons

allowed_more : (hs : List Horizon) (h : Horizon) (switches : ℕ → Bool) → AreAllowed (h ∷ hs) switches → AreForeseen (Some h) switches × AreAllowed hs switches
allowed_more hs h switches a = (record { hours = a.hours; none_within = a.none_within.0 }, record { hours = a.hours; none_within = a.none_within.1 })

-- what an entry of the answer makes of a horizon
given_foreseen : (q : Request) (o : Option UnitInfo) (old : Option Horizon) (hs : List Horizon) (switches : ℕ → Bool) → AreAllowed (horizon_given (Some q) o ++ hs) switches → (AreAllowed hs switches → AreForeseen old switches)
    → AreForeseen (horizon_after q.stamp o old) switches × AreAllowed hs switches
given_foreseen q None old hs switches a k = (k a, a)
given_foreseen q (Some info) old hs switches a k = at (is_some info.grant) a
  where
    h : Horizon
    h = record { group = info.group; from = q.stamp; until = info.switch }

    at : (b : Bool) → AreAllowed (cond b (h ∷ []) [] ++ hs) switches → AreForeseen (cond b (Some h) old) switches × AreAllowed hs switches
    at true a = allowed_more hs h switches a
    at false a = (k a, a)

answered_foreseen : (q : Request) (units : List UnitInfo) (group : ℕ) (es : List Entry) (hs : List Horizon) (switches : ℕ → Bool) → AreAllowed (horizon_given (Some q) (info_of group units) ++ hs) switches
    → (AreAllowed hs switches → AreForeseen (horizon_in (entry_of group es)) switches) → AreForeseen (horizon_in (entry_of group (map (answer_entry q.stamp units) es))) switches
answered_foreseen q units group es hs switches a k =
    subst (λ o. AreForeseen (horizon_in o) switches) (sym (found_mapped (answer_entry q.stamp units) es group (λ e. refl))) (at (entry_of group es) (λ e found. found_group group es e found) k)
  where
    at : (o : Option Entry) → ((e : Entry) → o ≡ Some e → e.number ≡ group) → (AreAllowed hs switches → AreForeseen (horizon_in o) switches) → AreForeseen (horizon_in (entry_then (answer_entry q.stamp units) o)) switches
    at None number k = k (given_foreseen q (info_of group units) None hs switches a k).1
    at (Some e) number k =
        subst (λ n. AreForeseen (horizon_after q.stamp (info_of n units) e.horizon) switches) (sym (number e refl)) (given_foreseen q (info_of group units) e.horizon hs switches a k).0

answered_expected : (stamp : ℕ) (units : List UnitInfo) (o : Option Entry) → expected_in (entry_then (answer_entry stamp units) o) ≡ expected_in o
answered_expected stamp units None = refl
answered_expected stamp units (Some e) = refl

answer_same : (h : Holding) → ((answer_holding h).container ≡ h.container) × (is_open (answer_holding h).place ≡ true → is_open h.place ≡ true)
answer_same h = shut_if (is_frozen h.place) (record h { place = AnsweredPlace }) h refl (λ e. cc)

give_same : (why : Why) (h : Holding) → ((give_up why h).container ≡ h.container) × (is_open (give_up why h).place ≡ true → is_open h.place ≡ true)
give_same why h = shut_if (is_waiting h.place || is_frozen h.place) (record h { place = GivenUp why }) h refl (λ e. cc)

succeeded_reported : (p : Reply) (q : Request) (t : List Move) (u : List Report) (s v : Session) → unanswered t ≡ Some q → v.holdings ≡ map answer_holding s.holdings → v.groups ≡ map (answer_entry q.stamp (units_in p)) s.groups
    → Reported t u s → Reported (Answers p ∷ t) u v
succeeded_reported p q t u s v is holdings groups h = record {
  numbered = h.numbered;
  expected = λ group.
      ap (λ es. expected_in (entry_of group es)) groups ∙ ap expected_in (found_mapped (answer_entry q.stamp (units_in p)) s.groups group (λ e. refl)) ∙ answered_expected q.stamp (units_in p) (entry_of group s.groups) ∙ h.expected group;
  last = last_same s.holdings v.holdings same h.last;
  horizon = λ group switches allowed.
      subst (λ es. AreForeseen (horizon_in (entry_of group es)) switches) (sym groups)
      (answered_foreseen q (units_in p) group s.groups (horizons_in group t) switches (given group switches allowed) (h.horizon group switches));
  cuts = λ group switches allowed.
      subst (λ cs. IsCut switches (reports_of group (in_order u)) (containers_of group cs)) (sym (same_containers s.holdings v.holdings same))
      (h.cuts group switches (given_foreseen q (info_of group (units_in p)) None (horizons_in group t) switches (given group switches allowed) (λ a. record { hours = a.hours; none_within = λ moment e. cc })).1);
}
  where
    same : AreSame s.holdings v.holdings
    same = subst (λ hs. AreSame s.holdings hs) (sym holdings) (same_mapped answer_holding s.holdings answer_same)

    given : (group : ℕ) (switches : ℕ → Bool) → AreAllowed (horizons_in group (Answers p ∷ t)) switches → AreAllowed (horizon_given (Some q) (info_of group (units_in p)) ++ horizons_in group t) switches
    given group switches allowed = subst (λ o. AreAllowed (horizon_given o (info_of group (units_in p)) ++ horizons_in group t) switches) is allowed

none_given : (o : Option Request) → horizon_given o None ≡ []
none_given None = refl
none_given (Some q) = refl

-- a reply that ends the session
over_quiet : (p : Reply) (t : List Move) (s v : Session) → units_in p ≡ [] → v.groups ≡ s.groups → AreSame s.holdings v.holdings → IsQuiet t s (Answers p ∷ t) v
over_quiet p t s v none groups holdings = record {
  holdings = holdings;
  expected = λ group. ap (λ es. expected_in (entry_of group es)) groups;
  horizon = λ group. ap (λ es. horizon_in (entry_of group es)) groups;
  horizons = λ group. ap (λ units. horizon_given (unanswered t) (info_of group units) ++ horizons_in group t) none ∙ ap (λ l. l ++ horizons_in group t) (none_given (unanswered t));
}

shut_then : (now : ℕ) (s : Session) (f : Holding → Holding) → ((h : Holding) → ((f h).container ≡ h.container) × (is_open (f h).place ≡ true → is_open h.place ≡ true)) → AreSame (map (close_any now AbnormalRelease) s.holdings) (map f (map (close_any now AbnormalRelease) s.holdings))
shut_then now s f each = same_mapped f (map (close_any now AbnormalRelease) s.holdings) each

replied_reported : (now : ℕ) (p : Reply) (q : Request) (t : List Move) (u : List Report) (s : Session) → unanswered t ≡ Some (content q) → Reported t u s → Reported (Answers p ∷ (ending_moves now p s ++ t)) u (replied now q.stamp p s)
replied_reported now (Created reference answer) q t u s is h = succeeded_reported (Created reference answer) (content q) t u s (replied now q.stamp (Created reference answer) s) is refl refl h
replied_reported now (Updated answer) q t u s is h = succeeded_reported (Updated answer) (content q) t u s (replied now q.stamp (Updated answer) s) is refl refl h
replied_reported now Released q t u s is h =
    let done : Session = record s { holdings = map answer_holding s.holdings } in
    let shut : Session = record s { holdings = map (close_any now AbnormalRelease) s.holdings } in
    let k : Reported (closes_all now AbnormalRelease s ++ t) u shut = quiet t (closes_all now AbnormalRelease s ++ t) u s shut (shut_quiet now AbnormalRelease t s shut refl refl) h in
    quiet (closes_all now AbnormalRelease s ++ t) (Answers Released ∷ (closes_all now AbnormalRelease s ++ t)) u shut (replied now q.stamp Released s)
    (over_quiet Released (closes_all now AbnormalRelease s ++ t) shut (replied now q.stamp Released s) refl refl
    (subst (λ hs. AreSame (map (close_any now AbnormalRelease) s.holdings) hs) (sym (swapped now AbnormalRelease s.holdings)) (shut_then now s answer_holding answer_same))) k
replied_reported now (Refused problem) q t u s is h =
    let shut : Session = record s { holdings = map (close_any now AbnormalRelease) s.holdings } in
    let k : Reported (closes_all now AbnormalRelease s ++ t) u shut = quiet t (closes_all now AbnormalRelease s ++ t) u s shut (shut_quiet now AbnormalRelease t s shut refl refl) h in
    quiet (closes_all now AbnormalRelease s ++ t) (Answers (Refused problem) ∷ (closes_all now AbnormalRelease s ++ t)) u shut (replied now q.stamp (Refused problem) s)
    (over_quiet (Refused problem) (closes_all now AbnormalRelease s ++ t) shut (replied now q.stamp (Refused problem) s) refl refl (shut_then now s (give_up WasRefused) (give_same WasRefused))) k

pub answered_reported : (now : ℕ) (p : Reply) (o : Option Request) (t : List Move) (u : List Report) (s : Session) → unanswered t ≡ unmarked o → Reported t u s → Reported (reply_moves now p o s ++ t) u (answered_by now p o s)
answered_reported now p None t u s is h = h
answered_reported now p (Some q) t u s is h =
    let r : Session = replied now q.stamp p s in
    let m : List Move = reply_moves now p (Some q) s ++ t in
    quiet m m u r (with_peer (latest_peer s) r) (record { holdings = same_self r.holdings; expected = λ group. refl; horizon = λ group. refl; horizons = λ group. refl }) (replied_reported now p q t u s is h)

-- the end of an attempt
reported_by_loss : (u : List Report) → KeptByLoss (λ t s. Reported t u s) (λ o. Unit {0})
reported_by_loss u = record {
  sends = λ x t s latest flies unsent h. quiet t t u s (record s { sending = x }) (record { holdings = same_self s.holdings; expected = λ group. refl; horizon = λ group. refl; horizons = λ group. refl }) h;
  continues = λ t s h. quiet t t u s (record s { groups = map continue_entry s.groups }) (continued_quiet t s) h;
  breaks = λ now t s live h. quiet t (closes_all now AbnormalRelease s ++ t) u s (without_traffic Aborting now AbnormalRelease s) (shut_quiet now AbnormalRelease t s (without_traffic Aborting now AbnormalRelease s) refl refl) h;
  gives_up = λ now t s landed unsent asked h.
      let shut : Session = record s { holdings = map (close_any now AbnormalRelease) s.holdings } in
      let c : List Move = closes_all now AbnormalRelease s ++ t in
      let k : Reported c u shut = quiet t c u s shut (shut_quiet now AbnormalRelease t s shut refl refl) h in
      quiet c (GivesUp ∷ c) u shut (ended_for WasNotSent now s) (record { holdings = shut_then now s (give_up WasNotSent) (give_same WasNotSent); expected = λ group. refl; horizon = λ group. refl; horizons = λ group. refl }) k;
}

loss_quiet : (loss : Loss) (t : List Move) (s : Session) → IsQuiet t s (loss_move loss ∷ t) (with_loss loss s)
loss_quiet Unsent t s = record { holdings = same_self s.holdings; expected = λ group. refl; horizon = λ group. refl; horizons = λ group. refl }
loss_quiet Unanswered t s = record { holdings = same_self s.holdings; expected = λ group. refl; horizon = λ group. refl; horizons = λ group. refl }

pub lost_reported : (setup : SmfSetup) (now : ℕ) (loss : Loss) (t : List Move) (u : List Report) (s : Session) → Reported t u s → Reported (lost_moves now loss s ++ t) u (lost setup now loss s)
lost_reported setup now loss t u s h =
    lost_kept (λ x v. Reported x u v) (λ o. Unit {0}) (reported_by_loss u) setup now loss t s tt (quiet t (loss_move loss ∷ t) u s (with_loss loss s) (loss_quiet loss t s) h)

-- a report

counted_push : (next : ℕ) (rs : List Report) (r : Report) → r.number ≡ next + length rs → AreCountedFrom next rs → AreCountedFrom next (rs ++ r ∷ [])
counted_push next [] r e a = (omega (arith, e), tt)
counted_push next (x ∷ rs) r e a = (a.0, counted_push (next + 1) rs r (omega (arith, e)) a.1)

reports_more : (g : ℕ) (rs : List Report) (r : Report) → (r.group == g) ≡ true → reports_of g (rs ++ r ∷ []) ≡ reports_of g rs ++ r ∷ []
reports_more g rs r e = filter-append (λ (k : Report). k.group == g) rs (r ∷ []) ∙ ap (λ b. reports_of g rs ++ cond b (r ∷ []) []) e

reports_same : (g : ℕ) (rs : List Report) (r : Report) → (r.group == g) ≡ false → reports_of g (rs ++ r ∷ []) ≡ reports_of g rs
reports_same g rs r e = filter-append (λ (k : Report). k.group == g) rs (r ∷ []) ∙ ap (λ b. reports_of g rs ++ cond b (r ∷ []) []) e ∙ append-nil (reports_of g rs)

count_number : (r : Report) (e : Entry) → (count_entry r e).number ≡ e.number
count_number r e = at (e.number == r.group)
  where
    at : (b : Bool) → (cond b (record e { expected = r.number + 1; quota = used (r.up + r.down) r.seconds r.moment e.quota }) e).number ≡ e.number
    at true = refl
    at false = refl

count_horizon : (r : Report) (o : Option Entry) → horizon_in (entry_then (count_entry r) o) ≡ horizon_in o
count_horizon r None = refl
count_horizon r (Some e) = at (e.number == r.group)
  where
    at : (b : Bool) → (cond b (record e { expected = r.number + 1; quota = used (r.up + r.down) r.seconds r.moment e.quota }) e).horizon ≡ e.horizon
    at true = refl
    at false = refl

count_expected : (r : Report) (e : Entry) (b : Bool) → (e.number == r.group) ≡ b → (count_entry r e).expected ≡ cond b (r.number + 1) e.expected
count_expected r e true is = ap (λ b. (cond b (record e { expected = r.number + 1; quota = used (r.up + r.down) r.seconds r.moment e.quota }) e).expected) is
count_expected r e false is = ap (λ b. (cond b (record e { expected = r.number + 1; quota = used (r.up + r.down) r.seconds r.moment e.quota }) e).expected) is

close_of_same : (g m : ℕ) (o : Option TriggerType) (h : Holding) → ((close_of g m o h).container ≡ h.container) × (is_open (close_of g m o h).place ≡ true → is_open h.place ≡ true)
close_of_same g m o h = let c = close_same m o h in shut_if (is_open_of g h) (close m o h) h c.0 c.1

-- the group's open container is closed: none is open
closed_one : (g m : ℕ) (x : TriggerType) (h : Holding) → is_open_of g (close_of g m (Some x) h) ≡ false
closed_one g m x h = at (is_open_of g h) refl
  where
    none : (b : Bool) → (b && false) ≡ false
    none true = refl
    none false = refl

    at : (b : Bool) → is_open_of g h ≡ b → is_open_of g (cond b (close m (Some x) h) h) ≡ false
    at true e = none (h.container.group == g)
    at false e = e

closed_none : (g m : ℕ) (x : TriggerType) (hs : List Holding) → list_any (is_open_of g) (map (close_of g m (Some x)) hs) ≡ false
closed_none g m x [] = refl
closed_none g m x (h ∷ hs) = ap (λ b. b || list_any (is_open_of g) (map (close_of g m (Some x)) hs)) (closed_one g m x h) ∙ closed_none g m x hs

unclosed_one : (g m : ℕ) (h : Holding) → close_of g m None h ≡ h
unclosed_one g m h = at (is_open_of g h)
  where
    at : (b : Bool) → cond b h h ≡ h
    at true = refl
    at false = refl

unclosed_all : (g m : ℕ) (hs : List Holding) → map (close_of g m None) hs ≡ hs
unclosed_all g m [] = refl
unclosed_all g m (h ∷ hs) = ap (λ k. k ∷ map (close_of g m None) hs) (unclosed_one g m h) ∙ ap (λ ks. h ∷ ks) (unclosed_all g m hs)

-- nothing closes before a report that may join
joins_before : (horizon : Option Horizon) (r : Report) (o : Option Container) (c : Container) → o ≡ Some c → closes_before horizon r o ≡ None → may_join horizon c r ≡ true
joins_before horizon r o c is e = at (may_join horizon c r) (sym (ap (closes_before horizon r) is) ∙ e)
  where
    at : (b : Bool) → cond b None (Some (trigger_of horizon c r)) ≡ None → b ≡ true
    at true e = refl
    at false e = cc

-- where some container of the group is open after the closing, the report may join it
open_joins : (horizon : Option Horizon) (r : Report) (hs : List Holding) (o : Option TriggerType) → closes_before horizon r (open_of r.group hs) ≡ o → list_any (is_open_of r.group) (map (close_of r.group r.moment o) hs) ≡ true
    → (c : Container) → open_of r.group (map (close_of r.group r.moment o) hs) ≡ Some c → may_join horizon c r ≡ true
open_joins horizon r hs None e some c is = joins_before horizon r (open_of r.group hs) c (ap (open_of r.group) (sym (unclosed_all r.group r.moment hs)) ∙ is) e
open_joins horizon r hs (Some x) e some c is = absurd (let f : true ≡ false = sym some ∙ closed_none r.group r.moment x hs in cc)

-- what a report makes of the containers of its group and of others, and of the cuts
record Takes (r : Report) (hs ks : List Holding) (horizon : Option Horizon) : Type 0 where
  last : OpenAreLast ks
  other : (group : ℕ) → (r.group == group) ≡ false → own group ks ≡ own group hs
  cut : (switches : ℕ → Bool) (rs : List Report) → AreForeseen horizon switches → IsCut switches rs (own r.group hs) → IsCut switches (rs ++ r ∷ []) (own r.group ks)

takes : (laws : ReportsKeepCuts) (horizon : Option Horizon) (r : Report) (hs : List Holding) → OpenAreLast hs → ((c : Container) → open_of r.group hs ≡ Some c → list_any (is_open_of r.group) hs ≡ true → may_join horizon c r ≡ true) → Takes r hs (joined r hs) horizon
takes laws horizon r hs last may = at (list_any (is_open_of r.group) hs) refl
  where
    at : (b : Bool) → list_any (is_open_of r.group) hs ≡ b → Takes r hs (cond b (map (extend_of r) hs) (hs ++ first_of (length hs + 1) r ∷ [])) horizon
    at true e =
        let j : Joins r hs = joins r hs last e in
        record {
          last = last_extended r hs last;
          other = λ group away. joins_other r group hs away;
          cut = λ switches rs known cut.
              subst (λ cs. IsCut switches (rs ++ r ∷ []) cs) (sym j.after)
              (laws.joined horizon r switches rs j.front j.container known (may j.container j.is_open e) (subst (λ cs. IsCut switches rs cs) j.before cut));
        }
    at false e = record {
      last = last_pushed r.group hs (first_of (length hs + 1) r) refl e last;
      other = λ group away. opens_other group hs (first_of (length hs + 1) r) away;
      cut = λ switches rs known cut.
          subst (λ cs. IsCut switches (rs ++ r ∷ []) cs) (sym (opens r.group hs (first_of (length hs + 1) r) (eq-eqb r.group r.group refl)))
          (laws.opened r switches rs (own r.group hs) (length hs + 1) cut);
    }

pub counted_reported : (laws : ReportsKeepCuts) (r : Report) (t : List Move) (u : List Report) (s : Session) (e : Entry) → entry_of r.group s.groups ≡ Some e → (r.number == expected_of r.group s) ≡ true → Reported t u s
    → Reported (closes_of r.moment (λ h. cond (is_open_of r.group h) (closes_before (horizon_in (entry_of r.group s.groups)) r (open_of r.group s.holdings)) None) s.holdings ++ t) (r ∷ u) (counted r s)
counted_reported laws r t u s e found expected h = record {
  numbered = λ group. numbered group (r.group == group) refl;
  expected = λ group. expects group (r.group == group) refl;
  last = made.last;
  horizon = λ group switches allowed.
      subst (λ x. AreForeseen x switches) (sym (ap horizon_in (found_mapped (count_entry r) s.groups group (count_number r)) ∙ count_horizon r (entry_of group s.groups)))
      (h.horizon group switches (before group switches allowed));
  cuts = λ group switches allowed. cuts group switches (before group switches allowed) (r.group == group) refl;
}
  where
    horizon : Option Horizon
    horizon = horizon_in (entry_of r.group s.groups)

    o : Option TriggerType
    o = closes_before horizon r (open_of r.group s.holdings)

    closed : List Holding
    closed = map (close_of r.group r.moment o) s.holdings

    same : AreSame s.holdings closed
    same = same_mapped (close_of r.group r.moment o) s.holdings (close_of_same r.group r.moment o)

    made : Takes r closed (joined r closed) horizon
    made = takes laws horizon r closed (last_same s.holdings closed same h.last) (λ c is some. open_joins horizon r s.holdings o refl some c is)

    before : (group : ℕ) (switches : ℕ → Bool) → AreAllowed (horizons_in group (closes_of r.moment (λ h. cond (is_open_of r.group h) o None) s.holdings ++ t)) switches → AreAllowed (horizons_in group t) switches
    before group switches allowed = subst (λ l. AreAllowed l switches) (closes_horizons r.moment (λ h. cond (is_open_of r.group h) o None) s.holdings t group) allowed

    next : r.number ≡ 1 + length (reports_of r.group (in_order u))
    next = eqb-true r.number (expected_of r.group s) expected ∙ h.expected r.group

    numbered : (group : ℕ) (b : Bool) → (r.group == group) ≡ b → AreCountedFrom 1 (reports_of group (in_order u ++ r ∷ []))
    numbered group true is =
        subst (AreCountedFrom 1) (sym (reports_more group (in_order u) r is))
        (counted_push 1 (reports_of group (in_order u)) r (next ∙ ap (λ g. 1 + length (reports_of g (in_order u))) (eqb-true r.group group is)) (h.numbered group))
    numbered group false is = subst (AreCountedFrom 1) (sym (reports_same group (in_order u) r is)) (h.numbered group)

    read : (group : ℕ) → expected_of group (counted r s) ≡ expected_in (entry_then (count_entry r) (entry_of group s.groups))
    read group = ap expected_in (found_mapped (count_entry r) s.groups group (count_number r))

    expects : (group : ℕ) (b : Bool) → (r.group == group) ≡ b → expected_of group (counted r s) ≡ 1 + length (reports_of group (in_order u ++ r ∷ []))
    expects group true is =
        let g : r.group ≡ group = eqb-true r.group group is in
        let more : length (reports_of group (in_order u ++ r ∷ [])) ≡ length (reports_of r.group (in_order u)) + 1 =
        ap length (reports_more group (in_order u) r is) ∙ length-append (reports_of group (in_order u)) (r ∷ []) ∙ ap (λ k. length (reports_of k (in_order u)) + 1) (sym g) in
        let now : expected_of group (counted r s) ≡ r.number + 1 =
        read group ∙ ap (λ k. expected_in (entry_then (count_entry r) (entry_of k s.groups))) (sym g) ∙ ap (λ x. expected_in (entry_then (count_entry r) x)) found
        ∙ count_expected r e true (eq-eqb e.number r.group (found_group r.group s.groups e found)) in
        now ∙ omega (arith, more, next)
    expects group false is =
        read group ∙ other (entry_of group s.groups) (λ x there. found_group group s.groups x there) ∙ h.expected group ∙ ap (λ rs. 1 + length rs) (sym (reports_same group (in_order u) r is))
      where
        other : (x : Option Entry) → ((k : Entry) → x ≡ Some k → k.number ≡ group) → expected_in (entry_then (count_entry r) x) ≡ expected_in x
        other None number = refl
        other (Some k) number = count_expected r k false (ap (λ n. n == r.group) (number k refl) ∙ ne_eqb group r.group (λ f. absurd (let g : true ≡ false = sym (eq-eqb r.group group (sym f)) ∙ is in cc)))

    cuts : (group : ℕ) (switches : ℕ → Bool) → AreAllowed (horizons_in group t) switches → (b : Bool) → (r.group == group) ≡ b → IsCut switches (reports_of group (in_order u ++ r ∷ [])) (own group (joined r closed))
    cuts group switches allowed true is =
        let g : r.group ≡ group = eqb-true r.group group is in
        let allowed_here : AreAllowed (horizons_in r.group t) switches = subst (λ k. AreAllowed (horizons_in k t) switches) (sym g) allowed in
        let old : IsCut switches (reports_of r.group (in_order u)) (own r.group closed) =
        subst (λ cs. IsCut switches (reports_of r.group (in_order u)) (containers_of r.group cs)) (sym (same_containers s.holdings closed same)) (h.cuts r.group switches allowed_here) in
        let new : IsCut switches (reports_of r.group (in_order u) ++ r ∷ []) (own r.group (joined r closed)) = made.cut switches (reports_of r.group (in_order u)) (h.horizon r.group switches allowed_here) old in
        subst (λ k. IsCut switches (reports_of k (in_order u ++ r ∷ [])) (own k (joined r closed))) g
        (subst (λ rs. IsCut switches rs (own r.group (joined r closed))) (sym (reports_more r.group (in_order u) r (eq-eqb r.group r.group refl))) new)
    cuts group switches allowed false is =
        subst (λ rs. IsCut switches rs (own group (joined r closed))) (sym (reports_same group (in_order u) r is))
        (subst (λ cs. IsCut switches (reports_of group (in_order u)) cs) (sym (made.other group is ∙ ap (containers_of group) (same_containers s.holdings closed same))) (h.cuts group switches allowed))
