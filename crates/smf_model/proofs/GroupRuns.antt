-- Each part of an event leaves a rating group's quota as what came to it says.
use Rattle.smf_model.specs.declared.session.Why.TheVariants.{NotSent as NotSentWhy}
use Rattle.smf_model.specs.declared.session.Life.TheVariants.{Live, Ending, Aborting, Ended}
use Rattle.smf_model.specs.declared.session.Life.{Life}
use Rattle.smf_model.specs.Rounds.{is_continue, is_last, with_loss, next_turn, next_round, continue_entry, broken_off, after_round, lost}
use Rattle.smf_model.specs.declared.session.Loss.TheVariants.{Unsent, Unanswered}
use Rattle.smf_model.specs.declared.session.Loss.{Loss}
use Rattle.std.proofs.Common.{◌≡◌, ℕ, ◌+◌, ◌==◌, Bool, true, false, cond, List, [], ◌∷◌, ◌++◌, map, fold, refl, sym, ◌∙◌, ap, subst, append_assoc, append-nil, eq-eqb}
use Rattle.std.specs.Prelude.{Option, Some, None}
use Rattle.std.proofs.lemmas.Bool.{eqb-true}
use Rattle.units.specs.declared.report.Report.{Report}
use Rattle.units.specs.declared.trigger.TriggerType.{TriggerType}
use Rattle.units.specs.declared.request.Operation.{Operation}
use Rattle.units.specs.declared.request.Operation.TheVariants.{Create}
use Rattle.units.specs.declared.request.Request.{Request}
use Rattle.units.specs.declared.reply.Reply.{Reply}
use Rattle.units.specs.declared.reply.Reply.TheVariants.{Created, Updated, Released, Refused}
use Rattle.quotas.specs.Due.{due_of}
use Rattle.quotas.specs.Laws.{FitsGranted, DueByTheList}
use Rattle.quotas.specs.Quota.{gate_of, asked, frozen, answered, used, fired, continued}
use Rattle.quotas.specs.Steps.{quota_after}
use Rattle.quotas.specs.declared.step.Step.{Step}
use Rattle.quotas.specs.declared.step.Step.TheVariants.{Asked, Used, Continued}
use Rattle.smf_model.specs.declared.setup.SmfSetup.{SmfSetup}
use Rattle.smf_model.specs.declared.session.Entry.{Entry}
use Rattle.smf_model.specs.declared.session.Session.{Session}
use Rattle.smf_model.specs.declared.event.SmfEvent.{SmfEvent}
use Rattle.smf_model.specs.declared.event.SmfEvent.TheVariants.{Attach, Start, Count, Change, Tick, Detach, Answered, Attempt, NotSent, NoReply, Restart}
use Rattle.smf_model.specs.Settle.{entry_of, due_in, fire, settled}
use Rattle.smf_model.specs.Freeze.{next_operation, freeze_by, freeze_entry, with_request}
use Rattle.smf_model.specs.Traffic.{count_entry, or_new, asked_entry, with_asked, detached, ended_for}
use Rattle.smf_model.specs.Replies.{info_of, answer_entry, answered_by}
use Rattle.smf_model.specs.Machine.{machine_after, session_of, touches, effect, finished, fresh, added_by}
use Rattle.smf_model.specs.GroupSteps.{on_entry, fired_step, frozen_step, finish_steps, used_step, answered_step, reply_step}
use Rattle.smf_model.specs.Came.{asked_step, effect_steps, asked_steps, attach_steps, added_steps, steps_in, steps, lost_step}
use Rattle.smf_model.specs.Quotas.{EntryIsOfSteps, StandsBySteps}
use Rattle.smf_model.proofs.Runs.{number-next}
use Rattle.smf_model.proofs.Lookups.{entry_then, found_mapped, found_asked}
use Rattle.smf_model.proofs.Lifting.{With, IsKept, over_all}

-- the quota of an entry is that of the steps; a rating group that is not there had none
abbrev Follows : List Step → Option Entry → Type 0
Follows t None = t ≡ []
Follows t (Some e) = e.quota ≡ quota_after t

abbrev On : ℕ → List Step → Session → Type 0
On group t s = Follows t (entry_of group s.groups)

-- each entry takes its steps
takes : (o : Option Entry) (f : Entry → Entry) (steps : Entry → List Step) (t : List Step) → ((e : Entry) → e.quota ≡ quota_after t → (f e).quota ≡ quota_after (steps e ++ t)) → Follows t o → Follows (on_entry o steps ++ t) (entry_then f o)
takes None f steps t step h = h
takes (Some e) f steps t step h = step e h

part : (group : ℕ) (f : Entry → Entry) (steps : Entry → List Step) (es fs : List Entry) (t : List Step) → fs ≡ map f es → ((e : Entry) → (f e).number ≡ e.number) → ((e : Entry) → e.quota ≡ quota_after t → (f e).quota ≡ quota_after (steps e ++ t))
    → Follows t (entry_of group es) → Follows (on_entry (entry_of group es) steps ++ t) (entry_of group fs)
part group f steps es fs t is same step h =
    subst (Follows (on_entry (entry_of group es) steps ++ t)) (sym (ap (entry_of group) is ∙ found_mapped f es group same)) (takes (entry_of group es) f steps t step h)

fire_same : (o : Option TriggerType) (e : Entry) → (fire o e).number ≡ e.number
fire_same None e = refl
fire_same (Some x) e = refl

fire_takes : (o : Option TriggerType) (e : Entry) (t : List Step) → e.quota ≡ quota_after t → (fire o e).quota ≡ quota_after (fired_step o ++ t)
fire_takes None e t h = h
fire_takes (Some x) e t h = ap (fired x) h

count_same : (r : Report) (e : Entry) → (count_entry r e).number ≡ e.number
count_same r e = at (e.number == r.group)
  where
    at : (b : Bool) → (cond b (record e { expected = r.number + 1; quota = used (r.up + r.down) r.seconds r.moment e.quota }) e).number ≡ e.number
    at true = refl
    at false = refl

count_takes : (r : Report) (e : Entry) (t : List Step) → e.quota ≡ quota_after t → (count_entry r e).quota ≡ quota_after (used_step r e ++ t)
count_takes r e t h = at (e.number == r.group)
  where
    at : (b : Bool) → (cond b (record e { expected = r.number + 1; quota = used (r.up + r.down) r.seconds r.moment e.quota }) e).quota ≡ quota_after (cond b (Used (r.up + r.down) r.seconds r.moment ∷ []) [] ++ t)
    at true = ap (used (r.up + r.down) r.seconds r.moment) h
    at false = h

freeze_on : (next : Option Operation) (setup : SmfSetup) (now group : ℕ) (t : List Step) (s : Session) → On group t s → On group (on_entry (entry_of group s.groups) (frozen_step next) ++ t) (freeze_by setup now next s)
freeze_on (Some o) setup now group t s h = part group freeze_entry (frozen_step (Some o)) s.groups (map freeze_entry s.groups) t refl (λ e. refl) (λ e k. ap frozen k) h
freeze_on None setup now group t s h = at (entry_of group s.groups) h
  where
    at : (o : Option Entry) → Follows t o → Follows (on_entry o (frozen_step None) ++ t) o
    at None h = h
    at (Some e) h = h

finished_on : (setup : SmfSetup) (now group : ℕ) (t : List Step) (s : Session) → On group t s → On group (finish_steps setup now group s ++ t) (finished setup now s)
finished_on setup now group t s h =
    let v : Session = settled setup now s in
    let fires : List Step = on_entry (entry_of group s.groups) (λ e. fired_step (due_in setup now s e)) in
    let closed : On group (fires ++ t) v = part group (λ e. fire (due_in setup now s e) e) (λ e. fired_step (due_in setup now s e)) s.groups v.groups t refl (λ e. fire_same (due_in setup now s e) e) (λ e k. fire_takes (due_in setup now s e) e t k) h in
    let frozen_too : On group (on_entry (entry_of group v.groups) (frozen_step (next_operation setup v)) ++ (fires ++ t)) (freeze_by setup now (next_operation setup v) v) = freeze_on (next_operation setup v) setup now group (fires ++ t) v closed in
    subst (λ l. Follows l (entry_of group (finished setup now s).groups)) (sym (append_assoc (on_entry (entry_of group v.groups) (frozen_step (next_operation setup v))) fires t)) frozen_too

none_on : (o : Option Entry) (steps : Entry → List Step) → ((e : Entry) → steps e ≡ []) → on_entry o steps ≡ []
none_on None steps none = refl
none_on (Some e) steps none = none e

answered_on : (now group : ℕ) (p : Reply) (q : Option Request) (t : List Step) (s : Session) → On group t s → On group (on_entry (entry_of group s.groups) (reply_step p q) ++ t) (answered_by now p q s)
answered_on now group p None t s h = subst (λ l. Follows (l ++ t) (entry_of group s.groups)) (sym (none_on (entry_of group s.groups) (reply_step p None) (λ e. refl))) h
answered_on now group (Created reference answer) (Some q) t s h =
    part group (answer_entry q.stamp answer.units) (answered_step q.stamp answer.units) s.groups (map (answer_entry q.stamp answer.units) s.groups) t refl (λ e. refl) (λ e k. ap (answered q.stamp (info_of e.number answer.units)) k) h
answered_on now group (Updated answer) (Some q) t s h =
    part group (answer_entry q.stamp answer.units) (answered_step q.stamp answer.units) s.groups (map (answer_entry q.stamp answer.units) s.groups) t refl (λ e. refl) (λ e k. ap (answered q.stamp (info_of e.number answer.units)) k) h
answered_on now group Released (Some q) t s h = subst (λ l. Follows (l ++ t) (entry_of group s.groups)) (sym (none_on (entry_of group s.groups) (reply_step Released (Some q)) (λ e. refl))) h
answered_on now group (Refused problem) (Some q) t s h = subst (λ l. Follows (l ++ t) (entry_of group s.groups)) (sym (none_on (entry_of group s.groups) (reply_step (Refused problem) (Some q)) (λ e. refl))) h

-- asking

new_asks : (group : ℕ) (o : Option Entry) (t : List Step) → Follows t o → Follows (Asked ∷ t) (Some (asked_entry (or_new group o)))
new_asks group None t h = sym (ap (λ l. asked (quota_after l)) h)
new_asks group (Some e) t h = ap asked h

asked_on : (asking group : ℕ) (t : List Step) (es : List Entry) → Follows t (entry_of group es) → Follows (asked_step asking group ++ t) (entry_of group (with_asked asking es))
asked_on asking group t es h = at (group == asking) refl
  where
    at : (b : Bool) → (group == asking) ≡ b → Follows (cond b (Asked ∷ []) [] ++ t) (entry_of group (with_asked asking es))
    at true is =
        let e = eqb-true group asking is in
        subst (Follows (Asked ∷ t)) (sym ((found_asked asking group es).0 e)) (new_asks asking (entry_of asking es) t (subst (λ g. Follows t (entry_of g es)) e h))
    at false is = subst (Follows t) (sym ((found_asked asking group es).1 (λ e. absurd (let f : true ≡ false = sym (eq-eqb group asking e) ∙ is in cc)))) h

all_asked_on : (group : ℕ) (groups : List ℕ) (t : List Step) (es : List Entry) → Follows t (entry_of group es) → Follows (asked_steps group groups ++ t) (entry_of group (fold (λ entries asking. with_asked asking entries) es groups))
all_asked_on group [] t es h = h
all_asked_on group (asking ∷ groups) t es h =
    subst (λ l. Follows l (entry_of group (fold (λ entries g. with_asked g entries) (with_asked asking es) groups))) (sym (append_assoc (asked_steps group groups) (asked_step asking group) t))
    (all_asked_on group groups (asked_step asking group ++ t) (with_asked asking es) (asked_on asking group t es h))

detached_on : (abnormal : Bool) (group moment : ℕ) (t : List Step) (s : Session) → On group t s → On group t (detached abnormal moment s)
detached_on true group moment t s h = h
detached_on false group moment t s h = h

-- the end of an attempt
still_on : (o : Option Entry) (t : List Step) → Follows t o → Follows (on_entry o (λ e. []) ++ t) o
still_on None t h = h
still_on (Some e) t h = h

round_on : (setup : SmfSetup) (now group : ℕ) (t : List Step) (s : Session) → On group t s → On group (on_entry (entry_of group s.groups) (λ e. cond (is_continue s.handling) (Continued ∷ []) []) ++ t) (after_round setup now s)
round_on setup now group t s h = at (is_continue s.handling) s.sending.unsent
  where
    same_groups : (l : Life) → s.groups ≡ (broken_off now l s).groups
    same_groups Live = refl
    same_groups Ending = refl
    same_groups Aborting = refl
    same_groups Ended = refl

    at : (c u : Bool) → On group (on_entry (entry_of group s.groups) (λ e. cond c (Continued ∷ []) []) ++ t)
        (cond c (record (next_round setup now s) { groups = map continue_entry s.groups }) (cond u (ended_for NotSentWhy now s) (next_round setup now (broken_off now s.life s))))
    at true u = part group continue_entry (λ e. Continued ∷ []) s.groups (map continue_entry s.groups) t refl (λ e. refl) (λ e k. ap continued k) h
    at false true = still_on (entry_of group s.groups) t h
    at false false = subst (λ es. Follows (on_entry (entry_of group s.groups) (λ e. []) ++ t) (entry_of group es)) (same_groups s.life) (still_on (entry_of group s.groups) t h)

lost_on : (setup : SmfSetup) (now group : ℕ) (loss : Loss) (t : List Step) (s : Session) → On group t s → On group (on_entry (entry_of group s.groups) (λ e. lost_step s) ++ t) (lost setup now loss s)
lost_on setup now group loss t s h = at (is_last s)
  where
    at : (b : Bool) → On group (on_entry (entry_of group s.groups) (λ e. cond b (cond (is_continue s.handling) (Continued ∷ []) []) []) ++ t) (cond b (after_round setup now (with_loss loss s)) (next_turn (with_loss loss s)))
    at true = round_on setup now group t (with_loss loss s) h
    at false = still_on (entry_of group s.groups) t h

effect_on : (event : SmfEvent) (setup : SmfSetup) (now group : ℕ) (t : List Step) (s : Session) → On group t s → On group (effect_steps group event s ++ t) (effect setup now event s)
effect_on (Attach session subscriber groups moment) setup now group t s h = h
effect_on (Start session asking moment) setup now group t s h = asked_on asking group t s.groups h
effect_on (Count session r) setup now group t s h = part group (count_entry r) (used_step r) s.groups (map (count_entry r) s.groups) t refl (count_same r) (λ e k. count_takes r e t k) h
effect_on (Change session trigger moment) setup now group t s h = part group (fire (Some trigger)) (λ e. fired_step (Some trigger)) s.groups (map (fire (Some trigger)) s.groups) t refl (λ e. refl) (λ e k. ap (fired trigger) k) h
effect_on (Tick moment) setup now group t s h = h
effect_on (Detach session abnormal moment) setup now group t s h = detached_on abnormal group moment t s h
effect_on (Answered session number reply) setup now group t s h = answered_on now group reply s.request t s h
effect_on (Attempt session peer) setup now group t s h = h
effect_on (NotSent session) setup now group t s h = lost_on setup now group Unsent t s h
effect_on (NoReply session) setup now group t s h = lost_on setup now group Unanswered t s h
effect_on Restart setup now group t s h = lost_on setup now group Unanswered t s h

next_by : (b : Bool) (event : SmfEvent) (setup : SmfSetup) (now group : ℕ) (t : List Step) (s : Session) → On group t s
    → On group (cond b (finish_steps setup now group (effect setup now event s) ++ effect_steps group event s) [] ++ t) (cond b (finished setup now (effect setup now event s)) s)
next_by true event setup now group t s h =
    subst (λ l. Follows l (entry_of group (finished setup now (effect setup now event s)).groups)) (sym (append_assoc (finish_steps setup now group (effect setup now event s)) (effect_steps group event s) t))
    (finished_on setup now group (effect_steps group event s ++ t) (effect setup now event s) (effect_on event setup now group t s h))
next_by false event setup now group t s h = h

created_on : (setup : SmfSetup) (now group number : ℕ) (subscriber groups : List ℕ) (moment : ℕ) → On group (attach_steps setup now group groups (fresh setup number subscriber groups moment)) (finished setup now (with_request setup now Create (fresh setup number subscriber groups moment)))
created_on setup now group number subscriber groups moment =
    let s : Session = fresh setup number subscriber groups moment in
    let asks : On group (asked_steps group groups) s = subst (λ l. Follows l (entry_of group s.groups)) (append-nil (asked_steps group groups)) (all_asked_on group groups [] [] refl) in
    finished_on setup now group (on_entry (entry_of group s.groups) (frozen_step (Some Create)) ++ asked_steps group groups) (with_request setup now Create s) (freeze_on (Some Create) setup now group (asked_steps group groups) s asks)

attached_at : (b : Bool) (group : ℕ) (t : List Step) (s : Session) → On group t s → With (On group) (cond b t [] ++ []) (cond b (Some s) None)
attached_at true group t s h = subst (λ l. On group l s) (sym (append-nil t)) h
attached_at false group t s h = refl

attached : (setup : SmfSetup) (now number group : ℕ) (event : SmfEvent) → With (On group) (added_steps setup now number group event ++ []) (session_of number (added_by setup now event))
attached setup now number group (Attach session subscriber groups moment) =
    let s : Session = with_request setup now Create (fresh setup session subscriber groups moment) in
    let P : Bool → Type 0 = λ b. With (On group) (added_steps setup now number group (Attach session subscriber groups moment) ++ []) (cond b (Some (finished setup now s)) None) in
    subst P (ap (λ n. n == number) (sym (number-next (Tick now) setup now s)))
    (attached_at (session == number) group _ _ (created_on setup now group session subscriber groups moment))
attached setup now number group (Start session asking moment) = refl
attached setup now number group (Count session r) = refl
attached setup now number group (Change session trigger moment) = refl
attached setup now number group (Tick moment) = refl
attached setup now number group (Detach session abnormal moment) = refl
attached setup now number group (Answered session place reply) = refl
attached setup now number group (Attempt session peer) = refl
attached setup now number group (NotSent session) = refl
attached setup now number group (NoReply session) = refl
attached setup now number group Restart = refl

on_kept : (setup : SmfSetup) (group : ℕ) → IsKept setup (On group) (steps_in group)
on_kept setup group = record {
  next = λ now number event s t is new h. next_by (touches event s) event setup now group t s h;
  added = λ now number event. attached setup now number group event;
}

-- what the quota is gives what is due and the gate, by the law of quotas

abbrev pub DueIsByList : Type 0
DueIsByList = (t : List Step) → FitsGranted (quota_after t).standing → DueByTheList t

of_steps : DueIsByList → (t : List Step) (o : Option Entry) → Follows t o → EntryIsOfSteps t o
of_steps law t None h = h
of_steps law t (Some e) h = record {
  quota = h;
  due = λ fits open_container unsafe_hour now limits.
      ap (λ q. due_of q open_container unsafe_hour now limits) h ∙ (law t (subst (λ q. FitsGranted q.standing) h fits)).due open_container unsafe_hour now limits;
  gate = λ fits. ap gate_of h ∙ (law t (subst (λ q. FitsGranted q.standing) h fits)).gate;
}

with_steps : DueIsByList → (group : ℕ) (t : List Step) (o : Option Session) → With (On group) t o → StandsBySteps group t o
with_steps law group t None h = h
with_steps law group t (Some s) h = of_steps law t (entry_of group s.groups) h

pub steps_run : DueIsByList → (setup : SmfSetup) (events : List SmfEvent) (number group : ℕ) → StandsBySteps group (steps setup events number group) (session_of number (machine_after setup events).sessions)
steps_run law setup events number group =
    with_steps law group (steps setup events number group) (session_of number (machine_after setup events).sessions) (over_all setup (On group) (steps_in group) (on_kept setup group) events number)
