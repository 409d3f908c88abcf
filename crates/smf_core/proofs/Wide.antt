-- What an event makes of a session is what it makes of the part of it that is kept; the containers that are held no more stay.
use Rattle.std.proofs.Common.{◌≡◌, ℕ, ◌+◌, ◌-◌, ◌≤◌, ◌==◌, ◌&&◌, ◌||◌, List, [], ◌∷◌, ◌++◌, length, map, filter, fold, refl, ◌∙◌, ap, arith, Bool, true, false, cond}
use Rattle.std.specs.Prelude.{Option, Some, None, is_some}
use mathlib.Core.Path.{fun_ext}
use Rattle.std.specs.List.{list_any}
use Rattle.units.specs.declared.trigger.TriggerType.{TriggerType}
use Rattle.units.specs.declared.trigger.TriggerType.TheVariants.{Final, AbnormalRelease}
use Rattle.units.specs.declared.request.Operation.{Operation}
use Rattle.units.specs.declared.request.Request.{Request}
use Rattle.units.specs.declared.report.Report.{Report}
use Rattle.units.specs.declared.answer.Answer.{Answer}
use Rattle.units.specs.declared.reply.Reply.{Reply}
use Rattle.units.specs.declared.reply.Reply.TheVariants.{Created, Updated, Released, Refused}
use Rattle.meter.specs.Joining.{extended}
use Rattle.smf_model.specs.declared.setup.SmfSetup.{SmfSetup}
use Rattle.smf_model.specs.declared.session.Life.{Life}
use Rattle.smf_model.specs.declared.session.Life.TheVariants.{Live, Ending, Aborting, Ended}
use Rattle.smf_model.specs.declared.session.Loss.{Loss}
use Rattle.smf_model.specs.declared.session.Loss.TheVariants.{Unsent, Unanswered}
use Rattle.smf_model.specs.declared.session.Why.{Why}
use Rattle.smf_model.specs.declared.session.Why.TheVariants.{NotSent as WhyNotSent, HeldFull, Refused as WasRefused}
use Rattle.smf_model.specs.declared.session.Place.TheVariants.{Frozen, Answered as AnsweredPlace, GivenUp}
use Rattle.smf_model.specs.declared.session.Holding.{Holding}
use Rattle.smf_model.specs.declared.session.Entry.{Entry}
use Rattle.smf_model.specs.declared.session.Session.{Session}
use Rattle.smf_model.specs.declared.event.SmfEvent.{SmfEvent}
use Rattle.smf_model.specs.declared.event.SmfEvent.TheVariants.{Attach, Start, Count, Change, Tick, Detach, Answered, Attempt, NotSent, NoReply, Restart}
use Rattle.smf_model.specs.Rules.{is_immediate, is_immediate_for}
use Rattle.std.proofs.lemmas.List.{length-map}
use Rattle.smf_model.specs.Settle.{is_open, is_frozen, is_open_of, open_of, container_in, entry_of, due_with, due_in, due_at, fire, close, close_due, is_at_once, settled}
use Rattle.smf_model.specs.Freeze.{waiting_count, move_oldest, dropped, live_operation, ending_operation, operation_in, next_operation, used_of, usages, usage_of, says_something, request_of, with_request, freeze_by, freeze_due}
use Rattle.smf_model.specs.Traffic.{horizon_in, closes_before, close_of, extend_of, first_of, joined, counted, counted_by, close_any, has_open, is_change_at_once, changed, without_traffic, detached, ended, give_up, ended_for}
use Rattle.smf_model.specs.Sending.{at_rest, latest_peer, with_peer}
use Rattle.smf_model.specs.Rounds.{is_continue, with_loss, is_last, next_turn, next_round, continue_entry, broken_off, after_round, lost}
use Rattle.smf_model.specs.Replies.{answer_holding, succeeded, replied, answered_by}
use Rattle.smf_model.specs.Machine.{effect, finished}
use Rattle.quotas.specs.Deadline.{earlier}
use Rattle.smf_model.specs.Resting.{rest_end_with, rest_end_in, rest_end}
use Rattle.smf_core.specs.Draft.{joined_past, counted_past, effect_past}
use Rattle.smf_core.specs.Reads.{is_held}
use Rattle.smf_core.specs.Caches.{merged, past_count, wide}
use Rattle.smf_core.proofs.Merged.{not_open, not_waiting, not_frozen, LeavesPast, map-merged, move_oldest-merged, FailsPast, find-merged, any-merged, waiting-merged, used-merged, length-merged, append-merged}

-- settling

open_past : (group : ℕ) → FailsPast (is_open_of group)
open_past group h e = at (h.container.group == group)
  where
    at : (b : Bool) → (b && is_open h.place) ≡ false
    at true = not_open h.place e
    at false = refl

open_wide : (group : ℕ) (all next : List Holding) → open_of group (merged all next) ≡ open_of group next
open_wide group all next = ap container_in (find-merged (is_open_of group) (open_past group) all next)

due_wide : (all : List Holding) (setup : SmfSetup) (now : ℕ) (s : Session) (e : Entry) → due_in setup now (wide all s) e ≡ due_in setup now s e
due_wide all setup now s e = ap (λ c. due_with setup now s c e) (open_wide e.number all s.holdings)

due_at_wide : (all : List Holding) (setup : SmfSetup) (now : ℕ) (s : Session) (e : Option Entry) → due_at setup now (wide all s) e ≡ due_at setup now s e
due_at_wide all setup now s None = refl
due_at_wide all setup now s (Some e) = due_wide all setup now s e

close_due_past : (setup : SmfSetup) (now : ℕ) (s : Session) → LeavesPast (close_due setup now s)
close_due_past setup now s h e = ap (λ b. cond b (close now (due_at setup now s (entry_of h.container.group s.groups)) h) h) (not_open h.place e)

settled_wide : (all : List Holding) (setup : SmfSetup) (now : ℕ) (s : Session) → settled setup now (wide all s) ≡ wide all (settled setup now s)
settled_wide all setup now s =
    let due : due_in setup now (wide all s) ≡ due_in setup now s = fun_ext (due_wide all setup now s) in
    let groups : map (λ e. fire (due_in setup now (wide all s) e) e) s.groups ≡ map (λ e. fire (due_in setup now s e) e) s.groups = ap (λ f. map (λ e. fire (f e) e) s.groups) due in
    let closing : close_due setup now (wide all s) ≡ close_due setup now s = fun_ext (λ h. ap (λ t. cond (is_open h.place) (close now t h) h) (due_at_wide all setup now s (entry_of h.container.group s.groups))) in
    let holdings : map (close_due setup now (wide all s)) (merged all s.holdings) ≡ merged all (map (close_due setup now s) s.holdings) =
    ap (λ f. map f (merged all s.holdings)) closing ∙ map-merged (close_due setup now s) (close_due_past setup now s) all s.holdings in
    let came : list_any (λ e. is_at_once (wide all s) e.number (due_in setup now (wide all s) e)) s.groups ≡ list_any (λ e. is_at_once s e.number (due_in setup now s e)) s.groups =
    ap (λ f. list_any f s.groups) (fun_ext (λ e. ap (is_at_once s e.number) (due_wide all setup now s e))) in
    ap (λ gs. record (wide all s) { groups = gs; holdings = map (close_due setup now (wide all s)) (merged all s.holdings); at_once = s.at_once || list_any (λ e. is_at_once (wide all s) e.number (due_in setup now (wide all s) e)) s.groups }) groups
    ∙ ap (λ hs. record (wide all s) { groups = map (λ e. fire (due_in setup now s e) e) s.groups; holdings = hs; at_once = s.at_once || list_any (λ e. is_at_once (wide all s) e.number (due_in setup now (wide all s) e)) s.groups }) holdings
    ∙ ap (λ b. record (wide all s) { groups = map (λ e. fire (due_in setup now s e) e) s.groups; holdings = merged all (map (close_due setup now s) s.holdings); at_once = s.at_once || b }) came

-- how long it rests

rest_with_wide : (all : List Holding) (setup : SmfSetup) (s : Session) (end : Option ℕ) (es : List Entry)
    → fold (λ x e. earlier x (rest_end_in setup (wide all s) e)) end es ≡ fold (λ x e. earlier x (rest_end_in setup s e)) end es
rest_with_wide all setup s end [] = refl
rest_with_wide all setup s end (e ∷ es) =
    ap (λ c. fold (λ x d. earlier x (rest_end_in setup (wide all s) d)) (earlier end (rest_end_with setup s c e)) es) (open_wide e.number all s.holdings)
    ∙ rest_with_wide all setup s (earlier end (rest_end_in setup s e)) es

pub rest_wide : (all : List Holding) (setup : SmfSetup) (s : Session) → rest_end setup (wide all s) ≡ rest_end setup s
rest_wide all setup s = rest_with_wide all setup s None s.groups

-- freezing

live_wide : (all : List Holding) (setup : SmfSetup) (s : Session) (reference : Option ℕ) → live_operation setup (wide all s) reference ≡ live_operation setup s reference
live_wide all setup s None = refl
live_wide all setup s (Some r) = rw (waiting-merged all s.holdings) refl

ending_wide : (all : List Holding) (s : Session) (reference : Option ℕ) → ending_operation (wide all s) reference ≡ ending_operation s reference
ending_wide all s None = refl
ending_wide all s (Some r) = rw (waiting-merged all s.holdings) refl

operation_wide : (all : List Holding) (setup : SmfSetup) (s : Session) (life : Life) → operation_in setup (wide all s) life ≡ operation_in setup s life
operation_wide all setup s Live = live_wide all setup s s.reference
operation_wide all setup s Ending = ending_wide all s s.reference
operation_wide all setup s Aborting = ending_wide all s s.reference
operation_wide all setup s Ended = refl

next_wide : (all : List Holding) (setup : SmfSetup) (s : Session) → next_operation setup (wide all s) ≡ next_operation setup s
next_wide all setup s = ap (λ o. cond (is_some s.request) None o) (operation_wide all setup s s.life)

usages_wide : (all next : List Holding) (es : List Entry) → usages (merged all next) es ≡ usages next es
usages_wide all next [] = refl
usages_wide all next (e ∷ es) =
    ap (λ us. cond (says_something e us) (usage_of e us ∷ usages (merged all next) es) (usages (merged all next) es)) (used-merged e.number all next)
    ∙ ap (λ rest. cond (says_something e (used_of e.number next)) (usage_of e (used_of e.number next) ∷ rest) rest) (usages_wide all next es)

request_wide : (all : List Holding) (setup : SmfSetup) (now : ℕ) (s : Session) (o : Operation) → request_of setup now (wide all s) o ≡ request_of setup now s o
request_wide all setup now s o =
    ap (λ us. record (request_of setup now s o) { usage = us }) (ap (λ hs. usages hs s.groups) (move_oldest-merged 500 Frozen all s.holdings) ∙ usages_wide all (move_oldest 500 Frozen s.holdings) s.groups)

with_request_wide : (all : List Holding) (setup : SmfSetup) (now : ℕ) (s : Session) (o : Operation) → with_request setup now o (wide all s) ≡ wide all (with_request setup now o s)
with_request_wide all setup now s o =
    ap (λ hs. record (wide all (with_request setup now o s)) { holdings = hs; request = Some (request_of setup now (wide all s) o) }) (move_oldest-merged 500 Frozen all s.holdings)
    ∙ ap (λ q. record (wide all (with_request setup now o s)) { request = Some q }) (request_wide all setup now s o)

freeze_by_wide : (all : List Holding) (setup : SmfSetup) (now : ℕ) (s : Session) (o : Option Operation) → freeze_by setup now o (wide all s) ≡ wide all (freeze_by setup now o s)
freeze_by_wide all setup now s None = refl
freeze_by_wide all setup now s (Some o) = with_request_wide all setup now s o

freeze_wide : (all : List Holding) (setup : SmfSetup) (now : ℕ) (s : Session) → freeze_due setup now (wide all s) ≡ wide all (freeze_due setup now s)
freeze_wide all setup now s = ap (λ o. freeze_by setup now o (wide all s)) (next_wide all setup s) ∙ freeze_by_wide all setup now s (next_operation setup s)

dropped_wide : (all : List Holding) (setup : SmfSetup) (s : Session) → dropped setup (wide all s) ≡ wide all (dropped setup s)
dropped_wide all setup s =
    ap (λ n. record (wide all s) { holdings = move_oldest (n - setup.held_max) (GivenUp HeldFull) (merged all s.holdings) }) (waiting-merged all s.holdings)
    ∙ ap (λ hs. record (wide all s) { holdings = hs }) (move_oldest-merged (waiting_count s.holdings - setup.held_max) (GivenUp HeldFull) all s.holdings)

pub finished_wide : (all : List Holding) (setup : SmfSetup) (now : ℕ) (s : Session) → finished setup now (wide all s) ≡ wide all (finished setup now s)
finished_wide all setup now s =
    ap (λ x. dropped setup (freeze_due setup now x)) (settled_wide all setup now s)
    ∙ ap (dropped setup) (freeze_wide all setup now (settled setup now s))
    ∙ dropped_wide all setup (freeze_due setup now (settled setup now s))

-- events

close_of_past : (group now : ℕ) (t : Option TriggerType) → LeavesPast (close_of group now t)
close_of_past group now t h e = ap (λ b. cond b (close now t h) h) (open_past group h e)

extend_past : (r : Report) → LeavesPast (extend_of r)
extend_past r h e = ap (λ b. cond b (record h { container = extended h.container r }) h) (open_past r.group h e)

close_any_past : (now : ℕ) (t : TriggerType) → LeavesPast (close_any now t)
close_any_past now t h e = ap (λ b. cond b (close now (Some t) h) h) (not_open h.place e)

give_up_past : (w : Why) → LeavesPast (give_up w)
give_up_past w h e = ap (λ b. cond (b || is_frozen h.place) (record h { place = GivenUp w }) h) (not_waiting h.place e) ∙ ap (λ b. cond b (record h { place = GivenUp w }) h) (not_frozen h.place e)

answer_past : LeavesPast answer_holding
answer_past h e = ap (λ b. cond b (record h { place = AnsweredPlace }) h) (not_frozen h.place e)

joined_wide : (r : Report) (all next : List Holding) → length (filter is_held all) ≤ length next → joined r (merged all next) ≡ merged all (joined_past (past_count all) r next)
joined_wide r all next enough =
    ap (λ b. cond b (map (extend_of r) (merged all next)) (merged all next ++ first_of (length (merged all next) + 1) r ∷ [])) (any-merged (is_open_of r.group) (open_past r.group) all next)
    ∙ at (list_any (is_open_of r.group) next)
  where
    at : (b : Bool) → cond b (map (extend_of r) (merged all next)) (merged all next ++ first_of (length (merged all next) + 1) r ∷ []) ≡ merged all (cond b (map (extend_of r) next) (next ++ first_of (past_count all + length next + 1) r ∷ []))
    at true = map-merged (extend_of r) (extend_past r) all next
    at false = ap (λ n. merged all next ++ first_of (n + 1) r ∷ []) (length-merged all next) ∙ append-merged all next (first_of (past_count all + length next + 1) r ∷ []) enough

counted_wide : (all : List Holding) (r : Report) (s : Session) → length (filter is_held all) ≤ length s.holdings → counted r (wide all s) ≡ wide all (counted_past (past_count all) r s)
counted_wide all r s enough =
    let trigger : Option TriggerType = closes_before (horizon_in (entry_of r.group s.groups)) r (open_of r.group s.holdings) in
    let closed : List Holding = map (close_of r.group r.moment trigger) s.holdings in
    let long : length (filter is_held all) ≤ length closed = omega (arith, enough, length-map s.holdings (close_of r.group r.moment trigger)) in
    ap (λ c. counted_by r (closes_before (horizon_in (entry_of r.group s.groups)) r c) (wide all s)) (open_wide r.group all s.holdings)
    ∙ ap (λ hs. record (counted_by r trigger (wide all s)) { holdings = joined r hs }) (map-merged (close_of r.group r.moment trigger) (close_of_past r.group r.moment trigger) all s.holdings)
    ∙ ap (λ hs. record (counted_by r trigger (wide all s)) { holdings = hs }) (joined_wide r all closed long)

open_any_past : FailsPast (λ h. is_open h.place)
open_any_past h e = not_open h.place e

open_at_once_past : (s : Session) (t : TriggerType) → FailsPast (λ h. cond (is_open h.place) (is_immediate_for s h.container.group t) false)
open_at_once_past s t h e = ap (λ b. cond b (is_immediate_for s h.container.group t) false) (not_open h.place e)

change_wide : (all : List Holding) (s : Session) (t : TriggerType) → is_change_at_once (wide all s) t ≡ is_change_at_once s t
change_wide all s t =
    ap (λ b. cond b (list_any (λ h. cond (is_open h.place) (is_immediate_for s h.container.group t) false) (merged all s.holdings)) (is_immediate s t)) (any-merged (λ h. is_open h.place) open_any_past all s.holdings)
    ∙ ap (λ b. cond (has_open s) b (is_immediate s t)) (any-merged (λ h. cond (is_open h.place) (is_immediate_for s h.container.group t) false) (open_at_once_past s t) all s.holdings)

changed_wide : (all : List Holding) (t : TriggerType) (moment : ℕ) (s : Session) → changed t moment (wide all s) ≡ wide all (changed t moment s)
changed_wide all t moment s =
    ap (λ hs. record (changed t moment (wide all s)) { holdings = hs }) (map-merged (close_any moment t) (close_any_past moment t) all s.holdings)
    ∙ ap (λ b. record (wide all (changed t moment s)) { at_once = s.at_once || b }) (change_wide all s t)

without_wide : (all : List Holding) (life : Life) (moment : ℕ) (t : TriggerType) (s : Session) → without_traffic life moment t (wide all s) ≡ wide all (without_traffic life moment t s)
without_wide all life moment t s = ap (λ hs. record (wide all (without_traffic life moment t s)) { holdings = hs }) (map-merged (close_any moment t) (close_any_past moment t) all s.holdings)

detached_wide : (all : List Holding) (abnormal : Bool) (moment : ℕ) (s : Session) → detached abnormal moment (wide all s) ≡ wide all (detached abnormal moment s)
detached_wide all true moment s = ap (λ (x : Session). record x { last = moment }) (without_wide all Aborting moment AbnormalRelease s)
detached_wide all false moment s = ap (λ (x : Session). record x { last = moment }) (without_wide all Ending moment Final s)

ended_wide : (all : List Holding) (now : ℕ) (s : Session) → ended now (wide all s) ≡ wide all (ended now s)
ended_wide all now s = ap (λ (x : Session). record x { request = None; sending = at_rest }) (without_wide all Ended now AbnormalRelease s)

ended_for_wide : (all : List Holding) (w : Why) (now : ℕ) (s : Session) → ended_for w now (wide all s) ≡ wide all (ended_for w now s)
ended_for_wide all w now s =
    ap (λ (x : Session). record x { holdings = map (give_up w) x.holdings }) (ended_wide all now s)
    ∙ ap (λ hs. record (wide all (ended now s)) { holdings = hs }) (map-merged (give_up w) (give_up_past w) all (ended now s).holdings)

answered_holdings : (all : List Holding) (s : Session) → record (wide all s) { holdings = map answer_holding (merged all s.holdings) } ≡ wide all (record s { holdings = map answer_holding s.holdings })
answered_holdings all s = ap (λ hs. record (wide all s) { holdings = hs }) (map-merged answer_holding answer_past all s.holdings)

succeeded_wide : (all : List Holding) (stamp : ℕ) (reference : Option ℕ) (a : Answer) (s : Session) → succeeded stamp reference a (wide all s) ≡ wide all (succeeded stamp reference a s)
succeeded_wide all stamp reference a s =
    ap (λ hs. record (succeeded stamp reference a (wide all s)) { holdings = hs }) (map-merged answer_holding answer_past all s.holdings)

replied_wide : (all : List Holding) (now stamp : ℕ) (p : Reply) (s : Session) → replied now stamp p (wide all s) ≡ wide all (replied now stamp p s)
replied_wide all now stamp (Created reference a) s = succeeded_wide all stamp (Some reference) a s
replied_wide all now stamp (Updated a) s = succeeded_wide all stamp None a s
replied_wide all now stamp Released s = ap (ended now) (answered_holdings all s) ∙ ended_wide all now (record s { holdings = map answer_holding s.holdings })
replied_wide all now stamp (Refused problem) s = ended_for_wide all WasRefused now s

answered_wide : (all : List Holding) (now : ℕ) (p : Reply) (q : Option Request) (s : Session) → answered_by now p q (wide all s) ≡ wide all (answered_by now p q s)
answered_wide all now p None s = refl
answered_wide all now p (Some q) s = ap (with_peer (latest_peer s)) (replied_wide all now q.stamp p s)

broken_wide : (all : List Holding) (now : ℕ) (l : Life) (s : Session) → broken_off now l (wide all s) ≡ wide all (broken_off now l s)
broken_wide all now Live s = without_wide all Aborting now AbnormalRelease s
broken_wide all now Ending s = refl
broken_wide all now Aborting s = refl
broken_wide all now Ended s = refl

round_wide : (all : List Holding) (setup : SmfSetup) (now : ℕ) (s : Session) → after_round setup now (wide all s) ≡ wide all (after_round setup now s)
round_wide all setup now s = at (is_continue s.handling) s.sending.unsent
  where
    at : (c u : Bool) → cond c (record (next_round setup now (wide all s)) { groups = map continue_entry s.groups }) (cond u (ended_for WhyNotSent now (wide all s)) (next_round setup now (broken_off now s.life (wide all s))))
        ≡ wide all (cond c (record (next_round setup now s) { groups = map continue_entry s.groups }) (cond u (ended_for WhyNotSent now s) (next_round setup now (broken_off now s.life s))))
    at true u = refl
    at false true = ended_for_wide all WhyNotSent now s
    at false false = ap (next_round setup now) (broken_wide all now s.life s)

lost_wide : (all : List Holding) (setup : SmfSetup) (now : ℕ) (loss : Loss) (s : Session) → lost setup now loss (wide all s) ≡ wide all (lost setup now loss s)
lost_wide all setup now loss s = at (is_last s)
  where
    v : Session
    v = with_loss loss s

    at : (b : Bool) → cond b (after_round setup now (wide all v)) (next_turn (wide all v)) ≡ wide all (cond b (after_round setup now v) (next_turn v))
    at true = round_wide all setup now v
    at false = refl

effect_wide : (event : SmfEvent) (setup : SmfSetup) (all : List Holding) (now : ℕ) (s : Session) → length (filter is_held all) ≤ length s.holdings → effect setup now event (wide all s) ≡ wide all (effect_past setup (past_count all) now event s)
effect_wide (Attach session subscriber groups moment) setup all now s enough = refl
effect_wide (Start session group moment) setup all now s enough = refl
effect_wide (Count session r) setup all now s enough = counted_wide all r s enough
effect_wide (Change session trigger moment) setup all now s enough = changed_wide all trigger moment s
effect_wide (Tick moment) setup all now s enough = refl
effect_wide (Detach session abnormal moment) setup all now s enough = detached_wide all abnormal moment s
effect_wide (Answered session number reply) setup all now s enough = answered_wide all now reply s.request s
effect_wide (Attempt session peer) setup all now s enough = refl
effect_wide (NotSent session) setup all now s enough = lost_wide all setup now Unsent s
effect_wide (NoReply session) setup all now s enough = lost_wide all setup now Unanswered s
effect_wide Restart setup all now s enough = lost_wide all setup now Unanswered s

pub next_wide_all : (event : SmfEvent) (setup : SmfSetup) (all : List Holding) (now : ℕ) (s : Session) → length (filter is_held all) ≤ length s.holdings
    → finished setup now (effect setup now event (wide all s)) ≡ wide all (finished setup now (effect_past setup (past_count all) now event s))
next_wide_all event setup all now s enough =
    ap (finished setup now) (effect_wide event setup all now s enough)
    ∙ finished_wide all setup now (effect_past setup (past_count all) now event s)
