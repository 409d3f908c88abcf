-- The rules that a session keeps are the latest of each type.
use Rattle.std.proofs.Common.{◌≡◌, ◌⊎◌, ⊎_elim, ℕ, ◌+◌, ◌*◌, ◌<◌, ◌≤◌, ◌==◌, nat_lt, Bool, true, false, cond, List, [], ◌∷◌, ◌++◌, map, filter, fold, option_map, option_and_then, refl, sym, ◌∙◌, ap, subst, arith, append_assoc}
use Rattle.std.specs.Prelude.{Option, Some, None}
use Rattle.std.specs.List.{find}
use Rattle.std.proofs.lemmas.Bool.{eqb-true, eqb-false, eq-eqb, ne_eqb, lt-ltb, le-ltb, cases_order}
use Rattle.units.specs.declared.trigger.TriggerType.{TriggerType}
use Rattle.units.specs.declared.trigger.TriggerType.TheVariants.{Final, QuotaExhausted, QuotaThreshold, ValidityTime, QuotaHoldingTime, TariffTimeChange, VolumeLimit, TimeLimit, ForcedReauthorisation, QosChange, RatChange, PlmnChange, UserLocationChange, UeTimezoneChange, SessionAmbrChange, ServingNodeChange, ManagementIntervention, MaxNumberOfChangesInChargingConditions, AbnormalRelease}
use Rattle.units.specs.declared.trigger.TriggerRule.{TriggerRule}
use Rattle.units.specs.declared.request.Operation.{Operation}
use Rattle.units.specs.declared.request.Operation.TheVariants.{Create}
use Rattle.units.specs.declared.request.Request.{Request}
use Rattle.units.specs.declared.answer.Answer.{Answer}
use Rattle.units.specs.declared.answer.UnitInfo.{UnitInfo}
use Rattle.units.specs.declared.reply.Reply.{Reply}
use Rattle.units.specs.declared.reply.Reply.TheVariants.{Created, Updated, Released, Refused}
use Rattle.smf_model.specs.declared.setup.SmfSetup.{SmfSetup}
use Rattle.smf_model.specs.declared.session.Life.{Life}
use Rattle.smf_model.specs.declared.session.Life.TheVariants.{Live, Ending, Aborting, Ended}
use Rattle.smf_model.specs.declared.session.Loss.{Loss}
use Rattle.smf_model.specs.declared.session.Loss.TheVariants.{Unsent, Unanswered}
use Rattle.smf_model.specs.declared.session.Why.TheVariants.{NotSent as GaveUp}
use Rattle.smf_model.specs.declared.session.Entry.{Entry}
use Rattle.smf_model.specs.declared.session.Rule.{Rule}
use Rattle.smf_model.specs.declared.session.Session.{Session}
use Rattle.smf_model.specs.declared.event.SmfEvent.{SmfEvent}
use Rattle.smf_model.specs.declared.event.SmfEvent.TheVariants.{Attach, Start, Count, Change, Tick, Detach, Answered, Attempt, NotSent, NoReply, Restart}
use Rattle.smf_model.specs.Categories.{order_of, same_type}
use Rattle.smf_model.specs.Rules.{rank, rank_of, in_rule, rule_in, rule_at, or_earlier, after_earlier, placed, with_rule, firsts, with_rules}
use Rattle.smf_model.specs.Settle.{settled}
use Rattle.smf_model.specs.Freeze.{next_operation, freeze_by, with_request}
use Rattle.smf_model.specs.Rounds.{is_continue, is_last, with_loss, next_turn, next_round, continue_entry, broken_off, after_round, lost}
use Rattle.smf_model.specs.Traffic.{detached, ended_for}
use Rattle.smf_model.specs.Replies.{info_of, with_info_rules, with_group_rules, rules_after, answered_by}
use Rattle.smf_model.specs.Machine.{machine_after, session_of, touches, effect, finished, fresh, added_by}
use Rattle.smf_model.specs.Reports.{in_order}
use Rattle.smf_model.specs.History.{history}
use Rattle.smf_model.specs.LatestRules.{of_info, of_group, of_answer, of_reply, rules_in, latest_category, latest_limit, AreLatest, RulesAreLatest}
use Rattle.smf_model.proofs.Lifting.{With, IsKept, over_all}

-- the first of a kind in a filtered list

abbrev find_or : Option Rule → Option Rule → Option Rule
find_or (Some a) o = Some a
find_or None o = o

find_both : (p : Rule → Bool) (xs ys : List Rule) → find p (xs ++ ys) ≡ find_or (find p xs) (find p ys)
find_both p [] ys = refl
find_both p (x ∷ xs) ys = at (p x) (find_both p xs ys)
  where
    at : (b : Bool) → find p (xs ++ ys) ≡ find_or (find p xs) (find p ys) → cond b (Some x) (find p (xs ++ ys)) ≡ find_or (cond b (Some x) (find p xs)) (find p ys)
    at true ih = refl
    at false ih = ih

none_before : (o : Option Rule) → find_or o None ≡ o
none_before None = refl
none_before (Some a) = refl

find_none : (p q : Rule → Bool) (xs : List Rule) → ((x : Rule) → p x ≡ true → q x ≡ false) → find p (filter q xs) ≡ None
find_none p q [] h = refl
find_none p q (x ∷ xs) h = at (q x) (p x) refl refl (find_none p q xs h)
  where
    at : (b d : Bool) → q x ≡ b → p x ≡ d → find p (filter q xs) ≡ None → find p (cond b (x ∷ filter q xs) (filter q xs)) ≡ None
    at true true e f ih = let g : true ≡ false = sym e ∙ h x f in cc
    at true false e f ih = ap (λ d. cond d (Some x) (find p (filter q xs))) f ∙ ih
    at false d e f ih = ih

find_same : (p q : Rule → Bool) (xs : List Rule) → ((x : Rule) → p x ≡ true → q x ≡ true) → find p (filter q xs) ≡ find p xs
find_same p q [] h = refl
find_same p q (x ∷ xs) h = at (q x) (p x) refl refl (find_same p q xs h)
  where
    at : (b d : Bool) → q x ≡ b → p x ≡ d → find p (filter q xs) ≡ find p xs → find p (cond b (x ∷ filter q xs) (filter q xs)) ≡ cond (p x) (Some x) (find p xs)
    at true d e f ih = ap (λ o. cond (p x) (Some x) o) ih
    at false true e f ih = let g : false ≡ true = sym e ∙ h x f in cc
    at false false e f ih = ih ∙ ap (λ d. cond d (Some x) (find p xs)) (sym f)

-- the rule at a place, once one is placed

abbrev stands : ℕ → Rule → Bool
stands place x = rank_of x == place

below_others : (place other : ℕ) → place ≤ other → (x : Rule) → stands other x ≡ true → nat_lt (rank_of x) place ≡ false
below_others place other l x e = let here = eqb-true (rank_of x) other e in le-ltb (rank_of x) place (omega (arith, l, here))

above_others : (place other : ℕ) → other ≤ place → (x : Rule) → stands other x ≡ true → nat_lt place (rank_of x) ≡ false
above_others place other l x e = let here = eqb-true (rank_of x) other e in le-ltb place (rank_of x) (omega (arith, l, here))

below_same : (place other : ℕ) → other < place → (x : Rule) → stands other x ≡ true → nat_lt (rank_of x) place ≡ true
below_same place other l x e = let here = eqb-true (rank_of x) other e in lt-ltb (rank_of x) place (omega (arith, l, here))

above_same : (place other : ℕ) → place < other → (x : Rule) → stands other x ≡ true → nat_lt place (rank_of x) ≡ true
above_same place other l x e = let here = eqb-true (rank_of x) other e in lt-ltb place (rank_of x) (omega (arith, l, here))

-- the parts of the rules with one more
parts : (place other : ℕ) (r : Rule) (rules : List Rule) → find (stands other) (placed place r rules)
    ≡ find_or (find (stands other) (filter (λ x. nat_lt (rank_of x) place) rules)) (cond (stands other r) (Some r) (find (stands other) (filter (λ x. nat_lt place (rank_of x)) rules)))
parts place other r rules = find_both (stands other) (filter (λ x. nat_lt (rank_of x) place) rules) (r ∷ filter (λ x. nat_lt place (rank_of x)) rules)

placed_here : (place : ℕ) (r : Rule) (rules : List Rule) → rank_of r ≡ place → find (stands place) (placed place r rules) ≡ Some r
placed_here place r rules here =
    parts place place r rules
    ∙ ap (λ o. find_or o (cond (stands place r) (Some r) (find (stands place) (filter (λ x. nat_lt place (rank_of x)) rules)))) (find_none (stands place) (λ x. nat_lt (rank_of x) place) rules (below_others place place (omega arith)))
    ∙ ap (λ b. cond b (Some r) (find (stands place) (filter (λ x. nat_lt place (rank_of x)) rules))) (eq-eqb (rank_of r) place here)

placed_there : (place other : ℕ) (r : Rule) (rules : List Rule) → rank_of r ≡ place → (place ≡ other → ⊥) → find (stands other) (placed place r rules) ≡ find (stands other) rules
placed_there place other r rules here apart = ⊎_elim (λ (e : place ≡ other). absurd (apart e)) (λ (o : (place < other) ⊎ (other < place)). ⊎_elim less more o) (cases_order place other)
  where
    not_it : stands other r ≡ false
    not_it = ne_eqb (rank_of r) other (λ e. apart (sym here ∙ e))

    less : place < other → find (stands other) (placed place r rules) ≡ find (stands other) rules
    less l =
        parts place other r rules
        ∙ ap (λ o. find_or o (cond (stands other r) (Some r) (find (stands other) (filter (λ x. nat_lt place (rank_of x)) rules)))) (find_none (stands other) (λ x. nat_lt (rank_of x) place) rules (below_others place other (omega (arith, l))))
        ∙ ap (λ b. cond b (Some r) (find (stands other) (filter (λ x. nat_lt place (rank_of x)) rules))) not_it
        ∙ find_same (stands other) (λ x. nat_lt place (rank_of x)) rules (above_same place other l)

    more : other < place → find (stands other) (placed place r rules) ≡ find (stands other) rules
    more l =
        parts place other r rules
        ∙ ap (λ o. find_or o (cond (stands other r) (Some r) (find (stands other) (filter (λ x. nat_lt place (rank_of x)) rules)))) (find_same (stands other) (λ x. nat_lt (rank_of x) place) rules (below_same place other l))
        ∙ ap (λ b. find_or (find (stands other) rules) (cond b (Some r) (find (stands other) (filter (λ x. nat_lt place (rank_of x)) rules)))) not_it
        ∙ ap (find_or (find (stands other) rules)) (find_none (stands other) (λ x. nat_lt place (rank_of x)) rules (above_others place other (omega (arith, l))))
        ∙ none_before (find (stands other) rules)

-- places are apart

order_small : (t : TriggerType) → order_of t < 32
order_small Final = omega arith
order_small QuotaExhausted = omega arith
order_small QuotaThreshold = omega arith
order_small ValidityTime = omega arith
order_small QuotaHoldingTime = omega arith
order_small TariffTimeChange = omega arith
order_small VolumeLimit = omega arith
order_small TimeLimit = omega arith
order_small ForcedReauthorisation = omega arith
order_small QosChange = omega arith
order_small RatChange = omega arith
order_small PlmnChange = omega arith
order_small UserLocationChange = omega arith
order_small UeTimezoneChange = omega arith
order_small SessionAmbrChange = omega arith
order_small ServingNodeChange = omega arith
order_small ManagementIntervention = omega arith
order_small MaxNumberOfChangesInChargingConditions = omega arith
order_small AbnormalRelease = omega arith

rank_apart : (g h : Option ℕ) (a b : TriggerType) → (g ≡ h → ⊥) → rank g a ≡ rank h b → ⊥
rank_apart None None a b apart e = apart refl
rank_apart None (Some n) a b apart e = let l = order_small a in absurd (omega (arith, l, e))
rank_apart (Some m) None a b apart e = let l = order_small b in absurd (omega (arith, l, e))
rank_apart (Some m) (Some n) a b apart e =
    let la = order_small a in
    let lb = order_small b in
    let other : m ≡ n → ⊥ = λ same. apart (ap Some same) in
    absurd (omega (arith, la, lb, e, other))

rank_same : (g : Option ℕ) (a b : TriggerType) → order_of a ≡ order_of b → rank g a ≡ rank g b
rank_same None a b e = e
rank_same (Some n) a b e = ap (λ k. 32 * (n + 1) + k) e

rank_other : (g : Option ℕ) (a b : TriggerType) → (order_of a ≡ order_of b → ⊥) → rank g a ≡ rank g b → ⊥
rank_other None a b apart e = apart e
rank_other (Some n) a b apart e = apart (omega (arith, e))

-- one more rule

kept_type : (r : TriggerRule) (o : Option TriggerRule) → (after_earlier r o).trigger ≡ r.trigger
kept_type r None = refl
kept_type r (Some e) = refl

abbrev rule_of : Option ℕ → TriggerRule → List Rule → Rule
rule_of group r rules = record { group = group; rule = after_earlier r (rule_at group r.trigger rules) }

rule_rank : (group : Option ℕ) (r : TriggerRule) (rules : List Rule) → rank_of (rule_of group r rules) ≡ rank group r.trigger
rule_rank group r rules = ap (rank group) (kept_type r (rule_at group r.trigger rules))

-- the latest rule of a type, with the limits that earlier ones gave
abbrev latest : TriggerType → List TriggerRule → Option TriggerRule
latest trigger [] = None
latest trigger (r ∷ earlier) = cond (same_type r.trigger trigger) (Some (after_earlier r (latest trigger earlier))) (latest trigger earlier)

placed_at : (group : Option ℕ) (trigger : TriggerType) (r : TriggerRule) (rules : List Rule) → rule_at group trigger (with_rule group rules r) ≡ cond (same_type r.trigger trigger) (Some (after_earlier r (rule_at group trigger rules))) (rule_at group trigger rules)
placed_at group trigger r rules = at (same_type r.trigger trigger) refl
  where
    place : ℕ
    place = rank group r.trigger

    new : Rule
    new = rule_of group r rules

    at : (b : Bool) → same_type r.trigger trigger ≡ b → rule_at group trigger (with_rule group rules r) ≡ cond b (Some (after_earlier r (rule_at group trigger rules))) (rule_at group trigger rules)
    at true e =
        let here : rank group r.trigger ≡ rank group trigger = rank_same group r.trigger trigger (eqb-true (order_of r.trigger) (order_of trigger) e) in
        ap (λ k. rule_in k (with_rule group rules r)) (sym here)
        ∙ ap in_rule (placed_here (rank group r.trigger) (rule_of group r rules) rules (rule_rank group r rules))
        ∙ ap (λ k. Some (after_earlier r (rule_in k rules))) here
    at false e =
        ap in_rule (placed_there (rank group r.trigger) (rank group trigger) (rule_of group r rules) rules (rule_rank group r rules) (rank_other group r.trigger trigger (eqb-false (order_of r.trigger) (order_of trigger) e)))

placed_other : (group other : Option ℕ) (trigger : TriggerType) (r : TriggerRule) (rules : List Rule) → (other ≡ group → ⊥) → rule_at group trigger (with_rule other rules r) ≡ rule_at group trigger rules
placed_other group other trigger r rules apart =
    ap in_rule (placed_there (rank other r.trigger) (rank group trigger) (rule_of other r rules) rules (rule_rank other r rules) (rank_apart other group r.trigger trigger apart))

-- and a list of them

all_placed : (group : Option ℕ) (trigger : TriggerType) (list given : List TriggerRule) (rules : List Rule) → rule_at group trigger rules ≡ latest trigger given
    → rule_at group trigger (fold (with_rule group) rules list) ≡ latest trigger (in_order list ++ given)
all_placed group trigger [] given rules h = h
all_placed group trigger (r ∷ list) given rules h =
    all_placed group trigger list (r ∷ given) (with_rule group rules r)
    (placed_at group trigger r rules ∙ ap (λ o. cond (same_type r.trigger trigger) (Some (after_earlier r o)) o) h)
    ∙ ap (latest trigger) (sym (append_assoc (in_order list) (r ∷ []) given))

all_other : (group other : Option ℕ) (trigger : TriggerType) (list : List TriggerRule) (rules : List Rule) → (other ≡ group → ⊥) → rule_at group trigger (fold (with_rule other) rules list) ≡ rule_at group trigger rules
all_other group other trigger [] rules apart = refl
all_other group other trigger (r ∷ list) rules apart = all_other group other trigger list (with_rule other rules r) apart ∙ placed_other group other trigger r rules apart

-- an answer

info_placed : (group : ℕ) (trigger : TriggerType) (info : Option UnitInfo) (given : List TriggerRule) (rules : List Rule) → rule_at (Some group) trigger rules ≡ latest trigger given
    → rule_at (Some group) trigger (with_info_rules group info rules) ≡ latest trigger (of_info info ++ given)
info_placed group trigger None given rules h = h
info_placed group trigger (Some info) given rules h = all_placed (Some group) trigger (firsts info.triggers) given rules h

info_other : (group : Option ℕ) (other : ℕ) (trigger : TriggerType) (info : Option UnitInfo) (rules : List Rule) → (Some other ≡ group → ⊥) → rule_at group trigger (with_info_rules other info rules) ≡ rule_at group trigger rules
info_other group other trigger None rules apart = refl
info_other group other trigger (Some info) rules apart = all_other group (Some other) trigger (firsts info.triggers) rules apart

not_same : (m n : ℕ) → (m ≡ n → ⊥) → Some m ≡ Some n → ⊥
not_same m n apart e = apart (let f : m ≡ n = cc in f)

entries_placed : (group : ℕ) (trigger : TriggerType) (units : List UnitInfo) (es : List Entry) (given : List TriggerRule) (rules : List Rule) → rule_at (Some group) trigger rules ≡ latest trigger given
    → rule_at (Some group) trigger (fold (with_group_rules units) rules es) ≡ latest trigger (of_group group units es ++ given)
entries_placed group trigger units [] given rules h = h
entries_placed group trigger units (e ∷ es) given rules h = at (e.number == group) refl (λ new placed. entries_placed group trigger units es new (with_group_rules units rules e) placed)
  where
    at : (b : Bool) → (e.number == group) ≡ b
        → ((new : List TriggerRule) → rule_at (Some group) trigger (with_group_rules units rules e) ≡ latest trigger new
        → rule_at (Some group) trigger (fold (with_group_rules units) (with_group_rules units rules e) es) ≡ latest trigger (of_group group units es ++ new))
        → rule_at (Some group) trigger (fold (with_group_rules units) (with_group_rules units rules e) es) ≡ latest trigger ((of_group group units es ++ cond b (of_info (info_of group units)) []) ++ given)
    at true is ih =
        ih (of_info (info_of group units) ++ given) (ap (λ n. rule_at (Some group) trigger (with_info_rules n (info_of n units) rules)) (eqb-true e.number group is) ∙ info_placed group trigger (info_of group units) given rules h)
        ∙ ap (latest trigger) (sym (append_assoc (of_group group units es) (of_info (info_of group units)) given))
    at false is ih =
        ih given (info_other (Some group) e.number trigger (info_of e.number units) rules (not_same e.number group (eqb-false e.number group is)) ∙ h)
        ∙ ap (latest trigger) (sym (append_assoc (of_group group units es) [] given))

entries_other : (trigger : TriggerType) (units : List UnitInfo) (es : List Entry) (rules : List Rule) → rule_at None trigger (fold (with_group_rules units) rules es) ≡ rule_at None trigger rules
entries_other trigger units [] rules = refl
entries_other trigger units (e ∷ es) rules = entries_other trigger units es (with_group_rules units rules e) ∙ info_other None e.number trigger (info_of e.number units) rules (λ f. cc)

answer_placed : (group : Option ℕ) (trigger : TriggerType) (answer : Answer) (es : List Entry) (given : List TriggerRule) (rules : List Rule) → rule_at group trigger rules ≡ latest trigger given
    → rule_at group trigger (rules_after answer es rules) ≡ latest trigger (of_answer group answer es ++ given)
answer_placed None trigger answer es given rules h =
    entries_other trigger answer.units es (with_rules None answer.triggers rules) ∙ all_placed None trigger (firsts answer.triggers) given rules h
answer_placed (Some group) trigger answer es given rules h =
    entries_placed group trigger answer.units es given (with_rules None answer.triggers rules)
    (all_other (Some group) None trigger (firsts answer.triggers) rules (λ f. cc) ∙ h)

-- a session after an event

abbrev Keeps : Option ℕ → TriggerType → List TriggerRule → Session → Type 0
Keeps group trigger given s = rule_at group trigger s.rules ≡ latest trigger given

frozen_rules : (o : Option Operation) (setup : SmfSetup) (now : ℕ) (s : Session) → (freeze_by setup now o s).rules ≡ s.rules
frozen_rules None setup now s = refl
frozen_rules (Some o) setup now s = refl

finished_rules : (setup : SmfSetup) (now : ℕ) (s : Session) → (finished setup now s).rules ≡ s.rules
finished_rules setup now s = let v : Session = settled setup now s in frozen_rules (next_operation setup v) setup now v

detached_rules : (abnormal : Bool) (moment : ℕ) (s : Session) → (detached abnormal moment s).rules ≡ s.rules
detached_rules true moment s = refl
detached_rules false moment s = refl

broken_rules : (now : ℕ) (l : Life) (s : Session) → (broken_off now l s).rules ≡ s.rules
broken_rules now Live s = refl
broken_rules now Ending s = refl
broken_rules now Aborting s = refl
broken_rules now Ended s = refl

same_by : (b : Bool) (u v : Session) (rules : List Rule) → u.rules ≡ rules → v.rules ≡ rules → (cond {A = Session} b u v).rules ≡ rules
same_by true u v rules e f = e
same_by false u v rules e f = f

round_rules : (setup : SmfSetup) (now : ℕ) (s : Session) → (after_round setup now s).rules ≡ s.rules
round_rules setup now s =
    same_by (is_continue s.handling) (record (next_round setup now s) { groups = map continue_entry s.groups })
    (cond s.sending.unsent (ended_for GaveUp now s) (next_round setup now (broken_off now s.life s))) s.rules refl
    (same_by s.sending.unsent (ended_for GaveUp now s) (next_round setup now (broken_off now s.life s)) s.rules refl (broken_rules now s.life s))

lost_rules : (setup : SmfSetup) (now : ℕ) (loss : Loss) (s : Session) → (lost setup now loss s).rules ≡ s.rules
lost_rules setup now loss s =
    let v : Session = with_loss loss s in same_by (is_last v) (after_round setup now v) (next_turn v) s.rules (round_rules setup now v) refl

replied_keeps : (group : Option ℕ) (trigger : TriggerType) (now : ℕ) (reply : Reply) (o : Option Request) (s : Session) (given : List TriggerRule) → Keeps group trigger given s
    → Keeps group trigger (of_reply group reply o s.groups ++ given) (answered_by now reply o s)
replied_keeps group trigger now reply None s given h = h
replied_keeps group trigger now (Created reference answer) (Some q) s given h = answer_placed group trigger answer s.groups given s.rules h
replied_keeps group trigger now (Updated answer) (Some q) s given h = answer_placed group trigger answer s.groups given s.rules h
replied_keeps group trigger now Released (Some q) s given h = h
replied_keeps group trigger now (Refused problem) (Some q) s given h = h

same_keeps : (group : Option ℕ) (trigger : TriggerType) (setup : SmfSetup) (now : ℕ) (s u : Session) (given : List TriggerRule) → u.rules ≡ s.rules → Keeps group trigger given s → Keeps group trigger given (finished setup now u)
same_keeps group trigger setup now s u given e h = ap (rule_at group trigger) (finished_rules setup now u ∙ e) ∙ h

next_keeps : (b : Bool) (group : Option ℕ) (trigger : TriggerType) (setup : SmfSetup) (now number : ℕ) (event : SmfEvent) (s : Session) (given : List TriggerRule) → touches event s ≡ b → Keeps group trigger given s
    → Keeps group trigger (rules_in group setup now number event (Some s) ++ given) (cond b (finished setup now (effect setup now event s)) s)
next_keeps b group trigger setup now number (Attach session subscriber groups moment) s given e h = at b
  where
    at : (d : Bool) → Keeps group trigger given (cond d (finished setup now s) s)
    at true = same_keeps group trigger setup now s s given refl h
    at false = h
next_keeps true group trigger setup now number (Start session g moment) s given e h = same_keeps group trigger setup now s (effect setup now (Start session g moment) s) given refl h
next_keeps false group trigger setup now number (Start session g moment) s given e h = h
next_keeps true group trigger setup now number (Count session r) s given e h = same_keeps group trigger setup now s (effect setup now (Count session r) s) given refl h
next_keeps false group trigger setup now number (Count session r) s given e h = h
next_keeps true group trigger setup now number (Change session x moment) s given e h = same_keeps group trigger setup now s (effect setup now (Change session x moment) s) given refl h
next_keeps false group trigger setup now number (Change session x moment) s given e h = h
next_keeps true group trigger setup now number (Tick moment) s given e h = same_keeps group trigger setup now s s given refl h
next_keeps false group trigger setup now number (Tick moment) s given e h = h
next_keeps true group trigger setup now number (Detach session abnormal moment) s given e h = same_keeps group trigger setup now s (detached abnormal moment s) given (detached_rules abnormal moment s) h
next_keeps false group trigger setup now number (Detach session abnormal moment) s given e h = h
next_keeps true group trigger setup now number (Answered session place reply) s given e h =
    subst (λ d. Keeps group trigger (cond d (of_reply group reply s.request s.groups) [] ++ given) (finished setup now (answered_by now reply s.request s))) (sym e)
    (ap (rule_at group trigger) (finished_rules setup now (answered_by now reply s.request s)) ∙ replied_keeps group trigger now reply s.request s given h)
next_keeps false group trigger setup now number (Answered session place reply) s given e h =
    subst (λ d. Keeps group trigger (cond d (of_reply group reply s.request s.groups) [] ++ given) s) (sym e) h
next_keeps true group trigger setup now number (Attempt session peer) s given e h = same_keeps group trigger setup now s (effect setup now (Attempt session peer) s) given refl h
next_keeps false group trigger setup now number (Attempt session peer) s given e h = h
next_keeps true group trigger setup now number (NotSent session) s given e h = same_keeps group trigger setup now s (lost setup now Unsent s) given (lost_rules setup now Unsent s) h
next_keeps false group trigger setup now number (NotSent session) s given e h = h
next_keeps true group trigger setup now number (NoReply session) s given e h = same_keeps group trigger setup now s (lost setup now Unanswered s) given (lost_rules setup now Unanswered s) h
next_keeps false group trigger setup now number (NoReply session) s given e h = h
next_keeps true group trigger setup now number Restart s given e h = same_keeps group trigger setup now s (lost setup now Unanswered s) given (lost_rules setup now Unanswered s) h
next_keeps false group trigger setup now number Restart s given e h = h

found_keeps : (b : Bool) (group : Option ℕ) (trigger : TriggerType) (s : Session) → Keeps group trigger [] s → With (Keeps group trigger) [] (cond b (Some s) None)
found_keeps true group trigger s h = h
found_keeps false group trigger s h = refl

added_keeps : (group : Option ℕ) (trigger : TriggerType) (setup : SmfSetup) (now number : ℕ) (event : SmfEvent) → With (Keeps group trigger) (rules_in group setup now number event None ++ []) (session_of number (added_by setup now event))
added_keeps group trigger setup now number (Attach session subscriber groups moment) =
    let s : Session = with_request setup now Create (fresh setup session subscriber groups moment) in
    found_keeps ((finished setup now s).number == number) group trigger (finished setup now s) (ap (rule_at group trigger) (finished_rules setup now s))
added_keeps group trigger setup now number (Start session g moment) = refl
added_keeps group trigger setup now number (Count session r) = refl
added_keeps group trigger setup now number (Change session x moment) = refl
added_keeps group trigger setup now number (Tick moment) = refl
added_keeps group trigger setup now number (Detach session abnormal moment) = refl
added_keeps group trigger setup now number (Answered session place reply) = refl
added_keeps group trigger setup now number (Attempt session peer) = refl
added_keeps group trigger setup now number (NotSent session) = refl
added_keeps group trigger setup now number (NoReply session) = refl
added_keeps group trigger setup now number Restart = refl

rules_kept : (group : Option ℕ) (trigger : TriggerType) (setup : SmfSetup) → IsKept setup (Keeps group trigger) (rules_in group)
rules_kept group trigger setup = record {
  next = λ now number event s t is new h. next_keeps (touches event s) group trigger setup now number event s t refl h;
  added = λ now number event. added_keeps group trigger setup now number event;
}

-- category and limits of the latest rule

category_of : (trigger : TriggerType) (given : List TriggerRule) → option_map (λ (r : TriggerRule). r.immediate) (latest trigger given) ≡ latest_category trigger given
category_of trigger [] = refl
category_of trigger (r ∷ given) = at (same_type r.trigger trigger) (latest trigger given) (category_of trigger given)
  where
    at : (b : Bool) (o : Option TriggerRule) → option_map (λ (x : TriggerRule). x.immediate) o ≡ latest_category trigger given
        → option_map (λ (x : TriggerRule). x.immediate) (cond b (Some (after_earlier r o)) o) ≡ cond b (Some r.immediate) (latest_category trigger given)
    at true None ih = refl
    at true (Some x) ih = refl
    at false o ih = ih

-- a limit that a rule gives, or an earlier one
record IsLimit (limit : TriggerRule → Option ℕ) : Type 0 where
  first : (r : TriggerRule) → limit (after_earlier r None) ≡ limit r
  later : (r e : TriggerRule) → limit (after_earlier r (Some e)) ≡ or_earlier (limit r) (limit e)

or_none : (o : Option ℕ) → or_earlier o None ≡ o
or_none None = refl
or_none (Some a) = refl

limit_of : (limit : TriggerRule → Option ℕ) → IsLimit limit → (trigger : TriggerType) (given : List TriggerRule) → option_and_then limit (latest trigger given) ≡ latest_limit trigger limit given
limit_of limit is trigger [] = refl
limit_of limit is trigger (r ∷ given) = at (same_type r.trigger trigger) (latest trigger given) (limit_of limit is trigger given)
  where
    at : (b : Bool) (o : Option TriggerRule) → option_and_then limit o ≡ latest_limit trigger limit given
        → option_and_then limit (cond b (Some (after_earlier r o)) o) ≡ cond b (or_earlier (limit r) (latest_limit trigger limit given)) (latest_limit trigger limit given)
    at true None ih = is.first r ∙ sym (or_none (limit r)) ∙ ap (or_earlier (limit r)) ih
    at true (Some x) ih = is.later r x ∙ ap (or_earlier (limit r)) ih
    at false o ih = ih

kept_by : (given : Option ℕ → List TriggerRule) (s : Session) → ((group : Option ℕ) (trigger : TriggerType) → Keeps group trigger (given group) s) → AreLatest given s
kept_by given s h = record {
  categories = λ group trigger. ap (option_map (λ (r : TriggerRule). r.immediate)) (h group trigger) ∙ category_of trigger (given group);
  volumes = λ group. ap (option_and_then (λ (r : TriggerRule). r.volume)) (h group VolumeLimit) ∙ limit_of (λ r. r.volume) (record { first = λ r. refl; later = λ r e. refl }) VolumeLimit (given group);
  seconds = λ group. ap (option_and_then (λ (r : TriggerRule). r.seconds)) (h group TimeLimit) ∙ limit_of (λ r. r.seconds) (record { first = λ r. refl; later = λ r e. refl }) TimeLimit (given group);
  changes = ap (option_and_then (λ (r : TriggerRule). r.changes)) (h None MaxNumberOfChangesInChargingConditions) ∙ limit_of (λ r. r.changes) (record { first = λ r. refl; later = λ r e. refl }) MaxNumberOfChangesInChargingConditions (given None);
}

with_latest : (given : Option ℕ → List TriggerRule) (o : Option Session) → ((group : Option ℕ) (trigger : TriggerType) → With (Keeps group trigger) (given group) o) → RulesAreLatest given o
with_latest given None h = tt
with_latest given (Some s) h = kept_by given s h

pub latest_run : (setup : SmfSetup) (events : List SmfEvent) (number : ℕ) → RulesAreLatest (λ group. history (rules_in group) setup events number) (session_of number (machine_after setup events).sessions)
latest_run setup events number =
    with_latest (λ group. history (rules_in group) setup events number) (session_of number (machine_after setup events).sessions)
    (λ group trigger. over_all setup (Keeps group trigger) (rules_in group) (rules_kept group trigger setup) events number)
