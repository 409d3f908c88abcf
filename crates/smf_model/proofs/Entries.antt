-- No rating group of a session has two entries, and each container's rating group has one.
use Rattle.std.proofs.Common.{◌≡◌, ◌≢◌, ℕ, ◌+◌, ◌-◌, ◌<◌, ◌≤◌, ◌==◌, ◌&&◌, nat_lt, Bool, true, false, cond, List, [], ◌∷◌, ◌++◌, length, map, filter, fold, refl, sym, ◌∙◌, ap, subst, arith, ⊎_elim}
use Rattle.std.specs.Prelude.{Option, Some, None}
use Rattle.std.specs.List.{list_any}
use Rattle.std.proofs.lemmas.Bool.{eqb-true, eq-eqb, ne_eqb, lt-ltb, le-ltb, cases_order}
use Rattle.units.specs.declared.report.Report.{Report}
use Rattle.units.specs.declared.trigger.TriggerType.{TriggerType}
use Rattle.units.specs.declared.trigger.TriggerType.TheVariants.{Final, AbnormalRelease}
use Rattle.units.specs.declared.request.Operation.{Operation}
use Rattle.units.specs.declared.request.Request.{Request}
use Rattle.units.specs.declared.reply.Reply.{Reply}
use Rattle.units.specs.declared.reply.Reply.TheVariants.{Created, Updated, Released, Refused}
use Rattle.meter.specs.Joining.{extended}
use Rattle.smf_model.specs.declared.setup.SmfSetup.{SmfSetup}
use Rattle.smf_model.specs.declared.session.Life.{Life}
use Rattle.smf_model.specs.declared.session.Life.TheVariants.{Ending, Aborting, Ended}
use Rattle.smf_model.specs.declared.session.Why.{Why}
use Rattle.smf_model.specs.declared.session.Why.TheVariants.{NotSent as WasNotSent, HeldFull, Refused as WasRefused}
use Rattle.smf_model.specs.declared.session.Loss.{Loss}
use Rattle.smf_model.specs.declared.session.Peer.{Peer}
use Rattle.smf_model.specs.declared.session.Place.{Place}
use Rattle.smf_model.specs.declared.session.Place.TheVariants.{Frozen, Answered as AnsweredPlace, GivenUp}
use Rattle.smf_model.specs.declared.session.Holding.{Holding}
use Rattle.smf_model.specs.declared.session.Entry.{Entry}
use Rattle.smf_model.specs.declared.session.Session.{Session}
use Rattle.smf_model.specs.Settle.{is_open, is_waiting, is_frozen, is_open_of, entry_of, close, close_due, due_at, due_in, fire, settled}
use Rattle.smf_model.specs.Freeze.{waiting_count, move_oldest, next_operation, freeze_due, freeze_by, freeze_entry, with_request}
use Rattle.smf_model.specs.Traffic.{close_of, extend_of, first_of, count_entry, counted_by, or_new, asked_entry, with_asked, close_any, without_traffic, detached, ended, give_up, ended_for}
use Rattle.smf_model.specs.Sending.{attempted, latest_peer, with_peer}
use Rattle.smf_model.specs.Rounds.{with_loss, continue_entry, lost}
use Rattle.smf_model.specs.Replies.{answer_holding, answer_entry, replied, answered_by}
use Rattle.smf_model.specs.Machine.{finished}
use Rattle.smf_model.proofs.Losing.{KeptByLoss, lost_kept}
use Rattle.smf_model.proofs.Counted.{one_if, entries_at, AreApart, AreEntered}

pub record HasEntries (s : Session) : Type 0 where
  pub apart : AreApart s.groups
  pub entered : AreEntered s.groups s.holdings

entries_map : (f : Entry → Entry) (es : List Entry) (g : ℕ) → ((e : Entry) → (f e).number ≡ e.number) → entries_at g (map f es) ≡ entries_at g es
entries_map f [] g same = refl
entries_map f (e ∷ es) g same = ap (λ n. cond (g == n) 1 0 + entries_at g (map f es)) (same e) ∙ ap (λ n. cond (g == e.number) 1 0 + n) (entries_map f es g same)

apart_map : (f : Entry → Entry) (es : List Entry) → ((e : Entry) → (f e).number ≡ e.number) → AreApart es → AreApart (map f es)
apart_map f es same apart g = let e = entries_map f es g same in let l = apart g in omega (arith, e, l)

entered_groups : (es fs : List Entry) (hs : List Holding) → ((g : ℕ) → entries_at g es ≤ entries_at g fs) → AreEntered es hs → AreEntered fs hs
entered_groups es fs [] more a = tt
entered_groups es fs (h ∷ hs) more a = (let l = more h.container.group in omega (arith, l, a.0), entered_groups es fs hs more a.1)

pub entered_map : (es : List Entry) (f : Holding → Holding) (hs : List Holding) → ((h : Holding) → (f h).container.group ≡ h.container.group) → AreEntered es hs → AreEntered es (map f hs)
entered_map es f [] same a = tt
entered_map es f (h ∷ hs) same a = (subst (λ g. 0 < entries_at g es) (sym (same h)) a.0, entered_map es f hs same a.1)

entered_moved : (es : List Entry) (p : Place) (hs : List Holding) (most : ℕ) → AreEntered es hs → AreEntered es (move_oldest most p hs)
entered_moved es p [] most a = tt
entered_moved es p (h ∷ hs) most a = at (is_waiting h.place && nat_lt 0 most) (λ n. entered_moved es p hs n a.1)
  where
    at : (b : Bool) → ((n : ℕ) → AreEntered es (move_oldest n p hs)) → AreEntered es (cond b (record h { place = p } ∷ move_oldest (most - 1) p hs) (h ∷ move_oldest most p hs))
    at true k = (a.0, k (most - 1))
    at false k = (a.0, k most)

entered_push : (es : List Entry) (hs : List Holding) (h : Holding) → 0 < entries_at h.container.group es → AreEntered es hs → AreEntered es (hs ++ h ∷ [])
entered_push es [] h l a = (l, tt)
entered_push es (g ∷ hs) h l a = (a.0, entered_push es hs h l a.1)

-- a part that maps entries and containers
pub mapped_entries : (s u : Session) (f : Entry → Entry) (g : Holding → Holding) → u.groups ≡ map f s.groups → u.holdings ≡ map g s.holdings → ((e : Entry) → (f e).number ≡ e.number) → ((h : Holding) → (g h).container.group ≡ h.container.group)
    → HasEntries s → HasEntries u
mapped_entries s u f g groups holdings same_entry same_holding h =
    let apart : AreApart (map f s.groups) = apart_map f s.groups same_entry h.apart in
    let entered : AreEntered (map f s.groups) (map g s.holdings) =
    entered_groups s.groups (map f s.groups) (map g s.holdings) (λ k. let e = entries_map f s.groups k same_entry in omega (arith, e)) (entered_map s.groups g s.holdings same_holding h.entered) in
    record {
      apart = subst AreApart (sym groups) apart;
      entered = subst (λ es. AreEntered es u.holdings) (sym groups) (subst (λ hs. AreEntered (map f s.groups) hs) (sym holdings) entered);
    }

map_self : {X : Type 0} (xs : List X) → xs ≡ map (λ x. x) xs
map_self [] = refl
map_self (x ∷ xs) = ap (λ ys. x ∷ ys) (map_self xs)

pub same_entries : (s u : Session) (g : Holding → Holding) → u.groups ≡ s.groups → u.holdings ≡ map g s.holdings → ((h : Holding) → (g h).container.group ≡ h.container.group) → HasEntries s → HasEntries u
same_entries s u g groups holdings same h = mapped_entries s u (λ e. e) g (groups ∙ map_self s.groups) holdings (λ e. refl) same h

close_group : (m : ℕ) (o : Option TriggerType) (h : Holding) → (close m o h).container ≡ h.container
close_group m None h = refl
close_group m (Some x) h = refl

pick_group : (b : Bool) (x h : Holding) → x.container ≡ h.container → (cond b x h).container.group ≡ h.container.group
pick_group true x h e = ap (λ c. c.group) e
pick_group false x h e = refl

fire_number : (o : Option TriggerType) (e : Entry) → (fire o e).number ≡ e.number
fire_number None e = refl
fire_number (Some x) e = refl

close_due_group : (setup : SmfSetup) (now : ℕ) (s : Session) (h : Holding) → (close_due setup now s h).container.group ≡ h.container.group
close_due_group setup now s h = pick_group (is_open h.place) (close now (due_at setup now s (entry_of h.container.group s.groups)) h) h (close_group now (due_at setup now s (entry_of h.container.group s.groups)) h)

pub settled_entries : (setup : SmfSetup) (now : ℕ) (s : Session) → HasEntries s → HasEntries (settled setup now s)
settled_entries setup now s h = mapped_entries s (settled setup now s) (λ e. fire (due_in setup now s e) e) (close_due setup now s) refl refl (λ e. fire_number (due_in setup now s e) e) (close_due_group setup now s) h

pub asking_entries : (setup : SmfSetup) (now : ℕ) (o : Operation) (s : Session) → HasEntries s → HasEntries (with_request setup now o s)
asking_entries setup now o s h =
    let u : Session = record s { groups = map freeze_entry s.groups } in
    let k : HasEntries u = mapped_entries s u freeze_entry (λ x. x) refl (map_self s.holdings) (λ e. refl) (λ x. refl) h in
    record { apart = k.apart; entered = entered_moved u.groups Frozen s.holdings 500 k.entered }

freeze_entries : (next : Option Operation) (setup : SmfSetup) (now : ℕ) (s : Session) → HasEntries s → HasEntries (freeze_by setup now next s)
freeze_entries None setup now s h = h
freeze_entries (Some o) setup now s h = asking_entries setup now o s h

pub finished_entries : (setup : SmfSetup) (now : ℕ) (s : Session) → HasEntries s → HasEntries (finished setup now s)
finished_entries setup now s h =
    let u : Session = freeze_due setup now (settled setup now s) in
    let k : HasEntries u = freeze_entries (next_operation setup (settled setup now s)) setup now (settled setup now s) (settled_entries setup now s h) in
    record { apart = k.apart; entered = entered_moved u.groups (GivenUp HeldFull) u.holdings (waiting_count u.holdings - setup.held_max) k.entered }

close_any_group : (m : ℕ) (x : TriggerType) (h : Holding) → (close_any m x h).container.group ≡ h.container.group
close_any_group m x h = pick_group (is_open h.place) (close m (Some x) h) h refl

pub traffic_entries : (l : Life) (m : ℕ) (x : TriggerType) (s : Session) → HasEntries s → HasEntries (without_traffic l m x s)
traffic_entries l m x s h = same_entries s (without_traffic l m x s) (close_any m x) refl refl (close_any_group m x) h

answer_group : (h : Holding) → (answer_holding h).container.group ≡ h.container.group
answer_group h = pick_group (is_frozen h.place) (record h { place = AnsweredPlace }) h refl

give_up_group : (why : Why) (h : Holding) → (give_up why h).container.group ≡ h.container.group
give_up_group why h = pick_group _ (record h { place = GivenUp why }) h refl

again : (s u : Session) → u.groups ≡ s.groups → u.holdings ≡ s.holdings → HasEntries s → HasEntries u
again s u groups holdings h = same_entries s u (λ x. x) groups (holdings ∙ map_self s.holdings) (λ x. refl) h

over_entries : (why : Why) (now : ℕ) (s : Session) → HasEntries s → HasEntries (ended_for why now s)
over_entries why now s h =
    let u : Session = ended now s in
    same_entries u (ended_for why now s) (give_up why) refl refl (give_up_group why) (again (without_traffic Ended now AbnormalRelease s) u refl refl (traffic_entries Ended now AbnormalRelease s h))

replied_entries : (now stamp : ℕ) (p : Reply) (s : Session) → HasEntries s → HasEntries (replied now stamp p s)
replied_entries now stamp (Created reference answer) s h = mapped_entries s (replied now stamp (Created reference answer) s) (answer_entry stamp answer.units) answer_holding refl refl (λ e. refl) answer_group h
replied_entries now stamp (Updated answer) s h = mapped_entries s (replied now stamp (Updated answer) s) (answer_entry stamp answer.units) answer_holding refl refl (λ e. refl) answer_group h
replied_entries now stamp Released s h =
    let u : Session = record s { holdings = map answer_holding s.holdings } in
    again (without_traffic Ended now AbnormalRelease u) (replied now stamp Released s) refl refl (traffic_entries Ended now AbnormalRelease u (same_entries s u answer_holding refl refl answer_group h))
replied_entries now stamp (Refused problem) s h =
    over_entries WasRefused now s h

pub answered_entries : (now : ℕ) (p : Reply) (q : Option Request) (s : Session) → HasEntries s → HasEntries (answered_by now p q s)
answered_entries now p None s h = h
answered_entries now p (Some q) s h = again (replied now q.stamp p s) (with_peer (latest_peer s) (replied now q.stamp p s)) refl refl (replied_entries now q.stamp p s h)

-- the end of an attempt

entries_by_loss : KeptByLoss (λ t s. HasEntries s) (λ o. Unit {0})
entries_by_loss = record {
  sends = λ x t s latest flies unsent h. again s (record s { sending = x }) refl refl h;
  continues = λ t s h. mapped_entries s (record s { groups = map continue_entry s.groups }) continue_entry (λ x. x) refl (map_self s.holdings) (λ e. refl) (λ x. refl) h;
  breaks = λ now t s live h. traffic_entries Aborting now AbnormalRelease s h;
  gives_up = λ now t s landed unsent asked h. over_entries WasNotSent now s h;
}

pub lost_entries : (setup : SmfSetup) (now : ℕ) (loss : Loss) (s : Session) → HasEntries s → HasEntries (lost setup now loss s)
lost_entries setup now loss s h = lost_kept (λ t u. HasEntries u) (λ o. Unit {0}) entries_by_loss setup now loss [] s tt (again s (with_loss loss s) refl refl h)

pub attempted_entries : (peer : Peer) (s : Session) → HasEntries s → HasEntries (attempted peer s)
attempted_entries peer s h = again s (attempted peer s) refl refl h

pub detached_entries : (abnormal : Bool) (moment : ℕ) (s : Session) → HasEntries s → HasEntries (detached abnormal moment s)
detached_entries true moment s h = again (without_traffic Aborting moment AbnormalRelease s) (detached true moment s) refl refl (traffic_entries Aborting moment AbnormalRelease s h)
detached_entries false moment s h = again (without_traffic Ending moment Final s) (detached false moment s) refl refl (traffic_entries Ending moment Final s h)

pub changed_entries : (x : TriggerType) (m : ℕ) (s u : Session) → u.groups ≡ map (fire (Some x)) s.groups → u.holdings ≡ map (close_any m x) s.holdings → HasEntries s → HasEntries u
changed_entries x m s u groups holdings h = mapped_entries s u (fire (Some x)) (close_any m x) groups holdings (λ e. refl) (close_any_group m x) h

-- a report

pub found_entries : (group : ℕ) (es : List Entry) (e : Entry) → entry_of group es ≡ Some e → 0 < entries_at group es
found_entries group [] e h = cc
found_entries group (x ∷ es) e h = at (x.number == group) refl h (λ k. found_entries group es e k)
  where
    at : (b : Bool) → (x.number == group) ≡ b → cond b (Some x) (entry_of group es) ≡ Some e → (entry_of group es ≡ Some e → 0 < entries_at group es) → 0 < cond (group == x.number) 1 0 + entries_at group es
    at true is h k = let one : one_if (group == x.number) ≡ 1 = ap one_if (eq-eqb group x.number (sym (eqb-true x.number group is))) in omega (arith, one)
    at false is h k = let l = k h in omega (arith, l)

count_number : (r : Report) (e : Entry) → (count_entry r e).number ≡ e.number
count_number r e = at (e.number == r.group)
  where
    at : (b : Bool) → (cond b (record e { expected = r.number + 1; quota = Rattle.quotas.specs.Quota.used (r.up + r.down) r.seconds r.moment e.quota }) e).number ≡ e.number
    at true = refl
    at false = refl

close_of_group : (group m : ℕ) (o : Option TriggerType) (h : Holding) → (close_of group m o h).container.group ≡ h.container.group
close_of_group group m o h = pick_group (is_open_of group h) (close m o h) h (close_group m o h)

extend_group : (r : Report) (h : Holding) → (extend_of r h).container.group ≡ h.container.group
extend_group r h = at (is_open_of r.group h)
  where
    at : (b : Bool) → (cond b (record h { container = extended h.container r }) h).container.group ≡ h.container.group
    at true = refl
    at false = refl

pub counted_entries : (r : Report) (o : Option TriggerType) (s : Session) (e : Entry) → entry_of r.group s.groups ≡ Some e → HasEntries s → HasEntries (counted_by r o s)
counted_entries r o s e found h = record { apart = k.apart; entered = at (list_any (is_open_of r.group) closed) }
  where
    closed : List Holding
    closed = map (close_of r.group r.moment o) s.holdings

    k : HasEntries (record s { groups = map (count_entry r) s.groups; holdings = closed })
    k = mapped_entries s (record s { groups = map (count_entry r) s.groups; holdings = closed }) (count_entry r) (close_of r.group r.moment o) refl refl (count_number r) (close_of_group r.group r.moment o) h

    there : 0 < entries_at r.group (map (count_entry r) s.groups)
    there = let l = found_entries r.group s.groups e found in let same = entries_map (count_entry r) s.groups r.group (count_number r) in omega (arith, l, same)

    at : (b : Bool) → AreEntered (map (count_entry r) s.groups) (cond b (map (extend_of r) closed) (closed ++ first_of (length closed + 1) r ∷ []))
    at true = entered_map (map (count_entry r) s.groups) (extend_of r) closed (extend_group r) k.entered
    at false = entered_push (map (count_entry r) s.groups) closed (first_of (length closed + 1) r) there k.entered

-- traffic begins

entries_append : (g : ℕ) (es fs : List Entry) → entries_at g (es ++ fs) ≡ entries_at g es + entries_at g fs
entries_append g [] fs = omega arith
entries_append g (e ∷ es) fs = let k = entries_append g es fs in omega (arith, k)

entries_kept : (p : Entry → Bool) (g : ℕ) (es : List Entry) → ((e : Entry) → e.number ≡ g → p e ≡ true) → entries_at g (filter p es) ≡ entries_at g es
entries_kept p g [] passes = refl
entries_kept p g (e ∷ es) passes = at (p e) (g == e.number) refl refl (entries_kept p g es passes)
  where
    at : (x b : Bool) → p e ≡ x → (g == e.number) ≡ b → entries_at g (filter p es) ≡ entries_at g es → entries_at g (cond x (e ∷ filter p es) (filter p es)) ≡ cond b 1 0 + entries_at g es
    at true b px is k = let one : one_if (g == e.number) ≡ one_if b = ap one_if is in omega (arith, k, one)
    at false true px is k = absurd (let f : false ≡ true = sym px ∙ passes e (sym (eqb-true g e.number is)) in cc)
    at false false px is k = omega (arith, k)

entries_gone : (p : Entry → Bool) (g : ℕ) (es : List Entry) → ((e : Entry) → e.number ≡ g → p e ≡ false) → entries_at g (filter p es) ≡ 0
entries_gone p g [] fails = refl
entries_gone p g (e ∷ es) fails = at (p e) (g == e.number) refl refl (entries_gone p g es fails)
  where
    at : (x b : Bool) → p e ≡ x → (g == e.number) ≡ b → entries_at g (filter p es) ≡ 0 → entries_at g (cond x (e ∷ filter p es) (filter p es)) ≡ 0
    at true true px is k = absurd (let f : true ≡ false = sym px ∙ fails e (sym (eqb-true g e.number is)) in cc)
    at true false px is k = let none : one_if (g == e.number) ≡ 0 = ap one_if is in omega (arith, k, none)
    at false b px is k = k

pub found_number : (group : ℕ) (es : List Entry) → (or_new group (entry_of group es)).number ≡ group
found_number group [] = refl
found_number group (x ∷ es) = at (x.number == group) refl (found_number group es)
  where
    at : (b : Bool) → (x.number == group) ≡ b → (or_new group (entry_of group es)).number ≡ group → (or_new group (cond b (Some x) (entry_of group es))).number ≡ group
    at true is k = eqb-true x.number group is
    at false is k = k

-- the entries of a rating group after it asked
pub entries_asked : (group g : ℕ) (es : List Entry) → (g ≡ group → entries_at g (with_asked group es) ≡ 1) × (g ≢ group → entries_at g (with_asked group es) ≡ entries_at g es)
entries_asked group g es = (own, other)
  where
    low : List Entry
    low = filter (λ e. nat_lt e.number group) es

    high : List Entry
    high = filter (λ e. nat_lt group e.number) es

    whole : entries_at g (with_asked group es) ≡ entries_at g low + (cond (g == (or_new group (entry_of group es)).number) 1 0 + entries_at g high)
    whole = entries_append g low (asked_entry (or_new group (entry_of group es)) ∷ high)

    named : one_if (g == (or_new group (entry_of group es)).number) ≡ one_if (g == group)
    named = ap (λ n. one_if (g == n)) (found_number group es)

    own : g ≡ group → entries_at g (with_asked group es) ≡ 1
    own is =
        let none_low : entries_at g low ≡ 0 = entries_gone (λ e. nat_lt e.number group) g es (λ e n. le-ltb e.number group (omega (arith, n, is))) in
        let none_high : entries_at g high ≡ 0 = entries_gone (λ e. nat_lt group e.number) g es (λ e n. le-ltb group e.number (omega (arith, n, is))) in
        let one : one_if (g == group) ≡ 1 = ap one_if (eq-eqb g group is) in
        omega (arith, whole, named, none_low, none_high, one)

    other : g ≢ group → entries_at g (with_asked group es) ≡ entries_at g es
    other away = ⊎_elim
        (λ (same : g ≡ group). absurd (away same))
        (λ lower. ⊎_elim
        (λ (less : g < group).
        let all_low : entries_at g low ≡ entries_at g es = entries_kept (λ e. nat_lt e.number group) g es (λ e n. lt-ltb e.number group (omega (arith, n, less))) in
        let none_high : entries_at g high ≡ 0 = entries_gone (λ e. nat_lt group e.number) g es (λ e n. le-ltb group e.number (omega (arith, n, less))) in
        let none : one_if (g == group) ≡ 0 = ap one_if (ne_eqb g group away) in
        omega (arith, whole, named, all_low, none_high, none))
        (λ (more : group < g).
        let none_low : entries_at g low ≡ 0 = entries_gone (λ e. nat_lt e.number group) g es (λ e n. le-ltb e.number group (omega (arith, n, more))) in
        let all_high : entries_at g high ≡ entries_at g es = entries_kept (λ e. nat_lt group e.number) g es (λ e n. lt-ltb group e.number (omega (arith, n, more))) in
        let none : one_if (g == group) ≡ 0 = ap one_if (ne_eqb g group away) in
        omega (arith, whole, named, none_low, all_high, none))
        lower)
        (cases_order g group)

apart_asked : (group : ℕ) (es : List Entry) → AreApart es → AreApart (with_asked group es)
apart_asked group es apart g = at (g == group) refl
  where
    at : (b : Bool) → (g == group) ≡ b → entries_at g (with_asked group es) ≤ 1
    at true is = let one = (entries_asked group g es).0 (eqb-true g group is) in omega (arith, one)
    at false is = let same = (entries_asked group g es).1 (λ e. absurd (let f : true ≡ false = sym (eq-eqb g group e) ∙ is in cc)) in let l = apart g in omega (arith, same, l)

more_asked : (group : ℕ) (es : List Entry) → AreApart es → (g : ℕ) → entries_at g es ≤ entries_at g (with_asked group es)
more_asked group es apart g = at (g == group) refl
  where
    at : (b : Bool) → (g == group) ≡ b → entries_at g es ≤ entries_at g (with_asked group es)
    at true is = let one = (entries_asked group g es).0 (eqb-true g group is) in let l = apart g in omega (arith, one, l)
    at false is = let same = (entries_asked group g es).1 (λ e. absurd (let f : true ≡ false = sym (eq-eqb g group e) ∙ is in cc)) in omega (arith, same)

pub started_entries : (group : ℕ) (s u : Session) → u.groups ≡ with_asked group s.groups → u.holdings ≡ s.holdings → HasEntries s → HasEntries u
started_entries group s u groups holdings h = record {
  apart = subst AreApart (sym groups) (apart_asked group s.groups h.apart);
  entered = subst (λ es. AreEntered es u.holdings) (sym groups) (subst (λ hs. AreEntered (with_asked group s.groups) hs) (sym holdings) (entered_groups s.groups (with_asked group s.groups) s.holdings (more_asked group s.groups h.apart) h.entered));
}

pub apart_all : (groups : List ℕ) (es : List Entry) → AreApart es → AreApart (fold (λ entries group. with_asked group entries) es groups)
apart_all [] es apart = apart
apart_all (g ∷ groups) es apart = apart_all groups (with_asked g es) (apart_asked g es apart)
