-- A session and the reports that were counted, through each part of an event.
use Rattle.smf_model.specs.Rounds.{continue_entry}
use Rattle.std.proofs.Common.{◌≡◌, ℕ, ◌+◌, ◌-◌, ◌&&◌, nat_lt, Bool, true, false, cond, List, [], ◌∷◌, ◌++◌, length, map, fold, refl, sym, ◌∙◌, ap, subst, append_assoc}
use Rattle.std.specs.Prelude.{Option, Some, None}
use Rattle.units.specs.declared.report.Report.{Report}
use Rattle.units.specs.declared.trigger.TriggerType.{TriggerType}
use Rattle.units.specs.declared.trigger.TriggerType.TheVariants.{Final, AbnormalRelease}
use Rattle.units.specs.declared.request.Operation.{Operation}
use Rattle.units.specs.Cut.{reports_of, containers_of, IsCut}
use Rattle.meter.specs.declared.horizon.Horizon.{Horizon}
use Rattle.meter.specs.Horizons.{AreForeseen}
use Rattle.sessions.specs.Trace.{Move}
use Rattle.sessions.specs.Trace.Move.{Freezes, Drops}
use Rattle.smf_model.specs.declared.setup.SmfSetup.{SmfSetup}
use Rattle.smf_model.specs.declared.session.Why.TheVariants.{HeldFull}
use Rattle.smf_model.specs.declared.session.Place.TheVariants.{Frozen, GivenUp}
use Rattle.smf_model.specs.declared.session.Holding.{Holding}
use Rattle.smf_model.specs.declared.session.Entry.{Entry}
use Rattle.smf_model.specs.declared.session.Session.{Session}
use Rattle.smf_model.specs.Settle.{is_open, is_waiting, entry_of, close, close_due, due_at, due_in, fire, settled}
use Rattle.smf_model.specs.Freeze.{waiting_count, next_operation, freeze_due, freeze_by, freeze_entry, request_of, with_request}
use Rattle.smf_model.specs.Traffic.{horizon_in, or_new, asked_entry, with_asked, close_any, detached}
use Rattle.smf_model.specs.Machine.{expected_in, expected_of, finished}
use Rattle.smf_model.specs.Trace.{close_moves, closes_of, closes_all, settle_moves, freeze_moves_by, drop_moves, finish_moves}
use Rattle.smf_model.specs.Reports.{in_order, AreCountedFrom}
use Rattle.smf_model.specs.GivenHorizons.{horizons_in, AreAllowed}
use Rattle.smf_model.proofs.Lookups.{entry_then, found_mapped, read_asked}
use Rattle.smf_model.proofs.Lasts.{AreSame, same_self, same_mapped, same_moved, same_containers, own, OpenAreLast, last_same}

-- a session is as its reports make it
pub record Reported (t : List Move) (u : List Report) (s : Session) : Type 0 where
  pub numbered : (group : ℕ) → AreCountedFrom 1 (reports_of group (in_order u))
  pub expected : (group : ℕ) → expected_of group s ≡ 1 + length (reports_of group (in_order u))
  pub last : OpenAreLast s.holdings
  pub horizon : (group : ℕ) (switches : ℕ → Bool) → AreAllowed (horizons_in group t) switches → AreForeseen (horizon_in (entry_of group s.groups)) switches
  pub cuts : (group : ℕ) (switches : ℕ → Bool) → AreAllowed (horizons_in group t) switches → IsCut switches (reports_of group (in_order u)) (own group s.holdings)

-- a part that leaves the containers, the next numbers and the horizons as they are
pub record IsQuiet (t : List Move) (s : Session) (w : List Move) (v : Session) : Type 0 where
  pub holdings : AreSame s.holdings v.holdings
  pub expected : (group : ℕ) → expected_of group v ≡ expected_of group s
  pub horizon : (group : ℕ) → horizon_in (entry_of group v.groups) ≡ horizon_in (entry_of group s.groups)
  pub horizons : (group : ℕ) → horizons_in group w ≡ horizons_in group t

pub quiet : (t w : List Move) (u : List Report) (s v : Session) → IsQuiet t s w v → Reported t u s → Reported w u v
quiet t w u s v q h = record {
  numbered = h.numbered;
  expected = λ group. q.expected group ∙ h.expected group;
  last = last_same s.holdings v.holdings q.holdings h.last;
  horizon = λ group switches allowed. subst (λ o. AreForeseen o switches) (sym (q.horizon group)) (h.horizon group switches (subst (λ l. AreAllowed l switches) (q.horizons group) allowed));
  cuts = λ group switches allowed.
      subst (λ cs. IsCut switches (reports_of group (in_order u)) (containers_of group cs)) (sym (same_containers s.holdings v.holdings q.holdings))
      (h.cuts group switches (subst (λ l. AreAllowed l switches) (q.horizons group) allowed));
}

-- moves that give no horizon

pub closes_horizons : (m : ℕ) (closing : Holding → Option TriggerType) (hs : List Holding) (t : List Move) (group : ℕ) → horizons_in group (closes_of m closing hs ++ t) ≡ horizons_in group t
closes_horizons m closing [] t group = refl
closes_horizons m closing (h ∷ hs) t group = at (closing h) (closes_horizons m closing hs t group)
  where
    at : (x : Option TriggerType) → horizons_in group (closes_of m closing hs ++ t) ≡ horizons_in group t → horizons_in group ((close_moves m h x ++ closes_of m closing hs) ++ t) ≡ horizons_in group t
    at None e = e
    at (Some x) e = e

drops_horizons : (most : ℕ) (hs : List Holding) (t : List Move) (group : ℕ) → horizons_in group (drop_moves most hs ++ t) ≡ horizons_in group t
drops_horizons most [] t group = refl
drops_horizons most (h ∷ hs) t group = at (is_waiting h.place && nat_lt 0 most) (λ n. drops_horizons n hs t group)
  where
    at : (b : Bool) → ((n : ℕ) → horizons_in group (drop_moves n hs ++ t) ≡ horizons_in group t) → horizons_in group (cond b (Drops h.container.lsn ∷ drop_moves (most - 1) hs) (drop_moves most hs) ++ t) ≡ horizons_in group t
    at true e = e (most - 1)
    at false e = e most

-- what is read of an entry after each entry is changed
read_mapped : {X : Type 0} (read : Option Entry → X) (f : Entry → Entry) (es : List Entry) (group : ℕ) → ((e : Entry) → (f e).number ≡ e.number) → ((o : Option Entry) → read (entry_then f o) ≡ read o) → read (entry_of group (map f es)) ≡ read (entry_of group es)
read_mapped read f es group same reads = ap read (found_mapped f es group same) ∙ reads (entry_of group es)

fire_number : (o : Option TriggerType) (e : Entry) → (fire o e).number ≡ e.number
fire_number None e = refl
fire_number (Some x) e = refl

fire_expected : (o : Option TriggerType) (e : Entry) → (fire o e).expected ≡ e.expected
fire_expected None e = refl
fire_expected (Some x) e = refl

fire_horizon : (o : Option TriggerType) (e : Entry) → (fire o e).horizon ≡ e.horizon
fire_horizon None e = refl
fire_horizon (Some x) e = refl

expected_then : (f : Entry → Entry) → ((e : Entry) → (f e).expected ≡ e.expected) → (o : Option Entry) → expected_in (entry_then f o) ≡ expected_in o
expected_then f same None = refl
expected_then f same (Some e) = same e

horizon_then : (f : Entry → Entry) → ((e : Entry) → (f e).horizon ≡ e.horizon) → (o : Option Entry) → horizon_in (entry_then f o) ≡ horizon_in o
horizon_then f same None = refl
horizon_then f same (Some e) = same e

-- a container that a test closes or moves
pub shut_if : (b : Bool) (x h : Holding) → x.container ≡ h.container → (is_open x.place ≡ true → is_open h.place ≡ true) → ((cond b x h).container ≡ h.container) × (is_open (cond b x h).place ≡ true → is_open h.place ≡ true)
shut_if true x h same open_it = (same, open_it)
shut_if false x h same open_it = (refl, λ e. e)

pub close_same : (m : ℕ) (o : Option TriggerType) (h : Holding) → ((close m o h).container ≡ h.container) × (is_open (close m o h).place ≡ true → is_open h.place ≡ true)
close_same m None h = (refl, λ e. e)
close_same m (Some x) h = (refl, λ e. cc)

shut_any : (m : ℕ) (x : TriggerType) (hs : List Holding) → AreSame hs (map (close_any m x) hs)
shut_any m x hs = same_mapped (close_any m x) hs (λ h. let c = close_same m (Some x) h in shut_if (is_open h.place) (close m (Some x) h) h c.0 c.1)

settled_quiet : (setup : SmfSetup) (now : ℕ) (t : List Move) (s : Session) → IsQuiet t s (settle_moves setup now s ++ t) (settled setup now s)
settled_quiet setup now t s = record {
  holdings = same_mapped (close_due setup now s) s.holdings (λ h. let c = close_same now (due_at setup now s (entry_of h.container.group s.groups)) h in shut_if (is_open h.place) (close now (due_at setup now s (entry_of h.container.group s.groups)) h) h c.0 c.1);
  expected = λ group. read_mapped expected_in (λ e. fire (due_in setup now s e) e) s.groups group (λ e. fire_number (due_in setup now s e) e) (expected_then (λ e. fire (due_in setup now s e) e) (λ e. fire_expected (due_in setup now s e) e));
  horizon = λ group. read_mapped horizon_in (λ e. fire (due_in setup now s e) e) s.groups group (λ e. fire_number (due_in setup now s e) e) (horizon_then (λ e. fire (due_in setup now s e) e) (λ e. fire_horizon (due_in setup now s e) e));
  horizons = λ group. closes_horizons now _ s.holdings t group;
}

pub asking_quiet : (setup : SmfSetup) (now : ℕ) (o : Operation) (t : List Move) (s : Session) → IsQuiet t s (Freezes (request_of setup now s o) ∷ t) (with_request setup now o s)
asking_quiet setup now o t s = record {
  holdings = same_moved 500 Frozen s.holdings refl;
  expected = λ group. read_mapped expected_in freeze_entry s.groups group (λ e. refl) (expected_then freeze_entry (λ e. refl));
  horizon = λ group. read_mapped horizon_in freeze_entry s.groups group (λ e. refl) (horizon_then freeze_entry (λ e. refl));
  horizons = λ group. refl;
}

pub continued_quiet : (t : List Move) (s : Session) → IsQuiet t s t (record s { groups = map continue_entry s.groups })
continued_quiet t s = record {
  holdings = same_self s.holdings;
  expected = λ group. read_mapped expected_in continue_entry s.groups group (λ e. refl) (expected_then continue_entry (λ e. refl));
  horizon = λ group. read_mapped horizon_in continue_entry s.groups group (λ e. refl) (horizon_then continue_entry (λ e. refl));
  horizons = λ group. refl;
}

still_quiet : (t : List Move) (s : Session) → IsQuiet t s t s
still_quiet t s = record { holdings = same_self s.holdings; expected = λ group. refl; horizon = λ group. refl; horizons = λ group. refl }

freeze_quiet : (next : Option Operation) (setup : SmfSetup) (now : ℕ) (t : List Move) (s : Session) → IsQuiet t s (freeze_moves_by setup now s next ++ t) (freeze_by setup now next s)
freeze_quiet None setup now t s = still_quiet t s
freeze_quiet (Some o) setup now t s = asking_quiet setup now o t s

pub finished_reported : (setup : SmfSetup) (now : ℕ) (t : List Move) (u : List Report) (s : Session) → Reported t u s → Reported (finish_moves setup now s ++ t) u (finished setup now s)
finished_reported setup now t u s h =
    let v : Session = settled setup now s in
    let w : Session = freeze_due setup now v in
    let c : List Move = settle_moves setup now s in
    let f : List Move = freeze_moves_by setup now v (next_operation setup v) in
    let over : ℕ = waiting_count w.holdings - setup.held_max in
    let k : Reported (f ++ (c ++ t)) u w = quiet (c ++ t) (f ++ (c ++ t)) u v w (freeze_quiet (next_operation setup v) setup now (c ++ t) v) (quiet t (c ++ t) u s v (settled_quiet setup now t s) h) in
    let all : Reported (drop_moves over w.holdings ++ (f ++ (c ++ t))) u (finished setup now s) =
    quiet (f ++ (c ++ t)) (drop_moves over w.holdings ++ (f ++ (c ++ t))) u w (finished setup now s)
    (record { holdings = same_moved over (GivenUp HeldFull) w.holdings refl; expected = λ group. refl; horizon = λ group. refl; horizons = λ group. drops_horizons over w.holdings (f ++ (c ++ t)) group }) k in
    rw (append_assoc, append_assoc) all

-- a change, an end, traffic that begins

pub changed_quiet : (x : TriggerType) (m : ℕ) (t : List Move) (s v : Session) → v.groups ≡ map (fire (Some x)) s.groups → v.holdings ≡ map (close_any m x) s.holdings → IsQuiet t s (closes_all m x s ++ t) v
changed_quiet x m t s v groups holdings = record {
  holdings = subst (λ hs. AreSame s.holdings hs) (sym holdings) (shut_any m x s.holdings);
  expected = λ group. ap (λ es. expected_in (entry_of group es)) groups ∙ read_mapped expected_in (fire (Some x)) s.groups group (λ e. refl) (expected_then (fire (Some x)) (λ e. refl));
  horizon = λ group. ap (λ es. horizon_in (entry_of group es)) groups ∙ read_mapped horizon_in (fire (Some x)) s.groups group (λ e. refl) (horizon_then (fire (Some x)) (λ e. refl));
  horizons = λ group. closes_horizons m _ s.holdings t group;
}

pub shut_quiet : (m : ℕ) (x : TriggerType) (t : List Move) (s v : Session) → v.groups ≡ s.groups → v.holdings ≡ map (close_any m x) s.holdings → IsQuiet t s (closes_all m x s ++ t) v
shut_quiet m x t s v groups holdings = record {
  holdings = subst (λ hs. AreSame s.holdings hs) (sym holdings) (shut_any m x s.holdings);
  expected = λ group. ap (λ es. expected_in (entry_of group es)) groups;
  horizon = λ group. ap (λ es. horizon_in (entry_of group es)) groups;
  horizons = λ group. closes_horizons m _ s.holdings t group;
}

pub detached_quiet : (abnormal : Bool) (moment : ℕ) (t : List Move) (s : Session) → IsQuiet t s (closes_all moment (cond abnormal AbnormalRelease Final) s ++ t) (detached abnormal moment s)
detached_quiet true moment t s = shut_quiet moment AbnormalRelease t s (detached true moment s) refl refl
detached_quiet false moment t s = shut_quiet moment Final t s (detached false moment s) refl refl

asked_expected : (group : ℕ) (o : Option Entry) → expected_in (Some (asked_entry (or_new group o))) ≡ expected_in o
asked_expected group None = refl
asked_expected group (Some e) = refl

asked_horizon : (group : ℕ) (o : Option Entry) → horizon_in (Some (asked_entry (or_new group o))) ≡ horizon_in o
asked_horizon group None = refl
asked_horizon group (Some e) = refl

pub started_quiet : (group : ℕ) (t : List Move) (s v : Session) → v.groups ≡ with_asked group s.groups → v.holdings ≡ s.holdings → IsQuiet t s t v
started_quiet group t s v groups holdings = record {
  holdings = subst (λ hs. AreSame s.holdings hs) (sym holdings) (same_self s.holdings);
  expected = λ g. ap (λ es. expected_in (entry_of g es)) groups ∙ read_asked expected_in group g s.groups (asked_expected group);
  horizon = λ g. ap (λ es. horizon_in (entry_of g es)) groups ∙ read_asked horizon_in group g s.groups (asked_horizon group);
  horizons = λ g. refl;
}

-- the entries of a new session expect the first report, and have no horizon
pub new_expected : (groups : List ℕ) (es : List Entry) (g : ℕ) → expected_in (entry_of g (fold (λ entries group. with_asked group entries) es groups)) ≡ expected_in (entry_of g es)
new_expected [] es g = refl
new_expected (x ∷ groups) es g = new_expected groups (with_asked x es) g ∙ read_asked expected_in x g es (asked_expected x)

pub new_horizon : (groups : List ℕ) (es : List Entry) (g : ℕ) → horizon_in (entry_of g (fold (λ entries group. with_asked group entries) es groups)) ≡ horizon_in (entry_of g es)
new_horizon [] es g = refl
new_horizon (x ∷ groups) es g = new_horizon groups (with_asked x es) g ∙ read_asked horizon_in x g es (asked_horizon x)

pub no_horizon : (switches : ℕ → Bool) (horizons : List Horizon) → AreAllowed horizons switches → AreForeseen None switches
no_horizon switches horizons allowed = record { hours = allowed.hours; none_within = λ moment e. cc }
