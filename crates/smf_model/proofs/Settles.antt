-- Once a session is settled, no trigger of its rating groups is due at that moment.
use Rattle.std.proofs.Common.{◌≡◌, ℕ, ◌<◌, ◌≤◌, ◌==◌, ◌&&◌, List, [], ◌∷◌, map, refl, sym, ap, eq-eqb, ◌∙◌, arith, Bool, true, false, cond, ◌⊎◌, inl, inr}
use Rattle.std.specs.Prelude.{Option, Some, None}
use Rattle.std.specs.List.{AllByRecursion, find}
use Rattle.std.proofs.lemmas.Bool.{eqb-true}
use Rattle.units.specs.declared.report.Container.{Container}
use Rattle.units.specs.declared.trigger.TriggerType.{TriggerType}
use Rattle.meter.specs.Horizons.{has_unsafe}
use Rattle.quotas.specs.declared.state.Limits.{Limits}
use Rattle.quotas.specs.Quota.{Quota}
use Rattle.quotas.specs.Due.{due_of, in_open}
use Rattle.quotas.specs.Laws.{IsQuietAfter}
use Rattle.sessions.specs.Trace.{Move}
use Rattle.smf_model.specs.declared.setup.SmfSetup.{SmfSetup}
use Rattle.smf_model.specs.declared.session.Holding.{Holding}
use Rattle.smf_model.specs.declared.session.Entry.{Entry}
use Rattle.smf_model.specs.declared.session.Session.{Session}
use Rattle.smf_model.specs.declared.event.SmfEvent.{SmfEvent}
use Rattle.smf_model.specs.Rules.{limits_of}
use Rattle.smf_model.specs.Settle.{is_open, is_open_of, container_in, open_of, entry_of, due_with, due_in, due_at, fire, close, close_due, settled}
use Rattle.smf_model.specs.Machine.{machine_after, session_of}
use Rattle.smf_model.specs.Trace.{trace}
use Rattle.smf_model.specs.Quotas.{NoneIsDue}
use Rattle.smf_model.proofs.Counted.{one_if, entries_at, AreApart}
use Rattle.smf_model.proofs.Entries.{found_entries}
use Rattle.smf_model.proofs.Lifting.{With}
use Rattle.smf_model.proofs.Traces.{StandsWhole, whole_run}

-- the entry that is found is the one that stands there
abbrev Finds : List Entry → Entry → Type 0
Finds es e = entry_of e.number es ≡ Some e

behind : (x : Entry) (es rest : List Entry) → AreApart (x ∷ es) → AllByRecursion (Finds es) rest → AllByRecursion (Finds (x ∷ es)) rest
behind x es [] apart a = tt
behind x es (e ∷ rest) apart a = (ap (λ b. cond b (Some x) (entry_of e.number es)) (away (x.number == e.number) refl) ∙ a.0, behind x es rest apart a.1)
  where
    away : (b : Bool) → (x.number == e.number) ≡ b → b ≡ false
    away false is = refl
    away true is = absurd (
        let there : 0 < entries_at e.number es = found_entries e.number es e a.0 in
        let most : entries_at e.number (x ∷ es) ≤ 1 = apart e.number in
        let one : one_if (e.number == x.number) ≡ 1 = ap one_if (eq-eqb e.number x.number (sym (eqb-true x.number e.number is))) in
        omega (arith, there, most, one))

fewer : (x : Entry) (es : List Entry) → AreApart (x ∷ es) → AreApart es
fewer x es apart g = let most : entries_at g (x ∷ es) ≤ 1 = apart g in omega (arith, most)

all_found : (es : List Entry) → AreApart es → AllByRecursion (Finds es) es
all_found [] apart = tt
all_found (e ∷ es) apart = (ap (λ b. cond b (Some e) (entry_of e.number es)) (eq-eqb e.number e.number refl), behind e es es apart (all_found es (fewer e es apart)))

-- containers

find_same : (p : Holding → Bool) (f : Holding → Holding) (hs : List Holding) → ((h : Holding) → (f h ≡ h) ⊎ ((p (f h) ≡ false) × (p h ≡ false))) → find p (map f hs) ≡ find p hs
find_same p f [] k = refl
find_same p f (h ∷ hs) k = at (k h) (find_same p f hs k)
  where
    at : (f h ≡ h) ⊎ ((p (f h) ≡ false) × (p h ≡ false)) → find p (map f hs) ≡ find p hs → cond (p (f h)) (Some (f h)) (find p (map f hs)) ≡ cond (p h) (Some h) (find p hs)
    at (inl e) rest = ap (λ x. cond (p x) (Some x) (find p (map f hs))) e ∙ ap (λ r. cond (p h) (Some h) r) rest
    at (inr e) rest = ap (λ b. cond b (Some (f h)) (find p (map f hs))) e.0 ∙ rest ∙ ap (λ b. cond b (Some h) (find p hs)) (sym e.1)

find_none : (p : Holding → Bool) (f : Holding → Holding) (hs : List Holding) → ((h : Holding) → p (f h) ≡ false) → find p (map f hs) ≡ None
find_none p f [] k = refl
find_none p f (h ∷ hs) k = ap (λ b. cond b (Some (f h)) (find p (map f hs))) (k h) ∙ find_none p f hs k

close_container : (now : ℕ) (o : Option TriggerType) (h : Holding) → (close now o h).container ≡ h.container
close_container now None h = refl
close_container now (Some x) h = refl

closed_container : (b : Bool) (now : ℕ) (o : Option TriggerType) (h : Holding) → (cond b (close now o h) h).container ≡ h.container
closed_container true now o h = close_container now o h
closed_container false now o h = refl

and_false : (b : Bool) → (b && false) ≡ false
and_false true = refl
and_false false = refl

other_group : (n : ℕ) (h k : Holding) → k.container ≡ h.container → (h.container.group == n) ≡ false → is_open_of n k ≡ false
other_group n h k same g = ap (λ (c : Container). (c.group == n) && is_open k.place) same ∙ ap (λ b. b && is_open k.place) g

-- where nothing is due for a group its containers stay; where something is, none of it is open after
unclosed : (b g : Bool) (now n : ℕ) (o : Option TriggerType) (h : Holding) → (h.container.group == n) ≡ g → ((h.container.group == n) ≡ true → o ≡ None)
    → (cond b (close now o h) h ≡ h) ⊎ ((is_open_of n (cond b (close now o h) h) ≡ false) × (is_open_of n h ≡ false))
unclosed true true now n o h g none = inl (ap (λ x. close now x h) (none g))
unclosed false true now n o h g none = inl refl
unclosed b false now n o h g none = inr (other_group n h (cond b (close now o h) h) (closed_container b now o h) g, other_group n h h refl g)

shut_one : (b g : Bool) (now n : ℕ) (o : Option TriggerType) (x : TriggerType) (h : Holding) → is_open h.place ≡ b → (h.container.group == n) ≡ g → ((h.container.group == n) ≡ true → o ≡ Some x)
    → is_open_of n (cond b (close now o h) h) ≡ false
shut_one true true now n o x h open_it g some = ap (λ y. is_open_of n (close now y h)) (some g) ∙ and_false (h.container.group == n)
shut_one false true now n o x h open_it g some = ap (λ b. (h.container.group == n) && b) open_it ∙ and_false (h.container.group == n)
shut_one b false now n o x h open_it g some = other_group n h (cond b (close now o h) h) (closed_container b now o h) g

due_there : (setup : SmfSetup) (now : ℕ) (s : Session) (e : Entry) (h : Holding) → Finds s.groups e → (h.container.group == e.number) ≡ true → due_at setup now s (entry_of h.container.group s.groups) ≡ due_in setup now s e
due_there setup now s e h finds g = ap (λ n. due_at setup now s (entry_of n s.groups)) (eqb-true h.container.group e.number g) ∙ ap (due_at setup now s) finds

-- the law of quotas
abbrev pub FiresOnce : Type 0
FiresOnce = (q : Quota) (open_container : Option Container) (unsafe_hour : Bool) (now : ℕ) (limits : Limits) (trigger : TriggerType) → due_of q open_container unsafe_hour now limits ≡ Some trigger → IsQuietAfter q now limits trigger

quiet_by : FiresOnce → (o : Option TriggerType) (setup : SmfSetup) (now : ℕ) (s : Session) (e : Entry) (c after : Option Container) → due_with setup now s c e ≡ o → (o ≡ None → after ≡ c) → ((x : TriggerType) → o ≡ Some x → after ≡ None)
    → due_with setup now (settled setup now s) after (fire o e) ≡ None
quiet_by law None setup now s e c after due same gone = ap (λ a. due_with setup now s a e) (same refl) ∙ due
quiet_by law (Some x) setup now s e c after due same gone =
    ap (λ a. due_with setup now (settled setup now s) a (fire (Some x) e)) (gone x refl) ∙ law e.quota c (in_open c (λ k. has_unsafe e.horizon k.last now)) now (limits_of setup s e.number) x due

fire_number : (o : Option TriggerType) (e : Entry) → (fire o e).number ≡ e.number
fire_number None e = refl
fire_number (Some x) e = refl

-- a rating group once the session is settled
entry_quiet : FiresOnce → (setup : SmfSetup) (now : ℕ) (s : Session) (e : Entry) (o : Option TriggerType) → due_in setup now s e ≡ o → Finds s.groups e → due_with setup now (settled setup now s) (open_of e.number (settled setup now s).holdings) (fire o e) ≡ None
entry_quiet law setup now s e o due finds =
    quiet_by law o setup now s e (open_of e.number s.holdings) (open_of e.number (settled setup now s).holdings) due
    (λ none. ap container_in (find_same (is_open_of e.number) (close_due setup now s) s.holdings
    (λ h. unclosed (is_open h.place) (h.container.group == e.number) now e.number (due_at setup now s (entry_of h.container.group s.groups)) h refl (λ g. due_there setup now s e h finds g ∙ due ∙ none))))
    (λ x some. ap container_in (find_none (is_open_of e.number) (close_due setup now s) s.holdings
    (λ h. shut_one (is_open h.place) (h.container.group == e.number) now e.number (due_at setup now s (entry_of h.container.group s.groups)) x h refl refl (λ g. due_there setup now s e h finds g ∙ due ∙ some))))

none_due : FiresOnce → (setup : SmfSetup) (now : ℕ) (s : Session) (rest : List Entry) → AllByRecursion (Finds s.groups) rest → AllByRecursion (λ e. due_in setup now (settled setup now s) e ≡ None) (map (λ e. fire (due_in setup now s e) e) rest)
none_due law setup now s [] a = tt
none_due law setup now s (e ∷ rest) a = (
  ap (λ n. due_with setup now (settled setup now s) (open_of n (settled setup now s).holdings) (fire (due_in setup now s e) e)) (fire_number (due_in setup now s e) e) ∙ entry_quiet law setup now s e (due_in setup now s e) refl a.0,
  none_due law setup now s rest a.1,
)

settled_once : FiresOnce → (setup : SmfSetup) (now : ℕ) (s : Session) → AreApart s.groups → NoneIsDue setup now (Some s)
settled_once law setup now s apart = none_due law setup now s s.groups (all_found s.groups apart)

due_with_whole : FiresOnce → (setup : SmfSetup) (now : ℕ) (t : List Move) (o : Option Session) → With StandsWhole t o → NoneIsDue setup now o
due_with_whole law setup now t None h = tt
due_with_whole law setup now t (Some s) h = settled_once law setup now s h.1.apart

pub settles_run : FiresOnce → (setup : SmfSetup) (events : List SmfEvent) (number now : ℕ) → NoneIsDue setup now (session_of number (machine_after setup events).sessions)
settles_run law setup events number now = due_with_whole law setup now (trace setup events number) (session_of number (machine_after setup events).sessions) (whole_run setup events number)
