-- What is kept of a session stays right: when a change is made for it, and when that is taken.
use Rattle.std.proofs.Common.{◌≡◌, ℕ, ◌+◌, ◌-◌, ◌≤◌, Bool, true, false, cond, List, [], ◌∷◌, length, filter, sym, ◌∙◌, ap, subst, arith, zero-add}
use Rattle.std.specs.Prelude.{Result, Ok, Err, IfOk, unwrap_or}
use Rattle.std.proofs.lemmas.List.{length-map}
use Rattle.units.specs.declared.report.Container.{Container}
use Rattle.smf_model.specs.declared.setup.SmfSetup.{SmfSetup}
use Rattle.smf_model.specs.declared.session.Holding.{Holding}
use Rattle.smf_model.specs.declared.session.GivenUp.{GivenUp}
use Rattle.smf_model.specs.GivenUps.{given_up_of}
use Rattle.smf_model.specs.declared.session.Session.{Session}
use Rattle.smf_model.specs.declared.event.SmfEvent.{SmfEvent}
use Rattle.smf_core.specs.declared.plan.Change.{Change}
use Rattle.smf_model.specs.Machine.{finished, effect}
use Rattle.smf_core.specs.Draft.{effect_past}
use Rattle.smf_core.specs.Reads.{is_held, containers_of}
use Rattle.smf_core.specs.Caches.{merged, past_count, places_from, put_places, live_after, wide, full, IsMade, IsKept, session_with, after_change}
use Rattle.smf_core.specs.Plan.{changed, Fits}
use Rattle.smf_core.proofs.Merged.{merged-same, past-count, filter-merged}
use Rattle.smf_core.proofs.Wide.{next_wide_all}
use Rattle.smf_core.proofs.Places.{length-places, places-merged, put-merged}
use Rattle.smf_core.proofs.Lengths.{GrowsByOne, grows}

-- how many are left out of what is kept
left_out : (all : List Holding) (at : List ℕ) → at ≡ places_from 0 all → length all - length at ≡ past_count all
left_out all at h = omega (arith, ap length h, length-places 0 all, past-count all)

-- a session is what is kept of it, with all its containers and trigger rules
pub wide-full : (b : Session) (all : List Holding) → b.holdings ≡ filter is_held all → wide all b ≡ full b all
wide-full b all live = ap (full b) (ap (merged all) live ∙ merged-same all)

made_now : (c : Change) (setup : SmfSetup) (now : ℕ) (event : SmfEvent) (b : Session) (all : List Holding) (at : List ℕ) (some : List Container) (given : List GivenUp)
    → IsKept b all at some given → IsMade c b at (length all) (finished setup now (effect_past setup (length all - length at) now event b))
    → IsMade c b at (length all) (finished setup now (effect_past setup (past_count all) now event b))
made_now c setup now event b all at some given k m =
    subst (λ n. IsMade c b at (length all) (finished setup now (effect_past setup n now event b))) (left_out all at k.places) m

pub made : (c : Change) (setup : SmfSetup) (now : ℕ) (event : SmfEvent) (b : Session) (all : List Holding) (at : List ℕ) (some : List Container) (given : List GivenUp)
    → IsKept b all at some given → IsMade c b at (length all) (finished setup now (effect_past setup (length all - length at) now event b))
    → changed c (full b all) ≡ finished setup now (effect setup now event (full b all))
made c setup now event b all at some given k before =
    let m : IsMade c b at (length all) (finished setup now (effect_past setup (past_count all) now event b)) = made_now c setup now event b all at some given k before in
    let enough : length (filter is_held all) ≤ length b.holdings = omega (arith, ap length k.live) in
    ap (wide all) m.session
    ∙ sym (next_wide_all event setup all now b enough)
    ∙ ap (λ s. finished setup now (effect setup now event s)) (wide-full b all k.live)

pub fits : (c : Change) (setup : SmfSetup) (now : ℕ) (event : SmfEvent) (b : Session) (all : List Holding) (at : List ℕ) (some : List Container) (given : List GivenUp)
    → IsKept b all at some given → IsMade c b at (length all) (finished setup now (effect_past setup (length all - length at) now event b))
    → Fits c (full b all)
fits c setup now event b all at some given k before =
    let m : IsMade c b at (length all) (finished setup now (effect_past setup (past_count all) now event b)) = made_now c setup now event b all at some given k before in
    let g : GrowsByOne b.holdings (finished setup now (effect_past setup (past_count all) now event b)).holdings = grows event setup (past_count all) now b in
    let long : length c.moved ≡ length (finished setup now (effect_past setup (past_count all) now event b)).holdings = ap (λ (s : Session). length s.holdings) m.session in
    let enough : length (filter is_held all) ≤ length c.moved = omega (arith, ap length k.live, g.0, long) in
    record {
      enough = enough;
      one = omega (arith, ap length k.live, g.1, long);
      places = ap (unwrap_or c.places) (sym k.places) ∙ m.places ∙ ap (λ ps. live_after ps (length all) c.moved) k.places ∙ ap (λ n. live_after (places_from 0 all) n c.moved) (sym (zero-add (length all))) ∙ sym (places-merged 0 all c.moved enough);
    }

-- taking a change

written : (c : Change) (b : Session) (all : List Holding) (at : List ℕ) → at ≡ places_from 0 all → Fits c (full b all) → put_places at c.moved all ≡ merged all c.moved
written c b all at h f = ap (λ ps. put_places ps c.moved all) h ∙ put-merged all c.moved f.enough

pub taken : (c : Change) (b : Session) (all live : List Holding) (at : List ℕ) (some held : List Container) (given next : List GivenUp)
    → IsKept b all at some given → Fits c (full b all) → live ≡ filter is_held c.moved → held ≡ containers_of live → next ≡ given_up_of (put_places at c.moved all)
    → IsKept (after_change b c.course c.groups live c.rules c.pending) (put_places at c.moved all) (unwrap_or c.places at) held next
taken c b all live at some held given next k f is has told =
    let new : put_places at c.moved all ≡ merged all c.moved = written c b all at k.places f in
    record {
      live = is ∙ sym (filter-merged is_held (λ h e. e) all c.moved) ∙ ap (filter is_held) (sym new);
      places = ap (unwrap_or c.places) k.places ∙ f.places ∙ ap (places_from 0) (sym new);
      held = has;
      given_up = told;
    }

pub taken_value : (c : Change) (b : Session) (all live : List Holding) (at : List ℕ) (some : List Container) (given : List GivenUp)
    → IsKept b all at some given → Fits c (full b all)
    → full (after_change b c.course c.groups live c.rules c.pending) (put_places at c.moved all) ≡ changed c (full b all)
taken_value c b all live at some given k f = ap (session_with c b) (written c b all at k.places f)

-- as the code has it

pub if_ok : {T E : Type 0} (r : Result T E) (P Q : T → Type 0) → ((x : T) → P x → Q x) → IfOk r P → IfOk r Q
if_ok (Ok x) P Q f h = f x h
if_ok (Err e) P Q f h = tt

pub with_places : (c : Change) (setup : SmfSetup) (now : ℕ) (event : SmfEvent) (b : Session) (at places : List ℕ) (n count : ℕ) → at ≡ places → n ≡ count
    → IsMade c b at n (finished setup now (effect_past setup (n - length at) now event b)) → IsMade c b places count (finished setup now (effect_past setup (count - length places) now event b))
with_places c setup now event b at places n count e f m =
    subst (λ k. IsMade c b places k (finished setup now (effect_past setup (k - length places) now event b))) f
    (subst (λ ps. IsMade c b ps n (finished setup now (effect_past setup (n - length ps) now event b))) e m)

pub room_for : (c : Change) (b : Session) (all : List Holding) (at : List ℕ) → at ≡ places_from 0 all → Fits c (full b all) → length c.moved ≤ length at + 1
room_for c b all at h f = omega (arith, f.one, ap length h, length-places 0 all)

fewer : (hs : List Holding) → length (filter is_held hs) ≤ length hs
fewer [] = omega arith
fewer (h ∷ hs) = at (is_held h) (fewer hs)
  where
    at : (b : Bool) → length (filter is_held hs) ≤ length hs → length (cond b (h ∷ filter is_held hs) (filter is_held hs)) ≤ length (h ∷ hs)
    at true l = omega (arith, l)
    at false l = omega (arith, l)

-- at most one more is held than before
pub room_for_held : (c : Change) (b : Session) (all live : List Holding) (at : List ℕ) (some : List Container) (given : List GivenUp)
    → IsKept b all at some given → Fits c (full b all) → live ≡ filter is_held c.moved → length live ≤ length some + 1
room_for_held c b all live at some given k f is =
    omega (arith, ap length is, fewer c.moved, f.one, ap length k.held, length-map b.holdings (λ (x : Holding). x.container), ap length k.live)

pub enough_for : (c : Change) (b : Session) (all : List Holding) → Fits c (full b all) → length (filter is_held all) ≤ length c.moved
enough_for c b all f = f.enough
