-- After each event nothing is left to be frozen.
use Rattle.std.proofs.Common.{◌≡◌, ℕ, ◌-◌, ◌≤◌, ◌==◌, ◌||◌, nat_lt, nat_le, Bool, true, false, cond, List, [], refl, arith}
use Rattle.std.specs.Prelude.{Option, Some, None, is_some}
use Rattle.std.specs.List.{list_any}
use Rattle.std.proofs.lemmas.Bool.{leb-true, leb-false}
use Rattle.units.specs.declared.request.Operation.{Operation}
use Rattle.units.specs.declared.request.Operation.TheVariants.{Create, Update, Release}
use Rattle.smf_model.specs.declared.setup.SmfSetup.{SmfSetup}
use Rattle.smf_model.specs.declared.session.Life.{Life}
use Rattle.smf_model.specs.declared.session.Life.TheVariants.{Live, Ending, Aborting, Ended}
use Rattle.smf_model.specs.declared.session.Session.{Session}
use Rattle.smf_model.specs.declared.event.SmfEvent.{SmfEvent}
use Rattle.smf_model.specs.declared.event.SmfEvent.TheVariants.{Attach, Start, Count, Change, Tick, Detach, Answered, Attempt, NotSent, NoReply, Restart}
use Rattle.smf_model.specs.Rules.{changes_of}
use Rattle.smf_model.specs.Settle.{settled}
use Rattle.smf_model.specs.Freeze.{waiting_count, dropped, is_wanting, live_operation, ending_operation, operation_in, next_operation, with_request, freeze_by}
use Rattle.smf_model.specs.Machine.{machine_after, session_of, touches, effect, finished, fresh, added_by}
use Rattle.smf_model.specs.History.{history}
use Rattle.smf_model.specs.Left.{NothingIsLeft}
use Rattle.smf_model.proofs.Lifting.{With, IsKept, nothing, over_all}
use Rattle.smf_model.proofs.Limits.{left_waiting}

-- an ending session with a reference freezes
ends_so : (b : Bool) (r : ℕ) → cond b (Some (Update r)) (Some (Release r)) ≡ None → ⊥
ends_so true r e = cc
ends_so false r e = cc

ending_left : (reference : Option ℕ) (u v : Session) → ending_operation u reference ≡ None → ending_operation v reference ≡ None
ending_left None u v e = refl
ending_left (Some r) u v e = absurd (ends_so (nat_lt 500 (waiting_count u.holdings)) r e)

-- fewer wait than make a request
fewer : (once : Bool) (wants : Bool) (most less more r : ℕ) → less ≤ more → cond (once || (wants || nat_le most more)) (Some (Update r)) None ≡ None → cond (once || (wants || nat_le most less)) (Some (Update r)) None ≡ None
fewer true wants most less more r l e = cc
fewer false true most less more r l e = cc
fewer false false most less more r l e = at (nat_le most more) (nat_le most less) refl refl e
  where
    at : (a b : Bool) → nat_le most more ≡ a → nat_le most less ≡ b → cond a (Some (Update r)) None ≡ None → cond b (Some (Update r)) None ≡ None
    at true b f g h = cc
    at false false f g h = refl
    at false true f g h = absurd (let m = leb-false most more f in let n = leb-true most less g in omega (arith, m, n, l))

live_left : (reference : Option ℕ) (setup : SmfSetup) (v : Session) → live_operation setup v reference ≡ None → live_operation setup (dropped setup v) reference ≡ None
live_left None setup v e = refl
live_left (Some r) setup v e =
    fewer v.at_once (list_any is_wanting v.groups) (changes_of setup v) (waiting_count (dropped setup v).holdings) (waiting_count v.holdings) r
    (let k = left_waiting (waiting_count v.holdings - setup.held_max) v.holdings in omega (arith, k)) e

life_left : (l : Life) (setup : SmfSetup) (v : Session) → operation_in setup v l ≡ None → operation_in setup (dropped setup v) l ≡ None
life_left Live setup v e = live_left v.reference setup v e
life_left Ending setup v e = ending_left v.reference v (dropped setup v) e
life_left Aborting setup v e = ending_left v.reference v (dropped setup v) e
life_left Ended setup v e = refl

asked_left : (b : Bool) (x y : Option Operation) → (x ≡ None → y ≡ None) → cond b None x ≡ None → cond b None y ≡ None
asked_left true x y h e = refl
asked_left false x y h e = h e

dropped_left : (setup : SmfSetup) (v : Session) → next_operation setup v ≡ None → next_operation setup (dropped setup v) ≡ None
dropped_left setup v e = asked_left (is_some v.request) (operation_in setup v v.life) (operation_in setup (dropped setup v) v.life) (life_left v.life setup v) e

frozen_left : (o : Option Operation) (setup : SmfSetup) (now : ℕ) (v : Session) → next_operation setup v ≡ o → next_operation setup (dropped setup (freeze_by setup now o v)) ≡ None
frozen_left None setup now v e = dropped_left setup v e
frozen_left (Some o) setup now v e = refl

pub finished_left : (setup : SmfSetup) (now : ℕ) (s : Session) → next_operation setup (finished setup now s) ≡ None
finished_left setup now s = frozen_left (next_operation setup (settled setup now s)) setup now (settled setup now s) refl

-- over all events
abbrev IsLeft : SmfSetup → List ℕ → Session → Type 0
IsLeft setup t s = next_operation setup s ≡ None

next_left : (b : Bool) (setup : SmfSetup) (now : ℕ) (event : SmfEvent) (s : Session) → next_operation setup s ≡ None → next_operation setup (cond b (finished setup now (effect setup now event s)) s) ≡ None
next_left true setup now event s h = finished_left setup now (effect setup now event s)
next_left false setup now event s h = h

attached_at : (b : Bool) (setup : SmfSetup) (s : Session) → next_operation setup s ≡ None → With (IsLeft setup) [] (cond b (Some s) None)
attached_at true setup s h = h
attached_at false setup s h = refl

attached : (setup : SmfSetup) (now number : ℕ) (event : SmfEvent) → With (IsLeft setup) [] (session_of number (added_by setup now event))
attached setup now number (Attach session subscriber groups moment) =
    let s : Session = with_request setup now Create (fresh setup session subscriber groups moment) in attached_at ((finished setup now s).number == number) setup (finished setup now s) (finished_left setup now s)
attached setup now number (Start session group moment) = refl
attached setup now number (Count session r) = refl
attached setup now number (Change session trigger moment) = refl
attached setup now number (Tick moment) = refl
attached setup now number (Detach session abnormal moment) = refl
attached setup now number (Answered session place reply) = refl
attached setup now number (Attempt session peer) = refl
attached setup now number (NotSent session) = refl
attached setup now number (NoReply session) = refl
attached setup now number Restart = refl

left_kept : (setup : SmfSetup) → IsKept setup (IsLeft setup) nothing
left_kept setup = record {
  next = λ now number event s t is new h. next_left (touches event s) setup now event s h;
  added = λ now number event. attached setup now number event;
}

left_of : (setup : SmfSetup) (t : List ℕ) (o : Option Session) → With (IsLeft setup) t o → NothingIsLeft setup o
left_of setup t None h = tt
left_of setup t (Some s) h = h

pub left_run : (setup : SmfSetup) (events : List SmfEvent) (number : ℕ) → NothingIsLeft setup (session_of number (machine_after setup events).sessions)
left_run setup events number = left_of setup (history nothing setup events number) (session_of number (machine_after setup events).sessions) (over_all setup (IsLeft setup) nothing (left_kept setup) events number)
