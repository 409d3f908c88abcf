-- After any events at most so many containers wait.
use Rattle.std.proofs.Common.{◌≡◌, ℕ, ◌+◌, ◌-◌, ◌≤◌, ◌==◌, ◌&&◌, nat_lt, List, [], ◌∷◌, refl, arith, Bool, true, false, cond}
use Rattle.std.specs.Prelude.{Option, Some, None}
use Rattle.std.proofs.lemmas.Bool.Decides.{nat_tests}
use Rattle.std.proofs.lemmas.List.Sums.{sum_by-cons}
use Rattle.units.specs.declared.request.Operation.TheVariants.{Create}
use Rattle.smf_model.specs.declared.setup.SmfSetup.{SmfSetup}
use Rattle.smf_model.specs.declared.session.Why.TheVariants.{HeldFull}
use Rattle.smf_model.specs.declared.session.Place.TheVariants.{GivenUp}
use Rattle.smf_model.specs.declared.session.Holding.{Holding}
use Rattle.smf_model.specs.declared.session.Session.{Session}
use Rattle.smf_model.specs.declared.event.SmfEvent.{SmfEvent}
use Rattle.smf_model.specs.declared.event.SmfEvent.TheVariants.{Attach, Start, Count, Change, Tick, Detach, Answered, Attempt, NotSent, NoReply, Restart}
use Rattle.smf_model.specs.Settle.{is_waiting, settled}
use Rattle.smf_model.specs.Freeze.{waiting_count, move_oldest, freeze_due, with_request}
use Rattle.smf_model.specs.Machine.{machine_after, session_of, touches, effect, finished, fresh, added_by}
use Rattle.smf_model.specs.History.{history}
use Rattle.smf_model.specs.Limits.{WaitsAtMost}
use Rattle.smf_model.proofs.Lifting.{With, IsKept, nothing, over_all}

count_cons : (h : Holding) (hs : List Holding) → waiting_count (h ∷ hs) ≡ cond (is_waiting h.place) 1 0 + waiting_count hs
count_cons h hs = sum_by-cons (λ (k : Holding). cond (is_waiting k.place) 1 0) h hs

-- giving up the oldest leaves so many fewer
pub left_waiting : (most : ℕ) (hs : List Holding) → waiting_count (move_oldest most (GivenUp HeldFull) hs) ≡ waiting_count hs - most
left_waiting most [] = omega arith
left_waiting most (h ∷ hs) = at (is_waiting h.place) (nat_lt 0 most) refl refl (λ n. left_waiting n hs)
  where
    whole : waiting_count (h ∷ hs) ≡ cond (is_waiting h.place) 1 0 + waiting_count hs
    whole = count_cons h hs

    kept : (xs : List Holding) → waiting_count (h ∷ xs) ≡ cond (is_waiting h.place) 1 0 + waiting_count xs
    kept xs = count_cons h xs

    at : (a b : Bool) → is_waiting h.place ≡ a → nat_lt 0 most ≡ b → ((n : ℕ) → waiting_count (move_oldest n (GivenUp HeldFull) hs) ≡ waiting_count hs - n)
        → waiting_count (cond (a && b) (record h { place = GivenUp HeldFull } ∷ move_oldest (most - 1) (GivenUp HeldFull) hs) (h ∷ move_oldest most (GivenUp HeldFull) hs)) ≡ waiting_count (h ∷ hs) - most
    at true true w l k =
        let rest = k (most - 1) in
        let gone = count_cons (record h { place = GivenUp HeldFull }) (move_oldest (most - 1) (GivenUp HeldFull) hs) in
        grind (arith, nat_tests, rest, gone, whole, w, l)
    at true false w l k =
        let rest = k most in
        let same = kept (move_oldest most (GivenUp HeldFull) hs) in
        grind (arith, nat_tests, rest, same, whole, l)
    at false b w l k =
        let rest = k most in
        let same = kept (move_oldest most (GivenUp HeldFull) hs) in
        grind (arith, rest, same, whole, w)

within : (most : ℕ) (hs : List Holding) → waiting_count (move_oldest (waiting_count hs - most) (GivenUp HeldFull) hs) ≤ most
within most hs = let left = left_waiting (waiting_count hs - most) hs in omega (arith, left)

pub finished_within : (setup : SmfSetup) (now : ℕ) (s : Session) → waiting_count (finished setup now s).holdings ≤ setup.held_max
finished_within setup now s = within setup.held_max (freeze_due setup now (settled setup now s)).holdings

abbrev Waits : ℕ → List ℕ → Session → Type 0
Waits most t s = waiting_count s.holdings ≤ most

next_within : (b : Bool) (setup : SmfSetup) (now : ℕ) (event : SmfEvent) (s : Session) → waiting_count s.holdings ≤ setup.held_max → waiting_count (cond b (finished setup now (effect setup now event s)) s).holdings ≤ setup.held_max
next_within true setup now event s h = finished_within setup now (effect setup now event s)
next_within false setup now event s h = h

attached_within : (b : Bool) (most : ℕ) (s : Session) → waiting_count s.holdings ≤ most → With (Waits most) [] (cond b (Some s) None)
attached_within true most s h = h
attached_within false most s h = refl

added_within : (setup : SmfSetup) (now number : ℕ) (event : SmfEvent) → With (Waits setup.held_max) [] (session_of number (added_by setup now event))
added_within setup now number (Attach session subscriber groups moment) =
    let s : Session = finished setup now (with_request setup now Create (fresh setup session subscriber groups moment)) in
    attached_within (s.number == number) setup.held_max s (finished_within setup now (with_request setup now Create (fresh setup session subscriber groups moment)))
added_within setup now number (Start session group moment) = refl
added_within setup now number (Count session r) = refl
added_within setup now number (Change session trigger moment) = refl
added_within setup now number (Tick moment) = refl
added_within setup now number (Detach session abnormal moment) = refl
added_within setup now number (Answered session place reply) = refl
added_within setup now number (Attempt session peer) = refl
added_within setup now number (NotSent session) = refl
added_within setup now number (NoReply session) = refl
added_within setup now number Restart = refl

kept_within : (setup : SmfSetup) → IsKept setup (Waits setup.held_max) nothing
kept_within setup = record {
  next = λ now number event s t is new h. next_within (touches event s) setup now event s h;
  added = λ now number event. added_within setup now number event;
}

waits_with : (most : ℕ) (t : List ℕ) (o : Option Session) → With (Waits most) t o → WaitsAtMost most o
waits_with most t None h = tt
waits_with most t (Some s) h = h

pub waits_run : (setup : SmfSetup) (events : List SmfEvent) (number : ℕ) → WaitsAtMost setup.held_max (session_of number (machine_after setup events).sessions)
waits_run setup events number =
    waits_with setup.held_max (history nothing setup events number) (session_of number (machine_after setup events).sessions) (over_all setup (Waits setup.held_max) nothing (kept_within setup) events number)
