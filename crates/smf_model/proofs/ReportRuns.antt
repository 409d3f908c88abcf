-- After any events the containers of a session are cuts of its reports.
use Rattle.smf_model.specs.declared.session.Loss.TheVariants.{Unsent, Unanswered}
use Rattle.smf_model.proofs.Lasts.{same_self}
use Rattle.smf_model.specs.Sending.{attempted}
use Rattle.std.proofs.Common.{◌≡◌, ℕ, ◌==◌, Bool, true, false, cond, List, [], ◌∷◌, ◌++◌, refl, sym, ap, subst, append_assoc, append-nil}
use Rattle.std.specs.Prelude.{Option, Some, None}
use Rattle.std.specs.List.{AllByRecursion}
use Rattle.units.specs.declared.report.Report.{Report}
use Rattle.units.specs.declared.request.Operation.TheVariants.{Create}
use Rattle.units.specs.Cut.{no_switch}
use Rattle.meter.specs.declared.horizon.Horizon.{Horizon}
use Rattle.meter.specs.Horizons.{is_within, AreForeseen}
use Rattle.meter.specs.Laws.{ReportsKeepCuts}
use Rattle.sessions.specs.Trace.{Move}
use Rattle.sessions.specs.Trace.Move.{Freezes, Attempts}
use Rattle.smf_model.specs.declared.setup.SmfSetup.{SmfSetup}
use Rattle.smf_model.specs.declared.session.Session.{Session}
use Rattle.smf_model.specs.declared.event.SmfEvent.{SmfEvent}
use Rattle.smf_model.specs.declared.event.SmfEvent.TheVariants.{Attach, Start, Count, Change, Tick, Detach, Answered, Attempt, NotSent, NoReply, Restart}
use Rattle.smf_model.specs.Freeze.{request_of, with_request}
use Rattle.smf_model.specs.Traffic.{started, changed}
use Rattle.smf_model.specs.Machine.{machine_after, session_of, touches, effect, finished, fresh, added_by}
use Rattle.smf_model.specs.Trace.{trace, moves_of, added_moves, finish_moves, effect_moves}
use Rattle.smf_model.specs.History.{history}
use Rattle.smf_model.specs.Reports.{in_order, report_in, reports, StandsByReports}
use Rattle.smf_model.specs.GivenHorizons.{horizons_in, AreAllowed}
use Rattle.smf_model.proofs.Runs.{number-next}
use Rattle.smf_model.proofs.Lifting.{IsNew, WithBoth, AreKept, over_both}
use Rattle.smf_model.proofs.Effects.{IsCounted, is_counted}
use Rattle.smf_model.proofs.Traces.{StandsWhole, kept, created_whole, trace_is}
use Rattle.smf_model.proofs.Reported.{Reported, quiet, asking_quiet, finished_reported, changed_quiet, detached_quiet, started_quiet, new_expected, new_horizon, no_horizon}
use Rattle.smf_model.proofs.Recounted.{answered_reported, counted_reported, lost_reported}

effect_reported : (laws : ReportsKeepCuts) (event : SmfEvent) (setup : SmfSetup) (now number : ℕ) (t : List Move) (u : List Report) (s : Session) → touches event s ≡ true → IsNew event s → StandsWhole t s → Reported t u s
    → Reported (effect_moves now event s ++ t) (report_in setup now number event (Some s) ++ u) (effect setup now event s)
effect_reported laws (Attach session subscriber groups moment) setup now number t u s on new w h = h
effect_reported laws (Start session group moment) setup now number t u s on new w h = quiet t t u s (started group moment s) (started_quiet group t s (started group moment s) refl refl) h
effect_reported laws (Count session r) setup now number t u s on new w h =
    let is : IsCounted r s = is_counted r s (new on) in
    subst (λ b. Reported (effect_moves now (Count session r) s ++ t) (cond b (r ∷ []) [] ++ u) (effect setup now (Count session r) s)) (sym on) (counted_reported laws r t u s is.entry is.found is.expected h)
effect_reported laws (Change session trigger moment) setup now number t u s on new w h =
    quiet t (effect_moves now (Change session trigger moment) s ++ t) u s (changed trigger moment s) (changed_quiet trigger moment t s (changed trigger moment s) refl refl) h
effect_reported laws (Tick moment) setup now number t u s on new w h = h
effect_reported laws (Detach session abnormal moment) setup now number t u s on new w h =
    quiet t (effect_moves now (Detach session abnormal moment) s ++ t) u s (effect setup now (Detach session abnormal moment) s) (detached_quiet abnormal moment t s) h
effect_reported laws (Answered session place reply) setup now number t u s on new w h = answered_reported now reply s.request t u s (sym w.0.unanswered) h
effect_reported laws (Attempt session peer) setup now number t u s on new w h = quiet t (Attempts ∷ t) u s (attempted peer s) (record { holdings = same_self s.holdings; expected = λ group. refl; horizon = λ group. refl; horizons = λ group. refl }) h
effect_reported laws (NotSent session) setup now number t u s on new w h = lost_reported setup now Unsent t u s h
effect_reported laws (NoReply session) setup now number t u s on new w h = lost_reported setup now Unanswered t u s h
effect_reported laws Restart setup now number t u s on new w h = lost_reported setup now Unanswered t u s h

untouched : (event : SmfEvent) (setup : SmfSetup) (now number : ℕ) (s : Session) → touches event s ≡ false → report_in setup now number event (Some s) ≡ []
untouched (Attach session subscriber groups moment) setup now number s off = refl
untouched (Start session group moment) setup now number s off = refl
untouched (Count session r) setup now number s off = ap (λ b. cond b (r ∷ []) []) off
untouched (Change session trigger moment) setup now number s off = refl
untouched (Tick moment) setup now number s off = refl
untouched (Detach session abnormal moment) setup now number s off = refl
untouched (Answered session place reply) setup now number s off = refl
untouched (Attempt session peer) setup now number s off = refl
untouched (NotSent session) setup now number s off = refl
untouched (NoReply session) setup now number s off = refl
untouched Restart setup now number s off = refl

next_by : (laws : ReportsKeepCuts) (b : Bool) (event : SmfEvent) (setup : SmfSetup) (now number : ℕ) (t : List Move) (u : List Report) (s : Session) → touches event s ≡ b → IsNew event s → StandsWhole t s → Reported t u s
    → Reported (cond b (finish_moves setup now (effect setup now event s) ++ effect_moves now event s) [] ++ t) (report_in setup now number event (Some s) ++ u) (cond b (finished setup now (effect setup now event s)) s)
next_by laws true event setup now number t u s on new w h =
    subst (λ l. Reported l (report_in setup now number event (Some s) ++ u) (finished setup now (effect setup now event s))) (sym (append_assoc (finish_moves setup now (effect setup now event s)) (effect_moves now event s) t))
    (finished_reported setup now (effect_moves now event s ++ t) (report_in setup now number event (Some s) ++ u) (effect setup now event s) (effect_reported laws event setup now number t u s on new w h))
next_by laws false event setup now number t u s off new w h = subst (λ l. Reported t (l ++ u) s) (sym (untouched event setup now number s off)) h

fresh_reported : (setup : SmfSetup) (number : ℕ) (subscriber groups : List ℕ) (moment : ℕ) → Reported [] [] (fresh setup number subscriber groups moment)
fresh_reported setup number subscriber groups moment = record {
  numbered = λ group. tt;
  expected = λ group. new_expected groups [] group;
  last = tt;
  horizon = λ group switches allowed. subst (λ o. AreForeseen o switches) (sym (new_horizon groups [] group)) (no_horizon switches (horizons_in group []) allowed);
  cuts = λ group switches allowed. refl;
}

created_reported : (setup : SmfSetup) (now number : ℕ) (subscriber groups : List ℕ) (moment : ℕ)
    → Reported (finish_moves setup now (with_request setup now Create (fresh setup number subscriber groups moment)) ++ Freezes (request_of setup now (fresh setup number subscriber groups moment) Create) ∷ []) [] (finished setup now (with_request setup now Create (fresh setup number subscriber groups moment)))
created_reported setup now number subscriber groups moment =
    let s : Session = fresh setup number subscriber groups moment in
    finished_reported setup now (Freezes (request_of setup now s Create) ∷ []) [] (with_request setup now Create s)
    (quiet [] (Freezes (request_of setup now s Create) ∷ []) [] s (with_request setup now Create s) (asking_quiet setup now Create [] s) (fresh_reported setup number subscriber groups moment))

abbrev Both : List Move → List Report → Session → Type 0
Both t u s = StandsWhole t s × Reported t u s

attached_at : (b : Bool) (m : List Move) (s : Session) → StandsWhole m s → Reported m [] s → WithBoth Both (cond b m [] ++ []) [] (cond b (Some s) None)
attached_at true m s h k = subst (λ l. Both l [] s) (sym (append-nil m)) (h, k)
attached_at false m s h k = (refl, refl)

attached : (setup : SmfSetup) (now number : ℕ) (event : SmfEvent) → WithBoth Both (added_moves setup now number event ++ []) (report_in setup now number event None ++ []) (session_of number (added_by setup now event))
attached setup now number (Attach session subscriber groups moment) =
    let s : Session = with_request setup now Create (fresh setup session subscriber groups moment) in
    let P : Bool → Type 0 = λ b. WithBoth Both (added_moves setup now number (Attach session subscriber groups moment) ++ []) [] (cond b (Some (finished setup now s)) None) in
    subst P (ap (λ n. n == number) (sym (number-next (Tick now) setup now s)))
    (attached_at (session == number) _ _ (created_whole setup now session subscriber groups moment) (created_reported setup now session subscriber groups moment))
attached setup now number (Start session group moment) = (refl, refl)
attached setup now number (Count session r) = (refl, refl)
attached setup now number (Change session trigger moment) = (refl, refl)
attached setup now number (Tick moment) = (refl, refl)
attached setup now number (Detach session abnormal moment) = (refl, refl)
attached setup now number (Answered session place reply) = (refl, refl)
attached setup now number (Attempt session peer) = (refl, refl)
attached setup now number (NotSent session) = (refl, refl)
attached setup now number (NoReply session) = (refl, refl)
attached setup now number Restart = (refl, refl)

both_kept : (laws : ReportsKeepCuts) (setup : SmfSetup) → AreKept setup Both moves_of report_in
both_kept laws setup = record {
  next = λ now number event s t u is new h. ((kept setup).next now number event s t is new h.0, next_by laws (touches event s) event setup now number t u s refl new h.0 h.1);
  added = λ now number event. attached setup now number event;
}

none_within : (horizons : List Horizon) → AllByRecursion (λ h. (moment : ℕ) → is_within (Some h) moment ≡ true → no_switch moment ≡ false) horizons
none_within [] = tt
none_within (h ∷ horizons) = (λ moment e. refl, none_within horizons)

plain_allowed : (horizons : List Horizon) → AreAllowed horizons no_switch
plain_allowed horizons = record { hours = λ moment e. cc; none_within = none_within horizons }

by_reports : (t : List Move) (u : List Report) (o : Option Session) → WithBoth Both t u o → StandsByReports t (in_order u) o
by_reports t u None h = ap in_order h.1
by_reports t u (Some s) h = record {
  numbered = h.1.numbered;
  expected = h.1.expected;
  plain = λ group. h.1.cuts group no_switch (plain_allowed (horizons_in group t));
  cuts = h.1.cuts;
}

pub reports_run : (laws : ReportsKeepCuts) (setup : SmfSetup) (events : List SmfEvent) (number : ℕ) → StandsByReports (trace setup events number) (reports setup events number) (session_of number (machine_after setup events).sessions)
reports_run laws setup events number =
    subst (λ l. StandsByReports l (reports setup events number) (session_of number (machine_after setup events).sessions)) (sym (trace_is setup events number))
    (by_reports (history moves_of setup events number) (history report_in setup events number) (session_of number (machine_after setup events).sessions) (over_both setup Both moves_of report_in (both_kept laws setup) events number))
