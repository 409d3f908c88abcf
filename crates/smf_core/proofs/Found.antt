-- A session by its number, and the one that an event adds.
use Rattle.std.proofs.Common.{◌≡◌, ℕ, zero, suc, ◌+◌, ◌-◌, ◌<◌, ◌≤◌, ◌==◌, List, [], ◌∷◌, length, refl, sym, ◌∙◌, ap, arith, Bool, true, false, cond}
use Rattle.std.specs.Prelude.{Option, Some, None, option_map, slice_get, Ok}
use Rattle.std.specs.List.{position_from}
use Rattle.units.specs.declared.request.Operation.{Operation}
use Rattle.units.specs.declared.request.Operation.TheVariants.{Create}
use Rattle.smf_model.specs.declared.setup.SmfSetup.{SmfSetup}
use Rattle.smf_model.specs.declared.session.Session.{Session}
use Rattle.smf_model.specs.declared.session.Machine.{Machine}
use Rattle.smf_model.specs.declared.event.SmfEvent.{SmfEvent}
use Rattle.smf_model.specs.declared.event.SmfEvent.TheVariants.{Attach, Start, Count, Change as Changes, Tick, Detach, Answered, Attempt, NotSent, NoReply, Restart}
use Rattle.smf_model.specs.declared.refusal.Seen.TheVariants.{New}
use Rattle.smf_core.specs.declared.plan.Change.{Change}
use Rattle.smf_core.specs.declared.plan.Turn.{Turn}
use Rattle.smf_core.specs.declared.plan.Next.{Next}
use Rattle.smf_core.specs.declared.plan.Next.TheVariants.{Nothing, One, Several}
use Rattle.smf_model.specs.Settle.{settled}
use Rattle.smf_model.specs.Freeze.{with_request, freeze_by, next_operation}
use Rattle.smf_model.specs.Sending.{send_of}
use Rattle.smf_model.specs.Machine.{session_of, on_session, start_answer, count_answer, change_answer, detach_answer, reply_answer, attempt_answer, loss_answer, attach_answer, answer_of, now_after, fresh, finished, added_by}
use Rattle.smf_core.specs.Lookup.{subject, session_for, answer_for, next_for, flies_for}
use Rattle.smf_core.specs.Index.{place_in, place_for}
use Rattle.smf_core.specs.Caches.{KeptAs, numbers_of, sessions_of}
use Rattle.smf_core.specs.Plan.{changed, turned, map_at, sessions_next, added_in, AddedIsReady}

-- by its place

found_from : (n j i : ℕ) (ks : List KeptAs) → position_from (λ m. m == n) j (numbers_of (sessions_of ks)) ≡ Some i → (j ≤ i) × (option_map (λ (k : KeptAs). k.session) (slice_get ks (i - j)) ≡ session_of n (sessions_of ks))
found_from n j i [] h = cc
found_from n j i (k ∷ ks) h = at (k.session.number == n) h (λ g. found_from n (j + 1) i ks g)
  where
    at : (b : Bool) → cond b (Some j) (position_from (λ m. m == n) (j + 1) (numbers_of (sessions_of ks))) ≡ Some i
        → (position_from (λ m. m == n) (j + 1) (numbers_of (sessions_of ks)) ≡ Some i → (j + 1 ≤ i) × (option_map (λ (x : KeptAs). x.session) (slice_get ks (i - (j + 1))) ≡ session_of n (sessions_of ks)))
        → (j ≤ i) × (option_map (λ (x : KeptAs). x.session) (slice_get (k ∷ ks) (i - j)) ≡ cond b (Some k.session) (session_of n (sessions_of ks)))
    at true e ih =
        let same : j ≡ i = cc in
        let none : i - j ≡ 0 = omega (arith, same) in
        (omega (arith, same), ap (λ m. option_map (λ (x : KeptAs). x.session) (slice_get (k ∷ ks) m)) none)
    at false e ih =
        let r = ih e in
        let later : i - j ≡ suc (i - (j + 1)) = omega (arith, r.0) in
        (omega (arith, r.0), ap (λ m. option_map (λ (x : KeptAs). x.session) (slice_get (k ∷ ks) m)) later ∙ r.1)

missing_from : (n j : ℕ) (ss : List Session) → position_from (λ m. m == n) j (numbers_of ss) ≡ None → session_of n ss ≡ None
missing_from n j [] h = refl
missing_from n j (s ∷ ss) h = at (s.number == n) h (λ g. missing_from n (j + 1) ss g)
  where
    at : (b : Bool) → cond b (Some j) (position_from (λ m. m == n) (j + 1) (numbers_of ss)) ≡ None → (position_from (λ m. m == n) (j + 1) (numbers_of ss) ≡ None → session_of n ss ≡ None) → cond b (Some s) (session_of n ss) ≡ None
    at true e ih = cc
    at false e ih = ih e

pub found_some : (number : Option ℕ) (i : ℕ) (ks : List KeptAs) → place_for number (numbers_of (sessions_of ks)) ≡ Some i → option_map (λ (k : KeptAs). k.session) (slice_get ks i) ≡ session_for number (sessions_of ks)
found_some None i ks h = cc
found_some (Some n) i ks h = ap (λ m. option_map (λ (x : KeptAs). x.session) (slice_get ks m)) (omega arith) ∙ (found_from n 0 i ks h).1

pub found_none : (number : Option ℕ) (ks : List KeptAs) → place_for number (numbers_of (sessions_of ks)) ≡ None → None ≡ session_for number (sessions_of ks)
found_none None ks h = refl
found_none (Some n) ks h = sym (missing_from n 0 (sessions_of ks) h)

-- a session that is not found has no place
no_place_from : (n j : ℕ) (ss : List Session) → session_of n ss ≡ None → position_from (λ m. m == n) j (numbers_of ss) ≡ None
no_place_from n j [] h = refl
no_place_from n j (s ∷ ss) h = at (s.number == n) h (λ g. no_place_from n (j + 1) ss g)
  where
    at : (b : Bool) → cond b (Some s) (session_of n ss) ≡ None → (session_of n ss ≡ None → position_from (λ m. m == n) (j + 1) (numbers_of ss) ≡ None) → cond b (Some j) (position_from (λ m. m == n) (j + 1) (numbers_of ss)) ≡ None
    at true e ih = cc
    at false e ih = ih e

-- the answer to an event is that of its own session
pub answer_by : (event : SmfEvent) (m : Machine) → answer_for m.moment (next_for m.moment m.sessions event) (flies_for m.sessions event) (session_for (subject event) m.sessions) event ≡ answer_of m event
answer_by (Attach session subscriber groups moment) m = at (session_of session m.sessions)
  where
    at : (o : Option Session) → answer_for m.moment None false o (Attach session subscriber groups moment) ≡ attach_answer o (length groups)
    at None = refl
    at (Some s) = refl
answer_by (Start session group moment) m = at (session_of session m.sessions)
  where
    at : (o : Option Session) → answer_for m.moment (None) false o (Start session group moment) ≡ on_session o (start_answer group moment)
    at None = refl
    at (Some s) = refl
answer_by (Count session r) m = at (session_of session m.sessions)
  where
    at : (o : Option Session) → answer_for m.moment (None) false o (Count session r) ≡ on_session o (count_answer r)
    at None = refl
    at (Some s) = refl
answer_by (Changes session trigger moment) m = at (session_of session m.sessions)
  where
    at : (o : Option Session) → answer_for m.moment (None) false o (Changes session trigger moment) ≡ on_session o (change_answer moment)
    at None = refl
    at (Some s) = refl
answer_by (Tick moment) m = refl
answer_by (Detach session abnormal moment) m = at (session_of session m.sessions)
  where
    at : (o : Option Session) → answer_for m.moment (None) false o (Detach session abnormal moment) ≡ on_session o (detach_answer moment)
    at None = refl
    at (Some s) = refl
answer_by (Answered session number reply) m = at (session_of session m.sessions)
  where
    at : (o : Option Session) → answer_for m.moment (None) false o (Answered session number reply) ≡ on_session o (reply_answer number reply)
    at None = refl
    at (Some s) = refl
answer_by (Attempt session peer) m = at (session_of session m.sessions)
  where
    at : (o : Option Session) → answer_for m.moment (send_of m.moment m.sessions) false o (Attempt session peer) ≡ on_session o (attempt_answer m.moment m.sessions peer)
    at None = refl
    at (Some s) = refl
answer_by (NotSent session) m = at (session_of session m.sessions)
  where
    at : (o : Option Session) → answer_for m.moment (None) false o (NotSent session) ≡ on_session o (loss_answer)
    at None = refl
    at (Some s) = refl
answer_by (NoReply session) m = at (session_of session m.sessions)
  where
    at : (o : Option Session) → answer_for m.moment (None) false o (NoReply session) ≡ on_session o (loss_answer)
    at None = refl
    at (Some s) = refl
answer_by Restart m = refl

-- the session that an event adds

number_frozen : (o : Option Operation) (setup : SmfSetup) (now : ℕ) (s : Session) → (freeze_by setup now o s).number ≡ s.number
number_frozen None setup now s = refl
number_frozen (Some x) setup now s = refl

added_number : (setup : SmfSetup) (now number : ℕ) (subscriber groups : List ℕ) (moment : ℕ) → (finished setup now (with_request setup now Create (fresh setup number subscriber groups moment))).number ≡ number
added_number setup now number subscriber groups moment =
    let s : Session = settled setup now (with_request setup now Create (fresh setup number subscriber groups moment)) in number_frozen (next_operation setup s) setup now s

not_there : (o : Option Session) (groups : ℕ) → attach_answer o groups ≡ Ok New → o ≡ None
not_there None groups h = refl
not_there (Some s) groups h = cc

pub added_ready : (event : SmfEvent) (added : Option KeptAs) (m : Machine) (room : ℕ) → added_in added ≡ added_by m.setup (now_after m.moment event) event → answer_of m event ≡ Ok New → 0 < room → AddedIsReady added m.sessions room
added_ready event None m room h new r = tt
added_ready (Attach session subscriber groups moment) (Some k) m room h new r =
    let now : ℕ = now_after m.moment (Attach session subscriber groups moment) in
    let it : k.session ≡ finished m.setup now (with_request m.setup now Create (fresh m.setup session subscriber groups moment)) = cc in
    let number : k.session.number ≡ session = ap (λ (s : Session). s.number) it ∙ added_number m.setup now session subscriber groups moment in
    (ap (place_in (numbers_of m.sessions)) number ∙ no_place_from session 0 m.sessions (not_there (session_of session m.sessions) (length groups) new), r)
added_ready (Start session group moment) (Some k) m room h new r = cc
added_ready (Count session report) (Some k) m room h new r = cc
added_ready (Changes session trigger moment) (Some k) m room h new r = cc
added_ready (Tick moment) (Some k) m room h new r = cc
added_ready (Detach session abnormal moment) (Some k) m room h new r = cc
added_ready (Answered session number reply) (Some k) m room h new r = cc
added_ready (Attempt session peer) (Some k) m room h new r = cc
added_ready (NotSent session) (Some k) m room h new r = cc
added_ready (NoReply session) (Some k) m room h new r = cc
added_ready Restart (Some k) m room h new r = cc

-- changes keep the numbers

numbers_at : (at : ℕ) (c : Change) (ss : List Session) → numbers_of (map_at at (changed c) ss) ≡ numbers_of ss
numbers_at at c [] = refl
numbers_at zero c (s ∷ ss) = refl
numbers_at (suc at) c (s ∷ ss) = ap (λ ns. s.number ∷ ns) (numbers_at at c ss)

numbers_all : (ts : List Turn) (ss : List Session) → numbers_of (turned ts ss) ≡ numbers_of ss
numbers_all [] ss = refl
numbers_all (t ∷ ts) ss = numbers_at t.at t.change (turned ts ss) ∙ numbers_all ts ss

pub numbers_next : (next : Next) (ss : List Session) → numbers_of (sessions_next next ss) ≡ numbers_of ss
numbers_next Nothing ss = refl
numbers_next (One t) ss = numbers_at t.at t.change ss
numbers_next (Several ts) ss = numbers_all ts ss

pub ready_next : (next : Next) (added : Option KeptAs) (ss : List Session) (room : ℕ) → AddedIsReady added ss room → AddedIsReady added (sessions_next next ss) room
ready_next next None ss room h = tt
ready_next next (Some k) ss room h = (ap (λ ns. place_in ns k.session.number) (numbers_next next ss) ∙ h.0, h.1)
