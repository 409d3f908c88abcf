-- The marks of the sessions: all together, and as a moment comes and sessions change.
use Rattle.std.proofs.Common.{◌≡◌, ℕ, zero, suc, ◌+◌, ◌<◌, ◌≤◌, ◌&&◌, ◌||◌, not, nat_lt, nat_le, Bool, true, false, cond, List, [], ◌∷◌, length, map, fold, get_or, set, refl, sym, ◌∙◌, ap, arith}
use Rattle.std.specs.Prelude.{Option, Some, None, is_some}
use Rattle.std.proofs.lemmas.List.{map-set, length-map}
use Rattle.smf_model.specs.declared.setup.SmfSetup.{SmfSetup}
use Rattle.smf_model.specs.declared.session.Peer.{Peer}
use Rattle.smf_model.specs.declared.session.Session.{Session}
use Rattle.smf_model.specs.declared.event.SmfEvent.{SmfEvent}
use Rattle.smf_model.specs.declared.event.SmfEvent.TheVariants.{Attach, Start, Count, Change as Changes, Tick, Detach, Answered, Attempt, NotSent, NoReply, Restart}
use Rattle.smf_model.specs.Sending.{is_past, may_send, next_peer, sooner, send_of}
use Rattle.smf_model.specs.Machine.{any_flies, now_after}
use Rattle.smf_model.specs.Resting.{rest_end}
use Rattle.agenda.specs.declared.mark.Mark.{Mark}
use Rattle.agenda.specs.declared.mark.Search.{Search}
use Rattle.agenda.specs.declared.mark.Search.TheVariants.{Waits}
use Rattle.quotas.specs.Deadline.{has_come}
use Rattle.agenda.specs.Marks.{quiet, first_send, both, all_of, finds, places_from}
use Rattle.smf_core.specs.Caches.{KeptAs, sessions_of}
use Rattle.smf_core.specs.Marking.{attempt_at, mark_of, marks_of, remarked}
use Rattle.smf_core.proofs.Nexts.{sessions-set}

-- all together

one_sends : (now : ℕ) (s : Session) (best : Option (ℕ × Peer)) → first_send best (attempt_at now s) ≡ sooner now best s
one_sends now s None = at (may_send now s)
  where
    at : (b : Bool) → first_send None (cond b (Some (s.number, next_peer s)) None) ≡ cond (b && true) (Some (s.number, next_peer s)) None
    at true = refl
    at false = refl
one_sends now s (Some best) = at (may_send now s)
  where
    at : (b : Bool) → first_send (Some best) (cond b (Some (s.number, next_peer s)) None) ≡ cond (b && nat_lt s.number best.0) (Some (s.number, next_peer s)) (Some best)
    at true = refl
    at false = refl

send_fold : (setup : SmfSetup) (now : ℕ) (ss : List Session) (m : Mark) → (fold both m (marks_of setup now ss)).send ≡ fold (sooner now) m.send ss
send_fold setup now [] m = refl
send_fold setup now (s ∷ ss) m = send_fold setup now ss (both m (mark_of setup now s)) ∙ ap (λ best. fold (sooner now) best ss) (one_sends now s m.send)

pub send_all : (setup : SmfSetup) (now : ℕ) (ss : List Session) → (all_of (marks_of setup now ss)).send ≡ send_of now ss
send_all setup now ss = send_fold setup now ss quiet

or_false : (b : Bool) → b ≡ (b || false)
or_false true = refl
or_false false = refl

or_assoc : (a b c : Bool) → ((a || b) || c) ≡ (a || (b || c))
or_assoc true b c = refl
or_assoc false b c = refl

flies_fold : (setup : SmfSetup) (now : ℕ) (ss : List Session) (m : Mark) → (fold both m (marks_of setup now ss)).flies ≡ (m.flies || any_flies ss)
flies_fold setup now [] m = or_false m.flies
flies_fold setup now (s ∷ ss) m = flies_fold setup now ss (both m (mark_of setup now s)) ∙ or_assoc m.flies s.sending.in_flight (any_flies ss)

pub flies_all : (setup : SmfSetup) (now : ℕ) (ss : List Session) → (all_of (marks_of setup now ss)).flies ≡ any_flies ss
flies_all setup now ss = flies_fold setup now ss quiet

-- a moment comes: a session that does not wait up to it has the same mark

abbrev mark_by : (ℕ × Peer) → Option ℕ → Bool → Bool → Option ℕ → Bool → Mark
mark_by x due asks flies wait past = record { send = cond (asks && (not flies && past)) (Some x) None; wait = cond (asks && (not flies && not past)) wait None; due = due; flies = flies }

past_same : (before now moment : ℕ) → before ≤ now → has_come now (cond (not (nat_le moment before)) (Some moment) None) ≡ false → nat_le moment before ≡ nat_le moment now
past_same before now moment l h = at (nat_le moment before) refl h
  where
    at : (b : Bool) → nat_le moment before ≡ b → has_come now (cond (not b) (Some moment) None) ≡ false → nat_le moment before ≡ nat_le moment now
    at true e g = grind arith
    at false e g = e ∙ sym g

sleeps : (x : ℕ × Peer) (due : Option ℕ) (before now : ℕ) (asks flies : Bool) (wait : Option ℕ) → before ≤ now → has_come now (mark_by x due asks flies wait (is_past before wait)).wait ≡ false
    → mark_by x due asks flies wait (is_past before wait) ≡ mark_by x due asks flies wait (is_past now wait)
sleeps x due before now false flies wait l h = refl
sleeps x due before now true true wait l h = refl
sleeps x due before now true false None l h = refl
sleeps x due before now true false (Some moment) l h = ap (mark_by x due true false (Some moment)) (past_same before now moment l h)

-- the places behind the first

pub places_behind : (s : Search) (k : ℕ) (ms : List Mark) → places_from s (k + 1) ms ≡ map (λ p. suc p) (places_from s k ms)
places_behind s k [] = refl
places_behind s k (m ∷ ms) = at (finds s m) (places_behind s (k + 1) ms)
  where
    next : k + 1 ≡ suc k
    next = omega arith

    at : (b : Bool) → places_from s (k + 1 + 1) ms ≡ map (λ p. suc p) (places_from s (k + 1) ms)
        → cond b ((k + 1) ∷ places_from s (k + 1 + 1) ms) (places_from s (k + 1 + 1) ms) ≡ map (λ p. suc p) (cond b (k ∷ places_from s (k + 1) ms) (places_from s (k + 1) ms))
    at true ih = ap (λ n. n ∷ places_from s (k + 1 + 1) ms) next ∙ ap (λ xs. suc k ∷ xs) ih
    at false ih = ih

remarked_behind : (m anew : Mark) (to ms : List Mark) (places : List ℕ) → remarked (anew ∷ to) (map (λ p. suc p) places) (m ∷ ms) ≡ m ∷ remarked to places ms
remarked_behind m anew to ms [] = refl
remarked_behind m anew to ms (p ∷ places) = remarked_behind m anew to (set ms p (get_or to p quiet)) places

-- those that wait no more are marked anew

behind_woken : (setup : SmfSetup) (before now : ℕ) (s : Session) (ss : List Session) (m : Mark) → remarked (marks_of setup now ss) (places_from (Waits now) 0 (marks_of setup before ss)) (marks_of setup before ss) ≡ marks_of setup now ss
    → remarked (marks_of setup now (s ∷ ss)) (places_from (Waits now) (0 + 1) (marks_of setup before ss)) (m ∷ marks_of setup before ss) ≡ m ∷ marks_of setup now ss
behind_woken setup before now s ss m ih =
    ap (λ ps. remarked (marks_of setup now (s ∷ ss)) ps (m ∷ marks_of setup before ss)) (places_behind (Waits now) 0 (marks_of setup before ss))
    ∙ remarked_behind m (mark_of setup now s) (marks_of setup now ss) (marks_of setup before ss) (places_from (Waits now) 0 (marks_of setup before ss))
    ∙ ap (λ xs. m ∷ xs) ih

pub all_woken : (setup : SmfSetup) (before now : ℕ) (ss : List Session) → before ≤ now → remarked (marks_of setup now ss) (places_from (Waits now) 0 (marks_of setup before ss)) (marks_of setup before ss) ≡ marks_of setup now ss
all_woken setup before now [] l = refl
all_woken setup before now (s ∷ ss) l = at (finds (Waits now) (mark_of setup before s)) refl (all_woken setup before now ss l)
  where
    at : (b : Bool) → finds (Waits now) (mark_of setup before s) ≡ b → remarked (marks_of setup now ss) (places_from (Waits now) 0 (marks_of setup before ss)) (marks_of setup before ss) ≡ marks_of setup now ss
        → remarked (marks_of setup now (s ∷ ss)) (cond b (0 ∷ places_from (Waits now) (0 + 1) (marks_of setup before ss)) (places_from (Waits now) (0 + 1) (marks_of setup before ss))) (marks_of setup before (s ∷ ss)) ≡ marks_of setup now (s ∷ ss)
    at true e ih = behind_woken setup before now s ss (mark_of setup now s) ih
    at false e ih = behind_woken setup before now s ss (mark_of setup before s) ih ∙ ap (λ m. m ∷ marks_of setup now ss) (sleeps (s.number, next_peer s) (rest_end setup s) before now (is_some s.request) s.sending.in_flight s.sending.wait l e)

pub woken_marks : (setup : SmfSetup) (before now : ℕ) (ss : List Session) (agenda ms : List Mark) (places : List ℕ) → before ≤ now → agenda ≡ marks_of setup before ss → places ≡ places_from (Waits now) 0 (marks_of setup before ss)
    → ms ≡ remarked (marks_of setup now ss) places agenda → ms ≡ marks_of setup now ss
woken_marks setup before now ss agenda ms places l a p h =
    h ∙ ap (λ ps. remarked (marks_of setup now ss) ps agenda) p ∙ ap (remarked (marks_of setup now ss) (places_from (Waits now) 0 (marks_of setup before ss))) a ∙ all_woken setup before now ss l

-- where no moment comes, none waits up to it

waits_on : (now : ℕ) (asks flies : Bool) (wait : Option ℕ) → has_come now (cond (asks && (not flies && not (is_past now wait))) wait None) ≡ false
waits_on now false flies wait = refl
waits_on now true true wait = refl
waits_on now true false None = refl
waits_on now true false (Some moment) = at (nat_le moment now) refl
  where
    at : (b : Bool) → nat_le moment now ≡ b → has_come now (cond (not b) (Some moment) None) ≡ false
    at true e = refl
    at false e = e

pub none_woken : (setup : SmfSetup) (now at : ℕ) (ss : List Session) → places_from (Waits now) at (marks_of setup now ss) ≡ []
none_woken setup now at [] = refl
none_woken setup now at (s ∷ ss) =
    ap (λ b. cond b (at ∷ places_from (Waits now) (at + 1) (marks_of setup now ss)) (places_from (Waits now) (at + 1) (marks_of setup now ss))) (waits_on now (is_some s.request) s.sending.in_flight s.sending.wait)
    ∙ none_woken setup now (at + 1) ss

-- a session changes

pub marks_set : (setup : SmfSetup) (now : ℕ) (ks : List KeptAs) (at : ℕ) (k : KeptAs) → set (marks_of setup now (sessions_of ks)) at (mark_of setup now k.session) ≡ marks_of setup now (sessions_of (set ks at k))
marks_set setup now ks at k = sym (map-set (mark_of setup now) (sessions_of ks) at k.session) ∙ ap (marks_of setup now) (sym (sessions-set ks at k))

pub length_marks : (setup : SmfSetup) (now : ℕ) (ks : List KeptAs) → length (marks_of setup now (sessions_of ks)) ≡ length ks
length_marks setup now ks = length-map (sessions_of ks) (mark_of setup now) ∙ length-map ks (λ (k : KeptAs). k.session)

pub mark_there : (setup : SmfSetup) (now : ℕ) (ks : List KeptAs) (at : ℕ) (k : KeptAs) → at < length ks → get_or ks at k ≡ k → mark_of setup now k.session ≡ get_or (marks_of setup now (sessions_of ks)) at quiet
mark_there setup now [] at k l it = absurd (omega (arith, l))
mark_there setup now (x ∷ ks) zero k l it = ap (λ (y : KeptAs). mark_of setup now y.session) (sym it)
mark_there setup now (x ∷ ks) (suc at) k l it = mark_there setup now ks at k (omega (arith, l)) it

pub set_past : (ms : List Mark) (at : ℕ) (m : Mark) → length ms ≤ at → set ms at m ≡ ms
set_past [] at m l = refl
set_past (x ∷ ms) zero m l = absurd (omega (arith, l))
set_past (x ∷ ms) (suc at) m l = ap (λ xs. x ∷ xs) (set_past ms at m (omega (arith, l)))

pub now_later : (now : ℕ) (event : SmfEvent) → now ≤ now_after now event
now_later now (Attach session subscriber groups moment) = omega arith
now_later now (Start session group moment) = omega arith
now_later now (Count session r) = omega arith
now_later now (Changes session trigger moment) = omega arith
now_later now (Tick moment) = omega arith
now_later now (Detach session abnormal moment) = omega arith
now_later now (Answered session number reply) = omega arith
now_later now (Attempt session peer) = omega arith
now_later now (NotSent session) = omega arith
now_later now (NoReply session) = omega arith
now_later now Restart = omega arith
