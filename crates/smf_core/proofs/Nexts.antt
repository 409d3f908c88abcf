-- The sessions that an event changes, and their changes.
use Rattle.std.proofs.Common.{◌≡◌, ℕ, zero, suc, ◌+◌, ◌-◌, ◌<◌, ◌≤◌, ◌==◌, ◌&&◌, ◌||◌, List, [], ◌∷◌, length, map, get_or, set, refl, sym, ◌∙◌, ap, subst, arith, Bool, true, false, cond}
use Rattle.std.specs.Prelude.{Some, None}
use Rattle.std.specs.List.{list_any, position_from}
use Rattle.std.proofs.lemmas.List.{length-map}
use Rattle.std.proofs.lemmas.Bool.{eqb-true}
use Rattle.smf_model.specs.declared.setup.SmfSetup.{SmfSetup}
use Rattle.smf_model.specs.declared.session.Session.{Session}
use Rattle.smf_model.specs.declared.event.SmfEvent.{SmfEvent}
use Rattle.smf_model.specs.declared.event.SmfEvent.TheVariants.{Attach, Start, Count, Change as Changes, Tick, Detach, Answered, Attempt, NotSent, NoReply, Restart}
use Rattle.smf_core.specs.declared.plan.Change.{Change}
use Rattle.smf_model.specs.Machine.{touches, effect, finished, next_session, is_live}
use Rattle.smf_core.proofs.Indexed.{absent}
use Rattle.smf_core.specs.Index.{place_in, AreApart, place_for}
use Rattle.smf_core.specs.Lookup.{subject}
use Rattle.smf_core.specs.Caches.{KeptAs, HasRoom, numbers_of, sessions_of, stepped_by}
use Rattle.smf_core.specs.Plan.{map_at, IsReadyFor, IsReadyAt, Fits}

-- a session at a place

pub map_at-same : (at : ℕ) (f : Session → Session) (k : KeptAs) (ks : List KeptAs) → at < length ks → get_or ks at k ≡ k → (s : Session) → s ≡ f k.session → map_at at f (sessions_of ks) ≡ set (sessions_of ks) at s
map_at-same at f k [] within it s e = absurd (omega arith)
map_at-same zero f k (x ∷ ks) within it s e = ap (λ (y : KeptAs). f y.session ∷ sessions_of ks) it ∙ ap (λ t. t ∷ sessions_of ks) (sym e)
map_at-same (suc at) f k (x ∷ ks) within it s e = ap (λ xs. x.session ∷ xs) (map_at-same at f k ks (omega arith) it s e)

pub sessions-set : (ks : List KeptAs) (at : ℕ) (k : KeptAs) → sessions_of (set ks at k) ≡ set (sessions_of ks) at k.session
sessions-set [] at k = refl
sessions-set (x ∷ ks) zero k = refl
sessions-set (x ∷ ks) (suc at) k = ap (λ xs. x.session ∷ xs) (sessions-set ks at k)

-- one that is as it was
pub sessions-kept : (ks : List KeptAs) (at : ℕ) (k old : KeptAs) → at < length ks → get_or ks at old ≡ old → k.session ≡ old.session → sessions_of (set ks at k) ≡ sessions_of ks
sessions-kept [] at k old within it e = refl
sessions-kept (x ∷ ks) zero k old within it e = ap (λ s. s ∷ sessions_of ks) (e ∙ ap (λ (y : KeptAs). y.session) (sym it))
sessions-kept (x ∷ ks) (suc at) k old within it e = ap (λ xs. x.session ∷ xs) (sessions-kept ks at k old (omega arith) it e)

pub map_at-none : (at : ℕ) (f : Session → Session) (k : KeptAs) (ks : List KeptAs) → at < length ks → get_or ks at k ≡ k → f k.session ≡ k.session → sessions_of ks ≡ map_at at f (sessions_of ks)
map_at-none at f k [] within it e = refl
map_at-none zero f k (x ∷ ks) within it e = let P : KeptAs → Type 0 = λ y. y.session ∷ sessions_of ks ≡ f y.session ∷ sessions_of ks in subst P (sym it) (ap (λ s. s ∷ sessions_of ks) (sym e))
map_at-none (suc at) f k (x ∷ ks) within it e = ap (λ xs. x.session ∷ xs) (map_at-none at f k ks (omega arith) it e)

pub map_at-alike : (at : ℕ) (f g : Session → Session) (k : KeptAs) (ks : List KeptAs) → at < length ks → get_or ks at k ≡ k → f k.session ≡ g k.session → map_at at f (sessions_of ks) ≡ map_at at g (sessions_of ks)
map_at-alike at f g k [] within it e = refl
map_at-alike zero f g k (x ∷ ks) within it e = let P : KeptAs → Type 0 = λ y. f y.session ∷ sessions_of ks ≡ g y.session ∷ sessions_of ks in subst P (sym it) (ap (λ s. s ∷ sessions_of ks) e)
map_at-alike (suc at) f g k (x ∷ ks) within it e = ap (λ xs. x.session ∷ xs) (map_at-alike at f g k ks (omega arith) it e)

pub ready-set : (ks : List KeptAs) (at : ℕ) (c : Change) (k old : KeptAs) → at < length ks → get_or ks at old ≡ old → k.session ≡ old.session → Fits c old.session → HasRoom c k → IsReadyAt at c (set ks at k)
ready-set [] at c k old within it e f room = absurd (omega arith)
ready-set (x ∷ ks) zero c k old within it e f room = (subst (Fits c) (sym e) f, room)
ready-set (x ∷ ks) (suc at) c k old within it e f room = ready-set ks at c k old (omega arith) it e f room

pub ready-at : (ks : List KeptAs) (at : ℕ) (c : Change) (k : KeptAs) → IsReadyAt at c ks → get_or ks at k ≡ k → IsReadyFor c k
ready-at [] at c k h it = absurd h
ready-at (x ∷ ks) zero c k h it = subst (IsReadyFor c) it h
ready-at (x ∷ ks) (suc at) c k h it = ready-at ks at c k h it

pub ready-within : (ks : List KeptAs) (at : ℕ) (c : Change) → IsReadyAt at c ks → at < length ks
ready-within [] at c h = absurd h
ready-within (x ∷ ks) zero c h = omega arith
ready-within (x ∷ ks) (suc at) c h = let r = ready-within ks at c h in omega (arith, r)

-- an event's own session

untouched : (event : SmfEvent) (n : ℕ) (s : Session) → subject event ≡ Some n → (s.number == n) ≡ false → touches event s ≡ false
untouched (Attach session subscriber groups moment) n s e h = refl
untouched (Start session group moment) n s e h = let same : session ≡ n = cc in rw same h
untouched (Count session r) n s e h = let same : session ≡ n = cc in rw same h
untouched (Changes session trigger moment) n s e h = let same : session ≡ n = cc in rw same h
untouched (Tick moment) n s e h = cc
untouched (Detach session abnormal moment) n s e h = let same : session ≡ n = cc in let other : (s.number == session) ≡ false = rw same h in ap (λ b. b && is_live s.life) other
untouched (Answered session number reply) n s e h = let same : session ≡ n = cc in rw same h
untouched (Attempt session peer) n s e h = let same : session ≡ n = cc in rw same h
untouched (NotSent session) n s e h = let same : session ≡ n = cc in rw same h
untouched (NoReply session) n s e h = let same : session ≡ n = cc in rw same h
untouched Restart n s e h = cc

pub stays : (event : SmfEvent) (setup : SmfSetup) (now n : ℕ) (s : Session) → subject event ≡ Some n → (s.number == n) ≡ false → next_session setup now event s ≡ s
stays event setup now n s e h = ap (λ b. cond b (finished setup now (effect setup now event s)) s) (untouched event n s e h)

-- where no session has the number
pub none_at : (f : Session → Session) (n : ℕ) (ss : List Session) → ((s : Session) → (s.number == n) ≡ false → f s ≡ s) → list_any (λ m. m == n) (numbers_of ss) ≡ false → map f ss ≡ ss
none_at f n [] still none = refl
none_at f n (s ∷ ss) still none = at (s.number == n) (list_any (λ m. m == n) (numbers_of ss)) refl refl none (λ k. none_at f n ss still k)
  where
    at : (a b : Bool) → (s.number == n) ≡ a → list_any (λ m. m == n) (numbers_of ss) ≡ b → (a || b) ≡ false → (list_any (λ m. m == n) (numbers_of ss) ≡ false → map f ss ≡ ss) → map f (s ∷ ss) ≡ s ∷ ss
    at true b e d none ih = cc
    at false true e d none ih = cc
    at false false e d none ih = ap (λ x. x ∷ map f ss) (still s e) ∙ ap (λ xs. s ∷ xs) (ih d)

from_on : (t : ℕ → Bool) (j i : ℕ) (xs : List ℕ) → position_from t j xs ≡ Some i → (j ≤ i) × (i < j + length xs)
from_on t j i [] h = cc
from_on t j i (x ∷ xs) h = at (t x) h (λ k. from_on t (j + 1) i xs k)
  where
    at : (b : Bool) → cond b (Some j) (position_from t (j + 1) xs) ≡ Some i → (position_from t (j + 1) xs ≡ Some i → (j + 1 ≤ i) × (i < j + 1 + length xs)) → (j ≤ i) × (i < j + length (x ∷ xs))
    at true e ih = let same : j ≡ i = cc in (omega (arith, same), omega (arith, same))
    at false e ih = let r = ih e in (omega (arith, r.0), omega (arith, r.1))

pub place-within : (n i : ℕ) (ss : List Session) → place_in (numbers_of ss) n ≡ Some i → i < length ss
place-within n i ss h = let r = from_on (λ m. m == n) 0 i (numbers_of ss) h in let l = length-map ss (λ (s : Session). s.number) in omega (arith, r.1, l)

-- where one has it, that one alone changes
one_from : (f : Session → Session) (n j i : ℕ) (ss : List Session) → ((s : Session) → (s.number == n) ≡ false → f s ≡ s) → AreApart (numbers_of ss) → position_from (λ m. m == n) j (numbers_of ss) ≡ Some i → map_at (i - j) f ss ≡ map f ss
one_from f n j i [] still apart h = cc
one_from f n j i (s ∷ ss) still apart h = at (s.number == n) refl h (λ k. one_from f n (j + 1) i ss still apart.1 k)
  where
    later : (j + 1 ≤ i) → i - j ≡ suc (i - (j + 1))
    later l = omega (arith, l)

    at : (b : Bool) → (s.number == n) ≡ b → cond b (Some j) (position_from (λ m. m == n) (j + 1) (numbers_of ss)) ≡ Some i → (position_from (λ m. m == n) (j + 1) (numbers_of ss) ≡ Some i → map_at (i - (j + 1)) f ss ≡ map f ss) → map_at (i - j) f (s ∷ ss) ≡ map f (s ∷ ss)
    at true e g ih =
        let same : j ≡ i = cc in
        let none : i - j ≡ 0 = omega (arith, same) in
        let number : s.number ≡ n = eqb-true s.number n e in
        ap (λ k. map_at k f (s ∷ ss)) none ∙ ap (λ xs. f s ∷ xs) (sym (none_at f n ss still (subst (λ m. list_any (λ k. k == m) (numbers_of ss) ≡ false) number apart.0)))
    at false e g ih =
        ap (λ k. map_at k f (s ∷ ss)) (later (from_on (λ m. m == n) (j + 1) i (numbers_of ss) g).0) ∙ ap (λ x. x ∷ map_at (i - (j + 1)) f ss) (sym (still s e)) ∙ ap (λ xs. f s ∷ xs) (ih g)

pub one_alone : (f : Session → Session) (n i : ℕ) (ss : List Session) → ((s : Session) → (s.number == n) ≡ false → f s ≡ s) → AreApart (numbers_of ss) → place_in (numbers_of ss) n ≡ Some i → map_at i f ss ≡ map f ss
one_alone f n i ss still apart h = ap (λ k. map_at k f ss) (omega arith) ∙ one_from f n 0 i ss still apart h

-- any other touches its own alone
pub none_step : (event : SmfEvent) (setup : SmfSetup) (now n : ℕ) (ss : List Session) → subject event ≡ Some n → place_for (subject event) (numbers_of ss) ≡ None → ss ≡ map (next_session setup now event) ss
none_step event setup now n ss e h =
    sym (none_at (next_session setup now event) n ss (λ s k. stays event setup now n s e k) (absent (λ m. m == n) 0 (numbers_of ss) (ap (λ o. place_for o (numbers_of ss)) (sym e) ∙ h)))

pub one_step : (event : SmfEvent) (setup : SmfSetup) (now n i : ℕ) (ss : List Session) → subject event ≡ Some n → place_for (subject event) (numbers_of ss) ≡ Some i → AreApart (numbers_of ss) → map_at i (next_session setup now event) ss ≡ map (next_session setup now event) ss
one_step event setup now n i ss e h apart = one_alone (next_session setup now event) n i ss (λ s k. stays event setup now n s e k) apart (ap (λ o. place_for o (numbers_of ss)) (sym e) ∙ h)

pub one_within : (event : SmfEvent) (n i : ℕ) (ks : List KeptAs) → subject event ≡ Some n → place_for (subject event) (numbers_of (sessions_of ks)) ≡ Some i → i < length ks
one_within event n i ks e h =
    let w = place-within n i (sessions_of ks) (ap (λ o. place_for o (numbers_of (sessions_of ks))) (sym e) ∙ h) in omega (arith, w, length-map ks (λ (k : KeptAs). k.session))

-- where it touches that
pub touched_now : (event : SmfEvent) (setup : SmfSetup) (now : ℕ) (s : Session) → touches event s ≡ true → stepped_by setup now event s ≡ next_session setup now event s
touched_now event setup now s h = ap (λ b. cond b (finished setup now (effect setup now event s)) s) (sym h)

pub untouched_now : (event : SmfEvent) (setup : SmfSetup) (now : ℕ) (s : Session) → touches event s ≡ false → next_session setup now event s ≡ s
untouched_now event setup now s h = ap (λ b. cond b (finished setup now (effect setup now event s)) s) h
