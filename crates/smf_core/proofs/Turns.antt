-- Several changes, each at a place, in the order of the places.
use Rattle.std.proofs.Common.{◌≡◌, ℕ, zero, suc, ◌+◌, ◌<◌, ◌≤◌, List, [], ◌∷◌, ◌++◌, length, map, take, get_or, set, refl, sym, ◌∙◌, ap, arith}
use Rattle.std.proofs.lemmas.List.{take_more, length-take, map-append}
use Rattle.smf_model.specs.declared.session.Session.{Session}
use Rattle.smf_core.specs.declared.plan.Change.{Change}
use Rattle.smf_core.specs.declared.plan.Turn.{Turn}
use Rattle.smf_core.specs.Caches.{KeptAs}
use Rattle.smf_core.specs.Plan.{changed, turned, map_at, IsReadyAt, AreBeyond, AreReady}

-- they are at places below one
abbrev pub AreBelow : ℕ → List Turn → Type 0
AreBelow at [] = Unit {0}
AreBelow at (t ∷ turns) = (t.at < at) × AreBelow at turns

pub below_more : (at more : ℕ) (ts : List Turn) → at ≤ more → AreBelow at ts → AreBelow more ts
below_more at more [] l b = tt
below_more at more (t ∷ ts) l b = (omega (arith, l, b.0), below_more at more ts l b.1)

pub below_push : (at : ℕ) (ts : List Turn) (t : Turn) → AreBelow at ts → t.at < at → AreBelow at (ts ++ t ∷ [])
below_push at [] t b l = (l, tt)
below_push at (u ∷ ts) t b l = (b.0, below_push at ts t b.1 l)

beyond_push : (at : ℕ) (ts : List Turn) (t : Turn) → AreBeyond at ts → at < t.at → AreBeyond at (ts ++ t ∷ [])
beyond_push at [] t b l = (l, tt)
beyond_push at (u ∷ ts) t b l = (b.0, beyond_push at ts t b.1 l)

beyond_last : (at : ℕ) (ts : List Turn) (t : Turn) → AreBeyond at (ts ++ t ∷ []) → AreBeyond at ts × (at < t.at)
beyond_last at [] t b = (tt, b.0)
beyond_last at (u ∷ ts) t b = let rest = beyond_last at ts t b.1 in ((b.0, rest.0), rest.1)

-- one more is ready

pub ready-push : (ts : List Turn) (t : Turn) (ks : List KeptAs) → AreReady ts ks → AreBelow t.at ts → IsReadyAt t.at t.change ks → AreReady (ts ++ t ∷ []) ks
ready-push [] t ks r b i = (i, tt, tt)
ready-push (u ∷ ts) t ks r b i = (r.0, beyond_push u.at ts t r.1 b.0, ready-push ts t ks r.2 b.1 i)

-- the last, and those before it

pub ready-last : (ts : List Turn) (t : Turn) (ks : List KeptAs) → AreReady (ts ++ t ∷ []) ks → IsReadyAt t.at t.change ks
ready-last [] t ks r = r.0
ready-last (u ∷ ts) t ks r = ready-last ts t ks r.2

pub ready-first : (ts : List Turn) (t : Turn) (ks : List KeptAs) → AreReady (ts ++ t ∷ []) ks → AreReady ts ks
ready-first [] t ks r = tt
ready-first (u ∷ ts) t ks r = (r.0, (beyond_last u.at ts t r.1).0, ready-first ts t ks r.2)

pub below-last : (ts : List Turn) (t : Turn) (ks : List KeptAs) → AreReady (ts ++ t ∷ []) ks → AreBelow t.at ts
below-last [] t ks r = tt
below-last (u ∷ ts) t ks r = ((beyond_last u.at ts t r.1).1, below-last ts t ks r.2)

-- another session's place does not matter

ready-other : (at other : ℕ) (c : Change) (ks : List KeptAs) (k : KeptAs) → at < other → IsReadyAt at c ks → IsReadyAt at c (set ks other k)
ready-other at other c [] k l r = absurd r
ready-other at zero c (x ∷ ks) k l r = absurd (omega (arith, l))
ready-other zero (suc other) c (x ∷ ks) k l r = r
ready-other (suc at) (suc other) c (x ∷ ks) k l r = ready-other at other c ks k (omega (arith, l)) r

pub ready-others : (ts : List Turn) (other : ℕ) (ks : List KeptAs) (k : KeptAs) → AreBelow other ts → AreReady ts ks → AreReady ts (set ks other k)
ready-others [] other ks k b r = tt
ready-others (t ∷ ts) other ks k b r = (ready-other t.at other t.change ks k b.0 r.0, r.1, ready-others ts other ks k b.1 r.2)

-- what they make of the sessions

pub turned-last : (ts : List Turn) (t : Turn) (ss : List Session) → turned (ts ++ t ∷ []) ss ≡ turned ts (map_at t.at (changed t.change) ss)
turned-last [] t ss = refl
turned-last (u ∷ ts) t ss = ap (map_at u.at (changed u.change)) (turned-last ts t ss)

map_at-before : (at : ℕ) (f : Session → Session) (xs ys : List Session) → at < length xs → map_at at f (xs ++ ys) ≡ map_at at f xs ++ ys
map_at-before at f [] ys l = absurd (omega (arith, l))
map_at-before zero f (x ∷ xs) ys l = refl
map_at-before (suc at) f (x ∷ xs) ys l = ap (λ zs. x ∷ zs) (map_at-before at f xs ys (omega (arith, l)))

map_at-end : (f : Session → Session) (xs : List Session) (s : Session) → map_at (length xs) f (xs ++ s ∷ []) ≡ xs ++ f s ∷ []
map_at-end f [] s = refl
map_at-end f (x ∷ xs) s = ap (λ zs. x ∷ zs) (map_at-end f xs s)

length-at : (at : ℕ) (f : Session → Session) (ss : List Session) → length (map_at at f ss) ≡ length ss
length-at at f [] = refl
length-at zero f (s ∷ ss) = refl
length-at (suc at) f (s ∷ ss) = let l = length-at at f ss in omega (arith, l)

length-turned : (ts : List Turn) (ss : List Session) → length (turned ts ss) ≡ length ss
length-turned [] ss = refl
length-turned (t ∷ ts) ss = length-at t.at (changed t.change) (turned ts ss) ∙ length-turned ts ss

turned-before : (ts : List Turn) (xs ys : List Session) → AreBelow (length xs) ts → turned ts (xs ++ ys) ≡ turned ts xs ++ ys
turned-before [] xs ys b = refl
turned-before (t ∷ ts) xs ys b =
    let l = length-turned ts xs in
    ap (map_at t.at (changed t.change)) (turned-before ts xs ys b.1) ∙ map_at-before t.at (changed t.change) (turned ts xs) ys (omega (arith, l, b.0))

-- one more session is as an event leaves it, by a change or without one

after_turns : (f : Session → Session) (ts : List Turn) (ss : List Session) (i : ℕ) (s v : Session) → i < length ss → get_or ss i s ≡ s → AreBelow i ts → turned ts (take i ss) ≡ map f (take i ss) → v ≡ f s
    → turned ts (take i ss ++ v ∷ []) ≡ map f (take (i + 1) ss)
after_turns f ts ss i s v within it below made one =
    let front : length (take i ss) ≡ i = omega (arith, length-take i ss, within) in
    turned-before ts (take i ss) (v ∷ []) (below_more i (length (take i ss)) ts (omega (arith, front)) below) ∙ ap (λ xs. xs ++ v ∷ []) made ∙ ap (λ x. map f (take i ss) ++ x ∷ []) one
    ∙ sym (map-append f (take i ss) (s ∷ [])) ∙ ap (map f) (sym (take_more ss i s within ∙ ap (λ x. take i ss ++ x ∷ []) it))

pub still_turn : (f : Session → Session) (ts : List Turn) (ss : List Session) (i : ℕ) (s : Session) → i < length ss → get_or ss i s ≡ s → AreBelow i ts → turned ts (take i ss) ≡ map f (take i ss) → f s ≡ s
    → turned ts (take (i + 1) ss) ≡ map f (take (i + 1) ss)
still_turn f ts ss i s within it below made one =
    ap (turned ts) (take_more ss i s within ∙ ap (λ x. take i ss ++ x ∷ []) it) ∙ after_turns f ts ss i s s within it below made (sym one)

pub made_turn : (f : Session → Session) (ts : List Turn) (t : Turn) (ss : List Session) (i : ℕ) (s : Session) → t.at ≡ i → i < length ss → get_or ss i s ≡ s → AreBelow i ts → turned ts (take i ss) ≡ map f (take i ss) → changed t.change s ≡ f s
    → turned (ts ++ t ∷ []) (take (i + 1) ss) ≡ map f (take (i + 1) ss)
made_turn f ts t ss i s here within it below made one =
    let front : length (take i ss) ≡ i = omega (arith, length-take i ss, within) in
    ap (turned (ts ++ t ∷ [])) (take_more ss i s within ∙ ap (λ x. take i ss ++ x ∷ []) it)
    ∙ turned-last ts t (take i ss ++ s ∷ [])
    ∙ ap (λ n. turned ts (map_at n (changed t.change) (take i ss ++ s ∷ []))) (here ∙ sym front)
    ∙ ap (turned ts) (map_at-end (changed t.change) (take i ss) s)
    ∙ after_turns f ts ss i s (changed t.change s) within it below made one

pub get-session : (ks : List KeptAs) (i : ℕ) (d : KeptAs) → get_or ks i d ≡ d → get_or (map (λ (k : KeptAs). k.session) ks) i d.session ≡ d.session
get-session [] i d it = refl
get-session (k ∷ ks) zero d it = ap (λ (x : KeptAs). x.session) it
get-session (k ∷ ks) (suc i) d it = get-session ks i d it
