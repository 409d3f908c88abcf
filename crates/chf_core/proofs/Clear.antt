-- A group that asks has no reservation before its grant, and is granted once.
use Rattle.std.proofs.Common.{◌≡◌, ◌==◌, ◌&&◌, ◌||◌, ℕ, Bool, true, false, cond, List, [], ◌∷◌, ◌++◌, Option, Some, None, is_some, refl, sym, ap, ◌∙◌, arith}
use Rattle.std.proofs.lemmas.Bool.Decides.{nat_tests}
use Rattle.std.specs.Ordering.{eq_by_cmp, is_eq}
use Rattle.std.specs.Cmp.{tied_itself}
use Rattle.std.specs.FinMap as map
use Rattle.units.specs.declared.request.Ask.{Ask}
use Rattle.units.specs.declared.request.UnitUsage.{UnitUsage}
use Rattle.rating.specs.declared.grant.Grant.{Grant}
use Rattle.accounts.specs.declared.reservation.Key.{Key as Pair}
use Rattle.accounts.specs.declared.reservation.Reservation.{Reservation}
use Rattle.accounts.specs.Reservations.{ReservationMap, at, key_cmp, keys_total, keys_tied}
use Rattle.accounts.specs.Ledger.{State}
use Rattle.accounts.specs.declared.moves.Move.TheVariants.{Released}
use Rattle.accounts.specs.Moves.{after}
use Rattle.chf_core.specs.declared.target.Target.{Target}
use Rattle.chf_core.specs.declared.target.GroupAsk.{GroupAsk}
use Rattle.chf_core.specs.Effect.{Rating, released, released_one, gives_back, mentions, first_ask, asking, asks_after, asks_of, with_grant, deadline_of}
use Rattle.chf_core.specs.Admits.{Differ, AreClear}

none_of : {X : Type 0} (b : Bool) (v : Option X) → v ≡ None → cond b None v ≡ None
none_of true v e = refl
none_of false v e = e

none_removed : (m : ReservationMap) (k q : Pair) → map.get m q ≡ None → map.get (map.remove m k) q ≡ None
none_removed m k q e = map.get-remove keys_total m k q ∙ none_of (eq_by_cmp key_cmp q k) (map.get m q) e

removed_here : (m : ReservationMap) (k : Pair) → map.get (map.remove m k) k ≡ None
removed_here m k = map.get-remove keys_total m k k ∙ ap (λ r. cond (is_eq r) None (map.get m k)) (tied_itself keys_total k)

one_none : (t : Target) (u : UnitUsage) (s : State) (k : Pair) → map.get s.reservations k ≡ None → map.get (released_one t u s).reservations k ≡ None
one_none t u s k e = elim (is_some u.ask || gives_back u) as (λ b. map.get (cond b (after (Released t.session u.group) s) s).reservations k ≡ None) [ true ↦ none_removed s.reservations (at t.session u.group) k e | false ↦ e ]

-- what is not there is not released into being
all_none : (t : Target) (usage : List UnitUsage) (s : State) (k : Pair) → map.get s.reservations k ≡ None → map.get (released t usage s).reservations k ≡ None
all_none t [] s k e = e
all_none t (u ∷ usage) s k e = all_none t usage (released_one t u s) k (one_none t u s k e)

both : (a b : Bool) → (a && b) ≡ true → (a ≡ true) × (b ≡ true)
both true b e = (refl, e)
both false b e = absurd (cc)

same : (a b : ℕ) → (a == b) ≡ true → a ≡ b
same a b e = grind (arith, nat_tests)

-- a group that asks is released
asked_none : (t : Target) (group : ℕ) (usage : List UnitUsage) (s : State) (ask : Ask) → first_ask group usage ≡ Some ask → map.get (released t usage s).reservations (at t.session group) ≡ None
asked_none t group [] s ask e = absurd (cc)
asked_none t group (u ∷ usage) s ask e = by_test (u.group == group && is_some u.ask) refl e (asked_none t group usage (released_one t u s) ask)
  where
    here : u.group ≡ group → is_some u.ask ≡ true → map.get (released_one t u s).reservations (at t.session group) ≡ None
    here g i =
        ap (λ b. map.get (cond (b || gives_back u) (after (Released t.session u.group) s) s).reservations (at t.session group)) i
        ∙ ap (λ n. map.get (map.remove s.reservations (at t.session n)) (at t.session group)) g ∙ removed_here s.reservations (at t.session group)

    by_test : (b : Bool) → (u.group == group && is_some u.ask) ≡ b → cond b u.ask (first_ask group usage) ≡ Some ask
        → (first_ask group usage ≡ Some ask → map.get (released t usage (released_one t u s)).reservations (at t.session group) ≡ None)
        → map.get (released t usage (released_one t u s)).reservations (at t.session group) ≡ None
    by_test true h w i = let x = both (u.group == group) (is_some u.ask) h in all_none t usage (released_one t u s) (at t.session group) (here (same u.group group x.0) x.1)
    by_test false h w i = i w

or_true : (a b : Bool) → a ≡ true → (a || b) ≡ true
or_true true b e = refl
or_true false b e = absurd (cc)

or_last : (a b : Bool) → b ≡ true → (a || b) ≡ true
or_last true b e = refl
or_last false b e = e

still_mentioned : (earlier : List UnitUsage) (u : UnitUsage) (group : ℕ) → mentions earlier group ≡ true → mentions (earlier ++ u ∷ []) group ≡ true
still_mentioned [] u group e = absurd (cc)
still_mentioned (v ∷ earlier) u group e = elim (v.group == group) as (λ b. (b || mentions earlier group) ≡ true → (b || mentions (earlier ++ u ∷ []) group) ≡ true) [ true ↦ λ w. refl | false ↦ λ w. still_mentioned earlier u group w ] e

itself : (a : ℕ) → (a == a) ≡ true
itself a = grind (arith, nat_tests)

last_mentioned : (earlier : List UnitUsage) (u : UnitUsage) → mentions (earlier ++ u ∷ []) u.group ≡ true
last_mentioned [] u = or_true (u.group == u.group) false (itself u.group)
last_mentioned (v ∷ earlier) u = or_last (v.group == u.group) (mentions (earlier ++ u ∷ []) u.group) (last_mentioned earlier u)

apart : (earlier : List UnitUsage) (a b : ℕ) → mentions earlier a ≡ true → mentions earlier b ≡ false → (a == b) ≡ false
apart earlier a b e f = elim (a == b) as (λ w. (a == b) ≡ w → w ≡ false) [ true ↦ λ w. absurd (let h : a ≡ b = same a b w in let z : true ≡ false = sym e ∙ ap (mentions earlier) h ∙ f in cc) | false ↦ λ w. refl ] refl

-- a group that was mentioned is not granted again
differ_after : (group : ℕ) (earlier usage : List UnitUsage) → mentions earlier group ≡ true → Differ group (asks_after earlier usage)
differ_after group earlier [] e = tt
differ_after group earlier (u ∷ usage) e = by_test (mentions earlier u.group) refl (differ_after group (earlier ++ u ∷ []) usage (still_mentioned earlier u group e))
  where
    rest : List GroupAsk
    rest = asks_after (earlier ++ u ∷ []) usage

    by_ask : (o : Option Ask) → mentions earlier u.group ≡ false → Differ group (asks_after (earlier ++ u ∷ []) usage) → Differ group (asking u.group o ++ asks_after (earlier ++ u ∷ []) usage)
    by_ask None f i = i
    by_ask (Some ask) f i = (apart earlier group u.group e f, i)

    by_test : (b : Bool) → mentions earlier u.group ≡ b → Differ group (asks_after (earlier ++ u ∷ []) usage) → Differ group (cond b [] (asking u.group (first_ask u.group (u ∷ usage))) ++ asks_after (earlier ++ u ∷ []) usage)
    by_test true f i = i
    by_test false f i = by_ask (first_ask u.group (u ∷ usage)) f i

clear_after : (t : Target) (earlier usage : List UnitUsage) (s : State) → AreClear t (asks_after earlier usage) (released t usage s)
clear_after t earlier [] s = tt
clear_after t earlier (u ∷ usage) s = by_test (mentions earlier u.group) (clear_after t (earlier ++ u ∷ []) usage (released_one t u s))
  where
    by_ask : (o : Option Ask) → first_ask u.group (u ∷ usage) ≡ o → AreClear t (asks_after (earlier ++ u ∷ []) usage) (released t (u ∷ usage) s) → AreClear t (asking u.group o ++ asks_after (earlier ++ u ∷ []) usage) (released t (u ∷ usage) s)
    by_ask None e i = i
    by_ask (Some ask) e i = (asked_none t u.group (u ∷ usage) s ask e, (differ_after u.group (earlier ++ u ∷ []) usage (last_mentioned earlier u), i))

    by_test : (b : Bool) → AreClear t (asks_after (earlier ++ u ∷ []) usage) (released t (u ∷ usage) s) → AreClear t (cond b [] (asking u.group (first_ask u.group (u ∷ usage))) ++ asks_after (earlier ++ u ∷ []) usage) (released t (u ∷ usage) s)
    by_test true i = i
    by_test false i = by_ask (first_ask u.group (u ∷ usage)) refl i

pub asks_clear : (t : Target) (usage : List UnitUsage) (s : State) → AreClear t (asks_of usage) (released t usage s)
asks_clear t usage s = clear_after t [] usage s

-- a grant leaves the other groups clear
apart_keys : (t a b : ℕ) → (a == b) ≡ false → eq_by_cmp key_cmp (at t b) (at t a) ≡ false
apart_keys t a b e = keys_tied (at t b) (at t a) ∙ (let f : (b == a) ≡ false = grind (arith, nat_tests) in ap (λ x. t == t && x) f ∙ no (t == t))
  where
    no : (x : Bool) → (x && false) ≡ false
    no true = refl
    no false = refl

kept_none : (rating : Rating) (t : Target) (stamp : ℕ) (a : GroupAsk) (g : Grant) (s : State) (group : ℕ) → (a.group == group) ≡ false → map.get s.reservations (at t.session group) ≡ None → map.get (with_grant rating t stamp a g s).reservations (at t.session group) ≡ None
kept_none rating t stamp a g s group d e = elim (g.reserve == 0) as (λ b. map.get (cond b s.reservations (map.insert s.reservations (at t.session a.group) r)) (at t.session group) ≡ None) [
  | true ↦ e
  | false ↦ map.get-insert keys_total s.reservations (at t.session a.group) r (at t.session group) ∙ ap (λ b. cond b (Some r) (map.get s.reservations (at t.session group))) (apart_keys t.session a.group group d) ∙ e
]
  where
    r : Reservation
    r = record { account = t.account; left = g.reserve; deadline = deadline_of rating stamp a.group }

pub clear_granted : (rating : Rating) (t : Target) (stamp : ℕ) (a : GroupAsk) (g : Grant) (asks : List GroupAsk) (s : State) → Differ a.group asks → AreClear t asks s → AreClear t asks (with_grant rating t stamp a g s)
clear_granted rating t stamp a g [] s d c = tt
clear_granted rating t stamp a g (b ∷ asks) s d c = (kept_none rating t stamp a g s b.group d.0 c.0, (c.1.0, clear_granted rating t stamp a g asks s d.1 c.1.1))
