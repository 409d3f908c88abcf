-- The group at a place, and what a change of it does.
use Rattle.std.proofs.Common.{◌≡◌, ◌≢◌, ℕ, zero, suc, ◌+◌, ◌<◌, ◌≤◌, eqb, cond, Bool, true, false, List, [], ◌∷◌, ◌++◌, length, get_or, set, Option, Some, None, option_map, refl, sym, ap, ◌∙◌, subst, arith}
use Rattle.std.specs.Prelude.{IfSome, Result, Ok, Err, OnOk}
use Rattle.std.proofs.lemmas.Bool.Decides.{nat_tests}
use Rattle.units.specs.declared.request.Used.{Used}
use Rattle.units.specs.declared.request.UnitUsage.{UnitUsage}
use Rattle.records.specs.Usage.{unit_usage, with_group}
use Rattle.records.specs.Groups.{GroupSeen, usage_seen, place_of, room_of, HasPlaces, HaveAllPlaces, IsNot}

-- The first group of this number is at this place.
abbrev pub IsPlace : List GroupSeen → ℕ → ℕ → Type 0
IsPlace [] q i = ⊥
IsPlace (g ∷ gs) q zero = eqb g.group q ≡ true
IsPlace (g ∷ gs) q (suc i) = (eqb g.group q ≡ false) × IsPlace gs q i

-- No group is of this number.
abbrev pub IsAbsent : List GroupSeen → ℕ → Type 0
IsAbsent [] q = Unit {0}
IsAbsent (g ∷ gs) q = (eqb g.group q ≡ false) × IsAbsent gs q

is_place_by : (g : GroupSeen) (gs : List GroupSeen) (q i : ℕ) → ((j : ℕ) → place_of gs q ≡ Some j → IsPlace gs q j)
    → (b : Bool) → eqb g.group q ≡ b → (r : Option ℕ) → place_of gs q ≡ r → cond b (Some 0) (option_map (λ j. j + 1) r) ≡ Some i → IsPlace (g ∷ gs) q i
is_place_by g gs q i rest true t r p e = let at : 0 ≡ i = cc in subst (λ k. IsPlace (g ∷ gs) q k) at t
is_place_by g gs q i rest false f None p e = absurd cc
is_place_by g gs q i rest false f (Some j) p e = let one : j + 1 ≡ i = cc in let at : suc j ≡ i = omega arith in subst (λ k. IsPlace (g ∷ gs) q k) at (f, rest j p)

pub is_place : (gs : List GroupSeen) (q i : ℕ) → place_of gs q ≡ Some i → IsPlace gs q i
is_place [] q i e = absurd cc
is_place (g ∷ gs) q i e = is_place_by g gs q i (λ j p. is_place gs q j p) (eqb g.group q) refl (place_of gs q) refl e

is_absent_by : (g : GroupSeen) (gs : List GroupSeen) (q : ℕ) → (place_of gs q ≡ None → IsAbsent gs q)
    → (b : Bool) → eqb g.group q ≡ b → (r : Option ℕ) → place_of gs q ≡ r → cond b (Some 0) (option_map (λ j. j + 1) r) ≡ None → IsAbsent (g ∷ gs) q
is_absent_by g gs q rest true t r p e = absurd cc
is_absent_by g gs q rest false f None p e = (f, rest p)
is_absent_by g gs q rest false f (Some j) p e = absurd cc

pub is_absent : (gs : List GroupSeen) (q : ℕ) → place_of gs q ≡ None → IsAbsent gs q
is_absent [] q e = tt
is_absent (g ∷ gs) q e = is_absent_by g gs q (λ p. is_absent gs q p) (eqb g.group q) refl (place_of gs q) refl e

pub place_within : (gs : List GroupSeen) (q i : ℕ) → IsPlace gs q i → i < length gs
place_within [] q i h = absurd h
place_within (g ∷ gs) q zero h = omega arith
place_within (g ∷ gs) q (suc i) h = omega (arith, place_within gs q i h.1)

-- the same group and containers
usage_is : (a b : GroupSeen) → a.group ≡ b.group → a.used ≡ b.used → unit_usage a.group a.used ≡ unit_usage b.group b.used
usage_is a b g u = λ i. unit_usage (g i) (u i)

pub usage-set_same : (gs : List GroupSeen) (i : ℕ) (old new : GroupSeen) → i < length gs → old ≡ get_or gs i old → new.group ≡ old.group → new.used ≡ old.used → usage_seen (set gs i new) ≡ usage_seen gs
usage-set_same [] i old new lt is g u = absurd (omega arith)
usage-set_same (x ∷ gs) zero old new lt is g u = ap (λ (y : UnitUsage). y ∷ usage_seen gs) (usage_is new x (g ∙ ap (λ (z : GroupSeen). z.group) is) (u ∙ ap (λ (z : GroupSeen). z.used) is))
usage-set_same (x ∷ gs) (suc i) old new lt is g u = ap (λ (ys : List UnitUsage). unit_usage x.group x.used ∷ ys) (usage-set_same gs i old new (omega arith) is g u)

pub usage-set_joined : (gs : List GroupSeen) (q i : ℕ) (old new : GroupSeen) (used : List Used) → IsPlace gs q i → old ≡ get_or gs i old → new.group ≡ old.group → new.used ≡ old.used ++ used
    → usage_seen (set gs i new) ≡ with_group (usage_seen gs) q used
usage-set_joined [] q i old new used at is g u = absurd at
usage-set_joined (x ∷ gs) q zero old new used at is g u =
    rw at (ap (λ (y : UnitUsage). y ∷ usage_seen gs) (λ k. unit_usage ((g ∙ ap (λ (z : GroupSeen). z.group) is) k) ((u ∙ ap (λ (z : GroupSeen). z.used ++ used) is) k)))
usage-set_joined (x ∷ gs) q (suc i) old new used at is g u =
    let apart = at.0 in rw apart (ap (λ (ys : List UnitUsage). unit_usage x.group x.used ∷ ys) (usage-set_joined gs q i old new used at.1 is g u))

pub usage-pushed : (gs : List GroupSeen) (q : ℕ) (new : GroupSeen) (used : List Used) → IsAbsent gs q → new.group ≡ q → new.used ≡ used → usage_seen (gs ++ new ∷ []) ≡ with_group (usage_seen gs) q used
usage-pushed [] q new used none g u = λ i. unit_usage (g i) (u i) ∷ []
usage-pushed (x ∷ gs) q new used none g u = let apart = none.0 in rw apart (ap (λ (ys : List UnitUsage). unit_usage x.group x.used ∷ ys) (usage-pushed gs q new used none.1 g u))

-- the room of a group that is not the one that changes
other_test : (a b q : ℕ) → b ≢ q → eqb a q ≡ true → eqb a b ≡ false
other_test a b q ne t = grind (arith, nat_tests)

pub room-set_other : (gs : List GroupSeen) (q p i : ℕ) (old new : GroupSeen) → IsPlace gs q i → old ≡ get_or gs i old → new.group ≡ old.group → p ≢ q → room_of (set gs i new) p ≡ room_of gs p
room-set_other [] q p i old new at is g ne = absurd at
room-set_other (x ∷ gs) q p zero old new at is g ne =
    let same : new.group ≡ x.group = g ∙ ap (λ (z : GroupSeen). z.group) is in
    let no : eqb x.group p ≡ false = other_test x.group p q ne at in
    let no-2 : eqb new.group p ≡ false = ap (λ (n : ℕ). eqb n p) same ∙ no in rw (no, no-2) refl
room-set_other (x ∷ gs) q p (suc i) old new at is g ne = ap (λ (r : Option ℕ). cond (eqb x.group p) (Some x.room) r) (room-set_other gs q p i old new at.1 is g ne)

pub room-set_at : (gs : List GroupSeen) (q i : ℕ) (old new : GroupSeen) → IsPlace gs q i → old ≡ get_or gs i old → new.group ≡ old.group → room_of (set gs i new) q ≡ Some new.room
room-set_at [] q i old new at is g = absurd at
room-set_at (x ∷ gs) q zero old new at is g =
    let same : new.group ≡ x.group = g ∙ ap (λ (z : GroupSeen). z.group) is in
    let yes : eqb new.group q ≡ true = ap (λ (n : ℕ). eqb n q) same ∙ at in rw yes refl
room-set_at (x ∷ gs) q (suc i) old new at is g = let no = at.0 in rw no (room-set_at gs q i old new at.1 is g)

pub room-at : (gs : List GroupSeen) (q i : ℕ) (old : GroupSeen) → IsPlace gs q i → old ≡ get_or gs i old → room_of gs q ≡ Some old.room
room-at [] q i old at is = absurd at
room-at (x ∷ gs) q zero old at is = rw at (ap (λ (z : GroupSeen). let o : Option ℕ = Some z.room in o) (sym is))
room-at (x ∷ gs) q (suc i) old at is = let no = at.0 in rw no (room-at gs q i old at.1 is)

pub room-absent : (gs : List GroupSeen) (q : ℕ) → IsAbsent gs q → room_of gs q ≡ None
room-absent [] q none = refl
room-absent (x ∷ gs) q none = let no = none.0 in rw no (room-absent gs q none.1)

pub room-pushed_other : (gs : List GroupSeen) (p : ℕ) (new : GroupSeen) → new.group ≢ p → room_of (gs ++ new ∷ []) p ≡ room_of gs p
room-pushed_other [] p new ne = let no : eqb new.group p ≡ false = grind (arith, nat_tests) in rw no refl
room-pushed_other (x ∷ gs) p new ne = ap (λ (r : Option ℕ). cond (eqb x.group p) (Some x.room) r) (room-pushed_other gs p new ne)

-- what a change of one group leaves of all places
pub places_kept : (old new : List GroupSeen) (q : ℕ) → ((p : ℕ) → p ≢ q → room_of new p ≡ room_of old p) → (es : List UnitUsage) → IsNot q es → HaveAllPlaces old es → HaveAllPlaces new es
places_kept old new q same [] h places = tt
places_kept old new q same (e ∷ es) h places = (subst (λ (r : Option ℕ). IfSome r (λ room. length e.used ≤ room)) (sym (same e.group h.0)) places.0, places_kept old new q same es h.1 places.1)

-- what a search for a group found
pub found : (gs hs : List GroupSeen) (q i : ℕ) (r : Option ℕ) → hs ≡ gs → r ≡ place_of hs q → r ≡ Some i → IsPlace gs q i
found gs hs q i r same is some = is_place gs q i (ap (λ (l : List GroupSeen). place_of l q) (sym same) ∙ sym is ∙ some)

-- and where it found none
pub found_none : (gs hs : List GroupSeen) (q : ℕ) (r : Option ℕ) → hs ≡ gs → r ≡ place_of hs q → r ≡ None → IsAbsent gs q
found_none gs hs q r same is none = is_absent gs q (ap (λ (l : List GroupSeen). place_of l q) (sym same) ∙ sym is ∙ none)

-- the places of an entry of the group at a place
pub places-at : (gs : List GroupSeen) (q i : ℕ) (old : GroupSeen) (e : UnitUsage) → IsPlace gs q i → old ≡ get_or gs i old → e.group ≡ q → HasPlaces gs e → length e.used ≤ old.room
places-at gs q i old e at is same h = subst (λ (r : Option ℕ). IfSome r (λ room. length e.used ≤ room)) (ap (λ (n : ℕ). room_of gs n) same ∙ room-at gs q i old at is) h

-- a group that gets more room
pub grown : (gs : List GroupSeen) (q i : ℕ) (old new : GroupSeen) (e : UnitUsage) → IsPlace gs q i → old ≡ get_or gs i old → new.group ≡ old.group → old.room ≤ new.room → HasPlaces gs e → HasPlaces (set gs i new) e
grown gs q i old new e at is g more h = by (eqb e.group q) refl where
  by : (b : Bool) → eqb e.group q ≡ b → HasPlaces (set gs i new) e
  by true t =
      let same : e.group ≡ q = grind (arith, nat_tests) in
      let had : length e.used ≤ old.room = places-at gs q i old e at is same h in
      let r : room_of (set gs i new) e.group ≡ Some new.room = ap (λ (n : ℕ). room_of (set gs i new) n) same ∙ room-set_at gs q i old new at is g in
      let fits : length e.used ≤ new.room = omega arith in
      subst (λ (o : Option ℕ). IfSome o (λ room. length e.used ≤ room)) (sym r) fits
  by false f =
      let ne : e.group ≢ q = grind (arith, nat_tests) in
      subst (λ (o : Option ℕ). IfSome o (λ room. length e.used ≤ room)) (sym (room-set_other gs q e.group i old new at is g ne)) h

pub fits-at : (gs : List GroupSeen) (q i : ℕ) (old new : GroupSeen) (e : UnitUsage) → IsPlace gs q i → old ≡ get_or gs i old → new.group ≡ old.group → e.group ≡ q → length e.used ≤ new.room → HasPlaces (set gs i new) e
fits-at gs q i old new e at is g same fits =
    let r : room_of (set gs i new) e.group ≡ Some new.room = ap (λ (n : ℕ). room_of (set gs i new) n) same ∙ room-set_at gs q i old new at is g in
    subst (λ (o : Option ℕ). IfSome o (λ room. length e.used ≤ room)) (sym r) fits

pub fits-absent : (gs : List GroupSeen) (q : ℕ) (e : UnitUsage) → IsAbsent gs q → e.group ≡ q → HasPlaces gs e
fits-absent gs q e none same = subst (λ (o : Option ℕ). IfSome o (λ room. length e.used ≤ room)) (sym (ap (λ (n : ℕ). room_of gs n) same ∙ room-absent gs q none)) tt

-- what a success says of what follows from it
pub on_ok : {T E : Type 0} {P Q : Type 0} (r : Result T E) → (P → Q) → OnOk r P → OnOk r Q
on_ok (Ok x) f h = f h
on_ok (Err e) f h = tt

-- the places of all entries, from those of each
pub all_places : (gs : List GroupSeen) (es : List UnitUsage) → ((k : ℕ) (d : UnitUsage) → k < length es → HasPlaces gs (get_or es k d)) → HaveAllPlaces gs es
all_places gs [] h = tt
all_places gs (e ∷ es) h = (h 0 e (omega arith), all_places gs es (λ k d lt. h (suc k) d (omega arith)))

-- groups of which no entry is seen
pub none_seen : (gs : List GroupSeen) → usage_seen gs ≡ [] → gs ≡ []
none_seen [] h = refl
none_seen (g ∷ gs) h = absurd cc
