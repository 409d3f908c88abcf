-- The containers of entries by rating group: the entry at a place, and that no group stands twice.
use Rattle.std.proofs.Common.{◌≡◌, ◌≢◌, ℕ, zero, suc, ◌+◌, ◌<◌, eqb, cond, Bool, true, false, List, [], ◌∷◌, ◌++◌, length, get_or, set, Option, Some, None, option_map, refl, sym, ap, ◌∙◌, subst, arith}
use Rattle.std.specs.Prelude.{Result, Ok, Err, IfOk, OnOk}
use Rattle.std.proofs.lemmas.Bool.Decides.{nat_tests}
use Rattle.units.specs.declared.request.Used.{Used}
use Rattle.units.specs.declared.request.UnitUsage.{UnitUsage}
use Rattle.records.specs.Usage.{unit_usage, entry_place, with_group, with_entry, with_usage}
use Rattle.records.specs.Groups.{IsNot, AreApart}

-- The first entry of this group is at this place.
abbrev pub IsEntry : List UnitUsage → ℕ → ℕ → Type 0
IsEntry [] q i = ⊥
IsEntry (u ∷ us) q zero = eqb u.group q ≡ true
IsEntry (u ∷ us) q (suc i) = (eqb u.group q ≡ false) × IsEntry us q i

is_entry_by : (u : UnitUsage) (us : List UnitUsage) (q i : ℕ) → ((j : ℕ) → entry_place us q ≡ Some j → IsEntry us q j)
    → (b : Bool) → eqb u.group q ≡ b → (r : Option ℕ) → entry_place us q ≡ r → cond b (Some 0) (option_map (λ j. j + 1) r) ≡ Some i → IsEntry (u ∷ us) q i
is_entry_by u us q i rest true t r p e = let at : 0 ≡ i = cc in subst (λ k. IsEntry (u ∷ us) q k) at t
is_entry_by u us q i rest false f None p e = absurd cc
is_entry_by u us q i rest false f (Some j) p e = let one : j + 1 ≡ i = cc in let at : suc j ≡ i = omega arith in subst (λ k. IsEntry (u ∷ us) q k) at (f, rest j p)

is_entry : (us : List UnitUsage) (q i : ℕ) → entry_place us q ≡ Some i → IsEntry us q i
is_entry [] q i e = absurd cc
is_entry (u ∷ us) q i e = is_entry_by u us q i (λ j p. is_entry us q j p) (eqb u.group q) refl (entry_place us q) refl e

entry_within : (us : List UnitUsage) (q i : ℕ) → IsEntry us q i → i < length us
entry_within [] q i h = absurd h
entry_within (u ∷ us) q zero h = omega arith
entry_within (u ∷ us) q (suc i) h = omega (arith, entry_within us q i h.1)

set_at : (us : List UnitUsage) (q i : ℕ) (old new : UnitUsage) (used : List Used) → IsEntry us q i → old ≡ get_or us i old → new ≡ unit_usage old.group (old.used ++ used) → set us i new ≡ with_group us q used
set_at [] q i old new used at is e = absurd at
set_at (u ∷ us) q zero old new used at is e = rw at (ap (λ (y : UnitUsage). y ∷ us) (e ∙ ap (λ (z : UnitUsage). unit_usage z.group (z.used ++ used)) is))
set_at (u ∷ us) q (suc i) old new used at is e = let apart = at.0 in rw apart (ap (λ (ys : List UnitUsage). u ∷ ys) (set_at us q i old new used at.1 is e))

-- the place that a search found is one of the list
pub found_within : (us vs : List UnitUsage) (q i : ℕ) (r : Option ℕ) → vs ≡ us → r ≡ entry_place vs q → r ≡ Some i → i < length us
found_within us vs q i r same is some = entry_within us q i (is_entry us q i (ap (λ (l : List UnitUsage). entry_place l q) (sym same) ∙ sym is ∙ some))

-- containers in the entry at a place
pub set_found : (us vs : List UnitUsage) (q i : ℕ) (r : Option ℕ) (old new : UnitUsage) (used : List Used) → vs ≡ us → r ≡ entry_place vs q → r ≡ Some i → old ≡ get_or us i old → new ≡ unit_usage old.group (old.used ++ used)
    → set us i new ≡ with_group us q used
set_found us vs q i r old new used same is some at e = set_at us q i old new used (is_entry us q i (ap (λ (l : List UnitUsage). entry_place l q) (sym same) ∙ sym is ∙ some)) at e

push_by : (u : UnitUsage) (us : List UnitUsage) (q : ℕ) (used : List Used) → (entry_place us q ≡ None → us ++ unit_usage q used ∷ [] ≡ with_group us q used)
    → (b : Bool) → (r : Option ℕ) → entry_place us q ≡ r → cond b (Some 0) (option_map (λ j. j + 1) r) ≡ None → u ∷ us ++ unit_usage q used ∷ [] ≡ cond b (unit_usage u.group (u.used ++ used) ∷ us) (u ∷ with_group us q used)
push_by u us q used rest true r p e = absurd cc
push_by u us q used rest false None p e = ap (λ (l : List UnitUsage). u ∷ l) (rest p)
push_by u us q used rest false (Some j) p e = absurd cc

push_new : (us : List UnitUsage) (q : ℕ) (used : List Used) → entry_place us q ≡ None → us ++ unit_usage q used ∷ [] ≡ with_group us q used
push_new [] q used e = refl
push_new (u ∷ us) q used e = push_by u us q used (λ p. push_new us q used p) (eqb u.group q) (entry_place us q) refl e

-- containers in a new entry
pub pushed_new : (us vs : List UnitUsage) (q : ℕ) (r : Option ℕ) (used : List Used) → vs ≡ us → r ≡ entry_place vs q → r ≡ None → us ++ unit_usage q used ∷ [] ≡ with_group us q used
pushed_new us vs q r used same is none = push_new us q used (ap (λ (l : List UnitUsage). entry_place l q) (sym same) ∙ sym is ∙ none)

-- no group stands twice
not_group_by : (u : UnitUsage) (us : List UnitUsage) (g q : ℕ) (used : List Used) → IsNot g (u ∷ us) → IsNot g (with_group us q used)
    → (b : Bool) → IsNot g (cond b (unit_usage u.group (u.used ++ used) ∷ us) (u ∷ with_group us q used))
not_group_by u us g q used h rest true = (h.0, h.1)
not_group_by u us g q used h rest false = (h.0, rest)

not_group : (us : List UnitUsage) (g q : ℕ) (used : List Used) → q ≢ g → IsNot g us → IsNot g (with_group us q used)
not_group [] g q used ne h = (ne, tt)
not_group (u ∷ us) g q used ne h = not_group_by u us g q used h (not_group us g q used ne h.1) (eqb u.group q)

apart_group_by : (u : UnitUsage) (us : List UnitUsage) (q : ℕ) (used : List Used) → AreApart (u ∷ us) → AreApart (with_group us q used)
    → (b : Bool) → eqb u.group q ≡ b → AreApart (cond b (unit_usage u.group (u.used ++ used) ∷ us) (u ∷ with_group us q used))
apart_group_by u us q used h rest true t = (h.0, h.1)
apart_group_by u us q used h rest false f = let ne : q ≢ u.group = grind (arith, nat_tests) in (not_group us u.group q used ne h.0, rest)

apart_group : (us : List UnitUsage) (q : ℕ) (used : List Used) → AreApart us → AreApart (with_group us q used)
apart_group [] q used h = (tt, tt)
apart_group (u ∷ us) q used h = apart_group_by u us q used h (apart_group us q used h.1) (eqb u.group q) refl

apart_entry : (us : List UnitUsage) (e : UnitUsage) → AreApart us → AreApart (with_entry us e)
apart_entry us e h = by (eqb (length e.used) 0) where
  by : (b : Bool) → AreApart (cond b us (with_group us e.group e.used))
  by true = h
  by false = apart_group us e.group e.used h

apart_usage : (us es : List UnitUsage) → AreApart us → AreApart (with_usage us es)
apart_usage us [] h = h
apart_usage us (e ∷ es) h = apart_usage (with_entry us e) es (apart_entry us e h)

-- what follows from what holds where an answer is Ok
pub on_ok : {X E P Q : Type 0} (r : Result X E) → (P → Q) → OnOk r P → OnOk r Q
on_ok (Ok x) f h = f h
on_ok (Err e) f h = tt

-- no group stands twice in what was made of entries
pub all_apart : {E : Type 0} (r : Result (List UnitUsage) E) (es : List UnitUsage) → IfOk r (λ l. l ≡ with_usage [] es) → IfOk r AreApart
all_apart (Ok l) es e = subst AreApart (sym e) (apart_usage [] es tt)
all_apart (Err e) es h = tt
