-- How often a container stands in a request: once where it is frozen, for each entry of its rating group.
use Rattle.std.proofs.Common.{◌≡◌, ℕ, suc, ◌+◌, ◌<◌, ◌≤◌, ◌==◌, ◌&&◌, ◌||◌, not, Bool, true, false, cond, List, [], ◌∷◌, length, refl, sym, ap, subst, arith}
use Rattle.std.specs.List.{AllByRecursion}
use Rattle.std.proofs.lemmas.Bool.{eqb-true, eq-eqb, ne_eqb}
use Rattle.units.specs.declared.request.Used.{Used}
use Rattle.sessions.specs.Kept.{occurs, occurs_in}
use Rattle.smf_model.specs.declared.session.Holding.{Holding}
use Rattle.smf_model.specs.declared.session.Entry.{Entry}
use Rattle.smf_model.specs.Settle.{is_frozen}
use Rattle.smf_model.specs.Freeze.{is_wanting, used_as, used_of, usage_of, says_something, usages}
use Rattle.smf_model.specs.Places.{AreInOrder}

-- one where the test holds, else none
abbrev pub one_if : Bool → ℕ
one_if b = cond b 1 0

-- how many entries a rating group has
abbrev pub entries_at : ℕ → List Entry → ℕ
entries_at group [] = 0
entries_at group (e ∷ es) = cond (group == e.number) 1 0 + entries_at group es

-- how often a container stands in a request with these entries
abbrev pub standing : ℕ → List Holding → List Entry → ℕ
standing lsn [] es = 0
standing lsn (h ∷ hs) es = cond (is_frozen h.place && (h.container.lsn == lsn)) (entries_at h.container.group es) 0 + standing lsn hs es

with_entry : (lsn : ℕ) (hs : List Holding) (e : Entry) (es : List Entry) → occurs lsn (used_of e.number hs) + standing lsn hs es ≡ standing lsn hs (e ∷ es)
with_entry lsn [] e es = omega arith
with_entry lsn (h ∷ hs) e es = at (is_frozen h.place) (h.container.group == e.number) (h.container.lsn == lsn) refl (with_entry lsn hs e es)
  where
    at : (f g l : Bool) → (h.container.lsn == lsn) ≡ l → occurs lsn (used_of e.number hs) + standing lsn hs es ≡ standing lsn hs (e ∷ es)
        → occurs lsn (cond (f && g) (used_as h ∷ used_of e.number hs) (used_of e.number hs)) + (cond (f && l) (entries_at h.container.group es) 0 + standing lsn hs es)
        ≡ cond (f && l) (cond g 1 0 + entries_at h.container.group es) 0 + standing lsn hs (e ∷ es)
    at true true true is k = let one : one_if (h.container.lsn == lsn) ≡ 1 = ap one_if is in omega (arith, one, k)
    at true true false is k = let none : one_if (h.container.lsn == lsn) ≡ 0 = ap one_if is in omega (arith, none, k)
    at true false true is k = omega (arith, k)
    at true false false is k = omega (arith, k)
    at false g l is k = omega (arith, k)

no_entries : (lsn : ℕ) (hs : List Holding) → standing lsn hs [] ≡ 0
no_entries lsn [] = refl
no_entries lsn (h ∷ hs) = at (is_frozen h.place && (h.container.lsn == lsn)) (no_entries lsn hs)
  where
    at : (b : Bool) → standing lsn hs [] ≡ 0 → cond b 0 0 + standing lsn hs [] ≡ 0
    at true k = omega (arith, k)
    at false k = omega (arith, k)

nothing : (xs : List Used) → (length xs == 0) ≡ true → xs ≡ []
nothing [] h = refl
nothing (x ∷ xs) h = absurd (let e : suc (length xs) ≡ 0 = eqb-true (suc (length xs)) 0 h in omega (arith, e))

silent : (w : Bool) (xs : List Used) → (w || not (length xs == 0)) ≡ false → xs ≡ []
silent true xs h = cc
silent false xs h = nothing xs (at (length xs == 0) h)
  where
    at : (b : Bool) → not b ≡ false → b ≡ true
    at true e = refl
    at false e = cc

pub occurs_standing : (lsn : ℕ) (hs : List Holding) (es : List Entry) → occurs_in lsn (usages hs es) ≡ standing lsn hs es
occurs_standing lsn hs [] = sym (no_entries lsn hs)
occurs_standing lsn hs (e ∷ es) = at (says_something e (used_of e.number hs)) refl (occurs_standing lsn hs es)
  where
    more : occurs lsn (used_of e.number hs) + standing lsn hs es ≡ standing lsn hs (e ∷ es)
    more = with_entry lsn hs e es

    at : (b : Bool) → says_something e (used_of e.number hs) ≡ b → occurs_in lsn (usages hs es) ≡ standing lsn hs es
        → occurs_in lsn (cond b (usage_of e (used_of e.number hs) ∷ usages hs es) (usages hs es)) ≡ standing lsn hs (e ∷ es)
    at true says k = omega (arith, k, more)
    at false says k = let none : occurs lsn (used_of e.number hs) ≡ 0 = ap (occurs lsn) (silent (is_wanting e) (used_of e.number hs) says) in omega (arith, k, none, more)

-- what stands in a request is frozen
pub standing_is : (W : ℕ → Type 0) (lsn : ℕ) (hs : List Holding) (es : List Entry) → AllByRecursion (λ h. is_frozen h.place ≡ true → W h.container.lsn) hs → 0 < standing lsn hs es → W lsn
standing_is W lsn [] es a l = absurd (omega arith)
standing_is W lsn (h ∷ hs) es a l = at (is_frozen h.place) (h.container.lsn == lsn) refl refl (λ k. standing_is W lsn hs es a.1 k) l
  where
    at : (f b : Bool) → is_frozen h.place ≡ f → (h.container.lsn == lsn) ≡ b → (0 < standing lsn hs es → W lsn) → 0 < cond (f && b) (entries_at h.container.group es) 0 + standing lsn hs es → W lsn
    at true true f b k l = subst W (eqb-true h.container.lsn lsn b) (a.0 f)
    at true false f b k l = k (omega arith)
    at false b f is k l = k (omega arith)

-- no rating group has two entries
abbrev pub AreApart : List Entry → Type 0
AreApart es = (group : ℕ) → entries_at group es ≤ 1

pub not_before : (lsn next : ℕ) (hs : List Holding) (es : List Entry) → AreInOrder next hs → lsn < next → standing lsn hs es ≡ 0
not_before lsn next [] es o l = refl
not_before lsn next (h ∷ hs) es o l =
    at (is_frozen h.place) (h.container.lsn == lsn) (ne_eqb h.container.lsn lsn (λ e. omega (arith, o.0, l, e))) (not_before lsn (next + 1) hs es o.1 (omega arith))
  where
    at : (f b : Bool) → b ≡ false → standing lsn hs es ≡ 0 → cond (f && b) (entries_at h.container.group es) 0 + standing lsn hs es ≡ 0
    at true true e k = cc
    at true false e k = omega (arith, k)
    at false b e k = omega (arith, k)

pub stands_once : (lsn next : ℕ) (hs : List Holding) (es : List Entry) → AreInOrder next hs → AreApart es → standing lsn hs es ≤ 1
stands_once lsn next [] es o apart = omega arith
stands_once lsn next (h ∷ hs) es o apart = at (is_frozen h.place) (h.container.lsn == lsn) refl (stands_once lsn (next + 1) hs es o.1 apart)
  where
    none : (h.container.lsn == lsn) ≡ true → standing lsn hs es ≡ 0
    none e = let same : h.container.lsn ≡ lsn = eqb-true h.container.lsn lsn e in not_before lsn (next + 1) hs es o.1 (omega (arith, o.0, same))

    at : (f b : Bool) → (h.container.lsn == lsn) ≡ b → standing lsn hs es ≤ 1 → cond (f && b) (entries_at h.container.group es) 0 + standing lsn hs es ≤ 1
    at true true e k = let zero : standing lsn hs es ≡ 0 = none e in let one : entries_at h.container.group es ≤ 1 = apart h.container.group in omega (arith, zero, one)
    at true false e k = omega (arith, k)
    at false b e k = omega (arith, k)

-- each container's rating group has an entry
abbrev pub AreEntered : List Entry → List Holding → Type 0
AreEntered es hs = AllByRecursion (λ h. 0 < entries_at h.container.group es) hs

abbrev pub StandsIf : List Holding → List Entry → Holding → Type 0
StandsIf whole es h = standing h.container.lsn whole es ≡ cond (is_frozen h.place) 1 0

behind : (g : Holding) (whole : List Holding) (next : ℕ) (hs : List Holding) (es : List Entry) → AreInOrder next hs → g.container.lsn < next → AllByRecursion (StandsIf whole es) hs → AllByRecursion (StandsIf (g ∷ whole) es) hs
behind g whole next [] es o l a = tt
behind g whole next (h ∷ hs) es o l a =
    (at (is_frozen g.place) (g.container.lsn == h.container.lsn) (ne_eqb g.container.lsn h.container.lsn (λ e. omega (arith, o.0, l, e))) a.0, behind g whole (next + 1) hs es o.1 (omega arith) a.1)
  where
    at : (f b : Bool) → b ≡ false → standing h.container.lsn whole es ≡ cond (is_frozen h.place) 1 0 → cond (f && b) (entries_at g.container.group es) 0 + standing h.container.lsn whole es ≡ cond (is_frozen h.place) 1 0
    at true true e k = cc
    at true false e k = omega (arith, k)
    at false b e k = omega (arith, k)

-- a container stands in the request once where it is frozen, else not
pub stands_if : (next : ℕ) (hs : List Holding) (es : List Entry) → AreInOrder next hs → AreApart es → AreEntered es hs → AllByRecursion (StandsIf hs es) hs
stands_if next [] es o apart a = tt
stands_if next (h ∷ hs) es o apart a =
    (at (is_frozen h.place) (h.container.lsn == h.container.lsn) (eq-eqb h.container.lsn h.container.lsn refl), behind h hs (next + 1) hs es o.1 (omega (arith, o.0)) (stands_if (next + 1) hs es o.1 apart a.1))
  where
    none : standing h.container.lsn hs es ≡ 0
    none = not_before h.container.lsn (next + 1) hs es o.1 (omega (arith, o.0))

    one : entries_at h.container.group es ≡ 1
    one = let most : entries_at h.container.group es ≤ 1 = apart h.container.group in omega (arith, most, a.0)

    at : (f b : Bool) → b ≡ true → cond (f && b) (entries_at h.container.group es) 0 + standing h.container.lsn hs es ≡ cond f 1 0
    at true true e = omega (arith, none, one)
    at true false e = cc
    at false b e = omega (arith, none)
