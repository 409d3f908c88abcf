-- What is found of a rating group's entry after each change of the entries.
use Rattle.std.proofs.Common.{◌≡◌, ◌≢◌, ℕ, ◌<◌, ◌==◌, nat_lt, Bool, true, false, cond, List, [], ◌∷◌, ◌++◌, map, filter, refl, sym, ◌∙◌, ap, subst, arith, ⊎_elim}
use Rattle.std.specs.Prelude.{Option, Some, None}
use Rattle.std.proofs.lemmas.Bool.{eqb-true, eq-eqb, ne_eqb, lt-ltb, le-ltb, cases_order}
use Rattle.smf_model.specs.declared.session.Entry.{Entry}
use Rattle.smf_model.specs.Settle.{entry_of}
use Rattle.smf_model.specs.Traffic.{or_new, asked_entry, with_asked}
use Rattle.smf_model.proofs.Entries.{found_number}

abbrev pub entry_then : (Entry → Entry) → Option Entry → Option Entry
entry_then f None = None
entry_then f (Some e) = Some (f e)

-- each entry is changed, and keeps its number
pub found_mapped : (f : Entry → Entry) (es : List Entry) (group : ℕ) → ((e : Entry) → (f e).number ≡ e.number) → entry_of group (map f es) ≡ entry_then f (entry_of group es)
found_mapped f [] group same = refl
found_mapped f (e ∷ es) group same = ap (λ n. cond (n == group) (Some (f e)) (entry_of group (map f es))) (same e) ∙ at (e.number == group) (found_mapped f es group same)
  where
    at : (b : Bool) → entry_of group (map f es) ≡ entry_then f (entry_of group es) → cond b (Some (f e)) (entry_of group (map f es)) ≡ entry_then f (cond b (Some e) (entry_of group es))
    at true k = refl
    at false k = k

-- the entry that is found has the number
abbrev NumberIs : ℕ → Option Entry → Type 0
NumberIs group None = Unit {0}
NumberIs group (Some e) = e.number ≡ group

number_is : (group : ℕ) (es : List Entry) → NumberIs group (entry_of group es)
number_is group [] = tt
number_is group (x ∷ es) = at (x.number == group) refl (number_is group es)
  where
    at : (b : Bool) → (x.number == group) ≡ b → NumberIs group (entry_of group es) → NumberIs group (cond b (Some x) (entry_of group es))
    at true is k = eqb-true x.number group is
    at false is k = k

pub found_group : (group : ℕ) (es : List Entry) (e : Entry) → entry_of group es ≡ Some e → e.number ≡ group
found_group group es e found = subst (NumberIs group) found (number_is group es)

-- a rating group asks

abbrev or_then : Option Entry → Option Entry → Option Entry
or_then None later = later
or_then (Some e) later = Some e

found_append : (group : ℕ) (es fs : List Entry) → entry_of group (es ++ fs) ≡ or_then (entry_of group es) (entry_of group fs)
found_append group [] fs = refl
found_append group (e ∷ es) fs = at (e.number == group) (found_append group es fs)
  where
    at : (b : Bool) → entry_of group (es ++ fs) ≡ or_then (entry_of group es) (entry_of group fs) → cond b (Some e) (entry_of group (es ++ fs)) ≡ or_then (cond b (Some e) (entry_of group es)) (entry_of group fs)
    at true k = refl
    at false k = k

found_kept : (p : Entry → Bool) (group : ℕ) (es : List Entry) → ((e : Entry) → e.number ≡ group → p e ≡ true) → entry_of group (filter p es) ≡ entry_of group es
found_kept p group [] passes = refl
found_kept p group (e ∷ es) passes = at (p e) (e.number == group) refl refl (found_kept p group es passes)
  where
    at : (x b : Bool) → p e ≡ x → (e.number == group) ≡ b → entry_of group (filter p es) ≡ entry_of group es → entry_of group (cond x (e ∷ filter p es) (filter p es)) ≡ cond b (Some e) (entry_of group es)
    at true b px is k = ap (λ c. cond c (Some e) (entry_of group (filter p es))) is ∙ ap (λ o. cond b (Some e) o) k
    at false true px is k = absurd (let f : false ≡ true = sym px ∙ passes e (eqb-true e.number group is) in cc)
    at false false px is k = k

found_gone : (p : Entry → Bool) (group : ℕ) (es : List Entry) → ((e : Entry) → e.number ≡ group → p e ≡ false) → entry_of group (filter p es) ≡ None
found_gone p group [] fails = refl
found_gone p group (e ∷ es) fails = at (p e) (e.number == group) refl refl (found_gone p group es fails)
  where
    at : (x b : Bool) → p e ≡ x → (e.number == group) ≡ b → entry_of group (filter p es) ≡ None → entry_of group (cond x (e ∷ filter p es) (filter p es)) ≡ None
    at true true px is k = absurd (let f : true ≡ false = sym px ∙ fails e (eqb-true e.number group is) in cc)
    at true false px is k = ap (λ c. cond c (Some e) (entry_of group (filter p es))) is ∙ k
    at false b px is k = k

or_none : (o : Option Entry) → or_then o None ≡ o
or_none None = refl
or_none (Some e) = refl

pub found_asked : (group g : ℕ) (es : List Entry)
    → (g ≡ group → entry_of g (with_asked group es) ≡ Some (asked_entry (or_new group (entry_of group es)))) × (g ≢ group → entry_of g (with_asked group es) ≡ entry_of g es)
found_asked group g es = (own, other)
  where
    low : List Entry
    low = filter (λ e. nat_lt e.number group) es

    high : List Entry
    high = filter (λ e. nat_lt group e.number) es

    mid : Entry
    mid = asked_entry (or_new group (entry_of group es))

    whole : entry_of g (with_asked group es) ≡ or_then (entry_of g low) (cond ((or_new group (entry_of group es)).number == g) (Some mid) (entry_of g high))
    whole = found_append g low (mid ∷ high)

    named : ((or_new group (entry_of group es)).number == g) ≡ (group == g)
    named = ap (λ n. n == g) (found_number group es)

    own : g ≡ group → entry_of g (with_asked group es) ≡ Some mid
    own is =
        let none_low : entry_of g low ≡ None = found_gone (λ e. nat_lt e.number group) g es (λ e n. le-ltb e.number group (omega (arith, n, is))) in
        whole ∙ ap (λ o. or_then o (cond ((or_new group (entry_of group es)).number == g) (Some mid) (entry_of g high))) none_low
        ∙ ap (λ b. cond b (Some mid) (entry_of g high)) (named ∙ eq-eqb group g (sym is))

    apart : g ≢ group → entry_of g (with_asked group es) ≡ or_then (entry_of g low) (entry_of g high)
    apart away = whole ∙ ap (λ b. or_then (entry_of g low) (cond b (Some mid) (entry_of g high))) (named ∙ ne_eqb group g (λ e. away (sym e)))

    other : g ≢ group → entry_of g (with_asked group es) ≡ entry_of g es
    other away = ⊎_elim
        (λ (same : g ≡ group). absurd (away same))
        (λ order. ⊎_elim
        (λ (less : g < group).
        let all_low : entry_of g low ≡ entry_of g es = found_kept (λ e. nat_lt e.number group) g es (λ e n. lt-ltb e.number group (omega (arith, n, less))) in
        let none_high : entry_of g high ≡ None = found_gone (λ e. nat_lt group e.number) g es (λ e n. le-ltb group e.number (omega (arith, n, less))) in
        apart away ∙ ap (λ o. or_then (entry_of g low) o) none_high ∙ or_none (entry_of g low) ∙ all_low)
        (λ (more : group < g).
        let none_low : entry_of g low ≡ None = found_gone (λ e. nat_lt e.number group) g es (λ e n. le-ltb e.number group (omega (arith, n, more))) in
        let all_high : entry_of g high ≡ entry_of g es = found_kept (λ e. nat_lt group e.number) g es (λ e n. lt-ltb group e.number (omega (arith, n, more))) in
        apart away ∙ ap (λ o. or_then o (entry_of g high)) none_low ∙ all_high)
        order)
        (cases_order g group)

-- what asking leaves of a group's entry: all that it does not change, and what a new entry has
pub read_asked : {X : Type 0} (read : Option Entry → X) (group g : ℕ) (es : List Entry) → ((o : Option Entry) → read (Some (asked_entry (or_new group o))) ≡ read o) → read (entry_of g (with_asked group es)) ≡ read (entry_of g es)
read_asked read group g es same = at (g == group) refl
  where
    at : (b : Bool) → (g == group) ≡ b → read (entry_of g (with_asked group es)) ≡ read (entry_of g es)
    at true is =
        let e : g ≡ group = eqb-true g group is in
        ap read ((found_asked group g es).0 e) ∙ same (entry_of group es) ∙ ap (λ n. read (entry_of n es)) (sym e)
    at false is = ap read ((found_asked group g es).1 (λ e. absurd (let f : true ≡ false = sym (eq-eqb g group e) ∙ is in cc)))
