-- The places of what is held, and what is written there.
use Rattle.std.proofs.Common.{◌≡◌, ◌&&◌, ℕ, ◌+◌, ◌≤◌, ◌<◌, List, [], ◌∷◌, ◌++◌, length, filter, refl, sym, ◌∙◌, ap, arith, Bool, true, false, cond, append-nil, append_assoc, add-zero, add-one, ◌-◌, nat_lt, drop, get_or, suc}
use Rattle.std.specs.List.{list_all}
use Rattle.std.proofs.lemmas.List.{length-append, drop_all}
use Rattle.std.proofs.lemmas.Bool.{ltb-true, ltb-false}
use Rattle.std.proofs.Math.Seq.{set-append_seam, drop-cons}
use Rattle.smf_model.specs.declared.session.Holding.{Holding}
use Rattle.smf_core.specs.Reads.{is_held}
use Rattle.smf_core.specs.Caches.{merged, places_from, put_places, live_after, place_at}
use Rattle.smf_core.proofs.Merged.{past, here}

pub at_past : (h : Holding) (i : ℕ) (all : List Holding) → is_held h ≡ false → places_from i (h ∷ all) ≡ places_from (i + 1) all
at_past h i all e = ap (λ b. cond b (i ∷ places_from (i + 1) all) (places_from (i + 1) all)) e

pub at_here : (h : Holding) (i : ℕ) (all : List Holding) → is_held h ≡ true → places_from i (h ∷ all) ≡ i ∷ places_from (i + 1) all
at_here h i all e = ap (λ b. cond b (i ∷ places_from (i + 1) all) (places_from (i + 1) all)) e

pub held_here : (h : Holding) (all : List Holding) → is_held h ≡ true → filter is_held (h ∷ all) ≡ h ∷ filter is_held all
held_here h all e = ap (λ b. cond b (h ∷ filter is_held all) (filter is_held all)) e

pub held_past : (h : Holding) (all : List Holding) → is_held h ≡ false → filter is_held (h ∷ all) ≡ filter is_held all
held_past h all e = ap (λ b. cond b (h ∷ filter is_held all) (filter is_held all)) e

-- there is a place for each that is held
pub length-places : (i : ℕ) (all : List Holding) → length (places_from i all) ≡ length (filter is_held all)
length-places i [] = refl
length-places i (h ∷ all) = at (is_held h) refl (length-places (i + 1) all)
  where
    at : (b : Bool) → is_held h ≡ b → length (places_from (i + 1) all) ≡ length (filter is_held all) → length (places_from i (h ∷ all)) ≡ length (filter is_held (h ∷ all))
    at true e ih = ap length (at_here h i all e) ∙ omega (arith, ih) ∙ sym (ap length (held_here h all e))
    at false e ih = ap length (at_past h i all e) ∙ ih ∙ sym (ap length (held_past h all e))

new_places : (i : ℕ) (ks : List Holding) → places_from i ks ≡ live_after [] i ks
new_places i [] = refl
new_places i (k ∷ ks) = ap (λ ps. cond (is_held k) (i ∷ ps) ps) (new_places (i + 1) ks)

-- the places of what is held after others took the places of what was held
pub places-merged : (i : ℕ) (all next : List Holding) → length (filter is_held all) ≤ length next → places_from i (merged all next) ≡ live_after (places_from i all) (i + length all) next
places-merged i [] next h = new_places i next ∙ ap (λ n. live_after [] n next) (sym (add-zero i))
places-merged i (x ∷ all) next h = at (is_held x) refl next h (λ ks l. places-merged (i + 1) all ks l ∙ ap (λ n. live_after (places_from (i + 1) all) n ks) (omega arith))
  where
    at : (b : Bool) → is_held x ≡ b → (ks : List Holding) → length (filter is_held (x ∷ all)) ≤ length ks
        → ((zs : List Holding) → length (filter is_held all) ≤ length zs → places_from (i + 1) (merged all zs) ≡ live_after (places_from (i + 1) all) (i + length (x ∷ all)) zs)
        → places_from i (merged (x ∷ all) ks) ≡ live_after (places_from i (x ∷ all)) (i + length (x ∷ all)) ks
    at true e [] l ih = absurd (omega (arith, l, ap length (held_here x all e)))
    at true e (k ∷ ks) l ih =
        ap (places_from i) (here x k all ks e)
        ∙ ap (λ ps. cond (is_held k) (i ∷ ps) ps) (ih ks (omega (arith, l, ap length (held_here x all e))))
        ∙ ap (λ ps. live_after ps (i + length (x ∷ all)) (k ∷ ks)) (sym (at_here x i all e))
    at false e ks l ih =
        ap (places_from i) (past x all ks e) ∙ at_past x i (merged all ks) e ∙ ih ks (omega (arith, l, ap length (held_past x all e)))
        ∙ ap (λ ps. live_after ps (i + length (x ∷ all)) ks) (sym (at_past x i all e))

none_left : (ks all : List Holding) → put_places [] ks all ≡ all ++ ks
none_left [] all = sym (append-nil all)
none_left (k ∷ ks) all = none_left ks (all ++ k ∷ []) ∙ append_assoc all (k ∷ []) ks

-- what is written at the places of what is held
put_on : (front all next : List Holding) → length (filter is_held all) ≤ length next → put_places (places_from (length front) all) next (front ++ all) ≡ front ++ merged all next
put_on front [] next l = none_left next (front ++ []) ∙ ap (λ xs. xs ++ next) (append-nil front)
put_on front (x ∷ all) next l = at (is_held x) refl next l (λ y ks m. put_on (front ++ y ∷ []) all ks m)
  where
    seam : (y : Holding) → length (front ++ y ∷ []) ≡ length front + 1
    seam y = omega (arith, length-append front (y ∷ []))

    at : (b : Bool) → is_held x ≡ b → (ks : List Holding) → length (filter is_held (x ∷ all)) ≤ length ks
        → ((y : Holding) (zs : List Holding) → length (filter is_held all) ≤ length zs → put_places (places_from (length (front ++ y ∷ [])) all) zs ((front ++ y ∷ []) ++ all) ≡ (front ++ y ∷ []) ++ merged all zs)
        → put_places (places_from (length front) (x ∷ all)) ks (front ++ x ∷ all) ≡ front ++ merged (x ∷ all) ks
    at true e [] l ih = absurd (omega (arith, l, ap length (held_here x all e)))
    at true e (k ∷ ks) l ih =
        ap (λ ps. put_places ps (k ∷ ks) (front ++ x ∷ all)) (at_here x (length front) all e)
        ∙ ap (put_places (places_from (length front + 1) all) ks) (set-append_seam front x all k ∙ sym (append_assoc front (k ∷ []) all))
        ∙ ap (λ n. put_places (places_from n all) ks ((front ++ k ∷ []) ++ all)) (sym (seam k))
        ∙ ih k ks (omega (arith, l, ap length (held_here x all e)))
        ∙ append_assoc front (k ∷ []) (merged all ks)
        ∙ ap (λ xs. front ++ xs) (sym (here x k all ks e))
    at false e ks l ih =
        ap (λ ps. put_places ps ks (front ++ x ∷ all)) (at_past x (length front) all e)
        ∙ ap (λ xs. put_places (places_from (length front + 1) all) ks xs) (sym (append_assoc front (x ∷ []) all))
        ∙ ap (λ n. put_places (places_from n all) ks ((front ++ x ∷ []) ++ all)) (sym (seam x))
        ∙ ih x ks (omega (arith, l, ap length (held_past x all e)))
        ∙ append_assoc front (x ∷ []) (merged all ks)
        ∙ ap (λ xs. front ++ xs) (sym (past x all ks e))

pub put-merged : (all next : List Holding) → length (filter is_held all) ≤ length next → put_places (places_from 0 all) next all ≡ merged all next
put-merged all next l = put_on [] all next l

-- one more of those that took their places
pub live_turn : (places : List ℕ) (moved : List Holding) (count i : ℕ) (h : Holding) → i < length moved → get_or moved i h ≡ h
    → live_after (drop i places) (count + (i - length places)) (drop i moved)
    ≡ cond (is_held h) (place_at places count i ∷ live_after (drop (i + 1) places) (count + (i + 1 - length places)) (drop (i + 1) moved)) (live_after (drop (i + 1) places) (count + (i + 1 - length places)) (drop (i + 1) moved))
live_turn places moved count i h within it =
    ap (live_after (drop i places) (count + (i - length places))) (drop-cons moved i h within ∙ ap (λ x. x ∷ drop (suc i) moved) it ∙ ap (λ n. h ∷ drop n moved) (sym (add-one i)))
    ∙ at (nat_lt i (length places)) refl
  where
    at : (b : Bool) → nat_lt i (length places) ≡ b
        → live_after (drop i places) (count + (i - length places)) (h ∷ drop (i + 1) moved)
        ≡ cond (is_held h) (cond b (get_or places i 0) (count + (i - length places)) ∷ live_after (drop (i + 1) places) (count + (i + 1 - length places)) (drop (i + 1) moved)) (live_after (drop (i + 1) places) (count + (i + 1 - length places)) (drop (i + 1) moved))
    at true e =
        let lt : i < length places = ltb-true i (length places) e in
        let same : count + (i - length places) ≡ count + (i + 1 - length places) = omega arith in
        ap (λ ps. live_after ps (count + (i - length places)) (h ∷ drop (i + 1) moved)) (drop-cons places i 0 lt ∙ ap (λ n. get_or places i 0 ∷ drop n places) (sym (add-one i)))
        ∙ ap (λ n. cond (is_held h) (get_or places i 0 ∷ live_after (drop (i + 1) places) n (drop (i + 1) moved)) (live_after (drop (i + 1) places) n (drop (i + 1) moved))) same
    at false e =
        let le : length places ≤ i = ltb-false i (length places) e in
        let more : count + (i - length places) + 1 ≡ count + (i + 1 - length places) = omega arith in
        ap (λ ps. live_after ps (count + (i - length places)) (h ∷ drop (i + 1) moved)) (drop_all i places le)
        ∙ ap (λ n. cond (is_held h) ((count + (i - length places)) ∷ live_after [] n (drop (i + 1) moved)) (live_after [] n (drop (i + 1) moved))) more
        ∙ ap (λ ps. cond (is_held h) ((count + (i - length places)) ∷ live_after ps (count + (i + 1 - length places)) (drop (i + 1) moved)) (live_after ps (count + (i + 1 - length places)) (drop (i + 1) moved))) (sym (drop_all (i + 1) places (omega arith)))

-- a list that is made of turns, after a turn that adds to it, and after one that does not
pub turn_held : (left rest made next total : List ℕ) (h : Bool) (p q : ℕ) → left ≡ cond h (q ∷ rest) rest → h ≡ true → p ≡ q → next ≡ made ++ p ∷ [] → made ++ left ≡ total → next ++ rest ≡ total
turn_held left rest made next total h p q turn on same more so_far =
    ap (λ xs. xs ++ rest) more ∙ append_assoc made (p ∷ []) rest ∙ ap (λ n. made ++ n ∷ rest) same ∙ ap (λ xs. made ++ xs) (sym (turn ∙ ap (λ b. cond b (q ∷ rest) rest) on)) ∙ so_far

pub turn_past : (left rest made next total : List ℕ) (h : Bool) (q : ℕ) → left ≡ cond h (q ∷ rest) rest → h ≡ false → next ≡ made → made ++ left ≡ total → next ++ rest ≡ total
turn_past left rest made next total h q turn off same so_far =
    ap (λ xs. xs ++ rest) same ∙ ap (λ xs. made ++ xs) (sym (turn ∙ ap (λ b. cond b (q ∷ rest) rest) off)) ∙ so_far

-- where each that took a place is held, and no other came, the places are as they were
pub same_places : (places : List ℕ) (count : ℕ) (moved : List Holding) → length moved ≡ length places → list_all is_held moved ≡ true → places ≡ live_after places count moved
same_places [] count [] long held = refl
same_places [] count (k ∷ ks) long held = absurd (omega (arith, long))
same_places (p ∷ ps) count [] long held = absurd (omega (arith, long))
same_places (p ∷ ps) count (k ∷ ks) long held = at (is_held k) held (λ more. same_places ps count ks (omega (arith, long)) more)
  where
    at : (b : Bool) → (b && list_all is_held ks) ≡ true → (list_all is_held ks ≡ true → ps ≡ live_after ps count ks) → p ∷ ps ≡ cond b (p ∷ live_after ps count ks) (live_after ps count ks)
    at true h ih = ap (λ xs. p ∷ xs) (ih h)
    at false h ih = cc
