-- What is given up of a session after a change: what is told before the first that the change gives up stays.
use Rattle.std.proofs.Common.{◌≡◌, ℕ, suc, ◌+◌, ◌-◌, ◌<◌, ◌≤◌, Bool, true, false, cond, List, [], ◌∷◌, ◌++◌, length, filter, take, drop, get_or, refl, sym, ◌∙◌, ap, arith, add-one}
use Rattle.std.specs.Prelude.{Option, Some, None, is_some, option_map}
use Rattle.std.specs.List.{cons_option}
use Rattle.std.proofs.lemmas.List.{take-append-drop, length-append, drop_all}
use Rattle.std.proofs.lemmas.List.Elements.{filter_map-append}
use Rattle.std.proofs.lemmas.List.Sums.{length-filter}
use Rattle.std.proofs.Math.Seq.{take-append_seam, drop-cons}
use Rattle.smf_model.specs.declared.session.Why.{Why}
use Rattle.smf_model.specs.declared.session.Place.{Place}
use Rattle.smf_model.specs.declared.session.Place.TheVariants.{Open, Waiting, Frozen, Answered, GivenUp as IsGivenUp}
use Rattle.smf_model.specs.declared.session.Holding.{Holding}
use Rattle.smf_model.specs.declared.session.GivenUp.{GivenUp}
use Rattle.smf_model.specs.GivenUps.{why_in, told, given_up_as, given_up_of}
use Rattle.smf_core.specs.Reads.{is_held, is_held_at}
use Rattle.smf_core.specs.Caches.{merged, places_from, put_places, is_given_up, given_up_count, first_given_up}
use Rattle.smf_core.proofs.Merged.{past, here}
use Rattle.smf_core.proofs.Places.{at_past, at_here, held_here, held_past, put-merged}

-- what is held is not given up
not_given_in : (p : Place) → is_held_at p ≡ true → is_some (why_in p) ≡ false
not_given_in Open e = refl
not_given_in Waiting e = refl
not_given_in Frozen e = refl
not_given_in Answered e = refl
not_given_in (IsGivenUp why) e = cc

not_given : (h : Holding) → is_held h ≡ true → is_given_up h ≡ false
not_given h e = not_given_in h.place e

-- one that is not given up is not told
told_past : (h : Holding) (hs : List Holding) → is_given_up h ≡ false → given_up_of (h ∷ hs) ≡ given_up_of hs
told_past h hs e = at (why_in h.place) e
  where
    at : (w : Option Why) → is_some w ≡ false → cons_option (option_map (told h) w) (given_up_of hs) ≡ given_up_of hs
    at None e = refl
    at (Some why) e = cc

-- how many are told

abbrev count : List Holding → ℕ
count hs = length (filter is_given_up hs)

counted : (hs : List Holding) → given_up_count hs ≡ count hs
counted hs = sym (length-filter is_given_up hs)

counted_more : (h : Holding) (hs : List Holding) → length (given_up_of hs) ≡ count hs → length (given_up_of (h ∷ hs)) ≡ count (h ∷ hs)
counted_more h hs ih = at (why_in h.place)
  where
    at : (w : Option Why) → length (cons_option (option_map (told h) w) (given_up_of hs)) ≡ length (cond (is_some w) (h ∷ filter is_given_up hs) (filter is_given_up hs))
    at None = ih
    at (Some why) = omega (arith, ih)

pub told_count : (hs : List Holding) → length (given_up_of hs) ≡ count hs
told_count [] = refl
told_count (h ∷ hs) = counted_more h hs (told_count hs)

count_cons : (h : Holding) (hs : List Holding) → count (h ∷ hs) ≡ count (h ∷ []) + count hs
count_cons h hs = at (is_given_up h)
  where
    at : (b : Bool) → length (cond b (h ∷ filter is_given_up hs) (filter is_given_up hs)) ≡ length (cond b (h ∷ []) []) + length (filter is_given_up hs)
    at true = omega arith
    at false = omega arith

count_held : (h : Holding) → is_held h ≡ true → count (h ∷ []) ≡ 0
count_held h e = ap (λ b. length (cond b (h ∷ []) [])) (not_given h e)

-- what a change gives up comes to what is given up
count_merged : (all next : List Holding) → length (filter is_held all) ≤ length next → count (merged all next) ≡ count all + count next
count_merged [] next l = omega arith
count_merged (x ∷ all) next l = at (is_held x) refl next l (λ ks m. count_merged all ks m)
  where
    at : (b : Bool) → is_held x ≡ b → (ks : List Holding) → length (filter is_held (x ∷ all)) ≤ length ks
        → ((zs : List Holding) → length (filter is_held all) ≤ length zs → count (merged all zs) ≡ count all + count zs)
        → count (merged (x ∷ all) ks) ≡ count (x ∷ all) + count ks
    at true e [] l ih = absurd (omega (arith, l, ap length (held_here x all e)))
    at true e (k ∷ ks) l ih =
        let rest : count (merged all ks) ≡ count all + count ks = ih ks (omega (arith, l, ap length (held_here x all e))) in
        omega (arith, ap count (here x k all ks e), count_cons k (merged all ks), count_cons x all, count_cons k ks, count_held x e, rest)
    at false e ks l ih =
        let rest : count (merged all ks) ≡ count all + count ks = ih ks (omega (arith, l, ap length (held_past x all e))) in
        omega (arith, ap count (past x all ks e), count_cons x (merged all ks), count_cons x all, rest)

-- the first that is given up

first_here : (p : ℕ) (ps : List ℕ) (k : Holding) (ks : List Holding) (count : ℕ) → is_given_up k ≡ true → first_given_up (p ∷ ps) (k ∷ ks) count ≡ p
first_here p ps k ks count e = ap (λ b. cond b p (first_given_up ps ks count)) e

first_later : (p : ℕ) (ps : List ℕ) (k : Holding) (ks : List Holding) (count : ℕ) → is_given_up k ≡ false → first_given_up (p ∷ ps) (k ∷ ks) count ≡ first_given_up ps ks count
first_later p ps k ks count e = ap (λ b. cond b p (first_given_up ps ks count)) e

pub first_turn : (places : List ℕ) (moved : List Holding) (count i : ℕ) (k : Holding) → i < length places → i < length moved → get_or moved i k ≡ k
    → first_given_up (drop i places) (drop i moved) count ≡ cond (is_given_up k) (get_or places i 0) (first_given_up (drop (i + 1) places) (drop (i + 1) moved) count)
first_turn places moved count i k l m is =
    ap (λ ps. first_given_up ps (drop i moved) count) (drop-cons places i 0 l ∙ ap (λ n. get_or places i 0 ∷ drop n places) (sym (add-one i)))
    ∙ ap (λ ks. first_given_up (get_or places i 0 ∷ drop (i + 1) places) ks count) (drop-cons moved i k m ∙ ap (λ x. x ∷ drop (suc i) moved) is ∙ ap (λ n. k ∷ drop n moved) (sym (add-one i)))

first_none : (ps : List ℕ) (count : ℕ) → first_given_up ps [] count ≡ count
first_none [] count = refl
first_none (p ∷ ps) count = refl

pub first_past : (places : List ℕ) (moved : List Holding) (count i : ℕ) → length moved ≤ i → first_given_up (drop i places) (drop i moved) count ≡ count
first_past places moved count i l = ap (λ ks. first_given_up (drop i places) ks count) (drop_all i moved l) ∙ first_none (drop i places) count

-- among the containers from a place on
abbrev first_from : ℕ → List Holding → List Holding → ℕ
first_from i all ks = first_given_up (places_from i all) ks (i + length all)

seam : (i : ℕ) (x : Holding) (all ks : List Holding) → first_given_up (places_from (i + 1) all) ks (i + length (x ∷ all)) ≡ first_from (i + 1) all ks
seam i x all ks = ap (first_given_up (places_from (i + 1) all) ks) (omega arith)

-- where the container at the place is no such one, it comes later
passed : (i : ℕ) (x : Holding) (all ks : List Holding) → is_held x ≡ false → first_from i (x ∷ all) ks ≡ first_from (i + 1) all ks
passed i x all ks e = ap (λ ps. first_given_up ps ks (i + length (x ∷ all))) (at_past x i all e) ∙ seam i x all ks

stayed : (i : ℕ) (x k : Holding) (all ks : List Holding) → is_held x ≡ true → is_given_up k ≡ false → first_from i (x ∷ all) (k ∷ ks) ≡ first_from (i + 1) all ks
stayed i x k all ks e g = ap (λ ps. first_given_up ps (k ∷ ks) (i + length (x ∷ all))) (at_here x i all e) ∙ first_later i (places_from (i + 1) all) k ks (i + length (x ∷ all)) g ∙ seam i x all ks

found_here : (i : ℕ) (x k : Holding) (all ks : List Holding) → is_held x ≡ true → is_given_up k ≡ true → first_from i (x ∷ all) (k ∷ ks) ≡ i
found_here i x k all ks e g = ap (λ ps. first_given_up ps (k ∷ ks) (i + length (x ∷ all))) (at_here x i all e) ∙ first_here i (places_from (i + 1) all) k ks (i + length (x ∷ all)) g

-- it is not before the place
not_before : (i : ℕ) (all ks : List Holding) → length (filter is_held all) ≤ length ks → i ≤ first_from i all ks
not_before i [] ks l = omega arith
not_before i (x ∷ all) ks l = at (is_held x) refl ks l (λ zs m. not_before (i + 1) all zs m)
  where
    later : (k : Holding) (ks : List Holding) (b : Bool) → is_given_up k ≡ b → is_held x ≡ true → i + 1 ≤ first_from (i + 1) all ks → i ≤ first_from i (x ∷ all) (k ∷ ks)
    later k ks true g e ih = omega (arith, found_here i x k all ks e g)
    later k ks false g e ih = omega (arith, stayed i x k all ks e g, ih)

    at : (b : Bool) → is_held x ≡ b → (ks : List Holding) → length (filter is_held (x ∷ all)) ≤ length ks
        → ((zs : List Holding) → length (filter is_held all) ≤ length zs → i + 1 ≤ first_from (i + 1) all zs) → i ≤ first_from i (x ∷ all) ks
    at true e [] l ih = absurd (omega (arith, l, ap length (held_here x all e)))
    at true e (k ∷ ks) l ih = later k ks (is_given_up k) refl e (ih ks (omega (arith, l, ap length (held_here x all e))))
    at false e ks l ih = let more = ih ks (omega (arith, l, ap length (held_past x all e))) in omega (arith, passed i x all ks e, more)

-- how far behind the next place it is
abbrev far : ℕ → List Holding → List Holding → ℕ
far i all ks = first_from (i + 1) all ks - (i + 1)

-- what is told before it stays
front_stays : (i : ℕ) (all ks : List Holding) → length (filter is_held all) ≤ length ks
    → given_up_of (take (first_from i all ks - i) (merged all ks)) ≡ given_up_of (take (first_from i all ks - i) all)
front_stays i [] ks l =
    let none : first_from i [] ks - i ≡ 0 = omega arith in
    ap (λ n. given_up_of (take n ks)) none ∙ sym (ap (λ n. given_up_of (take n [])) none)
front_stays i (x ∷ all) ks l = at (is_held x) refl ks l (λ zs m. front_stays (i + 1) all zs m)
  where
    one_more : (n : ℕ) (zs : List Holding) → length (filter is_held all) ≤ length zs → n ≡ first_from (i + 1) all zs → n - i ≡ suc (far i all zs)
    one_more n zs m e = omega (arith, e, not_before (i + 1) all zs m)

    settled : (k : Holding) (zs : List Holding) (b : Bool) → is_given_up k ≡ b → is_held x ≡ true → length (filter is_held all) ≤ length zs
        → given_up_of (take (far i all zs) (merged all zs)) ≡ given_up_of (take (far i all zs) all)
        → given_up_of (take (first_from i (x ∷ all) (k ∷ zs) - i) (k ∷ merged all zs)) ≡ given_up_of (take (first_from i (x ∷ all) (k ∷ zs) - i) (x ∷ all))
    settled k zs true g e m ih =
        let none : first_from i (x ∷ all) (k ∷ zs) - i ≡ 0 = omega (arith, found_here i x k all zs e g) in
        ap (λ n. given_up_of (take n (k ∷ merged all zs))) none ∙ sym (ap (λ n. given_up_of (take n (x ∷ all))) none)
    settled k zs false g e m ih =
        let n : first_from i (x ∷ all) (k ∷ zs) - i ≡ suc (far i all zs) = one_more (first_from i (x ∷ all) (k ∷ zs)) zs m (stayed i x k all zs e g) in
        ap (λ z. given_up_of (take z (k ∷ merged all zs))) n
        ∙ told_past k (take (far i all zs) (merged all zs)) g
        ∙ ih
        ∙ sym (told_past x (take (far i all zs) all) (not_given x e))
        ∙ sym (ap (λ z. given_up_of (take z (x ∷ all))) n)

    at : (b : Bool) → is_held x ≡ b → (zs : List Holding) → length (filter is_held (x ∷ all)) ≤ length zs
        → ((ks : List Holding) → length (filter is_held all) ≤ length ks → given_up_of (take (far i all ks) (merged all ks)) ≡ given_up_of (take (far i all ks) all))
        → given_up_of (take (first_from i (x ∷ all) zs - i) (merged (x ∷ all) zs)) ≡ given_up_of (take (first_from i (x ∷ all) zs - i) (x ∷ all))
    at true e [] l ih = absurd (omega (arith, l, ap length (held_here x all e)))
    at true e (k ∷ zs) l ih =
        let m : length (filter is_held all) ≤ length zs = omega (arith, l, ap length (held_here x all e)) in
        ap (λ xs. given_up_of (take (first_from i (x ∷ all) (k ∷ zs) - i) xs)) (here x k all zs e) ∙ settled k zs (is_given_up k) refl e m (ih zs m)
    at false e zs l ih =
        let m : length (filter is_held all) ≤ length zs = omega (arith, l, ap length (held_past x all e)) in
        let n : first_from i (x ∷ all) zs - i ≡ suc (far i all zs) = one_more (first_from i (x ∷ all) zs) zs m (passed i x all zs e) in
        ap (λ xs. given_up_of (take (first_from i (x ∷ all) zs - i) xs)) (past x all zs e)
        ∙ ap (λ z. given_up_of (take z (x ∷ merged all zs))) n
        ∙ ap (cons_option (given_up_as x)) (ih zs m)
        ∙ sym (ap (λ z. given_up_of (take z (x ∷ all))) n)

-- a list in two parts
told_parts : (n : ℕ) (hs : List Holding) → given_up_of hs ≡ given_up_of (take n hs) ++ given_up_of (drop n hs)
told_parts n hs = ap given_up_of (sym (take-append-drop n hs)) ∙ filter_map-append given_up_as (take n hs) (drop n hs)

-- so many are told before a place
kept_front : (n : ℕ) (hs : List Holding) (given : List GivenUp) → given ≡ given_up_of hs → take (length given - given_up_count (drop n hs)) given ≡ given_up_of (take n hs)
kept_front n hs given e =
    let whole : length (given_up_of hs) ≡ length (given_up_of (take n hs)) + length (given_up_of (drop n hs)) = ap length (told_parts n hs) ∙ length-append (given_up_of (take n hs)) (given_up_of (drop n hs)) in
    let behind : length (given_up_of (drop n hs)) ≡ given_up_count (drop n hs) = told_count (drop n hs) ∙ sym (counted (drop n hs)) in
    let size : length given - given_up_count (drop n hs) ≡ length (given_up_of (take n hs)) = omega (arith, ap length e, whole, behind) in
    ap (λ m. take m given) size
    ∙ ap (take (length (given_up_of (take n hs)))) (e ∙ told_parts n hs)
    ∙ take-append_seam (given_up_of (take n hs)) (given_up_of (drop n hs))

-- what is told after a change, by the places and what is there then
pub told_anew : (places : List ℕ) (all moved : List Holding) (given : List GivenUp) (since : ℕ)
    → places ≡ places_from 0 all → length (filter is_held all) ≤ length moved → given ≡ given_up_of all → since ≡ first_given_up places moved (length all)
    → take (length given - given_up_count (drop since all)) given ++ given_up_of (drop since (put_places places moved all)) ≡ given_up_of (put_places places moved all)
told_anew places all moved given since at enough told first =
    let new : put_places places moved all ≡ merged all moved = ap (λ ps. put_places ps moved all) at ∙ put-merged all moved enough in
    let is : since ≡ first_from 0 all moved - 0 = omega (arith, first, ap (λ ps. first_given_up ps moved (length all)) at, ap (first_given_up (places_from 0 all) moved) zero_more) in
    let front : given_up_of (take since all) ≡ given_up_of (take since (put_places places moved all)) =
    ap (λ n. given_up_of (take n all)) is ∙ sym (front_stays 0 all moved enough) ∙ ap (λ n. given_up_of (take n (merged all moved))) (sym is) ∙ ap (λ xs. given_up_of (take since xs)) (sym new) in
    ap (λ gs. gs ++ given_up_of (drop since (put_places places moved all))) (kept_front since all given told ∙ front)
    ∙ sym (told_parts since (put_places places moved all))
  where
    zero_more : length all ≡ 0 + length all
    zero_more = omega arith

-- and how many these are
pub told_room : (places : List ℕ) (all moved : List Holding) (given : List GivenUp)
    → places ≡ places_from 0 all → length (filter is_held all) ≤ length moved → given ≡ given_up_of all
    → length (given_up_of (put_places places moved all)) ≡ length given + given_up_count moved
told_room places all moved given at enough told =
    let new : put_places places moved all ≡ merged all moved = ap (λ ps. put_places ps moved all) at ∙ put-merged all moved enough in
    let more : count (merged all moved) ≡ count all + count moved = count_merged all moved enough in
    omega (arith, ap (λ xs. length (given_up_of xs)) new, told_count (merged all moved), more, told_count all, ap length told, counted moved)

-- there is a place for what is told anew
pub told_spare : (places : List ℕ) (all moved : List Holding) (given kept : List GivenUp) (since cap : ℕ)
    → places ≡ places_from 0 all → length (filter is_held all) ≤ length moved → given ≡ given_up_of all → since ≡ first_given_up places moved (length all)
    → kept ≡ take (length given - given_up_count (drop since all)) given → length given + given_up_count moved ≤ cap
    → length kept + length (given_up_of (drop since (put_places places moved all))) ≤ cap
told_spare places all moved given kept since cap at enough told first is fits =
    let rest : List GivenUp = given_up_of (drop since (put_places places moved all)) in
    let anew : kept ++ rest ≡ given_up_of (put_places places moved all) = ap (λ gs. gs ++ rest) is ∙ told_anew places all moved given since at enough told first in
    let size : length kept + length rest ≡ length (given_up_of (put_places places moved all)) = sym (length-append kept rest) ∙ ap length anew in
    omega (arith, size, told_room places all moved given at enough told, fits)
