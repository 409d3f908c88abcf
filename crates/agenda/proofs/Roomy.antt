-- The marks among the places, of which the others have nothing to find.
use Rattle.std.proofs.Common.{◌≡◌, ℕ, zero, suc, ◌+◌, ◌-◌, ◌<◌, ◌≤◌, List, [], ◌∷◌, ◌++◌, length, fold, drop, take, set, get_or, replicate, refl, sym, ◌∙◌, ap, subst, arith}
use Rattle.std.proofs.lemmas.List.{length-set, length-take, drop_more, take_more_set, drop-set-lt, take-append-drop}
use Rattle.std.proofs.Math.Seq.{take-set-lt, take-append_seam, drop-append_seam}
use Rattle.std.specs.Prelude.{Result, Ok, Err, IfOk}
use Rattle.agenda.specs.declared.mark.Mark.{Mark}
use Rattle.agenda.specs.declared.mark.Search.{Search}
use Rattle.agenda.specs.Marks.{quiet, both, all_of, places_from}
use Rattle.agenda.specs.Rows.{AreRows, IsRoomy, first_row, set_rows}
use Rattle.agenda.proofs.Pairs.{both_quiet, finds_quiet}
use Rattle.agenda.proofs.Setting.{rows_set, first_set}

-- what has nothing to find adds nothing

fold_quiet : (m : Mark) (n : ℕ) → fold both m (replicate n quiet) ≡ m
fold_quiet m zero = refl
fold_quiet m (suc n) = ap (λ x. fold both x (replicate n quiet)) (both_quiet m) ∙ fold_quiet m n

fold_roomy : (m : Mark) (ms : List Mark) (n : ℕ) → fold both m (ms ++ replicate n quiet) ≡ fold both m ms
fold_roomy m [] n = fold_quiet m n
fold_roomy m (x ∷ ms) n = fold_roomy (both m x) ms n

found_quiet : (search : Search) (at n : ℕ) → places_from search at (replicate n quiet) ≡ []
found_quiet search at zero = refl
found_quiet search at (suc n) = rw (finds_quiet search) (found_quiet search (at + 1) n)

found_roomy : (search : Search) (at : ℕ) (ms : List Mark) (n : ℕ) → places_from search at (ms ++ replicate n quiet) ≡ places_from search at ms
found_roomy search at [] n = found_quiet search at n
found_roomy search at (m ∷ ms) n = rw (found_roomy search (at + 1) ms n) refl

-- the places are the marks and the others
split : (rows : List (List Mark)) (count : ℕ) → IsRoomy rows count → first_row rows ≡ take count (first_row rows) ++ replicate (length (first_row rows) - count) quiet
split rows count r = sym (take-append-drop count (first_row rows)) ∙ ap (λ xs. take count (first_row rows) ++ xs) r.rest

pub all_roomy : (rows : List (List Mark)) (count : ℕ) → IsRoomy rows count → all_of (first_row rows) ≡ all_of (take count (first_row rows))
all_roomy rows count r = ap all_of (split rows count r) ∙ fold_roomy quiet (take count (first_row rows)) (length (first_row rows) - count)

pub places_roomy : (search : Search) (rows : List (List Mark)) (count : ℕ) → IsRoomy rows count → places_from search 0 (first_row rows) ≡ places_from search 0 (take count (first_row rows))
places_roomy search rows count r = ap (places_from search 0) (split rows count r) ∙ found_roomy search 0 (take count (first_row rows)) (length (first_row rows) - count)

pub length_roomy : (rows : List (List Mark)) (count : ℕ) → IsRoomy rows count → length (take count (first_row rows)) ≡ count
length_roomy rows count r = let w = r.within in omega (arith, length-take count (first_row rows), w)

-- a mark that is set
pub set_roomy : (rows : List (List Mark)) (count at : ℕ) (m : Mark) → IsRoomy rows count → at < count → IsRoomy (set_rows rows at m) count
set_roomy rows count at m r l =
    let w = r.within in
    let same : length (set (first_row rows) at m) ≡ length (first_row rows) = length-set (first_row rows) at m in
    record {
      over = rows_set rows at m r.over (omega (arith, w, l));
      within = subst (λ xs. count ≤ length xs) (sym (first_set rows at m)) (omega (arith, w, same));
      rest = subst (λ xs. drop count xs ≡ replicate (length xs - count) quiet) (sym (first_set rows at m)) (drop-set-lt count (first_row rows) at m l ∙ r.rest ∙ ap (λ n. replicate (n - count) quiet) (sym same));
    }

pub set_marks : (rows : List (List Mark)) (count at : ℕ) (m : Mark) → at < count → take count (first_row (set_rows rows at m)) ≡ set (take count (first_row rows)) at m
set_marks rows count at m l = ap (take count) (first_set rows at m) ∙ take-set-lt count (first_row rows) at m l

pub set_room : (rows : List (List Mark)) (count at : ℕ) (m : Mark) → length (first_row (set_rows rows at m)) - count ≡ length (first_row rows) - count
set_room rows count at m = ap (λ xs. length xs - count) (first_set rows at m) ∙ ap (λ n. n - count) (length-set (first_row rows) at m)

-- one that is added

rest_more : (row : List Mark) (count : ℕ) → count < length row → drop count row ≡ replicate (length row - count) quiet → drop (count + 1) row ≡ replicate (length row - (count + 1)) quiet
rest_more row count l h = at (length row - count) refl
  where
    at : (n : ℕ) → length row - count ≡ n → drop (count + 1) row ≡ replicate (length row - (count + 1)) quiet
    at zero e = absurd (omega (arith, e, l))
    at (suc n) e =
        let less : length row - (count + 1) ≡ n = omega (arith, e) in
        let both_are : get_or row count quiet ∷ drop (count + 1) row ≡ quiet ∷ replicate n quiet = sym (drop_more row count quiet l) ∙ h ∙ ap (λ k. replicate k quiet) e in
        ap (drop 1) both_are ∙ ap (λ k. replicate k quiet) (sym less)

pub add_roomy : (rows : List (List Mark)) (count : ℕ) (m : Mark) → IsRoomy rows count → count < length (first_row rows) → IsRoomy (set_rows rows count m) (count + 1)
add_roomy rows count m r l =
    let same : length (set (first_row rows) count m) ≡ length (first_row rows) = length-set (first_row rows) count m in
    record {
      over = rows_set rows count m r.over l;
      within = subst (λ xs. count + 1 ≤ length xs) (sym (first_set rows count m)) (omega (arith, l, same));
      rest = subst (λ xs. drop (count + 1) xs ≡ replicate (length xs - (count + 1)) quiet) (sym (first_set rows count m))
          (drop-set-lt (count + 1) (first_row rows) count m (omega arith) ∙ rest_more (first_row rows) count l r.rest ∙ ap (λ n. replicate (n - (count + 1)) quiet) (sym same));
    }

pub add_marks : (rows : List (List Mark)) (count : ℕ) (m : Mark) → count < length (first_row rows) → take (count + 1) (first_row (set_rows rows count m)) ≡ take count (first_row rows) ++ m ∷ []
add_marks rows count m l = ap (take (count + 1)) (first_set rows count m) ∙ take_more_set (first_row rows) count m l

-- more places, where each has a mark
whole : (row : List Mark) (count : ℕ) → count ≤ length row → length row ≤ count → take count row ≡ row
whole row count w l = sym (ap (λ n. take n row) (let e : length row ≡ count = omega (arith, w, l) in e)) ∙ take-append_seam-nil row
  where
    take-append_seam-nil : (xs : List Mark) → take (length xs) xs ≡ xs
    take-append_seam-nil [] = refl
    take-append_seam-nil (x ∷ xs) = ap (λ ys. x ∷ ys) (take-append_seam-nil xs)

length_replicate : (n : ℕ) → length (replicate n quiet) ≡ n
length_replicate zero = refl
length_replicate (suc n) = let l = length_replicate n in omega (arith, l)

length_append : (xs ys : List Mark) → length (xs ++ ys) ≡ length xs + length ys
length_append [] ys = omega arith
length_append (x ∷ xs) ys = let l = length_append xs ys in omega (arith, l)

pub grown_roomy : (rows : List (List Mark)) (row : List Mark) (count n : ℕ) → count ≡ length row → AreRows rows → first_row rows ≡ row ++ replicate n quiet → IsRoomy rows count
grown_roomy rows row count n e r f =
    let long : length (row ++ replicate n quiet) ≡ length row + n = (let a = length_append row (replicate n quiet) in let b = length_replicate n in omega (arith, a, b)) in
    record {
      over = r;
      within = subst (λ xs. count ≤ length xs) (sym f) (omega (arith, long, e));
      rest = subst (λ xs. drop count xs ≡ replicate (length xs - count) quiet) (sym f)
          (ap (λ k. drop k (row ++ replicate n quiet)) e ∙ drop-append_seam row (replicate n quiet) ∙ ap (λ k. replicate k quiet) (omega (arith, long, e)));
    }

pub grown_marks : (rows : List (List Mark)) (row : List Mark) (count n : ℕ) → count ≡ length row → first_row rows ≡ row ++ replicate n quiet → take count (first_row rows) ≡ take count row
grown_marks rows row count n e f =
    ap (take count) f ∙ ap (λ k. take k (row ++ replicate n quiet)) e ∙ take-append_seam row (replicate n quiet) ∙ sym (whole row count (omega (arith, e)) (omega (arith, e)))

pub grown_room : (rows : List (List Mark)) (row : List Mark) (count n : ℕ) → count ≡ length row → 0 < n → first_row rows ≡ row ++ replicate n quiet → 0 < length (first_row rows) - count
grown_room rows row count n e some f =
    let a = length_append row (replicate n quiet) in let b = length_replicate n in let c = ap length f in
    omega (arith, a, b, c, e, some)

-- as the code has it
pub if_ok : {T E : Type 0} (r : Result T E) (P Q : T → Type 0) → ((x : T) → P x → Q x) → IfOk r P → IfOk r Q
if_ok (Ok x) P Q f h = f x h
if_ok (Err e) P Q f h = tt
