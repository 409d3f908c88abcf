-- Two lists of notices in order made one.
use Rattle.std.proofs.Common.{◌≡◌, ◌+◌, ◌<◌, ◌≤◌, ℕ, zero, suc, Bool, true, false, if◌then◌else◌, List, [], ◌∷◌, ◌++◌, length, get_or, take, drop, reverse, refl, sym, ap, subst, ◌∙◌, arith, leb, append_assoc, length-append}
use Rattle.std.specs.Prelude.{⊤}
use Rattle.std.specs.List.{AllWithin}
use Rattle.std.specs.List.Sorted.{IsNonDecreasingBy}
use Rattle.std.proofs.lemmas.Bool.{le-leb, lt-leb}
use Rattle.std.proofs.lemmas.List.{take-append-drop, get_or_append_left, get_or_at, get_or-take, drop_more, reverse-append, reverse-reverse}
use Rattle.std.proofs.lemmas.List.Sums.{fold_push}
use Rattle.notices.specs.declared.notice.Notice.{Notice}
use Rattle.notices.specs.InOrder.{put_in_order, all_put}
use Rattle.notices.proofs.Leaving.{AreFrom, AreRising, rising_put}

-- all have numbers up to this one
abbrev pub AreUpTo : {X : Type 0} → (X → ℕ) → ℕ → List X → Type 0
AreUpTo number most [] = ⊤
AreUpTo number most (x ∷ xs) = (number x ≤ most) × AreUpTo number most xs

-- all have numbers above this one
abbrev pub AreAfter : {X : Type 0} → (X → ℕ) → ℕ → List X → Type 0
AreAfter number n [] = ⊤
AreAfter number n (x ∷ xs) = (n < number x) × AreAfter number n xs

pub upto_from : {X : Type 0} (number : X → ℕ) (most : ℕ) (xs : List X) → ((k : ℕ) (d : X) → k < length xs → number (get_or xs k d) ≤ most) → AreUpTo number most xs
upto_from number most [] h = tt
upto_from number most (x ∷ xs) h = (h 0 x (omega arith), upto_from number most xs (λ k d l. h (suc k) d (omega arith)))

pub upto_take : {X : Type 0} (number : X → ℕ) (most : ℕ) (xs : List X) (at : ℕ) → at ≤ length xs → AllWithin (λ x. number x ≤ most) xs 0 at → AreUpTo number most (take at xs)
upto_take number most [] zero le h = tt
upto_take number most [] (suc at) le h = absurd (omega arith)
upto_take number most (x ∷ xs) zero le h = tt
upto_take number most (x ∷ xs) (suc at) le h =
    (h 0 x (omega arith) (omega arith), upto_take number most xs at (omega arith) (λ k d a l. h (suc k) d (omega arith) (omega arith)))

pub after_drop : {X : Type 0} (number : X → ℕ) (n : ℕ) (xs : List X) (at : ℕ) → AllWithin (λ x. n < number x) xs at (length xs) → AreAfter number n (drop at xs)
after_drop number n [] zero h = tt
after_drop number n [] (suc at) h = tt
after_drop number n (x ∷ xs) zero h = (h 0 x (omega arith) (omega arith), after_drop number n xs 0 (λ k d a l. h (suc k) d (omega arith) (omega arith)))
after_drop number n (x ∷ xs) (suc at) h = after_drop number n xs at (λ k d a l. h (suc k) d (omega arith) (omega arith))

after_less : {X : Type 0} (number : X → ℕ) (n m : ℕ) (xs : List X) → m ≤ n → AreAfter number n xs → AreAfter number m xs
after_less number n m [] le h = tt
after_less number n m (x ∷ xs) le h = let here = h.0 in (omega arith, after_less number n m xs le h.1)

-- ---- one goes in

put_last : {X : Type 0} (number : X → ℕ) (xs : List X) (x : X) → AreUpTo number (number x) xs → put_in_order number xs x ≡ xs ++ x ∷ []
put_last number [] x h = refl
put_last number (y ∷ ys) x h =
    ap (λ b. if b then y ∷ put_in_order number ys x else x ∷ y ∷ ys) (le-leb (number y) (number x) h.0) ∙ ap (λ zs. y ∷ zs) (put_last number ys x h.1)

put_upto : {X : Type 0} (number : X → ℕ) (most : ℕ) (xs : List X) (x : X) → AreUpTo number most xs → number x ≤ most → AreUpTo number most (put_in_order number xs x)
put_upto number most [] x h le = (le, tt)
put_upto number most (y ∷ ys) x h le = by (put_upto number most ys x h.1 le) (leb (number y) (number x))
  where
    by : AreUpTo number most (put_in_order number ys x) → (b : Bool) → AreUpTo number most (if b then y ∷ put_in_order number ys x else x ∷ y ∷ ys)
    by rest true = (h.0, rest)
    by rest false = (le, h)

put_before : {X : Type 0} (number : X → ℕ) (xs later : List X) (x : X) → AreAfter number (number x) later → put_in_order number (xs ++ later) x ≡ put_in_order number xs x ++ later
put_before number [] [] x h = refl
put_before number [] (l ∷ later) x h = ap (λ b. if b then l ∷ put_in_order number later x else x ∷ l ∷ later) (lt-leb (number l) (number x) h.0)
put_before number (y ∷ ys) later x h = by (put_before number ys later x h) (leb (number y) (number x))
  where
    by : put_in_order number (ys ++ later) x ≡ put_in_order number ys x ++ later → (b : Bool)
        → (if b then y ∷ put_in_order number (ys ++ later) x else x ∷ y ∷ (ys ++ later)) ≡ (if b then y ∷ put_in_order number ys x else x ∷ y ∷ ys) ++ later
    by rest true = ap (λ zs. y ∷ zs) rest
    by rest false = refl

-- ---- several go in

all_upto : {X : Type 0} (number : X → ℕ) (most : ℕ) (xs more : List X) → AreUpTo number most xs → AreUpTo number most more → AreUpTo number most (all_put number xs more)
all_upto number most xs [] h g = h
all_upto number most xs (m ∷ more) h g = all_upto number most (put_in_order number xs m) more (put_upto number most xs m h g.0) g.1

all_before : {X : Type 0} (number : X → ℕ) (n : ℕ) (xs later more : List X) → AreAfter number n later → AreUpTo number n more → all_put number (xs ++ later) more ≡ all_put number xs more ++ later
all_before number n xs later [] h g = refl
all_before number n xs later (m ∷ more) h g =
    ap (λ zs. all_put number zs more) (put_before number xs later m (after_less number n (number m) later g.0 h))
    ∙ all_before number n (put_in_order number xs m) later more h g.1

-- the last one goes in where those above it begin
pub last_goes : {X : Type 0} (number : X → ℕ) (xs more : List X) (one : X) (at : ℕ) → AreUpTo number (number one) (take at xs) → AreAfter number (number one) (drop at xs) → AreUpTo number (number one) more
    → all_put number xs (more ++ one ∷ []) ≡ all_put number (take at xs) more ++ (one ∷ drop at xs)
last_goes number xs more one at low high upto =
    let front = take at xs in
    let back = drop at xs in
    fold_push (put_in_order number) xs more one
    ∙ ap (λ zs. put_in_order number (all_put number zs more) one) (sym (take-append-drop at xs))
    ∙ ap (λ zs. put_in_order number zs one) (all_before number (number one) front back more high upto)
    ∙ put_before number (all_put number front more) back one high
    ∙ ap (λ zs. zs ++ back) (put_last number (all_put number front more) one (all_upto number (number one) front more low upto))
    ∙ append_assoc (all_put number front more) (one ∷ []) back

-- the ones that come before the last of some in order
pub upto_last : {X : Type 0} (number : X → ℕ) (more all : List X) (one : X) → all ≡ more ++ one ∷ [] → IsNonDecreasingBy number all → AreUpTo number (number one) more
upto_last number more all one e sorted = upto_from number (number one) more (λ k d l.
    let size = ap length e in
    let sum = length-append more (one ∷ []) in
    let a : get_or all k d ≡ get_or more k d = ap (λ zs. get_or zs k d) e ∙ get_or_append_left more (one ∷ []) d k l in
    let b : get_or all (length more) d ≡ one = ap (λ zs. get_or zs (length more) d) e ∙ get_or_at more one [] d (length more) refl in
    let up = sorted k (length more) d (omega arith) (omega arith) in
    subst (λ z. number z ≤ number one) a (subst (λ z. number (get_or all k d) ≤ number z) b up))

-- what is moved, the last one first, and then the one before it
pub turned : {X : Type 0} (into back : List X) (one : X) → reverse ((into ++ reverse back) ++ one ∷ []) ≡ (one ∷ back) ++ reverse into
turned into back one =
    reverse-append (into ++ reverse back) (one ∷ []) ∙ ap (λ zs. one ∷ zs) (reverse-append into (reverse back) ∙ ap (λ zs. zs ++ reverse into) (reverse-reverse back))

-- ---- one is moved

pub moved_one : {X : Type 0} (into back : List X) (one : X) → (into ++ reverse back) ++ one ∷ [] ≡ into ++ reverse (one ∷ back)
moved_one into back one = append_assoc into (reverse back) (one ∷ []) ∙ ap (λ zs. into ++ zs) (sym (reverse-append (one ∷ []) back))

pub back_one : {X : Type 0} (all kept : List X) (one : X) (m n : ℕ) → n + 1 ≡ m → m ≤ length all → take m all ≡ kept ++ one ∷ [] → length kept ≡ n → drop n all ≡ one ∷ drop m all
back_one all kept one m n e le front size =
    let here : get_or all n one ≡ one = sym (get_or-take m all n one (omega arith)) ∙ ap (λ zs. get_or zs n one) front ∙ get_or_at kept one [] one n size in
    drop_more all n one (omega arith) ∙ (λ i. here i ∷ drop (e i) all)

-- ---- in order

from_each : (least : ℕ) (notices : List Notice) → ((k : ℕ) (d : Notice) → k < length notices → least ≤ (get_or notices k d).id) → AreFrom least notices
from_each least [] h = tt
from_each least (n ∷ notices) h = (h 0 n (omega arith), from_each least notices (λ k d l. h (suc k) d (omega arith)))

to_rising : (notices : List Notice) → IsNonDecreasingBy (λ (n : Notice). n.id) notices → AreRising notices
to_rising [] sorted = tt
to_rising (n ∷ notices) sorted =
    (from_each n.id notices (λ k d l. sorted 0 (suc k) d (omega arith) (omega arith)), to_rising notices (λ i j d le l. sorted (suc i) (suc j) d (omega arith) (omega arith)))

at_least : (least : ℕ) (notices : List Notice) (k : ℕ) (d : Notice) → AreFrom least notices → k < length notices → least ≤ (get_or notices k d).id
at_least least [] k d from l = absurd (omega arith)
at_least least (n ∷ notices) zero d from l = from.0
at_least least (n ∷ notices) (suc k) d from l = at_least least notices k d from.1 (omega arith)

pub from_rising : (notices : List Notice) → AreRising notices → IsNonDecreasingBy (λ (n : Notice). n.id) notices
from_rising [] rising i j d le l = absurd (omega arith)
from_rising (n ∷ notices) rising zero zero d le l = omega arith
from_rising (n ∷ notices) rising zero (suc j) d le l = at_least n.id notices j d rising.0 (omega arith)
from_rising (n ∷ notices) rising (suc i) zero d le l = absurd (omega arith)
from_rising (n ∷ notices) rising (suc i) (suc j) d le l = from_rising notices rising.1 i j d (omega arith) (omega arith)

rising_more : (notices more : List Notice) → AreRising notices → AreRising (all_put (λ n. n.id) notices more)
rising_more notices [] rising = rising
rising_more notices (m ∷ more) rising = rising_more (put_in_order (λ n. n.id) notices m) more (rising_put notices m rising)

pub in_order_still : (notices more : List Notice) → IsNonDecreasingBy (λ (n : Notice). n.id) notices → IsNonDecreasingBy (λ (n : Notice). n.id) (all_put (λ (n : Notice). n.id) notices more)
in_order_still notices more sorted = from_rising (all_put (λ n. n.id) notices more) (rising_more notices more (to_rising notices sorted))
