-- The subscriptions of an account, after one more and after one watches another account.
use Rattle.std.proofs.Common.{◌≡◌, ◌==◌, ◌+◌, ◌<◌, ◌≤◌, ℕ, zero, suc, Bool, true, false, if◌then◌else◌, List, [], ◌∷◌, ◌++◌, length, get_or, Option, Some, None, refl, ap, subst, ◌∙◌, arith}
use Rattle.std.proofs.Math.ListN.{set}
use Rattle.std.proofs.lemmas.Bool.{le-leb, lt-leb, eq-eqb, ne_eqb}
use Rattle.std.proofs.lemmas.List.{set-set, get_or-set_same, length-set}
use Rattle.notices.specs.InOrder.{put_in_order, without_first}
use Rattle.notices.specs.Watching.{watches, ids_from}

-- a number goes in after a lesser one
put_after : (t s : Bool) (id n : ℕ) (before after : List ℕ) → id ≤ n
    → (if t then put_in_order (λ x. x) before n else before) ≡ after
    → (if t then put_in_order (λ x. x) (if s then id ∷ before else before) n else (if s then id ∷ before else before)) ≡ (if s then id ∷ after else after)
put_after true true id n before after le e = ap (λ b. if b then id ∷ put_in_order (λ x. x) before n else n ∷ id ∷ before) (le-leb id n le) ∙ ap (λ ids. id ∷ ids) e
put_after true false id n before after le e = e
put_after false true id n before after le e = ap (λ ids. id ∷ ids) e
put_after false false id n before after le e = e

-- and is taken away after a lesser one
taken_after : (t s : Bool) (id n : ℕ) (before after : List ℕ) → id < n
    → (if t then without_first (λ x. x) before n else before) ≡ after
    → (if t then without_first (λ x. x) (if s then id ∷ before else before) n else (if s then id ∷ before else before)) ≡ (if s then id ∷ after else after)
taken_after true true id n before after lt e =
    ap (λ b. if b then before else id ∷ without_first (λ x. x) before n) (ne_eqb id n (λ same. omega arith)) ∙ ap (λ ids. id ∷ ids) e
taken_after true false id n before after lt e = e
taken_after false true id n before after lt e = ap (λ ids. id ∷ ids) e
taken_after false false id n before after lt e = e

-- one more subscription, which watches an account
pub pushed_ids : (id : ℕ) (watched : List (Option ℕ)) (account other : ℕ)
    → (if account == other then put_in_order (λ x. x) (ids_from id watched other) (id + length watched) else ids_from id watched other) ≡ ids_from id (watched ++ Some account ∷ []) other
pushed_ids id [] account other =
    let e : id + length {A = Option ℕ} [] ≡ id = omega arith in
    ap (λ n. if account == other then n ∷ [] else []) e
pushed_ids id (one ∷ more) account other =
    let e : suc id + length more ≡ id + length (one ∷ more) = omega arith in
    put_after (account == other) (watches other one) id (id + length (one ∷ more)) (ids_from (suc id) more other) (ids_from (suc id) (more ++ Some account ∷ []) other) (omega arith)
    (subst (λ n. (if account == other then put_in_order (λ x. x) (ids_from (suc id) more other) n else ids_from (suc id) more other) ≡ ids_from (suc id) (more ++ Some account ∷ []) other) e (pushed_ids (suc id) more account other))

-- a number below all goes first
put_first : (id n : ℕ) (watched : List (Option ℕ)) (other : ℕ) → n < id → put_in_order (λ x. x) (ids_from id watched other) n ≡ n ∷ ids_from id watched other
put_first id n [] other lt = refl
put_first id n (one ∷ more) other lt = by (put_first (suc id) n more other (omega arith)) (watches other one)
  where
    by : put_in_order (λ x. x) (ids_from (suc id) more other) n ≡ n ∷ ids_from (suc id) more other → (s : Bool) → put_in_order (λ x. x) (if s then id ∷ ids_from (suc id) more other else ids_from (suc id) more other) n ≡ n ∷ (if s then id ∷ ids_from (suc id) more other else ids_from (suc id) more other)
    by rest true = ap (λ b. if b then id ∷ put_in_order (λ x. x) (ids_from (suc id) more other) n else n ∷ id ∷ ids_from (suc id) more other) (lt-leb id n lt)
    by rest false = rest

-- the first one is taken away
taken_first : (s : Bool) (id n : ℕ) (rest : List ℕ) → id ≡ n
    → (if s then without_first (λ x. x) (if s then id ∷ rest else rest) n else (if s then id ∷ rest else rest)) ≡ rest
taken_first true id n rest e = ap (λ b. if b then rest else id ∷ without_first (λ x. x) rest n) (eq-eqb id n e)
taken_first false id n rest e = refl

-- a subscription watches none any more
left_ids : (id : ℕ) (watched : List (Option ℕ)) (i other : ℕ) → i < length watched
    → (if watches other (get_or watched i None) then without_first (λ x. x) (ids_from id watched other) (id + i) else ids_from id watched other) ≡ ids_from id (set watched i None) other
left_ids id [] i other lt = absurd (omega arith)
left_ids id (one ∷ more) zero other lt = taken_first (watches other one) id (id + 0) (ids_from (suc id) more other) (omega arith)
left_ids id (one ∷ more) (suc i) other lt =
    let e : suc id + i ≡ id + suc i = omega arith in
    taken_after (watches other (get_or more i None)) (watches other one) id (id + suc i) (ids_from (suc id) more other) (ids_from (suc id) (set more i None) other) (omega arith)
    (subst (λ n. (if watches other (get_or more i None) then without_first (λ x. x) (ids_from (suc id) more other) n else ids_from (suc id) more other) ≡ ids_from (suc id) (set more i None) other) e (left_ids (suc id) more i other (omega arith)))

-- one that watched none watches an account
entered_ids : (id : ℕ) (watched : List (Option ℕ)) (i other : ℕ) (account : Option ℕ) → i < length watched → get_or watched i None ≡ None
    → (if watches other account then put_in_order (λ x. x) (ids_from id watched other) (id + i) else ids_from id watched other) ≡ ids_from id (set watched i account) other
entered_ids id [] i other account lt none = absurd (omega arith)
entered_ids id (one ∷ more) zero other account lt none =
    let e : id + 0 ≡ id = omega arith in
    let rest : ids_from id (one ∷ more) other ≡ ids_from (suc id) more other = ap (λ w. if watches other w then id ∷ ids_from (suc id) more other else ids_from (suc id) more other) none in
    (λ j. if watches other account then put_in_order (λ x. x) (rest j) (e j) else rest j)
    ∙ ap (λ ids. if watches other account then ids else ids_from (suc id) more other) (put_first (suc id) id more other (omega arith))
entered_ids id (one ∷ more) (suc i) other account lt none =
    let e : suc id + i ≡ id + suc i = omega arith in
    put_after (watches other account) (watches other one) id (id + suc i) (ids_from (suc id) more other) (ids_from (suc id) (set more i account) other) (omega arith)
    (subst (λ n. (if watches other account then put_in_order (λ x. x) (ids_from (suc id) more other) n else ids_from (suc id) more other) ≡ ids_from (suc id) (set more i account) other) e (entered_ids (suc id) more i other account (omega arith) none))

-- a subscription watches this account from now on, or none
pub set_ids : (watched : List (Option ℕ)) (i id other : ℕ) (account : Option ℕ) (before left after : List ℕ) → i < length watched → id ≡ 1 + i
    → before ≡ ids_from 1 watched other
    → left ≡ (if watches other (get_or watched i None) then without_first (λ x. x) before id else before)
    → after ≡ (if watches other account then put_in_order (λ x. x) left id else left)
    → after ≡ ids_from 1 (set watched i account) other
set_ids watched i id other account before left after lt number b l a =
    let size = length-set watched i None in
    let gone : left ≡ ids_from 1 (set watched i None) other =
    l ∙ (λ j. if watches other (get_or watched i None) then without_first (λ x. x) (b j) (number j) else b j) ∙ left_ids 1 watched i other lt in
    a ∙ (λ j. if watches other account then put_in_order (λ x. x) (gone j) (number j) else gone j)
    ∙ entered_ids 1 (set watched i None) i other account (omega arith) (get_or-set_same watched i None None lt)
    ∙ ap (λ ws. ids_from 1 ws other) (set-set watched i None account)
