-- Places of a list that is kept the newest first.
use Rattle.std.proofs.Common.{◌≡◌, ◌≢◌, ⊎_elim, ◌<◌, ◌==◌, ℕ, zero, suc, Bool, true, false, cond, List, [], ◌∷◌, ◌++◌, length, reverse, slice_get, slice_set, Option, Some, None, option_map, refl, sym, ap, ◌∙◌, arith}
use Rattle.std.proofs.lemmas.List.{reverse-reverse, length-reverse, reverse-append}
use Rattle.std.proofs.lemmas.Grind.{reverse_onto}
use Rattle.std.proofs.lemmas.Bool.Decides.{nat_tests}
use Rattle.std.proofs.lemmas.Bool.{cases_eq}
use Rattle.chf_core.specs.declared.command.Command.{Command}
use Rattle.chf_core.specs.declared.command.Outcome.{Outcome}
use Rattle.chf_core.specs.Keys.{command_at}
use Rattle.chf_core.specs.Outcomes.{outcomes_of, outcome_at, outcome_of}

pub eq_yes : (a b : ℕ) → a ≡ b → (a == b) ≡ true
eq_yes a b e = grind (arith, nat_tests)

pub eq_no : (a b : ℕ) → a ≢ b → (a == b) ≡ false
eq_no a b e = grind (arith, nat_tests)

pub eq_suc : (a b : ℕ) → (suc a == suc b) ≡ (a == b)
eq_suc a b = ⊎_elim (λ (e : a ≡ b). eq_yes (suc a) (suc b) (ap suc e) ∙ sym (eq_yes a b e)) (λ (n : a ≢ b). eq_no (suc a) (suc b) (λ z. n (let h : suc a ≡ suc b = z in omega arith)) ∙ sym (eq_no a b n)) (cases_eq a b)

-- one more at the end
pub get_push : {X : Type 0} (xs : List X) (y : X) (i : ℕ) → slice_get (xs ++ y ∷ []) i ≡ cond (length xs == i) (Some y) (slice_get xs i)
get_push [] y zero = refl
get_push [] y (suc i) = ap (λ b. cond b (Some y) None) (sym (eq_no 0 (suc i) (λ z. let h : 0 ≡ suc i = z in omega arith)))
get_push (x ∷ xs) y zero = ap (λ b. cond b (Some y) (Some x)) (sym (eq_no (suc (length xs)) 0 (λ z. let h : suc (length xs) ≡ 0 = z in omega arith)))
get_push (x ∷ xs) y (suc i) = get_push xs y i ∙ ap (λ b. cond b (Some y) (slice_get xs i)) (sym (eq_suc (length xs) i))

-- one that is written over
pub get_set : {X : Type 0} (xs : List X) (k i : ℕ) (y : X) → slice_get (slice_set xs k y) i ≡ cond (k == i) (option_map (λ _. y) (slice_get xs k)) (slice_get xs i)
get_set {X} [] k i y = both (k == i)
  where
    both : (b : Bool) → ◌≡◌ {A = Option X} None (cond b None None)
    both true = refl
    both false = refl
get_set (x ∷ xs) zero zero y = refl
get_set (x ∷ xs) zero (suc i) y = ap (λ b. cond b (Some y) (slice_get xs i)) (sym (eq_no 0 (suc i) (λ z. let h : 0 ≡ suc i = z in omega arith)))
get_set (x ∷ xs) (suc k) zero y = ap (λ b. cond b (option_map (λ _. y) (slice_get xs k)) (Some x)) (sym (eq_no (suc k) 0 (λ z. let h : suc k ≡ 0 = z in omega arith)))
get_set (x ∷ xs) (suc k) (suc i) y = get_set xs k i y ∙ ap (λ b. cond b (option_map (λ _. y) (slice_get xs k)) (slice_get xs i)) (sym (eq_suc k i))

pub reverse_cons : {X : Type 0} (x : X) (xs : List X) → reverse (x ∷ xs) ≡ reverse xs ++ x ∷ []
reverse_cons x xs = reverse_onto xs x []

pub reverse_push : {X : Type 0} (xs : List X) (x : X) → reverse (xs ++ x ∷ []) ≡ x ∷ reverse xs
reverse_push xs x = reverse-append xs (x ∷ [])

pub command_in_place : (a : List Command) (i : ℕ) → slice_get (reverse a) i ≡ command_at a i
command_in_place [] i = refl
command_in_place (c ∷ a) i =
    ap (λ l. slice_get l i) (reverse_cons c a) ∙ get_push (reverse a) c i ∙ ap (λ n. cond (n == i) (Some c) (slice_get (reverse a) i)) (length-reverse a) ∙ ap (cond (length a == i) (Some c)) (command_in_place a i)

pub length_outcomes : (a : List Command) → length (outcomes_of a) ≡ length a
length_outcomes [] = refl
length_outcomes (c ∷ a) = ap suc (length_outcomes a)

pub outcome_in_place : (a : List Command) (i : ℕ) → slice_get (reverse (outcomes_of a)) i ≡ outcome_at a i
outcome_in_place [] i = refl
outcome_in_place (c ∷ a) i =
    ap (λ l. slice_get l i) (reverse_cons (outcome_of a c) (outcomes_of a)) ∙ get_push (reverse (outcomes_of a)) (outcome_of a c) i
    ∙ ap (λ n. cond (n == i) (Some (outcome_of a c)) (slice_get (reverse (outcomes_of a)) i)) (length-reverse (outcomes_of a) ∙ length_outcomes a) ∙ ap (cond (length a == i) (Some (outcome_of a c))) (outcome_in_place a i)

-- from what is kept, the oldest first
pub kept_command : (cs : List Command) (i : ℕ) → slice_get cs i ≡ command_at (reverse cs) i
kept_command cs i = ap (λ l. slice_get l i) (sym (reverse-reverse cs)) ∙ command_in_place (reverse cs) i

pub kept_outcome : (os : List Outcome) (a : List Command) (i : ℕ) → reverse os ≡ outcomes_of a → slice_get os i ≡ outcome_at a i
kept_outcome os a i e = ap (λ l. slice_get l i) (sym (reverse-reverse os) ∙ ap reverse e) ∙ outcome_in_place a i

longer : (later before : List Command) (c : Command) → length before < length (later ++ c ∷ before)
longer [] before c = omega arith
longer (x ∷ later) before c = let h = longer later before c in omega arith

pub first_outcome : (later before : List Command) (c : Command) → outcome_at (later ++ c ∷ before) (length before) ≡ Some (outcome_of before c)
first_outcome [] before c = ap (λ b. cond b (Some (outcome_of before c)) (outcome_at before (length before))) (eq_yes (length before) (length before) refl)
first_outcome (x ∷ later) before c =
    let lt = longer later before c in
    ap (λ b. cond b (Some (outcome_of (later ++ c ∷ before) x)) (outcome_at (later ++ c ∷ before) (length before))) (eq_no (length (later ++ c ∷ before)) (length before) (omega arith)) ∙ first_outcome later before c
