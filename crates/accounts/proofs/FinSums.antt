-- A sum over the values of a finite map, after a change.
use Rattle.std.proofs.Common.{◌≡◌, ℕ, ◌+◌, Bool, true, false, cond, ◌&&◌, T, List, [], ◌∷◌, Option, Some, None, refl, sym, ap, ◌∙◌, subst, arith, sum_by}
use Rattle.std.proofs.lemmas.List.Sums.{sum_by-cons}
use Rattle.std.specs.declared.cmp.Ordering.{Ordering}
use Rattle.std.specs.declared.cmp.Ordering.TheVariants.{Less, Equal, Greater}
use Rattle.std.specs.Ordering.{eq_by_cmp, is_eq, is_lt}
use Rattle.std.specs.Cmp.{IsTotalOrder, tied_itself}
use Rattle.std.specs.Map.{values_of}
use Rattle.std.specs.FinMap.{FinMap, find, is_sorted, entries, entries_sorted, get, get-entries, insert, remove, values, get-insert, get-remove, get_tied, entries-insert, same_map, IsAntisymmetric}
use Rattle.std.specs.FinMap.Entries.{below_all, put, by_order}

first : (a b : Bool) → T (a && b) → T a
first true b p = tt
first false b p = p

both : (a b : Bool) → T a → T b → T (a && b)
both true b p q = q
both false b p q = p

second : (a b : Bool) → T (a && b) → T b
second true b p = p
second false b p = absurd p

equal : (r : Ordering) → T (is_eq r) → r ≡ Equal
equal Less p = absurd p
equal Equal p = refl
equal Greater p = absurd p

less : (o : Ordering) → T (is_lt o) → o ≡ Less
less Less p = refl
less Equal p = absurd p
less Greater p = absurd p

abbrev pub weight : {X : Type 0} → (X → ℕ) → Option X → ℕ
weight f None = 0
weight f (Some x) = f x

abbrev total : {K X : Type 0} → (X → ℕ) → List (K × X) → ℕ
total f [] = 0
total f (e ∷ es) = f e.1 + total f es

pub sum_is : {K X : Type 0} (f : X → ℕ) (es : List (K × X)) → sum_by f (values_of es) ≡ total f es
sum_is f [] = refl
sum_is f (e ∷ es) = sum_by-cons f e.1 (values_of es) ∙ ap (λ n. f e.1 + n) (sum_is f es)

module _ {K X : Type 0} {R : K → K → Ordering} (o : IsTotalOrder R) (f : X → ℕ) where
  find_below : (q : K) (es : List (K × X)) → T (below_all R q es) → find R q es ≡ None
  find_below q [] h = refl
  find_below q (e ∷ es) h = ap (λ r. cond (is_eq r) (Some e.1) (find R q es)) (less _ (first _ _ h)) ∙ find_below q es (second _ _ h)

  below_less : (x y : K) (es : List (K × X)) → R x y ≡ Less → T (below_all R y es) → T (below_all R x es)
  below_less x y [] p h = tt
  below_less x y (e ∷ es) p h =
      let a : T (is_lt (R x e.0)) = subst (λ r. T (is_lt r)) (sym (o.trans x y e.0 p (less _ (first _ _ h)))) tt in
      both _ _ a (below_less x y es p (second _ _ h))

  sum_put : (k : K) (v : X) (es : List (K × X)) → T (is_sorted R es) → total f (put R k v es) + weight f (find R k es) ≡ total f es + f v
  sum_put k v [] h = let a : f v + 0 + 0 ≡ 0 + f v = omega arith in a
  sum_put k v (e ∷ es) h =
      let rest = sum_put k v es (second _ _ h) in
      elim (R k e.0) as (λ r. R k e.0 ≡ r → total f (by_order r ((k, v) ∷ e ∷ es) ((e.0, v) ∷ es) (e ∷ put R k v es)) + weight f (cond (is_eq r) (Some e.1) (find R k es)) ≡ total f (e ∷ es) + f v) [
        | Less ↦ λ t. new (find R k es) (f e.1 + total f es) (f v) (find_below k es (below_less k e.0 es t (first _ _ h)))
        | Equal ↦ λ t. swap (total f es) (f v) (f e.1)
        | Greater ↦ λ t. later (total f (put R k v es)) (f e.1) (weight f (find R k es)) (total f es) (f v) rest
      ] refl
    where
      new : (w : Option X) (a b : ℕ) → w ≡ None → (b + a) + weight f w ≡ a + b
      new w a b e = let z : weight f w ≡ 0 = ap (weight f) e in omega arith

      swap : (a b c : ℕ) → (b + a) + c ≡ (c + a) + b
      swap a b c = omega arith

      later : (b a c d e : ℕ) → b + c ≡ d + e → (a + b) + c ≡ (a + d) + e
      later b a c d e h = omega arith

  -- with a value at a key, the sum has it in place of what stood there
  pub sum-insert : (m : FinMap R X) (k : K) (v : X) → sum_by f (values (insert m k v)) + weight f (get m k) ≡ sum_by f (values m) + f v
  sum-insert m k v =
      ap (λ es. sum_by f (values_of es) + weight f (get m k)) (entries-insert o m k v) ∙ ap (λ w. sum_by f (values_of (put R k v (entries m))) + weight f w) (get-entries m k) ∙ ap (λ n. n + weight f (find R k (entries m))) (sum_is f (put R k v (entries m))) ∙ sum_put k v (entries m) (entries_sorted m) ∙ ap (λ n. n + f v) (sym (sum_is f (entries m)))

  -- without a key, the sum has less by what stood there
  pub sum-remove : IsAntisymmetric R → (m : FinMap R X) (k : K) → sum_by f (values (remove m k)) + weight f (get m k) ≡ sum_by f (values m)
  sum-remove same m k = by_case (get m k) refl
    where
      back : (b : Bool) (v : X) (w : Option X) → cond b (Some v) (cond b None w) ≡ cond b (Some v) w
      back true v w = refl
      back false v w = refl

      by_case : (w : Option X) → get m k ≡ w → sum_by f (values (remove m k)) + weight f w ≡ sum_by f (values m)
      by_case None e =
          let a : remove m k ≡ m = same_map o same _ _ (λ q. get-remove o m k q ∙ missing q) in
          let b : sum_by f (values (remove m k)) ≡ sum_by f (values m) = ap (λ n. sum_by f (values n)) a in
          omega arith
        where
          missing : (q : K) → cond (eq_by_cmp R q k) None (get m q) ≡ get m q
          missing q = elim (eq_by_cmp R q k) as (λ b. eq_by_cmp R q k ≡ b → cond b None (get m q) ≡ get m q) [
            | true ↦ λ t. sym (sym (get_tied o m q k (equal _ (subst T (sym t) tt))) ∙ e)
            | false ↦ λ t. refl
          ] refl
      by_case (Some v) e =
          let a : insert (remove m k) k v ≡ insert m k v = same_map o same _ _ (λ q. get-insert o (remove m k) k v q ∙ ap (cond (eq_by_cmp R q k) (Some v)) (get-remove o m k q) ∙ back (eq_by_cmp R q k) v (get m q) ∙ sym (get-insert o m k v q)) in
          let b : sum_by f (values (insert (remove m k) k v)) ≡ sum_by f (values (insert m k v)) = ap (λ n. sum_by f (values n)) a in
          let c = sum-insert (remove m k) k v in
          let d = sum-insert m k v in
          let z : weight f (get (remove m k) k) ≡ 0 = ap (weight f) (get-remove o m k k ∙ ap (λ r. cond (is_eq r) None (get m k)) (tied_itself o k)) in
          let y : weight f (get m k) ≡ f v = ap (weight f) e in
          omega arith
