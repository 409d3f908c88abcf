-- The last container of a group.
use Rattle.std.proofs.Common.{◌≡◌, ◌≢◌, ◌==◌, ℕ, ◌+◌, ◌-◌, ◌<◌, Bool, true, false, cond, List, [], ◌∷◌, ◌++◌, length, set, get_or, refl, sym, ◌∙◌, ap, subst, arith, eq-eqb, Option, Some, None}
use Rattle.std.specs.List.{last_or}
use Rattle.std.proofs.lemmas.Bool.{eqb-true}
use Rattle.std.proofs.lemmas.Bool.Decides.{nat_tests}
use Rattle.std.proofs.lemmas.List.{append-nil, set_at, length-append, get_or_at}
use Rattle.std.proofs.lemmas.List.Elements.{filter-append}
use Rattle.units.specs.Cut.{containers_of}
use Rattle.units.specs.declared.report.Container.{Container}
use Rattle.meter.specs.Meter.{last_in, AreNumbered}

pub not_eq : (a b : ℕ) → a ≢ b → (a == b) ≡ false
not_eq a b n = grind (arith, nat_tests)

pub last_or_push : {X : Type 0} (o : Option X) (xs : List X) (x : X) → last_or o (xs ++ x ∷ []) ≡ Some x
last_or_push o [] x = refl
last_or_push o (y ∷ ys) x = last_or_push (Some y) ys x

-- the containers before the last one of a group, and those after it, of other groups
pub record LastSplit (group : ℕ) (containers : List Container) (c : Container) : Type 0 where
  pub front : List Container
  pub back : List Container
  pub is : containers ≡ front ++ c ∷ back
  pub of_group : c.group ≡ group
  pub none_behind : containers_of group back ≡ []

split_cons : (g : ℕ) (x : Container) (xs : List Container) (c : Container) (b : Bool) → (x.group == g) ≡ b → (l : List Container) → containers_of g xs ≡ l → last_or None (cond b (x ∷ l) l) ≡ Some c → (last_in g xs ≡ Some c → LastSplit g xs c) → LastSplit g (x ∷ xs) c
split_cons g x xs c true e [] none h more =
    let same : x ≡ c = cc in
    record { front = []; back = xs; is = ap (λ k. k ∷ xs) same; of_group = ap (λ (k : Container). k.group) (sym same) ∙ eqb-true x.group g e; none_behind = none }
split_cons g x xs c false e [] none h more = cc
split_cons g x xs c true e (y ∷ ys) some h more = behind x (more (ap (λ l. last_or None l) some ∙ h))
  where
    behind : (x : Container) → LastSplit g xs c → LastSplit g (x ∷ xs) c
    behind x s = record { front = x ∷ s.front; back = s.back; is = ap (λ l. x ∷ l) s.is; of_group = s.of_group; none_behind = s.none_behind }
split_cons g x xs c false e (y ∷ ys) some h more = behind x (more (ap (λ l. last_or None l) some ∙ h))
  where
    behind : (x : Container) → LastSplit g xs c → LastSplit g (x ∷ xs) c
    behind x s = record { front = x ∷ s.front; back = s.back; is = ap (λ l. x ∷ l) s.is; of_group = s.of_group; none_behind = s.none_behind }

pub last_split : (g : ℕ) (cs : List Container) (c : Container) → last_in g cs ≡ Some c → LastSplit g cs c
last_split g [] c h = cc
last_split g (x ∷ xs) c h = split_cons g x xs c (x.group == g) refl (containers_of g xs) refl h (λ k. last_split g xs c k)

-- containers of a group, of lists put together
pub of_same : (g : ℕ) (x : Container) → x.group ≡ g → containers_of g (x ∷ []) ≡ x ∷ []
of_same g x e = rw (eq-eqb x.group g e) refl

pub of_other : (g : ℕ) (x : Container) → x.group ≢ g → containers_of g (x ∷ []) ≡ []
of_other g x e = rw (not_eq x.group g e) refl

pub of_push : (g : ℕ) (cs : List Container) (x : Container) → x.group ≡ g → containers_of g (cs ++ x ∷ []) ≡ containers_of g cs ++ x ∷ []
of_push g cs x e = filter-append (λ c. c.group == g) cs (x ∷ []) ∙ ap (λ l. containers_of g cs ++ l) (of_same g x e)

pub of_push_other : (g : ℕ) (cs : List Container) (x : Container) → x.group ≢ g → containers_of g (cs ++ x ∷ []) ≡ containers_of g cs
of_push_other g cs x e = filter-append (λ c. c.group == g) cs (x ∷ []) ∙ ap (λ l. containers_of g cs ++ l) (of_other g x e) ∙ append-nil (containers_of g cs)

pub of_middle : (g : ℕ) (front : List Container) (x : Container) (back : List Container) → x.group ≡ g → containers_of g back ≡ [] → containers_of g (front ++ x ∷ back) ≡ containers_of g front ++ x ∷ []
of_middle g front x back e none =
    filter-append (λ c. c.group == g) front (x ∷ back) ∙ ap (λ l. containers_of g front ++ l) (rw (eq-eqb x.group g e) (ap (λ l. x ∷ l) none))

pub of_middle_other : (g : ℕ) (front : List Container) (x y : Container) (back : List Container) → x.group ≢ g → y.group ≢ g → containers_of g (front ++ x ∷ back) ≡ containers_of g (front ++ y ∷ back)
of_middle_other g front x y back m n =
    filter-append (λ c. c.group == g) front (x ∷ back) ∙ ap (λ l. containers_of g front ++ l) (rw (not_eq x.group g m, not_eq y.group g n) refl) ∙ sym (filter-append (λ c. c.group == g) front (y ∷ back))

-- the last container, of lists put together
pub last_push : (g : ℕ) (cs : List Container) (x : Container) → x.group ≡ g → last_in g (cs ++ x ∷ []) ≡ Some x
last_push g cs x e = ap (λ l. last_or None l) (of_push g cs x e) ∙ last_or_push None (containers_of g cs) x

pub last_push_other : (g : ℕ) (cs : List Container) (x : Container) → x.group ≢ g → last_in g (cs ++ x ∷ []) ≡ last_in g cs
last_push_other g cs x e = ap (λ l. last_or None l) (of_push_other g cs x e)

pub last_middle : (g : ℕ) (front : List Container) (x : Container) (back : List Container) → x.group ≡ g → containers_of g back ≡ [] → last_in g (front ++ x ∷ back) ≡ Some x
last_middle g front x back e none = ap (λ l. last_or None l) (of_middle g front x back e none) ∙ last_or_push None (containers_of g front) x

pub last_middle_other : (g : ℕ) (front : List Container) (x y : Container) (back : List Container) → x.group ≢ g → y.group ≢ g → last_in g (front ++ x ∷ back) ≡ last_in g (front ++ y ∷ back)
last_middle_other g front x y back m n = ap (λ l. last_or None l) (of_middle_other g front x y back m n)

-- numbers and places
pub numbered_middle : (n : ℕ) (front : List Container) (c : Container) (back : List Container) → AreNumbered n (front ++ c ∷ back) → c.lsn ≡ n + length front
numbered_middle n [] c back (is, rest) = omega (arith, is)
numbered_middle n (x ∷ front) c back (is, rest) = let h = numbered_middle (n + 1) front c back rest in omega (arith, h)

pub numbered_swap : (n : ℕ) (front : List Container) (c x : Container) (back : List Container) → x.lsn ≡ c.lsn → AreNumbered n (front ++ c ∷ back) → AreNumbered n (front ++ x ∷ back)
numbered_swap n [] c x back same (is, rest) = (same ∙ is, rest)
numbered_swap n (y ∷ front) c x back same (is, rest) = (is, numbered_swap (n + 1) front c x back same rest)

pub numbered_push : (n : ℕ) (cs : List Container) (x : Container) → x.lsn ≡ n + length cs → AreNumbered n cs → AreNumbered n (cs ++ x ∷ [])
numbered_push n [] x is all = (omega (arith, is), tt)
numbered_push n (c ∷ cs) x is (first, rest) = (first, numbered_push (n + 1) cs x (omega (arith, is)) rest)

-- the last container of a group, by its number
pub record LastAt (group : ℕ) (containers : List Container) (c : Container) : Type 0 where
  pub split : LastSplit group containers c
  pub number : c.lsn ≡ length split.front + 1

pub last_at : (g : ℕ) (cs : List Container) (c : Container) → AreNumbered 1 cs → last_in g cs ≡ Some c → LastAt g cs c
last_at g cs c numbered is =
    let s : LastSplit g cs c = last_split g cs c is in
    let h = numbered_middle 1 s.front c s.back (subst (λ l. AreNumbered 1 l) s.is numbered) in
    record { split = s; number = omega (arith, h) }

pub last_within : (g : ℕ) (cs : List Container) (c : Container) → LastAt g cs c → c.lsn - 1 < length cs
last_within g cs c at = let long = ap length at.split.is ∙ length-append at.split.front (c ∷ at.split.back) in omega (arith, long, at.number)

pub last_set : (g : ℕ) (cs : List Container) (c x : Container) (at : LastAt g cs c) → set cs (c.lsn - 1) x ≡ at.split.front ++ x ∷ at.split.back
last_set g cs c x at =
    ap (λ l. set l (c.lsn - 1) x) at.split.is ∙ set_at at.split.front c at.split.back x (c.lsn - 1) (omega (arith, at.number))

pub last_read : (g : ℕ) (cs : List Container) (c d : Container) → LastAt g cs c → get_or cs (c.lsn - 1) d ≡ c
last_read g cs c d at =
    ap (λ l. get_or l (c.lsn - 1) d) at.split.is ∙ get_or_at at.split.front c at.split.back d (c.lsn - 1) (omega (arith, at.number))
