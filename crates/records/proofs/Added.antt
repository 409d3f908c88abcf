-- The sums of a record to which containers come, and one entry after another.
use Rattle.std.proofs.Common.{◌≡◌, ℕ, ◌+◌, ◌-◌, ◌^◌, eqb, cond, Bool, true, false, List, [], ◌∷◌, ◌++◌, length, min, sum_by, refl, sym, ap, ◌∙◌, arith, reverse}
use mathlib.Core.Bool.{false≢true}
use Rattle.std.proofs.lemmas.Bool.Decides.{nat_tests}
use Rattle.std.specs.Bool.{IsTrue}
use Rattle.std.proofs.lemmas.List.{reverse-append}
use Rattle.std.proofs.lemmas.List.Sums.{sum_by-append, sum_by-cons}
use Rattle.units.specs.declared.request.Used.{Used}
use Rattle.units.specs.declared.request.UnitUsage.{UnitUsage}
use Rattle.records.specs.Usage.{unit_usage, with_group, with_entry}
use Rattle.records.specs.Sums.{total, octets, changes, one_each, sums_of, sums_with}

regroup : (a b c : ℕ) → (a + b) + c ≡ (a + c) + b
regroup a b c = omega arith

assoc : (a b c : ℕ) → a + (b + c) ≡ (a + b) + c
assoc a b c = omega arith

-- a sum over the containers, with more of one group
group_found : (f : Used → ℕ) (u : UnitUsage) (us : List UnitUsage) (used : List Used) → total f (unit_usage u.group (u.used ++ used) ∷ us) ≡ total f (u ∷ us) + sum_by f used
group_found f u us used =
    sum_by-cons (λ (v : UnitUsage). sum_by f v.used) (unit_usage u.group (u.used ++ used)) us ∙ ap (λ (n : ℕ). n + total f us) (sum_by-append f u.used used) ∙ regroup (sum_by f u.used) (sum_by f used) (total f us)
    ∙ ap (λ (n : ℕ). n + sum_by f used) (sym (sum_by-cons (λ (v : UnitUsage). sum_by f v.used) u us))

group_later : (f : Used → ℕ) (u : UnitUsage) (us vs : List UnitUsage) (n : ℕ) → total f vs ≡ total f us + n → total f (u ∷ vs) ≡ total f (u ∷ us) + n
group_later f u us vs n e =
    sum_by-cons (λ (v : UnitUsage). sum_by f v.used) u vs ∙ ap (λ (m : ℕ). sum_by f u.used + m) e ∙ assoc (sum_by f u.used) (total f us) n
    ∙ ap (λ (m : ℕ). m + n) (sym (sum_by-cons (λ (v : UnitUsage). sum_by f v.used) u us))

group_by : (f : Used → ℕ) (u : UnitUsage) (us : List UnitUsage) (q : ℕ) (used : List Used) → total f (with_group us q used) ≡ total f us + sum_by f used
    → (b : Bool) → total f (cond b (unit_usage u.group (u.used ++ used) ∷ us) (u ∷ with_group us q used)) ≡ total f (u ∷ us) + sum_by f used
group_by f u us q used rest true = group_found f u us used
group_by f u us q used rest false = group_later f u us (with_group us q used) (sum_by f used) rest

pub total-with_group : (f : Used → ℕ) (us : List UnitUsage) (q : ℕ) (used : List Used) → total f (with_group us q used) ≡ total f us + sum_by f used
total-with_group f [] q used = refl
total-with_group f (u ∷ us) q used = group_by f u us q used (total-with_group f us q used) (eqb u.group q)

-- up to the greatest number
again : (a b m : ℕ) → min (min a m + b) m ≡ min (a + b) m
again a b m = omega arith

-- the sums of a record, with more containers of a group
pub sums-with_group : (us : List UnitUsage) (q : ℕ) (used : List Used) → sums_with (sums_of us) used ≡ sums_of (with_group us q used)
sums-with_group us q used =
    let a : min (min (total octets us) (2 ^ 64 - 1) + sum_by octets used) (2 ^ 64 - 1) ≡ min (total octets (with_group us q used)) (2 ^ 64 - 1) = again (total octets us) (sum_by octets used) (2 ^ 64 - 1) ∙ ap (λ (n : ℕ). min n (2 ^ 64 - 1)) (sym (total-with_group octets us q used)) in
    let b : min (min (total changes us) (2 ^ 32 - 1) + sum_by changes used) (2 ^ 32 - 1) ≡ min (total changes (with_group us q used)) (2 ^ 32 - 1) = again (total changes us) (sum_by changes used) (2 ^ 32 - 1) ∙ ap (λ (n : ℕ). min n (2 ^ 32 - 1)) (sym (total-with_group changes us q used)) in
    let d : min (min (total one_each us) (2 ^ 32 - 1) + sum_by one_each used) (2 ^ 32 - 1) ≡ min (total one_each (with_group us q used)) (2 ^ 32 - 1) = again (total one_each us) (sum_by one_each used) (2 ^ 32 - 1) ∙ ap (λ (n : ℕ). min n (2 ^ 32 - 1)) (sym (total-with_group one_each us q used)) in
    λ i. record { octets = a i; changes = b i; containers = d i }

-- an entry with containers
pub entry_joined : (us : List UnitUsage) (e : UnitUsage) (r : Bool) → r ≡ false → (e.used ≡ [] → IsTrue r) → with_entry us e ≡ with_group us e.group e.used
entry_joined us e r non_empty tells = by e.used tells where
  by : (used : List Used) → (used ≡ [] → IsTrue r) → cond (eqb (length used) 0) us (with_group us e.group used) ≡ with_group us e.group used
  by [] h = absurd (false≢true (sym non_empty ∙ h refl))
  by (x ∷ xs) h = let some : eqb (length (x ∷ xs)) 0 ≡ false = grind (arith, nat_tests) in rw some refl

-- the last of a list is the first of the list turned round
pub turned : (old new : List UnitUsage) (e : UnitUsage) → old ≡ new ++ e ∷ [] → reverse old ≡ e ∷ reverse new
turned old new e is = ap (λ (l : List UnitUsage). reverse l) is ∙ reverse-append new (e ∷ [])
