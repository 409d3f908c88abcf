-- The containers of requests in the filings of a list of commands.
use Rattle.std.proofs.Common.{◌≡◌, ℕ, ◌+◌, ◌==◌, eqb, cond, Bool, true, false, List, [], ◌∷◌, ◌++◌, length, Option, Some, None, sum_by, refl, sym, ap, ◌∙◌, arith}
use Rattle.std.proofs.lemmas.Bool.Decides.{nat_tests}
use Rattle.std.proofs.lemmas.List.Sums.{sum_by-cons, sum_by-append}
use Rattle.units.specs.declared.request.Used.{Used}
use Rattle.units.specs.declared.request.UnitUsage.{UnitUsage}
use Rattle.records.specs.Usage.{unit_usage, with_group, with_entry, with_usage}
use Rattle.records.specs.Sums.{total}

-- ---- the containers of a request, by rating group

module _ (f : Used → ℕ) where
  abbrev over : List UnitUsage → ℕ
  over usage = total f usage

  first : (u : UnitUsage) (us : List UnitUsage) → over (u ∷ us) ≡ sum_by f u.used + over us
  first u us = sum_by-cons (λ (u : UnitUsage). sum_by f u.used) u us

  group_by : (u : UnitUsage) (us : List UnitUsage) (group : ℕ) (used : List Used) → over (with_group us group used) ≡ over us + sum_by f used
      → (b : Bool) → over (cond b (unit_usage u.group (u.used ++ used) ∷ us) (u ∷ with_group us group used)) ≡ over (u ∷ us) + sum_by f used
  group_by u us group used rest true =
      let a = first (unit_usage u.group (u.used ++ used)) us in let b = first u us in let c = sum_by-append f u.used used in omega arith
  group_by u us group used rest false = let a = first u (with_group us group used) in let b = first u us in omega arith

  over_group : (us : List UnitUsage) (group : ℕ) (used : List Used) → over (with_group us group used) ≡ over us + sum_by f used
  over_group [] group used = let a = first (unit_usage group used) [] in omega arith
  over_group (u ∷ us) group used = group_by u us group used (over_group us group used) (u.group == group)

  entry_by : (us : List UnitUsage) (group : ℕ) (used : List Used) → over (cond (length used == 0) us (with_group us group used)) ≡ over us + sum_by f used
  entry_by us group [] = omega arith
  entry_by us group (c ∷ used) = let some : eqb (length (c ∷ used)) 0 ≡ false = grind (arith, nat_tests) in rw some (over_group us group (c ∷ used))

  over_entry : (us : List UnitUsage) (e : UnitUsage) → over (with_entry us e) ≡ over us + sum_by f e.used
  over_entry us e = entry_by us e.group e.used

  pub over_usage : (us es : List UnitUsage) → over (with_usage us es) ≡ over us + over es
  over_usage us [] = omega arith
  over_usage us (e ∷ es) =
      let a = over_usage (with_entry us e) es in let b = over_entry us e in let c = first e es in a ∙ (let z : over (with_entry us e) + over es ≡ over us + over (e ∷ es) = omega arith in z)

  -- so what a request files has each of its containers
  pub over_filed : (usage : List UnitUsage) → total f (with_usage [] usage) ≡ total f usage
  over_filed usage = let a = over_usage [] usage in omega arith
