use Rattle.std.proofs.Common.{◌≡◌, ◌<◌, inl, inr, ⊎_elim, length, arith, sym, [], ◌∷◌}
use Rattle.std.proofs.lemmas.Bool.Decides.{nat_tests}
use Rattle.edge.proofs.Fills.{filled_none, filled_one, filled_uncovered}
use Rattle.edge.proofs.disk_store.fill_span.Goals as goal

pub returns-then-is_empty : goal.returns-then-is_empty
returns-then-is_empty c = λ k here.
    let none : length c.args.fill.now ≡ 0 = grind (arith, nat_tests) in
    sym (filled_none c.args.fill.now (c.args.span ∷ []) k _ none)

pub returns-then-span-bytes : goal.returns-then-span-bytes
returns-then-span-bytes c = λ k here.
    sym (filled_uncovered c.args.fill.now (c.args.span ∷ []) k _ (⊎_elim (λ inside. omega (arith, inside.0, c.if-span-bytes.true)) (λ none. none)))

pub returns : goal.returns
returns c = λ k here.
    let some : 0 < length c.args.fill.now = grind (arith, nat_tests) in
    filled_one c.args.fill.now c.args.span k _ _ some (λ from lt. c.loop-k.invariant.inside k here from (omega arith)) (⊎_elim (λ low. c.loop-k.invariant.outside k (inl low)) (λ past. c.loop-k.invariant.outside k (inr (omega arith))))
