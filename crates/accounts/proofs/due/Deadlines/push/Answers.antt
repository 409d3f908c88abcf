use Rattle.std.proofs.Common.{◌<◌, ◌∷◌, map, sym, subst, arith}
use Rattle.std.specs.declared.cmp.Reverse.{Reverse}
use Rattle.std.specs.List.Sorted.{IsPermutation}
use Rattle.std.proofs.lemmas.List.Sorted.{IsPermutation-map}
use Rattle.std.specs.BinaryHeap.{heap_items}
use Rattle.accounts.specs.declared.due.Due.{Due}
use Rattle.accounts.specs.Due.{Queue}
use Rattle.accounts.proofs.Tables.{from_ok}
use Rattle.accounts.proofs.due.Deadlines.push.Goals as goal

pub returns-clause-more : goal.returns-clause-more
returns-clause-more c =
    let room = subst (λ (q : Queue). 0 < q.spare) (sym c.self.view_is) c.requires in
    let moved = from_ok c.push.result _ (c.push.ensures.succeeds (omega arith)) c.push.ensures.permutation in
    subst (λ (q : Queue). IsPermutation (c.args.due ∷ q.dues) (map (λ (r : Reverse Due). r.0) (heap_items c.push.new.self))) c.self.view_is (IsPermutation-map (λ (r : Reverse Due). r.0) _ _ moved)
