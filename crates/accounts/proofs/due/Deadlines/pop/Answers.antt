use Rattle.std.proofs.Common.{◌<◌, ◌∷◌, slice_get, sym, subst, ap, ◌∙◌}
use Rattle.std.specs.List.Sorted.{IsPermutation}
use Rattle.std.proofs.Common.{map}
use Rattle.std.specs.declared.cmp.Reverse.{Reverse}
use Rattle.std.specs.BinaryHeap.{heap_items}
use Rattle.accounts.specs.declared.due.Due.{Due}
use Rattle.accounts.specs.Due.{Queue}
use Rattle.accounts.proofs.Dues.{popped}
use Rattle.accounts.proofs.due.Deadlines.pop.Goals as goal

pub returns-clause-less : goal.returns-clause-less
returns-clause-less c = λ due e.
    let moved = popped c.pop.result _ _ due (λ some. c.pop.ensures.variant.1 (subst (λ n. 0 < n) (sym c.self.inside.heap.data.ok.0) some)) c.pop.ensures.top c.pop.ensures.permutation (ap (λ (q : Queue). slice_get q.dues 0) c.self.view_is ∙ e) in
    subst (λ (q : Queue). IsPermutation q.dues (due ∷ map (λ (r : Reverse Due). r.0) (heap_items c.pop.new.self))) c.self.view_is moved
