use Rattle.std.proofs.Common.{rules, ℕ, List}
use Rattle.std.specs.Ordering.{nat_cmp}
use Rattle.std.specs.Cmp.Lexicographic.{slice_cmp}
use Rattle.std.proofs.lemmas.Fn.{always_returns_same}
use Rattle.counters.proofs.Ascending.{searched_is}
use Rattle.counters.proofs.search.search.Goals as goal

pub returns : goal.returns
returns c =
    searched_is c.args.names.now c.args.name.now c.binary_search_by.result c.requires c.binary_search_by.ensures.bound
    (c.binary_search_by.ensures.position (λ (one : List ℕ). slice_cmp nat_cmp one c.args.name.now) (always_returns_same _ _ _ (λ a r q k. search rules)))
