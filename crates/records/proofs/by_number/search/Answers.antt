use Rattle.std.proofs.lemmas.List.Sorted.{searched}
use Rattle.records.proofs.Rising.{rising, searched_is}
use Rattle.records.proofs.by_number.search.Goals as goal

pub returns : goal.returns
returns c = searched_is c.args.numbers.now c.args.number c.binary_search.result (searched c.args.numbers.now c.args.number c.binary_search.result c.binary_search.ensures.position (rising c.args.numbers.now c.requires))
