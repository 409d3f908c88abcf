use Rattle.std.proofs.Common.{◌∙◌}
use Rattle.counters.specs.Row.{counter_rows}
use Rattle.counters.specs.Names.{names_of}
use Rattle.counters.proofs.Kept.{is_by_place}
use Rattle.counters.proofs.counters.Counters.is_counter.Goals as goal

pub returns : goal.returns
returns c = c.is_some.ensures ∙ is_by_place (names_of (counter_rows c.args.self.now)) c.args.counter.now c.place.result c.place.ensures
