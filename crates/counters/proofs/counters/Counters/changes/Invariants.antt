use Rattle.std.proofs.Common.{◌≡◌, take}
use Rattle.std.specs.List.{filter, filter_map}
use Rattle.counters.specs.Row.{counter_rows}
use Rattle.counters.specs.Names.{names_of}
use Rattle.counters.specs.Status.{status}
use Rattle.counters.specs.Watching.{is_watched, with_status, if_another}
use Rattle.counters.proofs.counters.Counters.changes.Given as goal

abbrev pub invariant-loop-at : goal.invariant-loop-at
invariant-loop-at l = l.infos ≡ filter_map (λ counter. with_status counter (if_another (status l.self counter l.before) (status l.self counter l.after))) (filter (is_watched l.named) (take l.at (names_of (counter_rows l.self))))
