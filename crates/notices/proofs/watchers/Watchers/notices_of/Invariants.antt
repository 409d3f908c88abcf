use Rattle.std.proofs.Common.{◌≡◌, take}
use Rattle.std.specs.List.{filter_map}
use Rattle.notices.specs.Due.{notice_of}
use Rattle.notices.proofs.watchers.Watchers.notices_of.Given as goal

abbrev pub invariant-loop-id : goal.invariant-loop-id
invariant-loop-id l = l.notices.items ≡ filter_map (notice_of l.counters l.self.of l.before l.after) (take l.id-index l.ids)
