use Rattle.std.proofs.Common.{arith, ◌∙◌, ap}
use Rattle.records.proofs.Places.{all_places, none_seen}
use Rattle.records.specs.Groups.{usage_seen}
use Rattle.records.proofs.unclosed.make_all_places.Goals as goal

pub returns-clause-places : goal.returns-clause-places
returns-clause-places c = all_places c.loop-entry.groups.items c.args.used.now (λ k d lt. c.loop-entry.invariant.places k d (omega arith))

pub returns-clause-none : goal.returns-clause-none
returns-clause-none c = λ none. none_seen c.loop-entry.groups.items (c.loop-entry.invariant.kept ∙ ap usage_seen none)

pub returns-in_err-make_places-clause-none : goal.returns-in_err-make_places-clause-none
returns-in_err-make_places-clause-none c = λ none. none_seen _ (c.in_err-make_places.ensures.kept ∙ c.loop-entry.invariant.kept ∙ ap usage_seen none)
