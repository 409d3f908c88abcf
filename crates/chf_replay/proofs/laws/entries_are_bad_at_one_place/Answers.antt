use Rattle.chf_replay.proofs.Ones.{no_place, one_place}
use Rattle.chf_replay.proofs.laws.entries_are_bad_at_one_place.Goals as goal

pub returns-clause-one : goal.returns-clause-one
returns-clause-one c = one_place c.payloads_differ.ensures

pub returns-clause-none : goal.returns-clause-none
returns-clause-none c = no_place c.payloads_differ.ensures
