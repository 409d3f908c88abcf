use Rattle.chf_replay.proofs.Ones.{first_are, go_on, one_list}
use Rattle.chf_replay.proofs.laws.entries_are_of_one_list.Goals as goal

pub returns-clause-one : goal.returns-clause-one
returns-clause-one c = one_list c.payloads_differ.ensures

pub returns-clause-go_on : goal.returns-clause-go_on
returns-clause-go_on c = go_on c.payloads_differ.ensures

pub returns-clause-first : goal.returns-clause-first
returns-clause-first c = first_are
