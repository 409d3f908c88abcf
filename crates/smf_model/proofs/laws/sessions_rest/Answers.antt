use Rattle.smf_model.proofs.Resting.{rests_after, rests_until}
use Rattle.smf_model.proofs.laws.sessions_rest.Goals as goal

pub returns-clause-after : goal.returns-clause-after
returns-clause-after c = rests_after

pub returns-clause-until : goal.returns-clause-until
returns-clause-until c = rests_until c.rests_until_deadline.ensures
