use Rattle.chf_core.proofs.Drafting.{closed_makeable}
use Rattle.chf_core.proofs.draft.Draft.close.Goals as goal

pub returns-in_ok-release_all-clause-makeable : goal.returns-in_ok-release_all-clause-makeable
returns-in_ok-release_all-clause-makeable c =
    closed_makeable c.args.self.now.moves c.release_all.new.self c.args.t.session c.in_ok-release_all.ensures.ok
