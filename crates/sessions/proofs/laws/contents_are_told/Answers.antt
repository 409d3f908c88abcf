use Rattle.sessions.proofs.Contents.{content_decides}
use Rattle.sessions.proofs.laws.contents_are_told.Goals as goal

pub returns : goal.returns
returns c = content_decides
