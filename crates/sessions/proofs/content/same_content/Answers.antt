use Rattle.std.proofs.Common.{rules}
use Rattle.sessions.proofs.Contents.{content_decides}
use Rattle.sessions.proofs.content.same_content.Goals as goal

pub returns-then-same_name-clause-content : goal.returns-then-same_name-clause-content
returns-then-same_name-clause-content c =
    let d = content_decides c.args.a.now c.args.b.now in
    search (rules, d)
