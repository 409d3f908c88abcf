use Rattle.wire.proofs.Following.{in_field}
use Rattle.wire.proofs.RequestGoing.{request_goes_on}
use Rattle.wire.proofs.request.HttpRequestFramed.goes_on.Goals as goal

pub returns-clause-exact : goal.returns-clause-exact
returns-clause-exact c = λ known before.
    let e = in_field c.args._had c.args._near.now c.args.line c.requires.ends (c.is_known.ensures known) in request_goes_on c.args._near.now c.args._had e.0 c.requires.within e.1 e.2 before
