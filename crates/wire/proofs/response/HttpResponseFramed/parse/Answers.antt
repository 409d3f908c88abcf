use Rattle.std.proofs.Common.{Err, ap}
use Rattle.wire.proofs.Lines.{no_response, response_never}
use Rattle.wire.proofs.response.HttpResponseFramed.parse.Goals as goal

pub returns-in-Err-clause-exact : goal.returns-in-Err-clause-exact
returns-in-Err-clause-exact c lines =
    let never = c.in-Err.ensures.invalid (response_never c.args.near.now c.in-Err.field-0 _ lines c.requires (λ e. c.in-Err.ensures.too_many (ap Err e))) in
    (λ head at. no_response c.args.near.now never at.head at.rest at.reads, never)
