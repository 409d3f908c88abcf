use Rattle.std.proofs.Common.{◌≡◌, true, false, Err, ap, refl}
use Rattle.wire.proofs.Lines.{no_request, request_never}
use Rattle.wire.proofs.request.HttpRequestFramed.parse.Goals as goal

pub returns-then-ends_in_target-clause-exact : goal.returns-then-ends_in_target-clause-exact
returns-then-ends_in_target-clause-exact c lines =
    let never = c.in-Err.ensures.invalid (request_never c.args.near.now c.in-Err.field-0 _ lines c.requires (λ e. c.in-Err.ensures.too_many (ap Err e))) in
    (λ head at. no_request c.args.near.now never at.head at.rest at.reads, λ hopeless. hopeless.elsewhere (c.if-ends_in_target.ensures.0 refl))

pub returns-else-ends_in_target-clause-exact : goal.returns-else-ends_in_target-clause-exact
returns-else-ends_in_target-clause-exact c lines =
    let never = c.in-Err.ensures.invalid (request_never c.args.near.now c.in-Err.field-0 _ lines c.requires (λ e. c.in-Err.ensures.too_many (ap Err e))) in (
      λ head at. no_request c.args.near.now never at.head at.rest at.reads,
      record { never = never; elsewhere = λ ends. let bad : false ≡ true = c.if-ends_in_target.ensures.1 ends in absurd (cc) },
    )
