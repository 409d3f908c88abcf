use Rattle.std.proofs.Common.{◌≡◌, ◌-◌, ◌∙◌, ap, take, drop, length, arith}
use Rattle.smf_core.specs.Caches.{given_up_count}
use Rattle.smf_core.proofs.giving.untell.Goals as goal

pub returns-clause-items : goal.returns-clause-items
returns-clause-items c =
    let given = c.args.given.now.items in
    let keep : c.saturating_sub.result ≡ length given - given_up_count (drop c.args.since c.args.all.now.holdings) = omega (arith, c.saturating_sub.ensures, c.len.ensures, c.args.given.now.ok.0, c.given_up_from-behind.ensures) in
    c.truncate.ensures.items ∙ ap (λ n. take n given) keep
