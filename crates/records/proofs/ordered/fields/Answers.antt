use Rattle.std.proofs.Common.{ℕ, subst}
use Rattle.records.specs.Fields.{integer_of}
use Rattle.records.specs.Ordered.{Has}
use Rattle.records.proofs.Ascending.{fields_made}
use Rattle.records.proofs.ordered.fields.Goals as goal

pub returns : goal.returns
returns c =
    fields_made c.in_ok-function.function c.in_ok-subscriber.subscriber c.in_ok-consumer.consumer c.in_ok-usage.usage c.in_ok-others.others.opening c.in_ok-others.others.duration c.in_ok-others.others.sequence
    c.in_ok-others.others.cause c.in_ok-others.others.local c.in_ok-others.others.charging_id c.args.bytes.now c.in_ok-kind.rest.now c.in_ok-function.rest.now c.in_ok-subscriber.rest.now c.in_ok-consumer.rest.now c.in_ok-usage.rest.now
    (subst (λ (n : ℕ). Has (integer_of 200) 128 c.args.bytes.now n c.in_ok-kind.rest.now) c.if-kind-ne200.false c.in_ok-kind.ensures.has) c.in_ok-function.ensures.has c.in_ok-subscriber.ensures.has c.in_ok-consumer.ensures.has
    c.in_ok-usage.ensures c.in_ok-others.ensures
