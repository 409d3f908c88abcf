use Rattle.std.proofs.Common.{refl, sym}
use Rattle.records.proofs.Ascending.{behind_is, record_made}
use Rattle.records.proofs.ordered.record.Goals as goal

pub returns-clause-spelled : goal.returns-clause-spelled
returns-clause-spelled c =
    record_made c.in_ok-record.record c.args.bytes.now c.in_ok-tail.tail.now c.in_ok-contents.contents.now c.in_ok-contents.rest.now _ (behind_is c.args.bytes.now c.in_ok-tail.tail.now (sym c.in_ok-tail.ensures.exact))
    c.in_ok-contents.ensures.found c.in_ok-record.ensures refl
