use Rattle.std.proofs.Common.{sym}
use Rattle.records.proofs.Ascending.{usage_made}
use Rattle.records.proofs.ordered.usage.Goals as goal

pub returns : goal.returns
returns c =
    usage_made c.in_ok-group.group c.in_ok-used.used c.args.bytes.now c.in_ok-group.list.now c.in_ok-contents.contents.now c.in_ok-contents.rest.now c.in_ok-group.ensures c.in_ok-contents.ensures.found
    (sym c.if-not-is_empty.ensures) c.in_ok-used.ensures
