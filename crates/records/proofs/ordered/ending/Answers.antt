use Rattle.std.proofs.Common.{sym}
use Rattle.records.proofs.Ascending.{used_ends}
use Rattle.records.proofs.ordered.ending.Goals as goal

pub returns : goal.returns
returns c =
    used_ends c.in_ok-triggers.triggers c.in_ok-moment.moment c.args.bytes.now c.in_ok-triggers.rest.now c.in_ok-octets.rest.now c.in_ok-triggers.ensures
    (c.in_ok-octets.octets.now, c.in_ok-octets.ensures.found, sym c.in_ok-moment.ensures) (sym c.if-not-is_empty.ensures)
