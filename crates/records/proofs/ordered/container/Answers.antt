use Rattle.std.proofs.Common.{sym}
use Rattle.records.proofs.Ascending.{container_made}
use Rattle.records.proofs.ordered.container.Goals as goal

pub returns : goal.returns
returns c =
    container_made c.args.group c.in_ok-lsn.lsn c.in_ok-seconds.seconds c.in_ok-up.up c.in_ok-down.down c.in_ok-first.first c.in_ok-last.last _ _ c.args.bytes.now c.in_ok-lsn.rest.now c.in_ok-seconds.rest.now
    c.in_ok-up.rest.now c.in_ok-down.rest.now c.in_ok-first_octets.rest.now c.in_ok-last_octets.rest.now c.in_ok-lsn.ensures c.in_ok-seconds.ensures c.in_ok-up.ensures.has c.in_ok-down.ensures.has
    (c.in_ok-first_octets.first_octets.now, c.in_ok-first_octets.ensures.found, sym c.in_ok-first.ensures) (c.in_ok-last_octets.last_octets.now, c.in_ok-last_octets.ensures.found, sym c.in_ok-last.ensures)
    c.in_ok-triggers.ensures
