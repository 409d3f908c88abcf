use Rattle.std.proofs.Common.{sym}
use Rattle.records.proofs.Ascending.{others_made}
use Rattle.records.proofs.ordered.others.Goals as goal

pub returns : goal.returns
returns c =
    others_made c.in_ok-opening.opening c.in_ok-duration.duration c.in_ok-sequence.sequence c.in_ok-cause.cause c.in_ok-local.local c.in_ok-charging_id.charging_id c.args.bytes.now c.in_ok-opening_octets.rest.now
    c.in_ok-duration.rest.now c.in_ok-sequence.rest.now c.in_ok-cause.rest.now c.in_ok-local.rest.now c.in_ok-session.session.now c.in_ok-charging_id.inner.now c.in_ok-session.rest.now
    (c.in_ok-opening_octets.opening_octets.now, c.in_ok-opening_octets.ensures.found, sym c.in_ok-opening.ensures) c.in_ok-duration.ensures c.in_ok-sequence.ensures c.in_ok-cause.ensures.has c.in_ok-local.ensures
    c.in_ok-session.ensures.found c.in_ok-charging_id.ensures (sym c.if-not-is_empty.ensures) (sym c.if-not-is_empty-2.ensures)
