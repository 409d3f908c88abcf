use Rattle.std.proofs.Common.{sym}
use Rattle.ber.specs.Element.{more, none}
use Rattle.records.specs.Written.{number_field}
use Rattle.records.proofs.Fronted.{fits}
use Rattle.records.proofs.writing.session.Goals as goal

pub close-requires : goal.close-requires
close-requires c = fits (more (number_field 0 c.args.charging_id) none) c.args.out.now _ _ c.len-behind.ensures c.in_ok-small.ensures

pub returns : goal.returns
returns c = c.in_ok-close.ensures (more (number_field 0 c.args.charging_id) none) c.args.out.now (sym c.len-behind.ensures) c.in_ok-small.ensures
