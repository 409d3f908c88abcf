use Rattle.std.proofs.Common.{sym}
use Rattle.records.specs.Written.{each, used_element}
use Rattle.records.proofs.Fronted.{fits}
use Rattle.records.proofs.writing.containers_of.Goals as goal

pub close-requires : goal.close-requires
close-requires c = fits (each used_element c.args.all.now) c.args.out.now _ _ c.len-behind.ensures c.in_ok-containers.ensures

pub returns : goal.returns
returns c = c.in_ok-close.ensures (each used_element c.args.all.now) c.args.out.now (sym c.len-behind.ensures) c.in_ok-containers.ensures
