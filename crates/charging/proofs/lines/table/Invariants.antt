use Rattle.std.proofs.Common.{◌≡◌, ◌≤◌, ◌*◌, ◌^◌, take, string_bytes, sum_by}
use Rattle.std.specs.List.{flat_map}
use Rattle.charging.specs.MeterLines.{charge_of, line_of}
use Rattle.charging.proofs.lines.table.Given as goal

abbrev pub invariant-loop-container : goal.invariant-loop-container
invariant-loop-container l = record {
  text : string_bytes l.text ≡ flat_map (line_of l.prices) (take l.container-index l.containers);
  total : l.total ≡ sum_by (charge_of l.prices) (take l.container-index l.containers);
  range : l.total ≤ l.container-index * 2 ^ 98;
}
