use Rattle.std.proofs.Common.{◌≡◌, ◌≤◌, ◌<◌, ◌^◌, drop, Some}
use Rattle.edge.specs.EpochText.{epoch_from}
use Rattle.edge.proofs.epoch_text.put_digits.Given as goal

abbrev pub invariant-loop-rest : goal.invariant-loop-rest
invariant-loop-rest l = record {
  place : l.from ≤ l.end;
  room : l.rest < 10 ^ l.from;
  text : epoch_from l.rest (drop l.from l.text) ≡ Some l.number;
}

abbrev pub decreases-loop-rest : goal.decreases-loop-rest
decreases-loop-rest l = l.rest
