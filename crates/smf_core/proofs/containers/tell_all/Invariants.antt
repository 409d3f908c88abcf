use Rattle.std.proofs.Common.{◌≡◌, ◌≤◌, ◌+◌, ◌++◌, drop, length, vec_len, vec_capacity}
use Rattle.smf_model.specs.GivenUps.{given_up_of}
use Rattle.smf_core.specs.Stored.{staged}
use Rattle.smf_core.proofs.containers.tell_all.Given as goal

abbrev pub invariant-loop-at : goal.invariant-loop-at
invariant-loop-at l = record {
  told : l.given.items ++ given_up_of (staged (drop l.at l.containers) (drop l.at l.stages)) ≡ l.fn.given.items ++ given_up_of (staged l.containers l.stages);
  room : vec_len l.given + length (given_up_of (staged (drop l.at l.containers) (drop l.at l.stages))) ≤ vec_capacity l.given;
}
