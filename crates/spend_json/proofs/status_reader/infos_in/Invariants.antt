use Rattle.std.proofs.Common.{◌≡◌}
use Rattle.serde_json.specs.View.{members_view}
use Rattle.spend_json.specs.Status.{infos_in}
use Rattle.spend_json.proofs.Members.{then_more}
use Rattle.spend_json.proofs.status_reader.infos_in.Given as goal

abbrev pub invariant-loop-key : goal.invariant-loop-key
invariant-loop-key l = infos_in (members_view l.members.entries) ≡ then_more l.infos (infos_in (members_view l.key-iterator))
