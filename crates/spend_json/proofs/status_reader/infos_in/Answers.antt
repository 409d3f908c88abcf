use Rattle.std.proofs.Common.{◌≡◌, ◌∙◌, ap, sym, Some, string_bytes}
use Rattle.serde_json.specs.View.{view}
use Rattle.spend_json.specs.Status.{info_of}
use Rattle.spend_json.proofs.Members.{goes_on}
use Rattle.spend_json.proofs.status_reader.infos_in.Goals as goal

pub loop-key-preserved : goal.loop-key-preserved
loop-key-preserved c =
    let is : info_of (string_bytes c.in-Some.key.now) (view c.in-Some.value.now) ≡ Some c.in-Some-2.info = ap (λ k. info_of k (view c.in-Some.value.now)) (sym c.as_str.ensures.value) ∙ sym c.in_ok-info.ensures ∙ c.in-Some-2.is in
    goes_on c.args.members.now.entries c.loop-key.key-iterator c.next.new.self c.in-Some.key.now c.in-Some.value.now c.loop-key.infos c.push.new.self c.in-Some-2.info c.in-Some.ensures.steps is c.in_ok-push-in-Some-2.ensures.ok c.loop-key.invariant
