use Rattle.std.proofs.Common.{rules, sym, ap, ◌∙◌, ltb}
use Rattle.std.proofs.lemmas.List.Sorted.{IsPartitionPoint-from_clause, IsPartitionedBy-ltb}
use Rattle.chf_core.specs.declared.kept_request.KeptRequest.{KeptRequest}
use Rattle.chf_core.specs.Placed.{if_at}
use Rattle.chf_core.proofs.PlacedRequests.{rising, found_by_halves}
use Rattle.chf_core.proofs.found_requests.found_at.Goals as goal

pub returns : goal.returns
returns c =
    let rs = c.args.requests.now in
    let place = c.args.place in
    let parted = IsPartitionedBy-ltb (λ (r : KeptRequest). r.place) rs place (rising 0 rs c.requires) in
    let point = IsPartitionPoint-from_clause (λ (r : KeptRequest). ltb r.place place) rs _ c.partition_point-at.ensures.partitioned parted (λ a r q k. search rules) in
    c.if_at.ensures ∙ ap (if_at place) c.request_in.ensures ∙ sym (found_by_halves place 0 rs c.partition_point-at.result c.requires point.0 point.1)
