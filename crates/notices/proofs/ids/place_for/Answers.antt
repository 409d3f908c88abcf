use Rattle.std.proofs.Common.{ℕ, leb, rules}
use Rattle.std.proofs.lemmas.List.Sorted.{IsPartitionPoint-from_clause, IsPartitionedBy-leb}
use Rattle.notices.proofs.InOrder.{place}
use Rattle.notices.proofs.ids.place_for.Goals as goal

pub returns : goal.returns
returns c =
    let xs = c.args.ids.now in
    let parted = IsPartitionedBy-leb (λ (n : ℕ). n) xs c.args.id c.requires in
    let point = IsPartitionPoint-from_clause (λ (n : ℕ). leb n c.args.id) xs _ c.partition_point.ensures.partitioned parted (λ a r q k. search rules) in
    place (λ (n : ℕ). n) xs c.partition_point.result c.args.id c.requires c.partition_point.ensures.bound point.0 point.1
