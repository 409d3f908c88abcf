use Rattle.std.proofs.Common.{get_or, leb, rules}
use Rattle.std.proofs.lemmas.Bool.{leb-true, leb-false}
use Rattle.std.proofs.lemmas.List.Sorted.{IsPartitionPoint-from_clause, IsPartitionedBy-leb}
use Rattle.notices.specs.declared.notice.Notice.{Notice}
use Rattle.notices.proofs.merging.later_from.Goals as goal

pub returns : goal.returns
returns c =
    let xs = c.args.notices.now in
    let parted = IsPartitionedBy-leb (λ (n : Notice). n.id) xs c.args.id c.requires in
    let point = IsPartitionPoint-from_clause (λ (n : Notice). leb n.id c.args.id) xs _ c.partition_point.ensures.partitioned parted (λ a r q k. search rules) in
    record {
      within = c.partition_point.ensures.bound;
      low = λ k d a l. leb-true (get_or xs k d).id c.args.id (point.0 k d a l);
      high = λ k d a l. leb-false (get_or xs k d).id c.args.id (point.1 k d a l);
    }
