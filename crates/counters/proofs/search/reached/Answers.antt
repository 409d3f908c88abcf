use Rattle.std.proofs.Common.{◌≡◌, suc, ◌-◌, ◌≤◌, length, refl, sym, ap, ◌∙◌, arith, leb, rules}
use Rattle.std.proofs.lemmas.List.Sorted.{IsPartitionPoint-from_clause, IsPartitionedBy-leb}
use Rattle.std.proofs.lemmas.Option.{slice_get_read}
use Rattle.counters.specs.declared.row.Limit.{Limit}
use Rattle.counters.proofs.Limits.{reached_is, last_of}
use Rattle.counters.proofs.search.reached.Goals as goal

pub returns-then-count-gt0 : goal.returns-then-count-gt0
returns-then-count-gt0 c =
    let xs = c.args.limits.now in
    let parted = IsPartitionedBy-leb (λ (l : Limit). l.amount) xs c.args.spent c.requires in
    let point = IsPartitionPoint-from_clause (λ (l : Limit). leb l.amount c.args.spent) xs _ c.partition_point-count.ensures.partitioned parted (λ a r q k. search rules) in
    let le : c.partition_point-count.result ≤ length xs = c.partition_point-count.ensures.bound in
    let all = reached_is xs c.args.spent c.partition_point-count.result c.requires le point.0 point.1 in
    let one : c.partition_point-count.result ≡ suc (c.partition_point-count.result - 1) = omega arith in
    sym (all ∙ ap (λ n. last_of n xs) one ∙ slice_get_read xs (length xs) (c.partition_point-count.result - 1) c.index-limits-count.result refl (omega (arith, le)) c.index-limits-count.is)

pub returns-else-count-gt0 : goal.returns-else-count-gt0
returns-else-count-gt0 c =
    let xs = c.args.limits.now in
    let parted = IsPartitionedBy-leb (λ (l : Limit). l.amount) xs c.args.spent c.requires in
    let point = IsPartitionPoint-from_clause (λ (l : Limit). leb l.amount c.args.spent) xs _ c.partition_point-count.ensures.partitioned parted (λ a r q k. search rules) in
    let all = reached_is xs c.args.spent c.partition_point-count.result c.requires c.partition_point-count.ensures.bound point.0 point.1 in
    let none : c.partition_point-count.result ≡ 0 = omega arith in
    sym (all ∙ ap (λ n. last_of n xs) none)
