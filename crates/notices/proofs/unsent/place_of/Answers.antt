use Rattle.std.proofs.Common.{◌≢◌, ◌<◌, length, get_or, arith, ltb, rules, refl, ap, ◌∙◌}
use Rattle.std.proofs.lemmas.List.{get_or_default}
use Rattle.std.proofs.lemmas.List.Sorted.{IsPartitionPoint-from_clause, IsPartitionedBy-ltb}
use Rattle.std.proofs.lemmas.Option.{slice_get_read}
use Rattle.notices.specs.declared.notice.Notice.{Notice}
use Rattle.notices.proofs.InOrder.{found, none_there}
use Rattle.notices.proofs.unsent.place_of.Goals as goal
use Rattle.notices.proofs.unsent.place_of.Goals.{else-at-notices-via-then-at-notices+else-notices-at, else-at-notices-via-else-at-notices}

pub returns-then-notices-at : goal.returns-then-notices-at
returns-then-notices-at c =
    let xs = c.args.notices.now in
    let i = c.partition_point-at.result in
    let parted = IsPartitionedBy-ltb (λ (n : Notice). n.id) xs c.args.id c.requires in
    let point = IsPartitionPoint-from_clause (λ (n : Notice). ltb n.id c.args.id) xs _ c.partition_point-at.ensures.partitioned parted (λ a r q k. search rules) in
    found (λ (n : Notice). n.id) xs i c.args.id c.index-notices-at.result c.requires c.if-at-notices.true
    (slice_get_read xs (length xs) i c.index-notices-at.result refl c.if-at-notices.true c.index-notices-at.is) (ap (λ (n : Notice). n.id) c.index-notices-at.is ∙ c.if-notices-at.true) point.0

pub returns-else-at-notices : goal.returns-else-at-notices
returns-else-at-notices c =
    let xs = c.args.notices.now in
    let i = c.partition_point-at.result in
    let parted = IsPartitionedBy-ltb (λ (n : Notice). n.id) xs c.args.id c.requires in
    let point = IsPartitionPoint-from_clause (λ (n : Notice). ltb n.id c.args.id) xs _ c.partition_point-at.ensures.partitioned parted (λ a r q k. search rules) in
    let other : (d : Notice) → i < length xs → (get_or xs i d).id ≢ c.args.id = λ d l e. elim c.else-at-notices.branch [
      | else-at-notices-via-then-at-notices+else-notices-at w ↦ w.if-notices-at.false (ap (λ (n : Notice). n.id) (get_or_default xs i w.index-notices-at.result d l) ∙ e)
      | else-at-notices-via-else-at-notices w ↦ absurd (omega (arith, w.if-at-notices.false))
    ] in
    none_there (λ (n : Notice). n.id) xs i c.args.id c.requires point.0 point.1 other
