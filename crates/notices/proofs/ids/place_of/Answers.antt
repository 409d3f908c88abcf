use Rattle.std.proofs.Common.{◌≢◌, ◌<◌, ℕ, length, get_or, arith, ltb, rules, ◌∙◌}
use Rattle.std.proofs.lemmas.List.{get_or_default}
use Rattle.std.proofs.lemmas.List.Sorted.{IsPartitionPoint-from_clause, IsPartitionedBy-ltb}
use Rattle.std.proofs.lemmas.Option.{slice_get-get_or}
use Rattle.notices.proofs.InOrder.{found, none_there}
use Rattle.notices.proofs.ids.place_of.Goals as goal
use Rattle.notices.proofs.ids.place_of.Goals.{else-at-ids-via-then-at-ids+else-ids-at, else-at-ids-via-else-at-ids}

pub returns-then-ids-at : goal.returns-then-ids-at
returns-then-ids-at c =
    let xs = c.args.ids.now in
    let i = c.partition_point-at.result in
    let parted = IsPartitionedBy-ltb (λ (n : ℕ). n) xs c.args.id c.requires in
    let point = IsPartitionPoint-from_clause (λ (n : ℕ). ltb n c.args.id) xs _ c.partition_point-at.ensures.partitioned parted (λ a r q k. search rules) in
    found (λ (n : ℕ). n) xs i c.args.id (get_or xs i 0) c.requires c.if-at-ids.true (slice_get-get_or xs i 0 c.if-at-ids.true) c.if-ids-at.true point.0

pub returns-else-at-ids : goal.returns-else-at-ids
returns-else-at-ids c =
    let xs = c.args.ids.now in
    let i = c.partition_point-at.result in
    let parted = IsPartitionedBy-ltb (λ (n : ℕ). n) xs c.args.id c.requires in
    let point = IsPartitionPoint-from_clause (λ (n : ℕ). ltb n c.args.id) xs _ c.partition_point-at.ensures.partitioned parted (λ a r q k. search rules) in
    let other : (d : ℕ) → i < length xs → get_or xs i d ≢ c.args.id = λ d l e. elim c.else-at-ids.branch [
      | else-at-ids-via-then-at-ids+else-ids-at w ↦ w.if-ids-at.false (get_or_default xs i 0 d l ∙ e)
      | else-at-ids-via-else-at-ids w ↦ absurd (omega (arith, w.if-at-ids.false))
    ] in
    none_there (λ (n : ℕ). n) xs i c.args.id c.requires point.0 point.1 other
