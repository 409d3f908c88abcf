-- How many notices were made of each subscription.
use Rattle.std.specs.Prelude.{ℕ, ◌-◌, List, fold, slice_set}
use Rattle.notices.specs.declared.notice.Notice.{Notice}

-- after these notices, each of which says its number
abbrev pub numbers_after : List ℕ → List Notice → List ℕ
numbers_after numbers notices = fold (λ before n. slice_set before (n.id - 1) n.number) numbers notices
