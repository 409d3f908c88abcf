use Rattle.std.proofs.Common.{◌≡◌, take}
use Rattle.notices.specs.Numbers.{numbers_after}
use Rattle.notices.proofs.watchers.count_all.Given as goal

abbrev pub invariant-loop-notice : goal.invariant-loop-notice
invariant-loop-notice l = l.numbers.items ≡ numbers_after l.fn.numbers.items (take l.notice-index l.notices)
