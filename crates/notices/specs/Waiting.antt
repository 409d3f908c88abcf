-- Notices that were not sent yet, as they are kept.
use Rattle.std.specs.Prelude.{ℕ, List}
use Rattle.notices.specs.declared.notice.Notice.{Notice}

-- the notices, and for how many more there is room
pub record Waiting : Type 0 where
  pub notices : List Notice
  pub room : ℕ
