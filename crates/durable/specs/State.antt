-- What a durable list keeps of itself (this product's own).
use Rattle.std.specs.Prelude.{ℕ, Option, None, Some, Bool, true, false}
use Rattle.journal.specs.State.{State as Journal}

-- the journal, while it is open; the epoch under which the list was opened, or, where it follows, under which it was opened last; whether it goes on under a greater epoch that it finds; how many bytes the journal may have
pub record State : Type 0 where
  pub journal : Option Journal
  pub own : ℕ
  pub follows : Bool
  pub limit : ℕ

-- its journal is not open any more
abbrev pub closed : State → State
closed s = record s { journal = None }

-- the own epoch once a journal of an epoch was opened: that of the journal, where the list follows
abbrev pub own_after : Bool → ℕ → ℕ → ℕ
own_after true epoch own = epoch
own_after false epoch own = own

-- once this journal was opened
abbrev pub reopened : State → Journal → State
reopened s journal = record s { journal = Some journal; own = own_after s.follows journal.epoch s.own }
