use Rattle.std.proofs.Common.{◌≡◌, ◌≤◌, ℕ, None}
use Rattle.records.specs.Book.{session_of}
use Rattle.benchmarks.proofs.close_turns.begun.Given as goal

abbrev pub invariant-loop-session : goal.invariant-loop-session
invariant-loop-session l = (number : ℕ) → l.session ≤ number → session_of l.book.records.sessions number ≡ None
