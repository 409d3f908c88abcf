-- The records of each session hold what was accepted of it, in every list of commands that came to be (TS 32.255, 5.2.3; TS 32.290, 5.3.2).
use Rattle.std.specs.Prelude.{◌≡◌, ℕ, ◌==◌, cond, List, [], ◌∷◌, ◌++◌, Option, Some, None, sum_by}
use Rattle.units.specs.declared.request.Used.{Used}
use Rattle.units.specs.declared.request.UnitUsage.{UnitUsage}
use Rattle.units.specs.declared.request.Request.{Request}
use Rattle.sessions.specs.Kept.{Kept as KeptRequest, accepted, times}
use Rattle.records.specs.Sums.{total}
use Rattle.records.specs.Book.{records_after}
use Rattle.records.specs.Once.{stand}
use Rattle.records.specs.InOrder.{usages_of, AreDivided}
use Rattle.chf_core.specs.declared.command.Command.{Command}
use Rattle.chf_core.specs.declared.key.Name.{Name}
use Rattle.chf_core.specs.Operator.{setup_of}
use Rattle.chf_core.specs.Sessions.{reference_of}
use Rattle.chf_core.specs.KeptRequests.{kept_of}
use Rattle.chf_core.specs.Filings.{limits_in, filed_usage}
use Rattle.chf_core.specs.Filed.{filings}
use Rattle.chf_core.specs.After.{state_of, IsHistory}

-- The records are those that all filings leave, under the limits of the setup.
abbrev pub RecordsAreFiled : Type 0
RecordsAreFiled =
    (commands : List Command) → IsHistory commands
    → (state_of commands).book ≡ records_after (limits_in (setup_of commands)) (filings commands)

-- the sum of a number over the containers of requests
abbrev pub over_requests : (Used → ℕ) → List Request → ℕ
over_requests f requests = sum_by (λ q. total f q.usage) requests

-- a session without reference accepted nothing; whatever number is summed over the containers of another, its records,
-- closed and open, have the same sum as its accepted requests
abbrev pub HoldsAccepted : List Command → List KeptRequest → Option ℕ → Type 0
HoldsAccepted commands kept None = accepted kept ≡ []
HoldsAccepted commands kept (Some reference) =
    (f : Used → ℕ) → stand f reference (state_of commands).book ≡ over_requests f (accepted kept)

-- So each container of an accepted request stands in exactly one record of its session, and no other container in any.
abbrev pub RecordsHoldAccepted : Type 0
RecordsHoldAccepted =
    (commands : List Command) (n : Name) → IsHistory commands
    → HoldsAccepted commands (kept_of commands n) (reference_of commands n)

-- the entries that requests, the newest first, file, by rating group; the first that came is the first
abbrev pub filed_entries : List Request → List UnitUsage
filed_entries [] = []
filed_entries (q ∷ earlier) = filed_entries earlier ++ filed_usage q

-- The containers of the accepted requests of a session, in order, are divided into its records, closed ones in order of
-- closing and then the open one.
abbrev pub RecordsAreInOrder : Type 0
RecordsAreInOrder =
    (commands : List Command) (n : Name) (reference : ℕ) → IsHistory commands
    → reference_of commands n ≡ Some reference
    → AreDivided (usages_of reference (state_of commands).book) (filed_entries (accepted (kept_of commands n)))

-- 1 for a container with a local sequence number, else 0
abbrev pub has_number : ℕ → Used → ℕ
has_number lsn c = cond (c.lsn == lsn) 1 0

-- How often a container stands in the records of its session is how often its accepted requests charge it.
abbrev pub RecordsHoldTimes : Type 0
RecordsHoldTimes =
    (commands : List Command) (n : Name) (reference lsn : ℕ) → IsHistory commands
    → reference_of commands n ≡ Some reference
    → stand (has_number lsn) reference (state_of commands).book ≡ times (kept_of commands n) lsn
