-- Over every list of calls, the containers of a session, in order, are divided into its records (TS 32.255, 5.2.3; this product's own statement).
use Rattle.std.specs.Prelude.{◌≡◌, ℕ, ◌==◌, List, [], ◌∷◌, ◌++◌, Option, Some, None, if◌then◌else◌}
use Rattle.units.specs.declared.request.UnitUsage.{UnitUsage}
use Rattle.records.specs.declared.limits.RecordLimits.{RecordLimits}
use Rattle.records.specs.declared.record.Kept.{Kept}
use Rattle.records.specs.declared.filing.Filing.{Filing}
use Rattle.records.specs.declared.filing.Filing.TheVariants.{Added}
use Rattle.records.specs.Usage.{with_usage}
use Rattle.records.specs.Book.{Records, open_of, records_after}
use Rattle.records.specs.Once.{MayAllCome}

-- The containers of the closed records of a session, in order of closing (this product's own).
abbrev pub closed_usages : ℕ → List Kept → List (List UnitUsage)
closed_usages session [] = []
closed_usages session (k ∷ ks) = if k.session == session then k.usage ∷ closed_usages session ks else closed_usages session ks

-- Those of a record that is not closed, if there is one (this product's own).
abbrev pub open_usages : Option Kept → List (List UnitUsage)
open_usages None = []
open_usages (Some k) = k.usage ∷ []

-- The containers of all records of a session, the one that is not closed last (this product's own).
abbrev pub usages_of : ℕ → Records → List (List UnitUsage)
usages_of session b = closed_usages session b.closed ++ open_usages (open_of b.sessions session)

-- The entries that a call brings to a session (this product's own).
abbrev pub entries_by : ℕ → Filing → List UnitUsage
entries_by session (Added number used stamp last) = if number == session then used else []
entries_by session other = []

-- The entries that came to a session in a list of calls whose newest is the first: the first that came is the first here (this product's own).
abbrev pub entries_of : ℕ → List Filing → List UnitUsage
entries_of session [] = []
entries_of session (f ∷ fs) = entries_of session fs ++ entries_by session f

-- Entries are cut into stretches, one for each record, in order, and each record has the containers of its stretch and no others, by rating group (TS 32.255, 5.2.3).
abbrev pub AreDivided : List (List UnitUsage) → List UnitUsage → Type 0
AreDivided [] entries = entries ≡ []
AreDivided (usage ∷ usages) entries = (first : List UnitUsage) × (rest : List UnitUsage) × (entries ≡ first ++ rest) × (usage ≡ with_usage [] first) × AreDivided usages rest

-- After every list of calls the entries that came to a session are divided so into its records, closed ones in order of closing and then the one that is not closed (TS 32.255, 5.2.3).
abbrev pub ContainersInOrder : Type 0
ContainersInOrder = (l : RecordLimits) (filings : List Filing) (session : ℕ) → MayAllCome l filings → AreDivided (usages_of session (records_after l filings)) (entries_of session filings)
