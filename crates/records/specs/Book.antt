-- A book of records: what each call makes of it (TS 32.255, 5.2.3; TS 32.298, 5.1.5.0).
use Rattle.std.specs.Prelude.{ℕ, ◌+◌, ◌==◌, nat_lt, Bool, List, [], ◌∷◌, ◌++◌, length, Option, Some, None, sum_by, if◌then◌else◌}
use Rattle.units.specs.declared.request.UnitUsage.{UnitUsage}
use Rattle.records.specs.declared.limits.RecordLimits.{RecordLimits}
use Rattle.records.specs.declared.record.Kept.{Kept}
use Rattle.records.specs.declared.filing.Filing.{Filing}
use Rattle.records.specs.declared.filing.Filing.TheVariants.{Begun, Added, Ended, ClosedAll}
use Rattle.records.specs.Closing.{cause_at, has_container, opened, with_added, closed_as, next_of}

-- A session of a book: its number, the names that its records have, and its record that is not closed, until it ends (this product's own).
pub record Session : Type 0 where
  pub number : ℕ
  pub subscriber : List ℕ
  pub consumer : List ℕ
  pub charging_id : ℕ
  pub unclosed : Option Kept

-- The sessions in order of number, and the closed records in order of closing (this product's own).
pub record Records : Type 0 where
  pub sessions : List Session
  pub closed : List Kept

-- No session, and no record (this product's own).
abbrev pub no_records : Records
no_records = record { sessions = []; closed = [] }

-- The session of a number (this product's own).
abbrev pub session_of : List Session → ℕ → Option Session
session_of [] number = None
session_of (z ∷ zs) number = if z.number == number then Some z else session_of zs number

-- The record of a session that is not closed (this product's own).
abbrev pub open_in : Option Session → Option Kept
open_in None = None
open_in (Some z) = z.unclosed

-- The same, of the session of a number (this product's own).
abbrev pub open_of : List Session → ℕ → Option Kept
open_of zs number = open_in (session_of zs number)

-- A session in its place by number (this product's own).
abbrev pub entered : Session → List Session → List Session
entered new [] = new ∷ []
entered new (z ∷ zs) = if nat_lt new.number z.number then new ∷ z ∷ zs else z ∷ entered new zs

-- The session of a number with another record, or none (this product's own).
abbrev pub with_open : Option Kept → Session → Session
with_open k z = record z { unclosed = k }

-- The sessions where the one of a number has another record (this product's own).
abbrev pub reopened : ℕ → Option Kept → List Session → List Session
reopened number k [] = []
reopened number k (z ∷ zs) = if z.number == number then with_open k z ∷ zs else z ∷ reopened number k zs

-- A record goes to the closed ones, for a cause at a stamp, and gets the next number among them (this product's own).
abbrev pub and_closed : List Kept → Kept → ℕ → ℕ → List Kept
and_closed closed k cause stamp = closed ++ closed_as k cause stamp (length closed + 1) ∷ []

-- Limits are tried where more may come (this product's own).
abbrev pub cause_of : RecordLimits → Bool → Kept → ℕ → Option ℕ
cause_of l last k stamp = if last then None else cause_at l k stamp

-- A session's record and the closed records: where there is a cause, it is closed, and the next one opens (TS 32.255, 5.2.3).
abbrev pub settled : Kept → Option ℕ → ℕ → List Kept → Option Kept × List Kept
settled k None stamp closed = (Some k, closed)
settled k (Some cause) stamp closed = (Some (next_of k stamp), and_closed closed k cause stamp)

-- Containers come to it (TS 32.255, 5.2.3).
abbrev pub added : RecordLimits → List UnitUsage → ℕ → Bool → Option Kept → List Kept → Option Kept × List Kept
added l used stamp last None closed = (None, closed)
added l used stamp last (Some k) closed = settled (with_added k used) (cause_of l last (with_added k used) stamp) stamp closed

-- The session ends, and its record is closed (TS 32.255, 5.2.3).
abbrev pub ended : ℕ → ℕ → Option Kept → List Kept → Option Kept × List Kept
ended cause stamp None closed = (None, closed)
ended cause stamp (Some k) closed = (None, and_closed closed k cause stamp)

-- A record that has a container is closed for management intervention, cause 20 (TS 32.298, 5.1.5.1.2).
abbrev pub sweeping : Kept → Option ℕ
sweeping k = if has_container k then Some 20 else None

-- So of a session (this product's own).
abbrev pub swept : ℕ → Option Kept → List Kept → Option Kept × List Kept
swept stamp None closed = (None, closed)
swept stamp (Some k) closed = settled k (sweeping k) stamp closed

-- 1 where a record that is not closed has a container, else 0 (this product's own).
abbrev pub closable_in : Option Kept → ℕ
closable_in None = 0
closable_in (Some k) = if has_container k then 1 else 0

-- How many sessions have a record with a container that is not closed: so many are closed for management intervention (TS 32.298, 5.1.5.1.2).
abbrev pub closable : List Session → ℕ
closable ss = sum_by (λ z. closable_in z.unclosed) ss

-- And of all sessions, in order of number (this product's own).
abbrev pub all_swept : List Session → ℕ → List Kept → Records
all_swept [] stamp closed = record { sessions = []; closed = closed }
all_swept (z ∷ zs) stamp closed =
    record { sessions = with_open (swept stamp z.unclosed closed).0 z ∷ (all_swept zs stamp (swept stamp z.unclosed closed).1).sessions; closed = (all_swept zs stamp (swept stamp z.unclosed closed).1).closed }

-- A book where the session of a number has this record, and these are the closed ones (this product's own).
abbrev pub with_one : ℕ → Records → Option Kept × List Kept → Records
with_one number b x = record { sessions = reopened number x.0 b.sessions; closed = x.1 }

-- What a call makes of a book (TS 32.255, 5.2.3).
abbrev pub after : RecordLimits → Filing → Records → Records
after l (Begun number subscriber consumer charging_id stamp) b =
    record b { sessions = entered (record { number = number; subscriber = subscriber; consumer = consumer; charging_id = charging_id; unclosed = Some (opened number stamp 1) }) b.sessions }
after l (Added number used stamp last) b = with_one number b (added l used stamp last (open_of b.sessions number) b.closed)
after l (Ended number cause stamp) b = with_one number b (ended cause stamp (open_of b.sessions number) b.closed)
after l (ClosedAll stamp) b = all_swept b.sessions stamp b.closed

-- What a list of calls made, the newest first (this product's own).
abbrev pub records_after : RecordLimits → List Filing → Records
records_after l [] = no_records
records_after l (f ∷ fs) = after l f (records_after l fs)
