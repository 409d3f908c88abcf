-- When a request can be filed in the book of records. No public clause names these.
use Rattle.std.specs.Prelude.{◌≡◌, ◌<◌, ◌≤◌, ◌+◌, ◌-◌, ◌^◌, ℕ, List, [], ◌∷◌, length, Option, IfSome, is_some}
use Rattle.units.specs.declared.request.Operation.{Operation}
use Rattle.units.specs.declared.request.Operation.TheVariants.{Create, Update, Release}
use Rattle.units.specs.declared.request.UnitUsage.{UnitUsage}
use Rattle.units.specs.declared.request.Request.{Request}
use Rattle.records.specs.Groups.{AreApart}
use Rattle.records.specs.Book.{Session}
use Rattle.records.specs.Seen.{BookSeen, HasRoomFor}
use Rattle.chf_core.specs.declared.filing.Opening.{Opening}
use Rattle.chf_core.specs.declared.session.Session.{Session as Opened}
use Rattle.chf_core.specs.Sessions.{id_of, supi_of}
use Rattle.chf_core.specs.Filings.{filed_usage}

-- the names are those of a Create
pub record Opens (q : Request) (names : Opening) : Type 0 where
  pub subscriber : names.subscriber ≡ supi_of q.subscriber
  pub consumer : names.consumer ≡ q.consumer
  pub charging_id : names.charging_id ≡ id_of q.charging_id

-- a session can begin, containers come to it, and its record or all be closed
pub record CanFile (b : BookSeen) (reference : ℕ) (used : List UnitUsage) : Type 0 where
  pub room : HasRoomFor b reference used
  pub places : 0 < b.places
  pub spare : length b.records.sessions + 2 ≤ b.spare
  pub few : length b.records.closed + 1 < 2 ^ 32 - 2
  pub all : length b.records.closed + length b.records.sessions < 2 ^ 32 - 1

-- the reference of the session in whose records a request files
abbrev pub reference_by : Operation → ℕ → ℕ
reference_by Create sessions = sessions + 1
reference_by (Update reference) sessions = reference
reference_by (Release reference) sessions = reference

-- what a request files is made: the names of the session that begins, and the containers, no two of one group
pub record IsFiled (q : Request) (session : Option Opened) (opening : Option Opening) (containers : List UnitUsage) : Type 0 where
  pub opens : is_some opening ≡ is_some session
  pub names : IfSome opening (Opens q)
  pub used : containers ≡ filed_usage q
  pub apart : AreApart containers

-- each number is at most this one
abbrev pub AreNumbered : ℕ → List Session → Type 0
AreNumbered most [] = Unit {0}
AreNumbered most (z ∷ zs) = (z.number ≤ most) × AreNumbered most zs
