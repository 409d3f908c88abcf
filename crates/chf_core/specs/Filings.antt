-- What a command files in the book of records, the first call first (charging records of data sessions: TS 32.255,
-- 5.2.3).
use Rattle.std.specs.Prelude.{ℕ, ◌+◌, Bool, true, false, if◌then◌else◌, List, [], ◌∷◌, length, Option, Some, None}
use Rattle.std.specs.List.{list_any}
use Rattle.units.specs.Words.{name_of_type}
use Rattle.units.specs.declared.trigger.TriggerType.TheVariants.{AbnormalRelease}
use Rattle.units.specs.declared.request.Operation.{Operation}
use Rattle.units.specs.declared.request.Operation.TheVariants.{Create, Update, Release}
use Rattle.units.specs.declared.request.UnitUsage.{UnitUsage}
use Rattle.units.specs.declared.request.Request.{Request}
use Rattle.records.specs.declared.limits.RecordLimits.{RecordLimits}
use Rattle.records.specs.declared.filing.Filing.{Filing}
use Rattle.records.specs.declared.filing.Filing.TheVariants.{Begun, Added, Ended, ClosedAll}
use Rattle.records.specs.Usage.{with_usage}
use Rattle.records.specs.Closing.{no_limits}
use Rattle.records.specs.Book.{Records, after}
use Rattle.chf_core.specs.declared.setup.ChfSetup.{ChfSetup}
use Rattle.chf_core.specs.declared.command.Command.{Command}
use Rattle.chf_core.specs.declared.command.Command.TheVariants.{Charge, CloseRecords}
use Rattle.chf_core.specs.Operator.{name_eq}
use Rattle.chf_core.specs.Sessions.{id_of, supi_of, opens_by}
use Rattle.chf_core.specs.State.{State, account_for}

-- the limits of records that a setup has, none before it (this product's own)
abbrev pub limits_in : Option ChfSetup → RecordLimits
limits_in None = no_limits
limits_in (Some setup) = setup.limits

-- whether triggers hold ABNORMAL_RELEASE (TS 32.291, 6.1.6.3.6)
abbrev pub is_abnormal : List (List ℕ) → Bool
is_abnormal triggers = list_any (λ t. name_eq t (name_of_type AbnormalRelease)) triggers

-- the cause for which a Release closes its record: 4 where it is abnormal, else 0 (TS 32.298, 5.1.5.1.2)
abbrev pub release_cause : Request → ℕ
release_cause q = if is_abnormal q.triggers then 4 else 0

-- the containers of a request, by rating group
abbrev pub filed_usage : Request → List UnitUsage
filed_usage q = with_usage [] q.usage

-- a session that a Create opens begins, with the names of its records, and its containers come
abbrev pub opening_of : ℕ → Request → List Filing
opening_of reference q =
    Begun reference (supi_of q.subscriber) q.consumer (id_of q.charging_id) q.stamp
    ∷ Added reference (filed_usage q) q.stamp false ∷ []

-- what a Create files under this reference: nothing where it opens no session
abbrev pub created_filings : ℕ → Request → Bool → List Filing
created_filings reference q opens = if opens then opening_of reference q else []

-- what a request files, where so many sessions stand before it and it opens one or not: an Update and a Release their containers, and a Release
-- then ends its session
abbrev pub filings_by : Operation → ℕ → Request → Bool → List Filing
filings_by Create sessions q opens = created_filings (sessions + 1) q opens
filings_by (Update reference) sessions q opens = Added reference (filed_usage q) q.stamp false ∷ []
filings_by (Release reference) sessions q opens =
    Added reference (filed_usage q) q.stamp true ∷ Ended reference (release_cause q) q.stamp ∷ []

-- what a command files
abbrev pub filings_of : State → Command → List Filing
filings_of s (Charge q) = filings_by q.operation (length s.sessions) q (opens_by q.operation (account_for s q.subscriber))
filings_of s (CloseRecords moment) = ClosedAll moment ∷ []
filings_of s other = []

-- a book after some calls, the first one first
abbrev pub filed : RecordLimits → List Filing → Records → Records
filed l [] b = b
filed l (f ∷ fs) b = filed l fs (after l f b)
