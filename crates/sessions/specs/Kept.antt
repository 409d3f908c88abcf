-- The requests of one session that a CHF keeps, each with its first reply, the newest first (TS 32.290, 5.3.2; keeping them is this product's own).
use Rattle.std.specs.Prelude.{◌≡◌, ℕ, ◌+◌, ◌==◌, Bool, true, false, cond, List, [], ◌∷◌, ◌++◌, Option, Some, None}
use Rattle.std.specs.Option.{option_or}
use Rattle.units.specs.declared.request.Operation.{Operation}
use Rattle.units.specs.declared.request.Operation.TheVariants.{Create, Update, Release}
use Rattle.units.specs.declared.request.Used.{Used}
use Rattle.units.specs.declared.request.UnitUsage.{UnitUsage}
use Rattle.units.specs.declared.request.Request.{Request}
use Rattle.units.specs.declared.reply.Reply.{Reply}
use Rattle.units.specs.declared.reply.Reply.TheVariants.{Created, Updated, Released, Refused}

-- a kept request and its first reply
pub record Kept : Type 0 where
  pub request : Request
  pub reply : Reply

-- a reply with success
abbrev pub is_success : Reply → Bool
is_success (Created reference answer) = true
is_success (Updated answer) = true
is_success Released = true
is_success (Refused problem) = false

-- the first reply under a number: the one that was kept first (TS 32.290, 5.3.2)
abbrev pub first_reply : List Kept → ℕ → Option Reply
first_reply [] number = None
first_reply (k ∷ earlier) number = option_or (first_reply earlier number) (cond (k.request.number == number) (Some k.reply) None)

-- no two have one number
abbrev pub AreKeyed : List Kept → Type 0
AreKeyed [] = Unit {0}
AreKeyed (k ∷ earlier) = (first_reply earlier k.request.number ≡ None) × AreKeyed earlier

-- the accepted ones: those whose first reply is a success
abbrev pub accepted : List Kept → List Request
accepted [] = []
accepted (k ∷ earlier) = cond (is_success k.reply) (k.request ∷ accepted earlier) (accepted earlier)

-- how often a container with a local sequence number stands among some
abbrev pub occurs : ℕ → List Used → ℕ
occurs lsn [] = 0
occurs lsn (c ∷ containers) = cond (c.lsn == lsn) 1 0 + occurs lsn containers

-- in the entries of a request
abbrev pub occurs_in : ℕ → List UnitUsage → ℕ
occurs_in lsn [] = 0
occurs_in lsn (u ∷ usage) = occurs lsn u.used + occurs_in lsn usage

-- in requests
abbrev pub uses : ℕ → List Request → ℕ
uses lsn [] = 0
uses lsn (q ∷ requests) = occurs_in lsn q.usage + uses lsn requests

-- how often it is charged: in the accepted requests
abbrev pub times : List Kept → ℕ → ℕ
times kept lsn = uses lsn (accepted kept)

-- whether an operation is a Release
abbrev pub is_release : Operation → Bool
is_release Create = false
is_release (Update reference) = false
is_release (Release reference) = true

-- the number of the newest request, 0 where there is none
abbrev pub newest_number : List Request → ℕ
newest_number [] = 0
newest_number (q ∷ earlier) = q.number

-- whether one of them is a Release
abbrev pub has_release : List Request → Bool
has_release [] = false
has_release (q ∷ earlier) = cond (is_release q.operation) true (has_release earlier)

-- a first reply stands, whatever is kept later
abbrev pub FirstRepliesStand : Type 0
FirstRepliesStand = (later earlier : List Kept) (number : ℕ) (reply : Reply) → first_reply earlier number ≡ Some reply → first_reply (later ++ earlier) number ≡ Some reply

-- where none was kept under its number, the reply that is kept with a request is the first
abbrev pub NewRepliesAreFirst : Type 0
NewRepliesAreFirst = (later earlier : List Kept) (k : Kept) → first_reply earlier k.request.number ≡ None → first_reply (later ++ k ∷ earlier) k.request.number ≡ Some k.reply

-- how often a container is charged adds up over later and earlier requests
abbrev pub TimesAddUp : Type 0
TimesAddUp = (later earlier : List Kept) (lsn : ℕ) → times (later ++ earlier) lsn ≡ times later lsn + times earlier lsn
