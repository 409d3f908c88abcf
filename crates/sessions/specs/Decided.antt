-- What becomes of a request by what its session keeps: the kept requests, the newest first (TS 32.290, 5.3.2; the order of checks is this product's own).
use Rattle.std.specs.Prelude.{◌≡◌, ◌⊎◌, ℕ, ◌==◌, nat_le, cond, List, [], ◌∷◌, Option, Some, None}
use Rattle.units.specs.declared.request.Operation.{Operation}
use Rattle.units.specs.declared.request.Operation.TheVariants.{Create, Update, Release}
use Rattle.units.specs.declared.request.Request.{Request}
use Rattle.units.specs.declared.reply.Reply.{Reply}
use Rattle.sessions.specs.Content.{content, same_content}
use Rattle.sessions.specs.Kept.{Kept, accepted, newest_number, has_release}

-- it repeats a kept one and gets its first reply; its number has passed; its session exists already; its session is closed; it is new
pub data Decided : Type 0 where
  Repeats : Reply → Decided
  Passed : ℕ → Decided
  Exists : Decided
  Over : ℕ → Decided
  IsNew : Decided

-- the kept request under a number
abbrev pub kept_under : List Kept → ℕ → Option Kept
kept_under [] number = None
kept_under (k ∷ earlier) number = cond (k.request.number == number) (Some k) (kept_under earlier number)

-- a Create under a new number, by the accepted requests of its session
abbrev pub decided_create : List Request → Decided
decided_create [] = IsNew
decided_create (q ∷ earlier) = Exists

-- an Update or Release under a new number, by the accepted requests of its session
abbrev pub decided_later : List Request → ℕ → Decided
decided_later taken number =
    cond (nat_le number (newest_number taken)) (Passed (newest_number taken))
    (cond (has_release taken) (Over (newest_number taken)) IsNew)

-- a request under a new number, by its operation
abbrev pub decided_new : Operation → List Request → ℕ → Decided
decided_new Create taken number = decided_create taken
decided_new (Update reference) taken number = decided_later taken number
decided_new (Release reference) taken number = decided_later taken number

-- where a request is kept under the number, or none: the same content repeats it, another has passed
abbrev pub decided_under : List Kept → Request → Option Kept → Decided
decided_under kept q None = decided_new q.operation (accepted kept) q.number
decided_under kept q (Some k) = cond (same_content k.request q) (Repeats k.reply) (Passed (newest_number (accepted kept)))

-- what becomes of a request
abbrev pub decided : List Kept → Request → Decided
decided kept q = decided_under kept q (kept_under kept q.number)

-- with one kept request more
abbrev pub more : List Kept → Request → Reply → List Kept
more kept q reply = record { request = content q; reply = reply } ∷ kept

-- a decision and a later one: a repeat gets the same reply, a refusal stays one, and a passed number has passed for good
abbrev pub Stays : Decided → Decided → Type 0
Stays (Repeats reply) d = d ≡ Repeats reply
Stays (Passed last) d = (later : ℕ) × (d ≡ Passed later)
Stays Exists d = (d ≡ Exists) ⊎ ((later : ℕ) × (d ≡ Passed later))
Stays (Over last) d = d ≡ Over last
Stays IsNew d = Unit {0}

-- What is decided on a request stays when another that is new comes to be kept.
abbrev pub DecisionsStay : Type 0
DecisionsStay =
    (kept : List Kept) (r q : Request) (reply : Reply) → decided kept r ≡ IsNew
    → Stays (decided kept q) (decided (more kept r reply) q)
