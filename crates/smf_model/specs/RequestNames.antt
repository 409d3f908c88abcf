-- How each request is named: by its session, and after the Create by the reference in the first success (TS 32.291, 6.1.3 and 6.1.6.2.1.1).
use Rattle.std.specs.Prelude.{◌≡◌, ◌⊎◌, ℕ, false, Some, List, [], ◌∷◌}
use Rattle.units.specs.declared.answer.Answer.{Answer}
use Rattle.units.specs.declared.request.Operation.{Operation}
use Rattle.units.specs.declared.request.Operation.TheVariants.{Create, Update, Release}
use Rattle.units.specs.declared.request.Request.{Request}
use Rattle.units.specs.declared.reply.Reply.TheVariants.{Created}
use Rattle.sessions.specs.Trace.{Move, requests, outcome}
use Rattle.sessions.specs.Trace.Move.{Freezes}
use Rattle.smf_model.specs.declared.setup.SmfSetup.{SmfSetup}

-- the first success gave this reference
abbrev pub IsReference : List Move → ℕ → Type 0
IsReference trace reference = (answer : Answer) × (outcome trace 1 ≡ Some (Created reference answer))

-- an Update or a Release of that reference
abbrev pub IsLaterOperation : List Move → Operation → Type 0
IsLaterOperation earlier operation = (reference : ℕ) × IsReference earlier reference × ((operation ≡ Update reference) ⊎ (operation ≡ Release reference))

-- a request that is frozen after these moves: of this SMF and this session; the first one is a Create, and each later one is of its reference
pub record IsNamed (setup : SmfSetup) (number : ℕ) (earlier : List Move) (q : Request) : Type 0 where
  pub consumer : q.consumer ≡ setup.name
  pub charging_id : q.charging_id ≡ Some number
  pub unmarked : q.again ≡ false
  pub operation : ((requests earlier ≡ []) × (q.operation ≡ Create)) ⊎ IsLaterOperation earlier q.operation

-- so each request
abbrev pub AreNamed : SmfSetup → ℕ → List Move → Type 0
AreNamed setup number [] = Unit {0}
AreNamed setup number (Freezes q ∷ earlier) = IsNamed setup number earlier q × AreNamed setup number earlier
AreNamed setup number (move ∷ earlier) = AreNamed setup number earlier
