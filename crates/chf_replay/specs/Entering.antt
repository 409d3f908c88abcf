-- What an entry does to a machine (this product's own).
use Rattle.std.specs.Prelude.{◌≡◌, ◌==◌, ℕ, List, Bool, true, false}
use Rattle.chf_core.specs.declared.command.Command.{Command}
use Rattle.chf_core.specs.declared.command.Outcome.{Outcome}
use Rattle.chf_core.specs.declared.decision.Verdict.TheVariants.{Fresh}
use Rattle.chf_core.specs.State.{State}
use Rattle.chf_core.specs.Deciding.{decision}
use Rattle.chf_core.specs.After.{after, is_setup}
use Rattle.chf_payloads.specs.Payloads.{IsPayload}

-- A command may come in a state: it is fresh there, and a setup the first command and no other.
pub record MayCome (s : State) (c : Command) : Type 0 where
  pub outcome : Outcome
  pub fresh : decision s c ≡ Fresh outcome
  pub order : is_setup c ≡ (s.count == 0)

-- A command has come; or nothing has, and it may not.
abbrev pub Comes : Bool → State → State → Command → Type 0
Comes true s now c = MayCome s c × (now ≡ after s c)
Comes false s now c = (now ≡ s) × (MayCome s c → ⊥)

-- The command whose payload an entry is has come; or nothing has, and no command whose payload it is may.
abbrev pub Enters : Bool → State → State → List ℕ → Type 0
Enters true s now entry = (c : Command) × IsPayload c entry × MayCome s c × (now ≡ after s c)
Enters false s now entry = (now ≡ s) × ((c : Command) → IsPayload c entry → MayCome s c → ⊥)
