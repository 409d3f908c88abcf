-- What serving works on, and its steps (this product's own).
use Rattle.std.specs.Prelude.{ℕ, ◌≡◌, Bool, not, ◌&&◌, List, [], ◌∷◌, Option, Result}
use Rattle.std.specs.Option.{is_some}
use Rattle.edge.specs.Connections.{Connection}
use Rattle.units.specs.declared.memory.OutOfMemory.{OutOfMemory}
use Rattle.wire.specs.declared.message.HttpRequest.{HttpRequest}
use Rattle.serving.specs.declared.handler.Fence.{Fence}
use Rattle.serving.specs.declared.response.Response.{Response}

-- a handler, its disk, and the connections that the link tells
pub record Side (H D : Type 0) : Type 0 where
  pub handler : H
  pub disk : D
  pub link : Option (List Connection)

-- how a call ends that answers nothing
abbrev pub Ends : Type 0
Ends = Result (Unit {0}) OutOfMemory

-- a message was given to the handler, what was due at a moment let go, or a round of notices made
pub data Step : Type 0 where
  Gave : HttpRequest → Result Response OutOfMemory → Step
  Expired : ℕ → Ends → Step
  Notified : Ends → Step

-- a handler's meanings, on sides
pub record Meaning (S : Type 0) : Type 1 where
  pub gives : S → HttpRequest → Result Response OutOfMemory → S → Type 0
  pub expires : S → ℕ → Ends → S → Type 0
  pub notifies : S → Ends → S → Type 0
  pub stops : S → Bool

-- a node that was not fenced when serving began stops once it is
abbrev pub newly : Bool → Option Fence → Bool
newly was fence = not was && is_some fence

-- the meanings of a handler on its sides: messages and what is due leave the link alone
abbrev pub meaning_of : {H D : Type 0} → (H → D → HttpRequest → Result Response OutOfMemory → H → D → Type 0) → (H → D → ℕ → Ends → H → D → Type 0)
    → (H → D → Option (List Connection) → Ends → H → D → Option (List Connection) → Type 0) → (H → Option Fence) → Bool → Meaning (Side H D)
meaning_of gives expires notifies fence was = record {
  gives = λ before message answer after. gives before.handler before.disk message answer after.handler after.disk × (after.link ≡ before.link);
  expires = λ before moment ends after. expires before.handler before.disk moment ends after.handler after.disk × (after.link ≡ before.link);
  notifies = λ before ends after. notifies before.handler before.disk before.link ends after.handler after.disk after.link;
  stops = λ side. newly was (fence side.handler);
}

module _ {S : Type 0} (meaning : Meaning S) where
  -- one step
  abbrev pub IsStep : S → Step → S → Type 0
  IsStep before (Gave message answer) after = meaning.gives before message answer after
  IsStep before (Expired moment ends) after = meaning.expires before moment ends after
  IsStep before (Notified ends) after = meaning.notifies before ends after

  -- these steps, the newest first, lead from one side to another
  abbrev pub Reaches : S → List Step → S → Type 0
  Reaches start [] state = state ≡ start
  Reaches start (step ∷ earlier) state = (before : S) × Reaches start earlier before × IsStep before step state

  -- steps lead there
  abbrev pub HasReached : S → S → Type 0
  HasReached start state = (steps : List Step) × Reaches start steps state
