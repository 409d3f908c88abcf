-- The changes of some sessions, one after another, in the order of their places (this product's own).
use Rattle.std.specs.Prelude.{◌≡◌, ℕ, ◌+◌, ◌≤◌, List, [], ◌∷◌, ◌++◌, map, fold}
use Rattle.smf_model.specs.declared.session.Session.{Session}
use Rattle.smf_core.specs.declared.plan.Turn.{Turn}
use Rattle.smf_core.specs.declared.plan.Next.{Next}
use Rattle.smf_core.specs.declared.plan.Next.TheVariants.{Nothing, One, Several}
use Rattle.smf_core.specs.Plan.{map_at}

-- sessions as a function leaves those at places
abbrev pub mapped_at : (Session → Session) → List Session → List ℕ → List Session
mapped_at f sessions places = fold (λ xs at. map_at at f xs) sessions places

-- places ascend from this one on
abbrev pub AreFrom : ℕ → List ℕ → Type 0
AreFrom at [] = Unit {0}
AreFrom at (p ∷ places) = (at ≤ p) × AreFrom (p + 1) places

-- places ascend, and the sessions at them are all that a function changes
pub record AreAll (f : Session → Session) (sessions : List Session) (places : List ℕ) : Type 0 where
  pub ascend : AreFrom 0 places
  pub all : mapped_at f sessions places ≡ map f sessions

-- a change, if there is one, is at this place
abbrev pub IsAt : ℕ → Next → Type 0
IsAt at Nothing = Unit {0}
IsAt at (One turn) = turn.at ≡ at
IsAt at (Several turns) = ⊥

-- changes with one more, if there is one
abbrev pub with_next : List Turn → Next → List Turn
with_next turns Nothing = turns
with_next turns (One turn) = turns ++ turn ∷ []
with_next turns (Several more) = turns
