-- Steps one after another.
use Rattle.std.proofs.Common.{List, [], ◌∷◌, ◌++◌, refl, sym, subst}
use Rattle.serving.specs.Sides.{HasReached, IsStep, Meaning, Reaches, Step}

module _ {S : Type 0} (meaning : Meaning S) where
  pub nowhere : (side : S) → HasReached meaning side side
  nowhere side = ([], refl)

  pub one_step : (before : S) (step : Step) (after : S) → IsStep meaning before step after → HasReached meaning before after
  one_step before step after this = (step ∷ [], (before, refl, this))

  chain : (start between state : S) (earlier later : List Step) → Reaches meaning start earlier between → Reaches meaning between later state → Reaches meaning start (later ++ earlier) state
  chain start between state earlier [] x y = subst (λ s. Reaches meaning start earlier s) (sym y) x
  chain start between state earlier (step ∷ later) x (before, y, this) = (before, chain start between before earlier later x y, this)

  pub and_then : (start between state : S) → HasReached meaning start between → HasReached meaning between state → HasReached meaning start state
  and_then start between state (earlier, x) (later, y) = (later ++ earlier, chain start between state earlier later x y)
