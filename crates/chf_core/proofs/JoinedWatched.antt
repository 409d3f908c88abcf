-- The steps of the commands of a list leave the subscriptions and notices that the whole list says.
use Rattle.std.proofs.Common.{◌≡◌, ℕ, List, [], ◌∷◌, Option, refl}
use Rattle.notices.specs.Steps.{Step}
use Rattle.chf_core.specs.declared.command.Command.{Command}
use Rattle.chf_core.specs.declared.command.Command.TheVariants.{Charge, Subscriber, Subscribe}
use Rattle.chf_core.specs.Spending.{counters_in}
use Rattle.chf_core.specs.Stepping.{spending, moving_to, subscribing, stepped}
use Rattle.chf_core.specs.CommandSteps.{step_of}
use Rattle.chf_core.specs.Watched.{step_in, watched}
use Rattle.chf_core.specs.After.{state_of}
use Rattle.chf_core.proofs.JoinedParts.{setup_is, names_are, subscribers_are}
use Rattle.chf_core.proofs.JoinedMoney.{money_is, target_is}

pub step_is : (a : List Command) (c : Command) → step_of (state_of a) c ≡ step_in a c
step_is a (Charge q) = λ i. spending (money_is a i) (money_is (Charge q ∷ a) i) (target_is a q i)
step_is a (Subscriber supi account barred) = λ i.
    moving_to (names_are a i) (money_is a i) (money_is (Subscriber supi account barred ∷ a) i) supi account
    (subscribers_are a supi i)
step_is a (Subscribe context) = λ i. subscribing (names_are a i) context (subscribers_are a context.supi i)
step_is a c = refl

pub watched_are : (a : List Command) → (state_of a).watched ≡ watched a
watched_are [] = refl
watched_are (c ∷ a) = λ i. stepped (counters_in (setup_is a i)) (watched_are a i) (step_is a c i)
