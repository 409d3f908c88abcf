-- The steps of a list of commands that came to be are a list of steps under the counters of its setup.
use Rattle.std.proofs.Common.{◌≡◌, ℕ, true, false, List, [], ◌∷◌, ◌++◌, length, Option, Some, None, refl, sym, ap, subst, ◌∙◌, append-nil, arith}
use Rattle.std.proofs.lemmas.Bool.{true≢false, false≢true, ne_eqb}
use Rattle.notices.specs.Steps.{Step, state_of, made, left, of_subscription, AreNumberedFrom, NoticesAreNumbered, NoticesLeaveInOrder}
use Rattle.chf_core.specs.declared.command.Command.{Command}
use Rattle.chf_core.specs.declared.command.Command.TheVariants.{Setup}
use Rattle.chf_core.specs.Operator.{setup_of}
use Rattle.chf_core.specs.Spending.{counters_in}
use Rattle.chf_core.specs.Stepping.{stepped, notices_by}
use Rattle.chf_core.specs.After.{is_setup, IsHistory}
use Rattle.chf_core.specs.Watched.{step_in, watched}
use Rattle.notice_laws.specs.Made.{made_in, leaves_by, left_in}
use Rattle.notice_laws.specs.Laws.{AllAreNumbered, AllLeaveInOrder}

-- one step more, if there is one
abbrev with_step : Option Step → List Step → List Step
with_step None steps = steps
with_step (Some step) steps = step ∷ steps

-- the steps that the commands of a list take
abbrev steps_of : List Command → List Step
steps_of [] = []
steps_of (c ∷ before) = with_step (step_in before c) (steps_of before)

-- these steps leave what the commands leave, make what they make and send what they send
record AreSteps (rows : List (List (List ℕ))) (commands : List Command) (steps : List Step) : Type 0 where
  leave : watched commands ≡ state_of rows steps
  make : (id : ℕ) → made_in commands id ≡ made rows steps id
  send : (id : ℕ) → left_in commands id ≡ left rows steps id

-- so with one command more
more : (rows : List (List (List ℕ))) (before : List Command) (c : Command) (steps : List Step)
    → AreSteps rows before steps → counters_in (setup_of before) ≡ rows
    → (o : Option Step) → step_in before c ≡ o → AreSteps rows (c ∷ before) (with_step o steps)
more rows before c steps old r None e = record {
  leave = λ i. stepped (r i) (old.leave i) (e i);
  make = λ id. (λ i. old.make id i ++ of_subscription id (notices_by (r i) (old.leave i) (e i))) ∙ append-nil (made rows steps id);
  send = λ id. (λ i. old.send id i ++ leaves_by (old.leave i) (e i) id) ∙ append-nil (left rows steps id);
}
more rows before c steps old r (Some step) e = record {
  leave = λ i. stepped (r i) (old.leave i) (e i);
  make = λ id i. old.make id i ++ of_subscription id (notices_by (r i) (old.leave i) (e i));
  send = λ id i. old.send id i ++ leaves_by (old.leave i) (e i) id;
}

-- the first command takes no step
first_step : (c : Command) → is_setup c ≡ true → AreSteps (counters_in (setup_of (c ∷ []))) (c ∷ []) (steps_of (c ∷ []))
first_step (Setup setup) e = record { leave = refl; make = λ id. refl; send = λ id. refl }
first_step c e = absurd (false≢true e)

-- a later one is no setup
same_setup : (c : Command) (before : List Command) → is_setup c ≡ false → setup_of before ≡ setup_of (c ∷ before)
same_setup (Setup setup) before e = absurd (true≢false e)
same_setup c before e = refl

steps_are : (commands : List Command) → IsHistory commands → AreSteps (counters_in (setup_of commands)) commands (steps_of commands)
steps_are [] h = record { leave = refl; make = λ id. refl; send = λ id. refl }
steps_are (c ∷ []) h = first_step c h.1.0
steps_are (c ∷ b ∷ before) h =
    let later : is_setup c ≡ false = h.1.0 ∙ ne_eqb (length (b ∷ before)) 0 (λ e. omega arith) in
    let same : counters_in (setup_of (b ∷ before)) ≡ counters_in (setup_of (c ∷ b ∷ before)) = ap counters_in (same_setup c (b ∷ before) later) in
    more (counters_in (setup_of (c ∷ b ∷ before))) (b ∷ before) c (steps_of (b ∷ before))
    (subst (λ rows. AreSteps rows (b ∷ before) (steps_of (b ∷ before))) same (steps_are (b ∷ before) h.1.1))
    same (step_in (b ∷ before) c) refl

pub all_numbered : NoticesAreNumbered → AllAreNumbered
all_numbered numbered = λ commands h id.
    subst (AreNumberedFrom 1) (sym ((steps_are commands h).make id)) (numbered (counters_in (setup_of commands)) (steps_of commands) id)

pub all_leave : NoticesLeaveInOrder → AllLeaveInOrder
all_leave in_order = λ commands h id.
    let s = steps_are commands h in
    s.make id ∙ in_order (counters_in (setup_of commands)) (steps_of commands) id
    ∙ (λ i. sym (s.send id) i ++ of_subscription id (sym s.leave i).unsent)
