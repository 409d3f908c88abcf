-- The notices of a subscription leave in the order in which they were made.
use Rattle.std.proofs.Common.{◌≡◌, ◌==◌, ◌<◌, ◌≤◌, ℕ, Bool, true, false, cond, if◌then◌else◌, List, [], ◌∷◌, ◌++◌, Some, option_to_list, refl, sym, ap, ◌∙◌, arith, leb, append-nil, append_assoc}
use Rattle.std.specs.Prelude.{⊤}
use Rattle.std.proofs.lemmas.Bool.{leb-true, leb-false, eqb-true, eqb-false, ne_eqb}
use Rattle.notices.specs.declared.notice.Notice.{Notice}
use Rattle.notices.specs.InOrder.{put_in_order, without_first}
use Rattle.notices.specs.Watched.{Watched, posted, all_posted, first_of}
use Rattle.notices.specs.Steps.{Step, Subscribed, Modified, Ended, Spent, Moved, Sent, makes, after, state_of, of_subscription, made, leaves, left}

-- all are of subscriptions from this number on
abbrev pub AreFrom : ℕ → List Notice → Type 0
AreFrom id [] = ⊤
AreFrom id (n ∷ notices) = (id ≤ n.id) × AreFrom id notices

-- each is of no later subscription than those after it
abbrev pub AreRising : List Notice → Type 0
AreRising [] = ⊤
AreRising (n ∷ notices) = AreFrom n.id notices × AreRising notices

from_less : (id other : ℕ) (notices : List Notice) → other ≤ id → AreFrom id notices → AreFrom other notices
from_less id other [] le from = tt
from_less id other (n ∷ notices) le from = let here = from.0 in (omega arith, from_less id other notices le from.1)

-- ---- one more

from_put : (id : ℕ) (notices : List Notice) (one : Notice) → id ≤ one.id → AreFrom id notices → AreFrom id (put_in_order (λ n. n.id) notices one)
from_put id [] one le from = (le, tt)
from_put id (n ∷ notices) one le from = by (from_put id notices one le from.1) (leb n.id one.id)
  where
    by : AreFrom id (put_in_order (λ n. n.id) notices one) → (b : Bool) → AreFrom id (if b then n ∷ put_in_order (λ n. n.id) notices one else one ∷ n ∷ notices)
    by rest true = (from.0, rest)
    by rest false = (le, from)

pub rising_put : (notices : List Notice) (one : Notice) → AreRising notices → AreRising (put_in_order (λ n. n.id) notices one)
rising_put [] one rising = (tt, tt)
rising_put (n ∷ notices) one rising = by (rising_put notices one rising.1) (leb n.id one.id) refl
  where
    by : AreRising (put_in_order (λ n. n.id) notices one) → (b : Bool) → leb n.id one.id ≡ b → AreRising (if b then n ∷ put_in_order (λ n. n.id) notices one else one ∷ n ∷ notices)
    by rest true e = (from_put n.id notices one (leb-true n.id one.id e) rising.0, rest)
    by rest false e = let above = leb-false n.id one.id e in ((omega arith, from_less n.id one.id notices (omega arith) rising.0), rising)

-- none is of a lower subscription
none_below : (id : ℕ) (least : ℕ) (notices : List Notice) → id < least → AreFrom least notices → of_subscription id notices ≡ []
none_below id least [] lt from = refl
none_below id least (n ∷ notices) lt from =
    let here = from.0 in
    ap (λ b. cond b (n ∷ of_subscription id notices) (of_subscription id notices)) (ne_eqb n.id id (λ e. omega arith)) ∙ none_below id least notices lt from.1

-- what of these is of a subscription
abbrev one_of : ℕ → Notice → List Notice
one_of id n = of_subscription id (n ∷ [])

cons_of : (id : ℕ) (n : Notice) (notices : List Notice) → of_subscription id (n ∷ notices) ≡ one_of id n ++ of_subscription id notices
cons_of id n notices = by (n.id == id)
  where
    by : (b : Bool) → cond b (n ∷ of_subscription id notices) (of_subscription id notices) ≡ cond b (n ∷ []) [] ++ of_subscription id notices
    by true = refl
    by false = refl

of_put : (id : ℕ) (notices : List Notice) (one : Notice) → AreRising notices
    → of_subscription id (put_in_order (λ n. n.id) notices one) ≡ of_subscription id notices ++ one_of id one
of_put id [] one rising = refl
of_put id (n ∷ notices) one rising = by (of_put id notices one rising.1) (leb n.id one.id) refl
  where
    by : of_subscription id (put_in_order (λ n. n.id) notices one) ≡ of_subscription id notices ++ one_of id one → (b : Bool) → leb n.id one.id ≡ b → of_subscription id (if b then n ∷ put_in_order (λ n. n.id) notices one else one ∷ n ∷ notices) ≡ of_subscription id (n ∷ notices) ++ one_of id one
    by rest true e =
        cons_of id n (put_in_order (λ n. n.id) notices one) ∙ ap (λ ns. one_of id n ++ ns) rest
        ∙ sym (append_assoc (one_of id n) (of_subscription id notices) (one_of id one)) ∙ ap (λ ns. ns ++ one_of id one) (sym (cons_of id n notices))
    by rest false e = of (one.id == id) refl
      where
        above : one.id < n.id
        above = leb-false n.id one.id e

        of : (b : Bool) → (one.id == id) ≡ b → cond b (one ∷ of_subscription id (n ∷ notices)) (of_subscription id (n ∷ notices)) ≡ of_subscription id (n ∷ notices) ++ cond b (one ∷ []) []
        of true t =
            let same = eqb-true one.id id t in
            let none = none_below id n.id (n ∷ notices) (omega (arith, above)) (omega arith, rising.0) in
            (λ i. one ∷ none i) ∙ sym (ap (λ ns. ns ++ one ∷ []) none)
        of false t = sym (append-nil (of_subscription id (n ∷ notices)))

-- ---- all of a step

rising_all : (w : Watched) (notices : List Notice) → AreRising w.unsent → AreRising (all_posted w notices).unsent
rising_all w [] rising = rising
rising_all w (n ∷ notices) rising = rising_all (posted w n) notices (rising_put w.unsent n rising)

of_all : (id : ℕ) (w : Watched) (notices : List Notice) → AreRising w.unsent
    → of_subscription id (all_posted w notices).unsent ≡ of_subscription id w.unsent ++ of_subscription id notices
of_all id w [] rising = sym (append-nil (of_subscription id w.unsent))
of_all id w (n ∷ notices) rising =
    of_all id (posted w n) notices (rising_put w.unsent n rising)
    ∙ ap (λ ns. ns ++ of_subscription id notices) (of_put id w.unsent n rising)
    ∙ append_assoc (of_subscription id w.unsent) (one_of id n) (of_subscription id notices)
    ∙ ap (λ ns. of_subscription id w.unsent ++ ns) (sym (cons_of id n notices))

-- ---- one less

from_without : (least id : ℕ) (notices : List Notice) → AreFrom least notices → AreFrom least (without_first (λ n. n.id) notices id)
from_without least id [] from = tt
from_without least id (n ∷ notices) from = by (from_without least id notices from.1) (n.id == id)
  where
    by : AreFrom least (without_first (λ n. n.id) notices id) → (b : Bool) → AreFrom least (if b then notices else n ∷ without_first (λ n. n.id) notices id)
    by rest true = from.1
    by rest false = (from.0, rest)

rising_without : (id : ℕ) (notices : List Notice) → AreRising notices → AreRising (without_first (λ n. n.id) notices id)
rising_without id [] rising = tt
rising_without id (n ∷ notices) rising = by (rising_without id notices rising.1) (n.id == id)
  where
    by : AreRising (without_first (λ n. n.id) notices id) → (b : Bool) → AreRising (if b then notices else n ∷ without_first (λ n. n.id) notices id)
    by rest true = rising.1
    by rest false = (from_without n.id id notices rising.0, rest)

-- the first one leaves
first_leaves : (id : ℕ) (notices : List Notice) → of_subscription id notices ≡ option_to_list (first_of notices id) ++ of_subscription id (without_first (λ n. n.id) notices id)
first_leaves id [] = refl
first_leaves id (n ∷ notices) = by (first_leaves id notices) (n.id == id) refl
  where
    by : of_subscription id notices ≡ option_to_list (first_of notices id) ++ of_subscription id (without_first (λ n. n.id) notices id) → (b : Bool) → (n.id == id) ≡ b
        → cond b (n ∷ of_subscription id notices) (of_subscription id notices)
        ≡ option_to_list (cond b (Some n) (first_of notices id)) ++ of_subscription id (if b then notices else n ∷ without_first (λ n. n.id) notices id)
    by rest true e = refl
    by rest false e =
        rest
        ∙ ap (λ ns. option_to_list (first_of notices id) ++ ns)
        (sym (ap (λ b. cond b (n ∷ of_subscription id (without_first (λ n. n.id) notices id)) (of_subscription id (without_first (λ n. n.id) notices id))) e))

-- and none of another subscription
others_stay : (other id : ℕ) (notices : List Notice) → (other == id) ≡ false → of_subscription id (without_first (λ n. n.id) notices other) ≡ of_subscription id notices
others_stay other id [] apart = refl
others_stay other id (n ∷ notices) apart = by (others_stay other id notices apart) (n.id == other) refl
  where
    by : of_subscription id (without_first (λ n. n.id) notices other) ≡ of_subscription id notices → (b : Bool) → (n.id == other) ≡ b → of_subscription id (if b then notices else n ∷ without_first (λ n. n.id) notices other) ≡ of_subscription id (n ∷ notices)
    by rest true e =
        let same = eqb-true n.id other e in
        let not = eqb-false other id apart in
        sym (ap (λ b. cond b (n ∷ of_subscription id notices) (of_subscription id notices)) (ne_eqb n.id id (λ h. not (sym same ∙ h))))
    by rest false e = cons_of id n (without_first (λ n. n.id) notices other) ∙ ap (λ ns. one_of id n ++ ns) rest ∙ sym (cons_of id n notices)

-- ---- every step

rising_by : (rows : List (List (List ℕ))) (step : Step) (w : Watched) → AreRising w.unsent → AreRising (after rows w step).unsent
rising_by rows (Subscribed context account) w rising = rising
rising_by rows (Modified id context) w rising = rising
rising_by rows (Ended id) w rising = rising
rising_by rows (Spent account before later) w rising = rising_all w (makes rows w (Spent account before later)) rising
rising_by rows (Moved supi from to before later) w rising = rising_all w (makes rows w (Moved supi from to before later)) rising
rising_by rows (Sent id) w rising = rising_without id w.unsent rising

rising_after : (rows : List (List (List ℕ))) (steps : List Step) → AreRising (state_of rows steps).unsent
rising_after rows [] = tt
rising_after rows (step ∷ before) = rising_by rows step (state_of rows before) (rising_after rows before)

-- what was made and not sent before a step, and what the step makes, is what leaves by it and what is not sent after it
step_leaves : (id : ℕ) (step : Step) (rows : List (List (List ℕ))) (w : Watched) → AreRising w.unsent
    → of_subscription id w.unsent ++ of_subscription id (makes rows w step) ≡ leaves w step id ++ of_subscription id (after rows w step).unsent
step_leaves id (Subscribed context account) rows w rising = append-nil (of_subscription id w.unsent)
step_leaves id (Modified other context) rows w rising = append-nil (of_subscription id w.unsent)
step_leaves id (Ended other) rows w rising = append-nil (of_subscription id w.unsent)
step_leaves id (Spent account before after) rows w rising = sym (of_all id w (makes rows w (Spent account before after)) rising)
step_leaves id (Moved supi from to before after) rows w rising = sym (of_all id w (makes rows w (Moved supi from to before after)) rising)
step_leaves id (Sent other) rows w rising = append-nil (of_subscription id w.unsent) ∙ by (other == id) refl
  where
    by : (b : Bool) → (other == id) ≡ b → of_subscription id w.unsent ≡ (if b then option_to_list (first_of w.unsent id) else []) ++ of_subscription id (without_first (λ n. n.id) w.unsent other)
    by true e = first_leaves id w.unsent ∙ ap (λ o. option_to_list (first_of w.unsent id) ++ of_subscription id (without_first (λ n. n.id) w.unsent o)) (sym (eqb-true other id e))
    by false e = sym (others_stay other id w.unsent e)

pub in_order : (rows : List (List (List ℕ))) (steps : List Step) (id : ℕ) → made rows steps id ≡ left rows steps id ++ of_subscription id (state_of rows steps).unsent
in_order rows [] id = refl
in_order rows (step ∷ before) id =
    let w = state_of rows before in
    ap (λ ns. ns ++ of_subscription id (makes rows w step)) (in_order rows before id)
    ∙ append_assoc (left rows before id) (of_subscription id w.unsent) (of_subscription id (makes rows w step))
    ∙ ap (λ ns. left rows before id ++ ns) (step_leaves id step rows w (rising_after rows before))
    ∙ sym (append_assoc (left rows before id) (leaves w step id) (of_subscription id (after rows w step).unsent))
