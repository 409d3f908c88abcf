-- What follows of a session's moves from each being one that may come after those before it.
use Rattle.std.proofs.Common.{◌≡◌, ℕ, zero, suc, ◌+◌, ◌<◌, ◌≤◌, ◌==◌, Bool, true, false, cond, List, [], ◌∷◌, refl, sym, ◌∙◌, ap, subst, arith, ◌⊎◌, inl, inr, ⊎_elim}
use Rattle.std.specs.Prelude.{Option, Some, None}
use Rattle.std.proofs.lemmas.Bool.{eqb-true, eq-eqb}
use Rattle.units.specs.declared.trigger.Closed.{Closed}
use Rattle.units.specs.declared.request.Request.{Request}
use Rattle.sessions.specs.Kept.{is_success, is_release, uses, occurs_in}
use Rattle.sessions.specs.Trace.{Move, Phase, Cause, requests, settled, is_released, phase, closed_as, or_cause, given_up, IsWaiting, IsTrace}
use Rattle.sessions.specs.Trace.Move.{Closes, Drops, Freezes, Attempts, NotSent, NoReply, GivesUp, Answers}
use Rattle.sessions.specs.Trace.Phase.{Idle, Asked, Released, Unsent, Refused}
use Rattle.sessions.specs.Trace.Cause.{WasNotSent, HeldFull, WasRefused}
use Rattle.smf_model.specs.Trace.{unanswered}
use Rattle.smf_model.specs.Apart.{is_lost}

-- answered requests are among all
pub uses_settled : (t : List Move) (k : ℕ) → uses k (settled t) ≤ uses k (requests t)
uses_settled [] k = omega arith
uses_settled (Closes c ∷ t) k = uses_settled t k
uses_settled (Drops d ∷ t) k = uses_settled t k
uses_settled (Attempts ∷ t) k = uses_settled t k
uses_settled (NotSent ∷ t) k = uses_settled t k
uses_settled (NoReply ∷ t) k = uses_settled t k
uses_settled (GivesUp ∷ t) k = uses_settled t k
uses_settled (Freezes q ∷ t) k = let l = uses_settled t k in omega (arith, l)
uses_settled (Answers p ∷ t) k = at (is_success p) (uses_settled t k)
  where
    at : (b : Bool) → uses k (settled t) ≤ uses k (requests t) → uses k (cond b (requests t) (settled t)) ≤ uses k (requests t)
    at true l = omega arith
    at false l = l

-- the unanswered request is the newest
abbrev pub IsNewest : Option Request → List Request → Type 0
IsNewest None rs = Unit {0}
IsNewest (Some q) rs = is_released rs ≡ is_release q.operation

pub newest_is : (t : List Move) → IsNewest (unanswered t) (requests t)
newest_is [] = tt
newest_is (Closes c ∷ t) = newest_is t
newest_is (Drops d ∷ t) = newest_is t
newest_is (Attempts ∷ t) = newest_is t
newest_is (NotSent ∷ t) = newest_is t
newest_is (NoReply ∷ t) = newest_is t
newest_is (GivesUp ∷ t) = tt
newest_is (Freezes q ∷ t) = refl
newest_is (Answers p ∷ t) = tt

-- what is not closed is in no request
no_use : (n : ℕ) → (0 < n → ⊥) → n ≡ 0
no_use zero h = refl
no_use (suc n) h = absurd (h (omega arith))

unclosed_before : (b : Bool) (c : Closed) (o : Option Closed) → cond b (Some c) o ≡ None → o ≡ None
unclosed_before true c o h = cc
unclosed_before false c o h = h

pub unclosed_unused : (t : List Move) (k : ℕ) → IsTrace t → closed_as t k ≡ None → uses k (requests t) ≡ 0
unclosed_unused [] k v h = refl
unclosed_unused (Closes c ∷ t) k v h = unclosed_unused t k v.1 (unclosed_before (c.container.lsn == k) c (closed_as t k) h)
unclosed_unused (Drops d ∷ t) k v h = unclosed_unused t k v.1 h
unclosed_unused (Attempts ∷ t) k v h = unclosed_unused t k v.1 h
unclosed_unused (NotSent ∷ t) k v h = unclosed_unused t k v.1 h
unclosed_unused (NoReply ∷ t) k v h = unclosed_unused t k v.1 h
unclosed_unused (GivesUp ∷ t) k v h = unclosed_unused t k v.1 h
unclosed_unused (Answers p ∷ t) k v h = unclosed_unused t k v.1 h
unclosed_unused (Freezes q ∷ t) k v h =
    let none : occurs_in k q.usage ≡ 0 = no_use (occurs_in k q.usage) (λ l. let w : IsWaiting t k = v.0.waiting k l in let e : None ≡ Some w.closed = sym h ∙ w.is_closed in cc) in
    omega (arith, none, unclosed_unused t k v.1 h)

asked_stands : (p : Phase) → p ≡ Asked → is_lost p ≡ false
asked_stands p e = ap is_lost e

idle_stands : (p : Phase) → p ≡ Idle → is_lost p ≡ false
idle_stands p e = ap is_lost e

not_dropped : (o : Option Cause) (b : Bool) → o ≡ None → b ≡ false → or_cause o b HeldFull ≡ None
not_dropped o b e f = ap (λ x. or_cause x b HeldFull) e ∙ ap (λ x. cond x (Some HeldFull) None) f

-- what is not closed is not given up, but for where a session is lost
pub unclosed_kept : (t : List Move) (k : ℕ) → IsTrace t → is_lost (phase t) ≡ false → closed_as t k ≡ None → given_up t k ≡ None
unclosed_kept [] k v on h = refl
unclosed_kept (Closes c ∷ t) k v on h = unclosed_kept t k v.1 on (unclosed_before (c.container.lsn == k) c (closed_as t k) h)
unclosed_kept (Attempts ∷ t) k v on h = unclosed_kept t k v.1 on h
unclosed_kept (NotSent ∷ t) k v on h = unclosed_kept t k v.1 on h
unclosed_kept (NoReply ∷ t) k v on h = unclosed_kept t k v.1 on h
unclosed_kept (GivesUp ∷ t) k v on h = cc
unclosed_kept (Freezes q ∷ t) k v on h = unclosed_kept t k v.1 (idle_stands (phase t) v.0.idle) h
unclosed_kept (Drops d ∷ t) k v on h = not_dropped (given_up t k) (d == k) (unclosed_kept t k v.1 on h) (at (d == k) refl)
  where
    at : (b : Bool) → (d == k) ≡ b → b ≡ false
    at false e = refl
    at true e = absurd (let w : IsWaiting t d = v.0 in let f : None ≡ Some w.closed = sym h ∙ ap (closed_as t) (sym (eqb-true d k e)) ∙ w.is_closed in cc)
unclosed_kept (Answers p ∷ t) k v on h = at (is_success p) on (unclosed_kept t k v.1 (asked_stands (phase t) v.0) h)
  where
    at : (b : Bool) → is_lost (cond b (cond (is_released (requests t)) Released Idle) Refused) ≡ false → given_up t k ≡ None
        → cond b (given_up t k) (or_cause (given_up t k) (uses k (settled t) == 0) WasRefused) ≡ None
    at true on g = g
    at false on g = cc

-- by the phase, which requests are answered: all, or all but the unanswered one
abbrev pub NewestBy : Phase → Option Request → List Request → List Request → Type 0
NewestBy Idle newest all answered = all ≡ answered
NewestBy Asked newest all answered = (q : Request) × (newest ≡ Some q) × (all ≡ q ∷ answered)
NewestBy Released newest all answered = all ≡ answered
NewestBy Unsent newest all answered = Unit {0}
NewestBy Refused newest all answered = Unit {0}

-- where a session waits for nothing, each request is answered
pub all_answered : (t : List Move) → NewestBy (phase t) (unanswered t) (requests t) (settled t) → phase t ≡ Idle → requests t ≡ settled t
all_answered t n e = subst (λ p. NewestBy p (unanswered t) (requests t) (settled t)) e n

pub newest_by : (t : List Move) → IsTrace t → NewestBy (phase t) (unanswered t) (requests t) (settled t)
newest_by [] v = refl
newest_by (Closes c ∷ t) v = newest_by t v.1
newest_by (Drops d ∷ t) v = newest_by t v.1
newest_by (Attempts ∷ t) v = newest_by t v.1
newest_by (NotSent ∷ t) v = newest_by t v.1
newest_by (NoReply ∷ t) v = newest_by t v.1
newest_by (GivesUp ∷ t) v = tt
newest_by (Freezes q ∷ t) v = (q, refl, ap (λ rs. q ∷ rs) (all_answered t (newest_by t v.1) v.0.idle))
newest_by (Answers p ∷ t) v = at (is_success p) (is_released (requests t))
  where
    at : (b d : Bool) → NewestBy (cond b (cond d Released Idle) Refused) None (requests t) (cond b (requests t) (settled t))
    at true true = refl
    at true false = refl
    at false d = tt

-- an unanswered request is waited for
pub unanswered_asked : (t : List Move) (q : Request) → unanswered t ≡ Some q → phase t ≡ Asked
unanswered_asked [] q e = cc
unanswered_asked (Closes c ∷ t) q e = unanswered_asked t q e
unanswered_asked (Drops d ∷ t) q e = unanswered_asked t q e
unanswered_asked (Attempts ∷ t) q e = unanswered_asked t q e
unanswered_asked (NotSent ∷ t) q e = unanswered_asked t q e
unanswered_asked (NoReply ∷ t) q e = unanswered_asked t q e
unanswered_asked (GivesUp ∷ t) q e = cc
unanswered_asked (Freezes r ∷ t) q e = refl
unanswered_asked (Answers p ∷ t) q e = cc

-- no container is in two requests
pub once : (t : List Move) (k : ℕ) → IsTrace t → uses k (requests t) ≤ 1
once [] k v = omega arith
once (Closes c ∷ t) k v = once t k v.1
once (Drops d ∷ t) k v = once t k v.1
once (Attempts ∷ t) k v = once t k v.1
once (NotSent ∷ t) k v = once t k v.1
once (NoReply ∷ t) k v = once t k v.1
once (GivesUp ∷ t) k v = once t k v.1
once (Answers p ∷ t) k v = once t k v.1
once (Freezes q ∷ t) k v = by_count (occurs_in k q.usage) (v.0.once k) (λ l. (v.0.waiting k l).in_none) (once t k v.1)
  where
    by_count : (n : ℕ) → n ≤ 1 → (0 < n → uses k (requests t) ≡ 0) → uses k (requests t) ≤ 1 → n + uses k (requests t) ≤ 1
    by_count zero most none old = omega (arith, old)
    by_count (suc n) most none old = let zero_uses : uses k (requests t) ≡ 0 = none (omega arith) in omega (arith, most, zero_uses)

-- what is given up is in no answered request, and in none at all but where a session is lost
pub record IsApart (t : List Move) (k : ℕ) : Type 0 where
  pub unanswered : uses k (settled t) ≡ 0
  pub in_none : is_lost (phase t) ≡ false → uses k (requests t) ≡ 0

abbrev IsApartBy : Phase → List Request → List Request → ℕ → Type 0
IsApartBy p all answered k = (uses k answered ≡ 0) × (is_lost p ≡ false → uses k all ≡ 0)

not_caused : (o : Option Cause) (b : Bool) (later : Cause) → or_cause o b later ≡ None → o ≡ None
not_caused (Some c) b later h = h
not_caused None b later h = refl

never : (o : Option Cause) (b : Bool) (later : Cause) → b ≡ true → or_cause o b later ≡ None → ⊥
never (Some c) b later e h = cc
never None true later e h = cc
never None false later e h = cc

pub first_cause : (o : Option Cause) (b : Bool) (later w : Cause) → or_cause o b later ≡ Some w → (o ≡ Some w) ⊎ (b ≡ true)
first_cause (Some c) b later w h = inl h
first_cause None true later w h = inr refl
first_cause None false later w h = cc

pub given_apart : (t : List Move) (k : ℕ) (w : Cause) → IsTrace t → given_up t k ≡ Some w → IsApart t k
given_apart [] k w v g = cc
given_apart (Closes c ∷ t) k w v g = let i = given_apart t k w v.1 g in record { unanswered = i.unanswered; in_none = i.in_none }
given_apart (Attempts ∷ t) k w v g = let i = given_apart t k w v.1 g in record { unanswered = i.unanswered; in_none = i.in_none }
given_apart (NotSent ∷ t) k w v g = let i = given_apart t k w v.1 g in record { unanswered = i.unanswered; in_none = i.in_none }
given_apart (NoReply ∷ t) k w v g = let i = given_apart t k w v.1 g in record { unanswered = i.unanswered; in_none = i.in_none }
given_apart (Drops d ∷ t) k w v g = ⊎_elim
    (λ (o : given_up t k ≡ Some w). let i = given_apart t k w v.1 o in record { unanswered = i.unanswered; in_none = i.in_none })
    (λ (b : (d == k) ≡ true).
    let none : uses k (requests t) ≡ 0 = subst (λ x. uses x (requests t) ≡ 0) (eqb-true d k b) v.0.in_none in
    let l = uses_settled t k in
    record { unanswered = omega (arith, none, l); in_none = λ on. none })
    (first_cause (given_up t k) (d == k) HeldFull w g)
given_apart (GivesUp ∷ t) k w v g = ⊎_elim
    (λ (o : given_up t k ≡ Some w). record { unanswered = (given_apart t k w v.1 o).unanswered; in_none = λ on. cc })
    (λ (b : (uses k (settled t) == 0) ≡ true). record { unanswered = eqb-true (uses k (settled t)) 0 b; in_none = λ on. cc })
    (first_cause (given_up t k) (uses k (settled t) == 0) WasNotSent w g)
given_apart (Freezes q ∷ t) k w v g =
    let i = given_apart t k w v.1 g in
    let none : occurs_in k q.usage ≡ 0 = no_use (occurs_in k q.usage) (λ l. let n : given_up t k ≡ None = (v.0.waiting k l).not_given_up in let e : None ≡ Some w = sym n ∙ g in cc) in
    let old : uses k (requests t) ≡ 0 = i.in_none (idle_stands (phase t) v.0.idle) in
    record { unanswered = i.unanswered; in_none = λ on. omega (arith, none, old) }
given_apart (Answers p ∷ t) k w v g = let i = at (is_success p) (λ o. given_apart t k w v.1 o) g in record { unanswered = i.0; in_none = i.1 }
  where
    at : (b : Bool) → (given_up t k ≡ Some w → IsApart t k) → cond b (given_up t k) (or_cause (given_up t k) (uses k (settled t) == 0) WasRefused) ≡ Some w → IsApartBy (cond b (cond (is_released (requests t)) Released Idle) Refused) (requests t) (cond b (requests t) (settled t)) k
    at true i g = let none : uses k (requests t) ≡ 0 = (i g).in_none (asked_stands (phase t) v.0) in (none, λ on. none)
    at false i g = ⊎_elim
        (λ (o : given_up t k ≡ Some w). ((i o).unanswered, λ on. cc))
        (λ (b : (uses k (settled t) == 0) ≡ true). (eqb-true (uses k (settled t)) 0 b, λ on. cc))
        (first_cause (given_up t k) (uses k (settled t) == 0) WasRefused w g)

-- what is in no answered request of a lost session is given up
pub lost_given : (t : List Move) (k : ℕ) → is_lost (phase t) ≡ true → uses k (settled t) ≡ 0 → given_up t k ≡ None → ⊥
lost_given [] k lost none g = cc
lost_given (Closes c ∷ t) k lost none g = lost_given t k lost none g
lost_given (Attempts ∷ t) k lost none g = lost_given t k lost none g
lost_given (NotSent ∷ t) k lost none g = lost_given t k lost none g
lost_given (NoReply ∷ t) k lost none g = lost_given t k lost none g
lost_given (Drops d ∷ t) k lost none g = lost_given t k lost none (not_caused (given_up t k) (d == k) HeldFull g)
lost_given (GivesUp ∷ t) k lost none g = never (given_up t k) (uses k (settled t) == 0) WasNotSent (eq-eqb (uses k (settled t)) 0 none) g
lost_given (Freezes q ∷ t) k lost none g = cc
lost_given (Answers p ∷ t) k lost none g = at (is_success p) (is_released (requests t)) lost none g
  where
    at : (b d : Bool) → is_lost (cond b (cond d Released Idle) Refused) ≡ true → uses k (cond b (requests t) (settled t)) ≡ 0 → cond b (given_up t k) (or_cause (given_up t k) (uses k (settled t) == 0) WasRefused) ≡ None → ⊥
    at true true lost none g = cc
    at true false lost none g = cc
    at false d lost none g = never (given_up t k) (uses k (settled t) == 0) WasRefused (eq-eqb (uses k (settled t)) 0 none) g
