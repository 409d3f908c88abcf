-- The numbers of sessions after a step.
use Rattle.std.proofs.Common.{◌≡◌, ◌≢◌, ℕ, ◌+◌, ◌<◌, ◌≤◌, eqb, ltb, cond, Bool, true, false, List, [], ◌∷◌, length, Option, Some, None, refl, ◌∙◌, arith}
use Rattle.std.specs.Prelude.{IsSome}
use Rattle.std.proofs.lemmas.Bool.{eqb-false, ne_eqb, le-ltb}
use Rattle.records.specs.declared.record.Kept.{Kept}
use Rattle.records.specs.Book.{Session, session_of, entered, reopened, swept, all_swept, with_open}
use Rattle.acceptance.specs.Numbered.{AreNumbered}

pub fresh : (n : ℕ) (zs : List Session) (m : ℕ) → AreNumbered n zs → n + length zs ≤ m → session_of zs m ≡ None
fresh n [] m h le = refl
fresh n (z ∷ zs) m h le =
    let is = h.0 in
    let other : eqb z.number m ≡ false = ne_eqb z.number m (λ same. omega arith) in rw other (fresh (n + 1) zs m h.1 (omega arith))

above : (n m : ℕ) → n ≤ m → n ≢ m → n + 1 ≤ m
above n m le other = omega arith

begun_by : (z : Session) (r : Option Session) (b : Bool) → (b ≡ false → IsSome r) → IsSome (cond b (Some z) r)
begun_by z r true h = refl
begun_by z r false h = h refl

pub begun : (n : ℕ) (zs : List Session) (m : ℕ) → AreNumbered n zs → n ≤ m → m < n + length zs → IsSome (session_of zs m)
begun n [] m h le lt = absurd (omega arith)
begun n (z ∷ zs) m h le lt =
    begun_by z (session_of zs m) (eqb z.number m) (λ other. begun (n + 1) zs m h.1 (above n m le (λ same. eqb-false z.number m other (h.0 ∙ same))) (omega arith))

pub all_entered : (n : ℕ) (new : Session) (zs : List Session) → AreNumbered n zs → new.number ≡ n + length zs → AreNumbered n (entered new zs)
all_entered n new [] h is = (omega arith, tt)
all_entered n new (z ∷ zs) h is =
    let at = h.0 in
    let ge : ltb new.number z.number ≡ false = le-ltb new.number z.number (omega arith) in rw ge (h.0, all_entered (n + 1) new zs h.1 (omega arith))

reopened_by : (n : ℕ) (z : Session) (zs rest : List Session) (k : Option Kept) → AreNumbered n (z ∷ zs) → AreNumbered (n + 1) rest → (b : Bool) → AreNumbered n (cond b (with_open k z ∷ zs) (z ∷ rest))
reopened_by n z zs rest k h r true = h
reopened_by n z zs rest k h r false = (h.0, r)

pub all_reopened : (n : ℕ) (zs : List Session) (m : ℕ) (k : Option Kept) → AreNumbered n zs → AreNumbered n (reopened m k zs)
all_reopened n [] m k h = tt
all_reopened n (z ∷ zs) m k h = reopened_by n z zs (reopened m k zs) k h (all_reopened (n + 1) zs m k h.1) (eqb z.number m)

pub all_closed : (n : ℕ) (zs : List Session) (stamp : ℕ) (closed : List Kept) → AreNumbered n zs → AreNumbered n (all_swept zs stamp closed).sessions
all_closed n [] stamp closed h = tt
all_closed n (z ∷ zs) stamp closed h = (h.0, all_closed (n + 1) zs stamp (swept stamp z.unclosed closed).1 h.1)
