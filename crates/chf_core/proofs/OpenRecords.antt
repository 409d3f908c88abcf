-- Which sessions of a book have a record that is not closed.
use Rattle.std.proofs.Common.{◌≡◌, ◌≢◌, ◌≤◌, ℕ, ◌+◌, ◌==◌, eqb, ltb, cond, Bool, true, false, List, [], ◌∷◌, length, Option, Some, None, refl, sym, ap, ◌∙◌, subst, arith}
use Rattle.std.specs.Prelude.{IsSome}
use Rattle.std.proofs.lemmas.Bool.Decides.{nat_tests}
use Rattle.units.specs.declared.request.UnitUsage.{UnitUsage}
use Rattle.records.specs.declared.limits.RecordLimits.{RecordLimits}
use Rattle.records.specs.declared.record.Kept.{Kept}
use Rattle.records.specs.Closing.{with_added}
use Rattle.records.specs.Book.{Session, Records, session_of, open_in, open_of, entered, with_open, reopened, cause_of, settled, added, sweeping, swept, all_swept}
use Rattle.chf_core.specs.Booked.{AreNumbered}
use Rattle.chf_core.proofs.Places.{eq_yes, eq_no}

-- ---- a session that gets another record

own_by : (z : Session) (zs : List Session) (n : ℕ) (k : Option Kept) → (b : Bool) → eqb z.number n ≡ b
    → (IsSome (open_of zs n) → open_of (reopened n k zs) n ≡ k)
    → IsSome (open_in (cond b (Some z) (session_of zs n))) → open_of (cond b (with_open k z ∷ zs) (z ∷ reopened n k zs)) n ≡ k
own_by z zs n k true e rest h = ap (λ b. open_in (cond b (Some (with_open k z)) (session_of zs n))) e
own_by z zs n k false e rest h = ap (λ b. open_in (cond b (Some z) (session_of (reopened n k zs) n))) e ∙ rest h

-- where it had one
pub reopened_own : (zs : List Session) (n : ℕ) (k : Option Kept) → IsSome (open_of zs n) → open_of (reopened n k zs) n ≡ k
reopened_own [] n k h = absurd (cc)
reopened_own (z ∷ zs) n k h = own_by z zs n k (eqb z.number n) refl (reopened_own zs n k) h

other_by : (z : Session) (zs : List Session) (n r : ℕ) (k : Option Kept) → n ≢ r → (b : Bool) → eqb z.number n ≡ b
    → open_of (reopened n k zs) r ≡ open_of zs r
    → open_of (cond b (with_open k z ∷ zs) (z ∷ reopened n k zs)) r ≡ open_of (z ∷ zs) r
other_by z zs n r k d true e rest =
    let ne : eqb z.number r ≡ false = grind (arith, nat_tests) in
    ap (λ b. open_in (cond b (Some (with_open k z)) (session_of zs r))) ne ∙ sym (ap (λ b. open_in (cond b (Some z) (session_of zs r))) ne)
other_by z zs n r k d false e rest = by (eqb z.number r) where
  by : (b : Bool) → open_in (cond b (Some z) (session_of (reopened n k zs) r)) ≡ open_in (cond b (Some z) (session_of zs r))
  by true = refl
  by false = rest

-- the others keep theirs
pub reopened_other : (zs : List Session) (n r : ℕ) (k : Option Kept) → n ≢ r → open_of (reopened n k zs) r ≡ open_of zs r
reopened_other [] n r k d = refl
reopened_other (z ∷ zs) n r k d = other_by z zs n r k d (eqb z.number n) refl (reopened_other zs n r k d)

-- ---- a session that begins

begun_by : (new z : Session) (zs : List Session) → eqb z.number new.number ≡ false → (b : Bool)
    → open_of (entered new zs) new.number ≡ new.unclosed
    → open_of (cond b (new ∷ z ∷ zs) (z ∷ entered new zs)) new.number ≡ new.unclosed
begun_by new z zs e true rest = ap (λ b. open_in (cond b (Some new) (session_of (z ∷ zs) new.number))) (eq_yes new.number new.number refl)
begun_by new z zs e false rest = ap (λ b. open_in (cond b (Some z) (session_of (entered new zs) new.number))) e ∙ rest

-- under a number above all
pub entered_own : (most : ℕ) (new : Session) (zs : List Session) → AreNumbered most zs → new.number ≡ most + 1 → open_of (entered new zs) new.number ≡ new.unclosed
entered_own most new [] h n = ap (λ b. open_in (cond b (Some new) None)) (eq_yes new.number new.number refl)
entered_own most new (z ∷ zs) h n =
    let le = h.0 in
    let ne : eqb z.number new.number ≡ false = grind (arith, nat_tests) in
    begun_by new z zs ne (ltb new.number z.number) (entered_own most new zs h.1 n)

before_by : (new z : Session) (zs : List Session) (r : ℕ) → eqb new.number r ≡ false → (b : Bool)
    → open_of (entered new zs) r ≡ open_of zs r
    → open_of (cond b (new ∷ z ∷ zs) (z ∷ entered new zs)) r ≡ open_of (z ∷ zs) r
before_by new z zs r e true rest = ap (λ b. open_in (cond b (Some new) (session_of (z ∷ zs) r))) e
before_by new z zs r e false rest = by (eqb z.number r) where
  by : (b : Bool) → open_in (cond b (Some z) (session_of (entered new zs) r)) ≡ open_in (cond b (Some z) (session_of zs r))
  by true = refl
  by false = rest

-- the others keep their records
pub entered_other : (new : Session) (zs : List Session) (r : ℕ) → new.number ≢ r → open_of (entered new zs) r ≡ open_of zs r
entered_other new [] r d = ap (λ b. open_in (cond b (Some new) None)) (eq_no new.number r d)
entered_other new (z ∷ zs) r d = before_by new z zs r (eq_no new.number r d) (ltb new.number z.number) (entered_other new zs r d)

-- ---- what stays open

settled_open : (k : Kept) (cause : Option ℕ) (stamp : ℕ) (closed : List Kept) → IsSome (settled k cause stamp closed).0
settled_open k None stamp closed = refl
settled_open k (Some cause) stamp closed = refl

-- a record to which containers come, or the next one
pub added_open : (l : RecordLimits) (used : List UnitUsage) (stamp : ℕ) (last : Bool) (o : Option Kept) (closed : List Kept) → IsSome o → IsSome (added l used stamp last o closed).0
added_open l used stamp last None closed h = absurd (cc)
added_open l used stamp last (Some k) closed h = settled_open (with_added k used) (cause_of l last (with_added k used) stamp) stamp closed

swept_open : (stamp : ℕ) (o : Option Kept) (closed : List Kept) → IsSome o → IsSome (swept stamp o closed).0
swept_open stamp None closed h = absurd (cc)
swept_open stamp (Some k) closed h = settled_open k (sweeping k) stamp closed

swept_by : (z : Session) (zs : List Session) (r stamp : ℕ) (closed : List Kept)
    → (IsSome (open_of zs r) → IsSome (open_of (all_swept zs stamp (swept stamp z.unclosed closed).1).sessions r))
    → (b : Bool) → IsSome (open_in (cond b (Some z) (session_of zs r)))
    → IsSome (open_in (cond b (Some (with_open (swept stamp z.unclosed closed).0 z)) (session_of (all_swept zs stamp (swept stamp z.unclosed closed).1).sessions r)))
swept_by z zs r stamp closed rest true h = swept_open stamp z.unclosed closed h
swept_by z zs r stamp closed rest false h = rest h

-- where all that have a container are closed, each session that had an open record has one
pub all_swept_open : (zs : List Session) (r stamp : ℕ) (closed : List Kept) → IsSome (open_of zs r) → IsSome (open_of (all_swept zs stamp closed).sessions r)
all_swept_open [] r stamp closed h = absurd (cc)
all_swept_open (z ∷ zs) r stamp closed h =
    swept_by z zs r stamp closed (all_swept_open zs r stamp (swept stamp z.unclosed closed).1) (eqb z.number r) h

-- and their numbers stay
pub all_swept_numbered : (most : ℕ) (zs : List Session) (stamp : ℕ) (closed : List Kept) → AreNumbered most zs → AreNumbered most (all_swept zs stamp closed).sessions
all_swept_numbered most [] stamp closed h = tt
all_swept_numbered most (z ∷ zs) stamp closed h = (h.0, all_swept_numbered most zs stamp (swept stamp z.unclosed closed).1 h.1)
