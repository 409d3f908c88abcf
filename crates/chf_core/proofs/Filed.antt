-- What filing in a book leaves: how many records are closed, and which numbers its sessions have.
use Rattle.std.proofs.Common.{◌≡◌, ◌≤◌, ℕ, suc, ◌+◌, ◌-◌, eqb, ltb, cond, Bool, true, false, List, [], ◌∷◌, ◌++◌, length, Option, Some, None, is_some, refl, sym, ap, subst, arith}
use mathlib.Core.Bool.{false≢true}
use Rattle.std.proofs.lemmas.Bool.Decides.{nat_tests}
use Rattle.units.specs.declared.request.UnitUsage.{UnitUsage}
use Rattle.units.specs.declared.request.Operation.{Operation}
use Rattle.units.specs.declared.request.Operation.TheVariants.{Create, Update, Release}
use Rattle.units.specs.declared.request.Request.{Request}
use Rattle.records.specs.declared.limits.RecordLimits.{RecordLimits}
use Rattle.records.specs.declared.record.Kept.{Kept}
use Rattle.records.specs.declared.filing.Filing.TheVariants.{Added}
use Rattle.records.specs.Closing.{with_added, closed_as}
use Rattle.records.specs.Book.{Session, Records, no_records, session_of, open_of, entered, reopened, with_open, settled, cause_of, added, after}
use Rattle.chf_core.specs.Filings.{filings_by, filed}
use Rattle.chf_core.specs.Booked.{AreNumbered}
use Rattle.chf_core.specs.declared.session.Session.{Session as Opened}
use Rattle.chf_core.specs.Sessions.{opens_by, sessions_after, opened, write_session, by_reference, with_last}
use Rattle.chf_core.specs.Machine.{session_by}
use Rattle.chf_core.proofs.Admitted.{length_set}

-- ---- closed records

one_more : (closed : List Kept) (k : Kept) → length (closed ++ k ∷ []) ≡ suc (length closed)
one_more [] k = refl
one_more (j ∷ closed) k = ap suc (one_more closed k)

few_settled : (k : Kept) (cause : Option ℕ) (stamp : ℕ) (closed : List Kept) → length (settled k cause stamp closed).1 ≤ length closed + 1
few_settled k None stamp closed = omega arith
few_settled k (Some cause) stamp closed = let e = one_more closed (closed_as k cause stamp (length closed + 1)) in omega arith

few_by : (l : RecordLimits) (used : List UnitUsage) (stamp : ℕ) (last : Bool) (o : Option Kept) (closed : List Kept) → length (added l used stamp last o closed).1 ≤ length closed + 1
few_by l used stamp last None closed = omega arith
few_by l used stamp last (Some k) closed = few_settled (with_added k used) (cause_of l last (with_added k used) stamp) stamp closed

-- containers that come close at most one record
pub few_added : (l : RecordLimits) (reference : ℕ) (used : List UnitUsage) (stamp : ℕ) (last : Bool) (b : Records) → length (after l (Added reference used stamp last) b).closed ≤ length b.closed + 1
few_added l reference used stamp last b = few_by l used stamp last (open_of b.sessions reference) b.closed

-- ---- numbers

pub numbered_more : (most n : ℕ) (zs : List Session) → most ≤ n → AreNumbered most zs → AreNumbered n zs
numbered_more most n [] le h = tt
numbered_more most n (z ∷ zs) le h = (omega (arith, h.0), numbered_more most n zs le h.1)

-- before any session
pub none_numbered : (most : ℕ) (b : Records) → b ≡ no_records → AreNumbered most b.sessions
none_numbered most b none = subst (λ (r : Records). AreNumbered most r.sessions) (sym none) tt

-- the number behind them is of no session
pub fresh_number : (most : ℕ) (zs : List Session) → AreNumbered most zs → session_of zs (most + 1) ≡ None
fresh_number most [] h = refl
fresh_number most (z ∷ zs) h =
    let le = h.0 in
    let other : eqb z.number (most + 1) ≡ false = grind (arith, nat_tests) in rw other (fresh_number most zs h.1)

numbered_entered_by : (most : ℕ) (new z : Session) (zs : List Session) → new.number ≤ most → AreNumbered most (z ∷ zs) → AreNumbered most (entered new zs)
    → (b : Bool) → AreNumbered most (cond b (new ∷ z ∷ zs) (z ∷ entered new zs))
numbered_entered_by most new z zs le h rest true = (le, h)
numbered_entered_by most new z zs le h rest false = (h.0, rest)

numbered_entered : (most : ℕ) (new : Session) (zs : List Session) → new.number ≤ most → AreNumbered most zs → AreNumbered most (entered new zs)
numbered_entered most new [] le h = (le, tt)
numbered_entered most new (z ∷ zs) le h = numbered_entered_by most new z zs le h (numbered_entered most new zs le h.1) (ltb new.number z.number)

numbered_reopened_by : (most n : ℕ) (k : Option Kept) (z : Session) (zs : List Session) → AreNumbered most (z ∷ zs) → AreNumbered most (reopened n k zs)
    → (b : Bool) → AreNumbered most (cond b (with_open k z ∷ zs) (z ∷ reopened n k zs))
numbered_reopened_by most n k z zs h rest true = (h.0, h.1)
numbered_reopened_by most n k z zs h rest false = (h.0, rest)

numbered_reopened : (most n : ℕ) (k : Option Kept) (zs : List Session) → AreNumbered most zs → AreNumbered most (reopened n k zs)
numbered_reopened most n k [] h = tt
numbered_reopened most n k (z ∷ zs) h = numbered_reopened_by most n k z zs h (numbered_reopened most n k zs h.1) (eqb z.number n)

-- what a request files, where so many sessions stand after it
pub numbered_filed : (l : RecordLimits) (o : Operation) (sessions after_it : ℕ) (q : Request) (opens : Bool) (b : Records) → sessions ≤ after_it
    → (opens ≡ true → sessions + 1 ≤ after_it) → AreNumbered sessions b.sessions → AreNumbered after_it (filed l (filings_by o sessions q opens) b).sessions
numbered_filed l Create sessions after_it q false b le more h = numbered_more sessions after_it b.sessions le h
numbered_filed l Create sessions after_it q true b le more h =
    numbered_reopened after_it (sessions + 1) _ _ (numbered_entered after_it _ b.sessions (more refl) (numbered_more sessions after_it b.sessions le h))
numbered_filed l (Update r) sessions after_it q opens b le more h = numbered_reopened after_it r _ _ (numbered_more sessions after_it b.sessions le h)
numbered_filed l (Release r) sessions after_it q opens b le more h = numbered_reopened after_it r _ _ (numbered_reopened after_it r _ _ (numbered_more sessions after_it b.sessions le h))

-- ---- sessions

session_more : (ss : List Opened) (z : Opened) → length (ss ++ z ∷ []) ≡ suc (length ss)
session_more [] z = refl
session_more (y ∷ ss) z = ap suc (session_more ss z)

written_stay : (ss : List Opened) (r m : ℕ) (live : Bool) (o : Option Opened) → length ss ≤ length (write_session ss r m live o)
written_stay ss r m live None = omega arith
written_stay ss r m live (Some z) = let e = length_set ss (r - 1) (with_last m live z) in omega arith

-- no session goes away
pub sessions_stay : (o : Operation) (q : Request) (account : Option ℕ) (ss : List Opened) → length ss ≤ length (sessions_after o q account ss)
sessions_stay Create q None ss = omega arith
sessions_stay Create q (Some n) ss = let e : length (opened q (Some n) ss) ≡ suc (length ss) = session_more ss _ in omega arith
sessions_stay (Update r) q account ss = written_stay ss r q.number true (by_reference ss r)
sessions_stay (Release r) q account ss = written_stay ss r q.number false (by_reference ss r)

-- a Create that opens a session adds one
pub session_opens : (o : Operation) (q : Request) (account : Option ℕ) (ss : List Opened) → opens_by o account ≡ true → length ss + 1 ≤ length (sessions_after o q account ss)
session_opens Create q None ss e = absurd (false≢true e)
session_opens Create q (Some n) ss e = let e : length (opened q (Some n) ss) ≡ suc (length ss) = session_more ss _ in omega arith
session_opens (Update r) q account ss e = absurd (false≢true e)
session_opens (Release r) q account ss e = absurd (false≢true e)

-- which requests open one
pub opens_session : (o : Operation) (q : Request) (account : Option ℕ) → is_some (session_by o q account) ≡ opens_by o account
opens_session Create q None = refl
opens_session Create q (Some n) = refl
opens_session (Update r) q account = refl
opens_session (Release r) q account = refl
