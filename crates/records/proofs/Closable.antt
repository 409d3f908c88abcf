-- How many records that are not closed have a container, where one session changes or begins, and where all are closed.
use Rattle.std.proofs.Common.{◌≡◌, ℕ, zero, suc, ◌+◌, ◌<◌, ◌≤◌, cond, ltb, Bool, true, false, List, [], ◌∷◌, length, get_or, set, Option, Some, None, refl, ap, arith}
use Rattle.std.proofs.lemmas.List.{length-append}
use Rattle.std.proofs.lemmas.List.Sums.{sum_by-cons}
use Rattle.records.specs.declared.record.Kept.{Kept}
use Rattle.records.specs.declared.session.SessionKept.{SessionKept}
use Rattle.records.specs.Closing.{has_container}
use Rattle.records.specs.Book.{Session, closable_in, closable, entered, settled, swept}
use Rattle.records.specs.Seen.{session_seen, sessions_seen, numbers_of}

of : SessionKept → ℕ
of z = closable_in (session_seen z).unclosed

pub first : (z : Session) (zs : List Session) → closable (z ∷ zs) ≡ closable_in z.unclosed + closable zs
first z zs = sum_by-cons (λ (y : Session). closable_in y.unclosed) z zs

one_by : (b : Bool) → cond b 1 0 ≤ 1
one_by true = omega arith
one_by false = omega arith

pub one : (o : Option Kept) → closable_in o ≤ 1
one None = omega arith
one (Some k) = one_by (has_container k)

-- one session changes
pub changed : (zs : List SessionKept) (i : ℕ) (old new : SessionKept) → i < length (numbers_of zs) → old ≡ get_or zs i old
    → closable (sessions_seen (set zs i new)) + closable_in (session_seen old).unclosed ≡ closable (sessions_seen zs) + closable_in (session_seen new).unclosed
changed [] i old new lt at = absurd (omega arith)
changed (z ∷ zs) zero old new lt at =
    let a = first (session_seen new) (sessions_seen zs) in
    let b = first (session_seen z) (sessions_seen zs) in
    let c : closable_in (session_seen old).unclosed ≡ closable_in (session_seen z).unclosed = ap (λ (y : SessionKept). closable_in (session_seen y).unclosed) at in omega arith
changed (z ∷ zs) (suc i) old new lt at =
    let a = first (session_seen z) (sessions_seen (set zs i new)) in
    let b = first (session_seen z) (sessions_seen zs) in
    let r = changed zs i old new (omega arith) at in omega arith

-- one is among all
pub among : (zs : List SessionKept) (i : ℕ) (old : SessionKept) → i < length (numbers_of zs) → old ≡ get_or zs i old → closable_in (session_seen old).unclosed ≤ closable (sessions_seen zs)
among [] i old lt at = absurd (omega arith)
among (z ∷ zs) zero old lt at =
    let b = first (session_seen z) (sessions_seen zs) in
    let c : closable_in (session_seen old).unclosed ≡ closable_in (session_seen z).unclosed = ap (λ (y : SessionKept). closable_in (session_seen y).unclosed) at in omega arith
among (z ∷ zs) (suc i) old lt at = let b = first (session_seen z) (sessions_seen zs) in let r = among zs i old (omega arith) at in omega arith

pub at_most : (zs : List Session) → closable zs ≤ length zs
at_most [] = omega arith
at_most (z ∷ zs) = let a = first z zs in let b = one z.unclosed in let r = at_most zs in omega arith

-- a session begins
entered_by : (new z : Session) (zs : List Session) → closable (entered new zs) ≡ closable zs + closable_in new.unclosed → (b : Bool) → closable (cond b (new ∷ z ∷ zs) (z ∷ entered new zs)) ≡ closable (z ∷ zs) + closable_in new.unclosed
entered_by new z zs rest true = let a = first new (z ∷ zs) in omega arith
entered_by new z zs rest false = let a = first z (entered new zs) in let b = first z zs in omega arith

pub begun : (new : Session) (zs : List Session) → closable (entered new zs) ≡ closable zs + closable_in new.unclosed
begun new [] = let a = first new [] in omega arith
begun new (z ∷ zs) = entered_by new z zs (begun new zs) (ltb new.number z.number)

-- all are closed
settled_by : (k : Kept) (stamp : ℕ) (closed : List Kept) (b : Bool) → has_container k ≡ b
    → (closable_in (settled k (cond b (Some 20) None) stamp closed).0 ≡ 0) × (length (settled k (cond b (Some 20) None) stamp closed).1 ≡ length closed + cond b 1 0)
settled_by k stamp closed true is = (refl, length-append closed _)
settled_by k stamp closed false is = (ap (λ (b : Bool). cond b 1 0) is, omega arith)

pub one_swept : (stamp : ℕ) (o : Option Kept) (closed : List Kept) → (closable_in (swept stamp o closed).0 ≡ 0) × (length (swept stamp o closed).1 ≡ length closed + closable_in o)
one_swept stamp None closed = (refl, omega arith)
one_swept stamp (Some k) closed = settled_by k stamp closed (has_container k) refl
