-- Closing the records of all sessions: one whose record has no container may be passed over, and the first one that has may be closed before.
use Rattle.std.proofs.Common.{◌≡◌, ℕ, zero, suc, ◌+◌, ◌<◌, ◌≤◌, cond, Bool, true, false, List, [], ◌∷◌, length, get_or, set, Option, Some, None, refl, sym, ap, ◌∙◌, arith}
use Rattle.records.specs.declared.record.Kept.{Kept}
use Rattle.records.specs.declared.session.SessionKept.{SessionKept}
use Rattle.records.specs.Closing.{has_container}
use Rattle.records.specs.Book.{Session, Records, with_open, settled, swept, all_swept, closable_in, closable}
use Rattle.records.specs.Seen.{session_seen, sessions_seen, numbers_of, AreRising, EachClosable}
use Rattle.records.proofs.Closable.{first, one_swept}
use Rattle.records.proofs.Found.{Has}
use Rattle.records.proofs.Rising.{below_at}

-- a session before the others, as it is
abbrev with_first : Session → Records → Records
with_first s r = record { sessions = s ∷ r.sessions; closed = r.closed }

-- a session whose record has no container
pub not_swept : (stamp : ℕ) (o : Option Kept) (closed : List Kept) → closable_in o ≡ 0 → swept stamp o closed ≡ (o, closed)
not_swept stamp None closed none = refl
not_swept stamp (Some k) closed none = by (has_container k) none where
  by : (b : Bool) → ◌≡◌ {A = ℕ} (cond b 1 0) 0 → settled k (cond b (Some 20) None) stamp closed ≡ (Some k, closed)
  by true n = absurd (omega arith)
  by false n = refl

passed_over : (s : Session) (ss : List Session) (stamp : ℕ) (closed : List Kept) → closable_in s.unclosed ≡ 0 → all_swept (s ∷ ss) stamp closed ≡ with_first s (all_swept ss stamp closed)
passed_over s ss stamp closed none =
    ap (λ (x : Option Kept × List Kept). let r : Records = record { sessions = with_open x.0 s ∷ (all_swept ss stamp x.1).sessions; closed = (all_swept ss stamp x.1).closed } in r) (not_swept stamp s.unclosed closed none)

pub none_swept : (ss : List Session) (stamp : ℕ) (closed : List Kept) → closable ss ≡ 0 → all_swept ss stamp closed ≡ record { sessions = ss; closed = closed }
none_swept [] stamp closed none = refl
none_swept (s ∷ ss) stamp closed none =
    let a = first s ss in
    passed_over s ss stamp closed (omega arith) ∙ ap (with_first s) (none_swept ss stamp closed (omega arith))

-- the first session of all
first_swept : (z new : SessionKept) (zs : List SessionKept) (stamp : ℕ) (closed more : List Kept)
    → swept stamp (session_seen z).unclosed closed ≡ ((session_seen new).unclosed, more) → session_seen new ≡ with_open (session_seen new).unclosed (session_seen z)
    → with_first (session_seen new) (all_swept (sessions_seen zs) stamp more) ≡ all_swept (session_seen z ∷ sessions_seen zs) stamp closed
first_swept z new zs stamp closed more comes stays =
    ap (λ (s : Session). let r : Records = record { sessions = s ∷ (all_swept (sessions_seen zs) stamp more).sessions; closed = (all_swept (sessions_seen zs) stamp more).closed } in r) stays
    ∙ ap (λ (x : Option Kept × List Kept). let r : Records = record { sessions = with_open x.0 (session_seen z) ∷ (all_swept (sessions_seen zs) stamp x.1).sessions; closed = (all_swept (sessions_seen zs) stamp x.1).closed } in r) (sym comes)

-- after a session's record was closed it has no container, and as many records more are closed
left_none : (old new : SessionKept) (stamp : ℕ) (closed more : List Kept) → swept stamp (session_seen old).unclosed closed ≡ ((session_seen new).unclosed, more) → closable_in (session_seen new).unclosed ≡ 0
left_none old new stamp closed more comes = ap (λ (x : Option Kept × List Kept). closable_in x.0) (sym comes) ∙ (one_swept stamp (session_seen old).unclosed closed).0

-- the same of the one at a place
pub has_none : (zs : List SessionKept) (n i : ℕ) (old new : SessionKept) (stamp : ℕ) (closed more : List Kept) → Has zs n i old
    → swept stamp (session_seen old).unclosed closed ≡ ((session_seen new).unclosed, more) → closable_in (session_seen new).unclosed ≡ 0
has_none zs n i old new stamp closed more h comes = left_none old new stamp closed more comes

pub has_more : (zs : List SessionKept) (n i : ℕ) (old new : SessionKept) (stamp : ℕ) (closed more : List Kept) → Has zs n i old
    → swept stamp (session_seen old).unclosed closed ≡ ((session_seen new).unclosed, more) → length more ≡ length closed + closable_in (session_seen old).unclosed
has_more zs n i old new stamp closed more h comes = ap (λ (x : Option Kept × List Kept). length x.1) (sym comes) ∙ (one_swept stamp (session_seen old).unclosed closed).1

-- a session below the first that has a container
none_below : (m n k : ℕ) → (0 < m → n ≤ k) → k < n → m ≡ 0
none_below zero n k h lt = refl
none_below (suc m) n k h lt = let le = h (omega arith) in absurd (omega arith)

-- the first session whose record has a container is closed before the others
pub first_closed : (zs : List SessionKept) (n i : ℕ) (old new : SessionKept) (stamp : ℕ) (closed more : List Kept) → AreRising (numbers_of zs) → i < length (numbers_of zs) → get_or (numbers_of zs) i 0 ≡ n → old ≡ get_or zs i old
    → swept stamp (session_seen old).unclosed closed ≡ ((session_seen new).unclosed, more) → session_seen new ≡ with_open (session_seen new).unclosed (session_seen old) → EachClosable (λ m. n ≤ m) (sessions_seen zs)
    → all_swept (sessions_seen (set zs i new)) stamp more ≡ all_swept (sessions_seen zs) stamp closed
first_closed [] n i old new stamp closed more rise lt is at comes stays least = absurd (omega arith)
first_closed (z ∷ zs) n zero old new stamp closed more rise lt is at comes stays least =
    passed_over (session_seen new) (sessions_seen zs) stamp more (left_none old new stamp closed more comes)
    ∙ first_swept z new zs stamp closed more (ap (λ (x : SessionKept). swept stamp (session_seen x).unclosed closed) (sym at) ∙ comes) (stays ∙ ap (λ (x : SessionKept). with_open (session_seen new).unclosed (session_seen x)) at)
first_closed (z ∷ zs) n (suc i) old new stamp closed more rise lt is at comes stays least =
    let below = below_at z.number (numbers_of zs) rise.0 i (omega arith) in
    let none : closable_in (session_seen z).unclosed ≡ 0 = none_below _ n z.number least.0 (omega arith) in
    passed_over (session_seen z) (sessions_seen (set zs i new)) stamp more none
    ∙ ap (with_first (session_seen z)) (first_closed zs n i old new stamp closed more rise.1 (omega arith) is at comes stays least.1)
    ∙ sym (passed_over (session_seen z) (sessions_seen zs) stamp closed none)
