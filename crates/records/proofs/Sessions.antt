-- The session at a place, by its number, and what a change of it or a new one does.
use Rattle.std.proofs.Common.{◌≡◌, ◌≢◌, ℕ, zero, suc, ◌+◌, ◌<◌, ◌≤◌, eqb, ltb, cond, Bool, true, false, List, [], ◌∷◌, ◌++◌, length, take, get_or, set, Option, Some, None, option_map, refl, sym, ap, ◌∙◌, subst, arith}
use Rattle.std.proofs.Common.{Bor}
use Rattle.std.proofs.Math.Seq.{take-append_seam}
use Rattle.std.specs.Option.{option_copied}
use Rattle.std.specs.Prelude.{IfSome}
use Rattle.std.specs.List.{insert}
use Rattle.std.proofs.lemmas.Bool.Decides.{nat_tests}
use Rattle.std.proofs.lemmas.Bool.{eq-eqb, lt-ltb, le-ltb}
use Rattle.records.specs.declared.record.Kept.{Kept}
use Rattle.records.specs.declared.session.SessionKept.{SessionKept}
use Rattle.records.specs.Groups.{UnclosedSeen}
use Rattle.records.specs.Book.{Records, with_one, Session, session_of, open_in, open_of, entered, with_open, reopened}
use Rattle.records.specs.Seen.{session_seen, sessions_seen, numbers_of, IsBelow, AreRising, SequenceIsWithin, SequencesAreWithin, kept_of, records_seen, IsMissing}
use Rattle.records.proofs.Rising.{below_at}

-- unequal numbers
differ : (a b : ℕ) → a ≢ b → eqb a b ≡ false
differ a b ne = grind (arith, nat_tests)

-- the session at the place of a number
pub kept_there : (zs : List SessionKept) (n i : ℕ) (d : SessionKept) → AreRising (numbers_of zs) → i < length (numbers_of zs) → get_or (numbers_of zs) i 0 ≡ n → kept_of zs n ≡ Some (get_or zs i d)
kept_there [] n i d rise lt is = absurd (omega arith)
kept_there (z ∷ zs) n zero d rise lt is = let same : eqb z.number n ≡ true = eq-eqb z.number n is in rw same refl
kept_there (z ∷ zs) n (suc i) d rise lt is =
    let below = below_at z.number (numbers_of zs) rise.0 i (omega arith) in
    let other : eqb z.number n ≡ false = differ z.number n (λ same. omega arith) in
    rw other (kept_there zs n i d rise.1 (omega arith) is)

pub kept_missing : (zs : List SessionKept) (n : ℕ) → IsMissing (numbers_of zs) n → kept_of zs n ≡ None
kept_missing [] n h = refl
kept_missing (z ∷ zs) n h =
    let other : eqb z.number n ≡ false = differ z.number n (h 0 (omega arith)) in rw other (kept_missing zs n (λ k lt. h (suc k) (omega arith)))

-- what is seen of the session of a number
seen_by : (z : SessionKept) (b : Bool) (r : Option Session) (s : Option SessionKept) → r ≡ option_map session_seen s → cond b (Some (session_seen z)) r ≡ option_map session_seen (cond b (Some z) s)
seen_by z true r s e = refl
seen_by z false r s e = e

pub session_seen_of : (zs : List SessionKept) (n : ℕ) → session_of (sessions_seen zs) n ≡ option_map session_seen (kept_of zs n)
session_seen_of [] n = refl
session_seen_of (z ∷ zs) n = seen_by z (eqb z.number n) (session_of (sessions_seen zs) n) (kept_of zs n) (session_seen_of zs n)

-- the session of a number gets another record
pub reopened_there : (zs : List SessionKept) (n i : ℕ) (old new : SessionKept) (k : Option Kept) → AreRising (numbers_of zs) → i < length (numbers_of zs) → get_or (numbers_of zs) i 0 ≡ n → old ≡ get_or zs i old
    → session_seen new ≡ with_open k (session_seen old) → reopened n k (sessions_seen zs) ≡ sessions_seen (set zs i new)
reopened_there [] n i old new k rise lt is at e = absurd (omega arith)
reopened_there (z ∷ zs) n zero old new k rise lt is at e =
    let same : eqb z.number n ≡ true = eq-eqb z.number n is in
    rw same (ap (λ (s : Session). s ∷ sessions_seen zs) (ap (λ (x : SessionKept). with_open k (session_seen x)) (sym at) ∙ sym e))
reopened_there (z ∷ zs) n (suc i) old new k rise lt is at e =
    let below = below_at z.number (numbers_of zs) rise.0 i (omega arith) in
    let other : eqb z.number n ≡ false = differ z.number n (λ same. omega arith) in
    rw other (ap (λ (ss : List Session). session_seen z ∷ ss) (reopened_there zs n i old new k rise.1 (omega arith) is at e))

pub reopened_missing : (zs : List SessionKept) (n : ℕ) (k : Option Kept) → IsMissing (numbers_of zs) n → reopened n k (sessions_seen zs) ≡ sessions_seen zs
reopened_missing [] n k h = refl
reopened_missing (z ∷ zs) n k h =
    let other : eqb z.number n ≡ false = differ z.number n (h 0 (omega arith)) in
    rw other (ap (λ (ss : List Session). session_seen z ∷ ss) (reopened_missing zs n k (λ j lt. h (suc j) (omega arith))))

-- what stays where one session changes
pub numbers-set : (zs : List SessionKept) (i : ℕ) (old new : SessionKept) → i < length (numbers_of zs) → old ≡ get_or zs i old → new.number ≡ old.number → numbers_of (set zs i new) ≡ numbers_of zs
numbers-set [] i old new lt at e = absurd (omega arith)
numbers-set (z ∷ zs) zero old new lt at e = ap (λ (n : ℕ). n ∷ numbers_of zs) (e ∙ ap (λ (x : SessionKept). x.number) at)
numbers-set (z ∷ zs) (suc i) old new lt at e = ap (λ (ns : List ℕ). z.number ∷ ns) (numbers-set zs i old new (omega arith) at e)

pub seen-set : (zs : List SessionKept) (i : ℕ) (old new : SessionKept) → i < length (numbers_of zs) → old ≡ get_or zs i old → session_seen new ≡ session_seen old → sessions_seen (set zs i new) ≡ sessions_seen zs
seen-set [] i old new lt at e = absurd (omega arith)
seen-set (z ∷ zs) zero old new lt at e = ap (λ (s : Session). s ∷ sessions_seen zs) (e ∙ ap session_seen at)
seen-set (z ∷ zs) (suc i) old new lt at e = ap (λ (ss : List Session). session_seen z ∷ ss) (seen-set zs i old new (omega arith) at e)

-- a bound on the numbers of records
more_within : (z : SessionKept) (n m : ℕ) → n ≤ m → SequenceIsWithin n z → SequenceIsWithin m z
more_within z n m le h = by z.unclosed h where
  by : (u : Option UnclosedSeen) → IfSome u (λ v. v.kept.sequence ≤ n + 1) → IfSome u (λ v. v.kept.sequence ≤ m + 1)
  by None w = tt
  by (Some v) w = omega arith

pub more_all_within : (zs : List SessionKept) (n m : ℕ) → n ≤ m → SequencesAreWithin n zs → SequencesAreWithin m zs
more_all_within [] n m le h = tt
more_all_within (z ∷ zs) n m le h = (more_within z n m le h.0, more_all_within zs n m le h.1)

pub within-at : (zs : List SessionKept) (n i : ℕ) (old : SessionKept) → SequencesAreWithin n zs → i < length (numbers_of zs) → old ≡ get_or zs i old → SequenceIsWithin n old
within-at [] n i old h lt at = absurd (omega arith)
within-at (z ∷ zs) n zero old h lt at = subst (SequenceIsWithin n) (sym at) h.0
within-at (z ∷ zs) n (suc i) old h lt at = within-at zs n i old h.1 (omega arith) at

pub within-set : (zs : List SessionKept) (n m i : ℕ) (new : SessionKept) → n ≤ m → SequencesAreWithin n zs → SequenceIsWithin m new → SequencesAreWithin m (set zs i new)
within-set [] n m i new le h w = tt
within-set (z ∷ zs) n m zero new le h w = (w, more_all_within zs n m le h.1)
within-set (z ∷ zs) n m (suc i) new le h w = (more_within z n m le h.0, within-set zs n m i new le h.1 w)

-- a session that begins
pub entered_there : (zs : List SessionKept) (i : ℕ) (new : SessionKept) → i ≤ length (numbers_of zs) → ((k : ℕ) → k < i → get_or (numbers_of zs) k 0 < new.number) → ((k : ℕ) → i ≤ k → k < length (numbers_of zs) → new.number < get_or (numbers_of zs) k 0)
    → entered (session_seen new) (sessions_seen zs) ≡ sessions_seen (insert zs i new)
entered_there [] zero new le smaller greater = refl
entered_there [] (suc i) new le smaller greater = absurd (omega arith)
entered_there (z ∷ zs) zero new le smaller greater = let lt : ltb new.number z.number ≡ true = lt-ltb new.number z.number (greater 0 (omega arith) (omega arith)) in rw lt refl
entered_there (z ∷ zs) (suc i) new le smaller greater =
    let first = smaller 0 (omega arith) in
    let ge : ltb new.number z.number ≡ false = le-ltb new.number z.number (omega arith) in
    rw ge (ap (λ (ss : List Session). session_seen z ∷ ss) (entered_there zs i new (omega arith) (λ k lt. smaller (suc k) (omega arith)) (λ k low lt. greater (suc k) (omega arith) (omega arith))))

pub numbers-insert : (zs : List SessionKept) (i : ℕ) (new : SessionKept) → numbers_of (insert zs i new) ≡ insert (numbers_of zs) i new.number
numbers-insert zs zero new = refl
numbers-insert [] (suc i) new = refl
numbers-insert (z ∷ zs) (suc i) new = ap (λ (ns : List ℕ). z.number ∷ ns) (numbers-insert zs i new)

below-insert : (ns : List ℕ) (m i n : ℕ) → IsBelow m ns → m < n → IsBelow m (insert ns i n)
below-insert ns m zero n h lt = (lt, h)
below-insert [] m (suc i) n h lt = (lt, tt)
below-insert (k ∷ ks) m (suc i) n h lt = (h.0, below-insert ks m i n h.1 lt)

below_all : (ns : List ℕ) (n : ℕ) → ((k : ℕ) → k < length ns → n < get_or ns k 0) → IsBelow n ns
below_all [] n h = tt
below_all (m ∷ ms) n h = (h 0 (omega arith), below_all ms n (λ k lt. h (suc k) (omega arith)))

pub rising-insert : (ns : List ℕ) (i n : ℕ) → i ≤ length ns → ((k : ℕ) → k < i → get_or ns k 0 < n) → ((k : ℕ) → i ≤ k → k < length ns → n < get_or ns k 0) → AreRising ns → AreRising (insert ns i n)
rising-insert ns zero n le smaller greater rise = (below_all ns n (λ k lt. greater k (omega arith) lt), rise)
rising-insert [] (suc i) n le smaller greater rise = absurd (omega arith)
rising-insert (m ∷ ms) (suc i) n le smaller greater rise =
    (below-insert ms m i n rise.0 (smaller 0 (omega arith)), rising-insert ms i n (omega arith) (λ k lt. smaller (suc k) (omega arith)) (λ k low lt. greater (suc k) (omega arith) (omega arith)) rise.1)

pub within-insert : (zs : List SessionKept) (n i : ℕ) (new : SessionKept) → SequencesAreWithin n zs → SequenceIsWithin n new → SequencesAreWithin n (insert zs i new)
within-insert zs n zero new h w = (w, h)
within-insert [] n (suc i) new h w = (w, tt)
within-insert (z ∷ zs) n (suc i) new h w = (h.0, within-insert zs n i new h.1 w)

pub get-insert_at : (zs : List SessionKept) (i : ℕ) (new d : SessionKept) → i ≤ length zs → get_or (insert zs i new) i d ≡ new
get-insert_at zs zero new d le = refl
get-insert_at [] (suc i) new d le = absurd (omega arith)
get-insert_at (z ∷ zs) (suc i) new d le = get-insert_at zs i new d (omega arith)

-- the record of the session at a place
pub open_there : (zs : List SessionKept) (n i : ℕ) (old : SessionKept) → AreRising (numbers_of zs) → i < length (numbers_of zs) → get_or (numbers_of zs) i 0 ≡ n → old ≡ get_or zs i old → open_of (sessions_seen zs) n ≡ (session_seen old).unclosed
open_there zs n i old rise lt is at =
    ap open_in (session_seen_of zs n ∙ ap (λ (o : Option SessionKept). option_map session_seen o) (kept_there zs n i old rise lt is)) ∙ ap (λ (z : SessionKept). (session_seen z).unclosed) (sym at)

pub open_missing : (zs : List SessionKept) (n : ℕ) → IsMissing (numbers_of zs) n → open_of (sessions_seen zs) n ≡ None
open_missing zs n h = ap open_in (session_seen_of zs n ∙ ap (λ (o : Option SessionKept). option_map session_seen o) (kept_missing zs n h))

-- what comes of a session and the closed records comes of the book
pub one_changed : (zs : List SessionKept) (n i : ℕ) (old new : SessionKept) (closed more : List Kept) (f : Option Kept → List Kept → Option Kept × List Kept)
    → AreRising (numbers_of zs) → i < length (numbers_of zs) → get_or (numbers_of zs) i 0 ≡ n → old ≡ get_or zs i old
    → f (session_seen old).unclosed closed ≡ ((session_seen new).unclosed, more) → session_seen new ≡ with_open (session_seen new).unclosed (session_seen old)
    → with_one n (records_seen zs closed) (f (open_of (sessions_seen zs) n) closed) ≡ records_seen (set zs i new) more
one_changed zs n i old new closed more f rise lt is at comes stays =
    ap (λ (k : Option Kept). with_one n (records_seen zs closed) (f k closed)) (open_there zs n i old rise lt is at) ∙ ap (λ (x : Option Kept × List Kept). with_one n (records_seen zs closed) x) comes
    ∙ ap (λ (ss : List Session). let r : Records = record { sessions = ss; closed = more } in r) (reopened_there zs n i old new (session_seen new).unclosed rise lt is at stays)

pub none_changed : (zs : List SessionKept) (n : ℕ) (closed : List Kept) (f : Option Kept → List Kept → Option Kept × List Kept)
    → IsMissing (numbers_of zs) n → f None closed ≡ (None, closed) → with_one n (records_seen zs closed) (f (open_of (sessions_seen zs) n) closed) ≡ records_seen zs closed
none_changed zs n closed f h comes =
    ap (λ (k : Option Kept). with_one n (records_seen zs closed) (f k closed)) (open_missing zs n h) ∙ ap (λ (x : Option Kept × List Kept). with_one n (records_seen zs closed) x) comes
    ∙ ap (λ (ss : List Session). let r : Records = record { sessions = ss; closed = closed } in r) (reopened_missing zs n None h)

pub get-set_at : (zs : List SessionKept) (i : ℕ) (new d : SessionKept) → i < length (numbers_of zs) → get_or (set zs i new) i d ≡ new
get-set_at [] i new d lt = absurd (omega arith)
get-set_at (z ∷ zs) zero new d lt = refl
get-set_at (z ∷ zs) (suc i) new d lt = get-set_at zs i new d (omega arith)

-- bounds where a session has more room
pub within-seen : (zs : List SessionKept) (m i : ℕ) (old new : SessionKept) → i < length (numbers_of zs) → old ≡ get_or zs i old → (SequenceIsWithin m old → SequenceIsWithin m new) → SequencesAreWithin m zs → SequencesAreWithin m (set zs i new)
within-seen zs m i old new lt at keeps h = within-set zs m m i new (omega arith) h (keeps (within-at zs m i old h lt at))

-- no session of a number is seen
none_from : (r : Option SessionKept) → option_map session_seen r ≡ None → r ≡ None
none_from None e = refl
none_from (Some z) e = absurd cc

pub fresh : (zs : List SessionKept) (n : ℕ) → session_of (sessions_seen zs) n ≡ None → kept_of zs n ≡ None
fresh zs n h = none_from (kept_of zs n) (sym (session_seen_of zs n) ∙ h)

-- what was found in a list that is the same
pub session_found : (zs hs : List SessionKept) (n : ℕ) (z : SessionKept) → hs ≡ zs → Some z ≡ kept_of hs n → session_of (sessions_seen zs) n ≡ Some (session_seen z)
session_found zs hs n z same is =
    session_seen_of zs n ∙ ap (λ (l : List SessionKept). option_map session_seen (kept_of l n)) (sym same) ∙ ap (λ (o : Option SessionKept). option_map session_seen o) (sym is)

pub session_none : (zs hs : List SessionKept) (n : ℕ) → hs ≡ zs → None ≡ kept_of hs n → session_of (sessions_seen zs) n ≡ None
session_none zs hs n same is =
    session_seen_of zs n ∙ ap (λ (l : List SessionKept). option_map session_seen (kept_of l n)) (sym same) ∙ ap (λ (o : Option SessionKept). option_map session_seen o) (sym is)

-- a reference to what is in an option
pub borrowed : {A B : Type 0} (f : A → B) (r : Option (Bor A)) → option_map (λ u. f u.now) r ≡ option_map f (option_copied r)
borrowed f None = refl
borrowed f (Some u) = refl

-- what is written back is the whole list
pub whole : (new rest : List SessionKept) (n : ℕ) → length new ≡ n → take n (new ++ rest) ≡ new
whole new rest n is = ap (λ (m : ℕ). take m (new ++ rest)) (sym is) ∙ take-append_seam new rest
