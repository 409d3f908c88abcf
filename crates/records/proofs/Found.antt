-- What a search among the numbers of sessions says of the sessions.
use Rattle.std.proofs.Common.{◌≡◌, ℕ, ◌<◌, List, length, get_or, set, Option, Some, sym, ap, ◌∙◌, subst}
use Rattle.std.specs.Prelude.{IfSome}
use Rattle.units.specs.declared.request.UnitUsage.{UnitUsage}
use Rattle.records.specs.declared.record.Kept.{Kept}
use Rattle.records.specs.declared.session.SessionKept.{SessionKept}
use Rattle.records.specs.Groups.{HasRoom}
use Rattle.records.specs.Book.{Session, open_of, with_open, with_one}
use Rattle.records.specs.Seen.{session_seen, sessions_seen, numbers_of, records_seen, AreRising, SequenceIsWithin, SequencesAreWithin, kept_of, IsThere, IsMissing}
use Rattle.records.proofs.Sessions as s

-- the session at the place that was found
pub record Has (zs : List SessionKept) (n i : ℕ) (old : SessionKept) : Type 0 where
  pub rise : AreRising (numbers_of zs)
  pub within : i < length (numbers_of zs)
  pub is : get_or (numbers_of zs) i 0 ≡ n
  pub at : old ≡ get_or zs i old

pub has : (ns : List ℕ) (zs : List SessionKept) (n i : ℕ) (old : SessionKept) → ns ≡ numbers_of zs → AreRising ns → IsThere ns n i → old ≡ get_or zs i old → Has zs n i old
has ns zs n i old same rise there at =
    record { rise = subst AreRising same rise; within = subst (λ (l : List ℕ). i < length l) same there.within; is = subst (λ (l : List ℕ). get_or l i 0 ≡ n) same there.is; at = at }

pub missing : (ns : List ℕ) (zs : List SessionKept) (n : ℕ) → ns ≡ numbers_of zs → IsMissing ns n → IsMissing (numbers_of zs) n
missing ns zs n same h = subst (λ (l : List ℕ). IsMissing l n) same h

pub kept : (zs : List SessionKept) (n i : ℕ) (old : SessionKept) → Has zs n i old → kept_of zs n ≡ Some old
kept zs n i old h = s.kept_there zs n i old h.rise h.within h.is ∙ ap (λ (z : SessionKept). let o : Option SessionKept = Some z in o) (sym h.at)

pub room : (zs : List SessionKept) (n i : ℕ) (old : SessionKept) (used : List UnitUsage) → Has zs n i old → IfSome (kept_of zs n) (λ z. IfSome z.unclosed (λ u. HasRoom u used)) → IfSome old.unclosed (λ u. HasRoom u used)
room zs n i old used h r = subst (λ (o : Option SessionKept). IfSome o (λ z. IfSome z.unclosed (λ u. HasRoom u used))) (kept zs n i old h) r

pub changed : (zs : List SessionKept) (n i : ℕ) (old new : SessionKept) (closed more : List Kept) (f : Option Kept → List Kept → Option Kept × List Kept) → Has zs n i old
    → f (session_seen old).unclosed closed ≡ ((session_seen new).unclosed, more) → session_seen new ≡ with_open (session_seen new).unclosed (session_seen old)
    → with_one n (records_seen zs closed) (f (open_of (sessions_seen zs) n) closed) ≡ records_seen (set zs i new) more
changed zs n i old new closed more f h comes stays = s.one_changed zs n i old new closed more f h.rise h.within h.is h.at comes stays

pub numbers : (zs : List SessionKept) (n i : ℕ) (old new : SessionKept) (k : Option Kept) → Has zs n i old → session_seen new ≡ with_open k (session_seen old) → numbers_of (set zs i new) ≡ numbers_of zs
numbers zs n i old new k h stays = s.numbers-set zs i old new h.within h.at (ap (λ (z : Session). z.number) stays)

pub within : (zs : List SessionKept) (n i m k : ℕ) (old : SessionKept) → Has zs n i old → SequencesAreWithin m zs → SequenceIsWithin m old
within zs n i m k old h w = s.within-at zs m i old w h.within h.at

-- a session whose record alone has more room
pub roomier : (zs : List SessionKept) (n i : ℕ) (old new : SessionKept) (used : List UnitUsage) → Has zs n i old → session_seen new ≡ session_seen old → IfSome new.unclosed (λ u. HasRoom u used)
    → IfSome (kept_of (set zs i new) n) (λ z. IfSome z.unclosed (λ u. HasRoom u used))
roomier zs n i old new used h stays r =
    let same : numbers_of (set zs i new) ≡ numbers_of zs = s.numbers-set zs i old new h.within h.at (ap (λ (z : Session). z.number) stays) in
    let rise : AreRising (numbers_of (set zs i new)) = subst AreRising (sym same) h.rise in
    let lt : i < length (numbers_of (set zs i new)) = subst (λ (l : List ℕ). i < length l) (sym same) h.within in
    let is : get_or (numbers_of (set zs i new)) i 0 ≡ n = subst (λ (l : List ℕ). get_or l i 0 ≡ n) (sym same) h.is in
    let at : get_or (set zs i new) i new ≡ new = s.get-set_at zs i new new h.within in
    subst (λ (o : Option SessionKept). IfSome o (λ z. IfSome z.unclosed (λ u. HasRoom u used))) (sym (s.kept_there (set zs i new) n i new rise lt is ∙ ap (λ (z : SessionKept). let o : Option SessionKept = Some z in o) at)) r

-- the same of what stands at the place
pub has-at : (ns : List ℕ) (zs : List SessionKept) (n i : ℕ) (r : SessionKept) → ns ≡ numbers_of zs → AreRising ns → IsThere ns n i → r ≡ get_or zs i r → Has zs n i (get_or zs i r)
has-at ns zs n i r same rise there is = has ns zs n i (get_or zs i r) same rise there (ap (λ (d : SessionKept). get_or zs i d) is)
