-- A session that goes to the gap for its number.
use Rattle.std.proofs.Common.{◌≡◌, ℕ, ◌<◌, ◌≤◌, List, length, get_or, Option, Some, sym, ap, ◌∙◌, subst, arith}
use Rattle.std.specs.List.{insert}
use Rattle.std.proofs.lemmas.List.{length-map}
use Rattle.std.proofs.lemmas.List.Edits.{get_or-insert_at, length-insert}
use Rattle.records.specs.declared.session.SessionKept.{SessionKept}
use Rattle.records.specs.Book.{entered}
use Rattle.records.specs.Seen.{session_seen, sessions_seen, numbers_of, AreRising, kept_of, IsGap}
use Rattle.records.proofs.Sessions as s

-- the gap among the numbers of the sessions
pub gap : (ns : List ℕ) (zs : List SessionKept) (n i : ℕ) → ns ≡ numbers_of zs → IsGap ns n i → IsGap (numbers_of zs) n i
gap ns zs n i same h = subst (λ (l : List ℕ). IsGap l n i) same h

pub seen : (zs : List SessionKept) (i : ℕ) (new : SessionKept) → IsGap (numbers_of zs) new.number i → sessions_seen (insert zs i new) ≡ entered (session_seen new) (sessions_seen zs)
seen zs i new h = sym (s.entered_there zs i new h.within h.smaller h.greater)

pub rising : (zs : List SessionKept) (i n : ℕ) → IsGap (numbers_of zs) n i → AreRising (numbers_of zs) → AreRising (insert (numbers_of zs) i n)
rising zs i n h rise = s.rising-insert (numbers_of zs) i n h.within h.smaller h.greater rise

length-numbers : (zs : List SessionKept) → length (numbers_of zs) ≡ length zs
length-numbers zs = length-map zs (λ (z : SessionKept). z.number)

numbers_at : (ns : List ℕ) (i n : ℕ) → i ≤ length ns → (get_or (insert ns i n) i 0 ≡ n) × (i < length (insert ns i n))
numbers_at ns i n le = (get_or-insert_at ns i n 0 le, let e = length-insert ns i n le in omega arith)

pub kept : (zs : List SessionKept) (i : ℕ) (new : SessionKept) → IsGap (numbers_of zs) new.number i → AreRising (numbers_of zs) → kept_of (insert zs i new) new.number ≡ Some new
kept zs i new h rise =
    let same : numbers_of (insert zs i new) ≡ insert (numbers_of zs) i new.number = s.numbers-insert zs i new in
    let up : AreRising (numbers_of (insert zs i new)) = subst AreRising (sym same) (rising zs i new.number h rise) in
    let at = numbers_at (numbers_of zs) i new.number h.within in
    let is : get_or (numbers_of (insert zs i new)) i 0 ≡ new.number = ap (λ (l : List ℕ). get_or l i 0) same ∙ at.0 in
    let lt : i < length (numbers_of (insert zs i new)) = subst (λ (l : List ℕ). i < length l) (sym same) at.1 in
    s.kept_there (insert zs i new) new.number i new up lt is ∙ ap (λ (z : SessionKept). let o : Option SessionKept = Some z in o) (s.get-insert_at zs i new new (subst (λ (k : ℕ). i ≤ k) (length-numbers zs) h.within))
