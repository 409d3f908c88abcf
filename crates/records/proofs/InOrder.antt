-- The containers of a session are divided into its records: call by call.
use Rattle.std.proofs.Common.{◌≡◌, ℕ, ◌+◌, eqb, ltb, cond, Bool, true, false, List, [], ◌∷◌, ◌++◌, length, Option, Some, None, refl, sym, ap, ◌∙◌, subst, append_assoc, arith}
use Rattle.std.specs.Prelude.{IfSome, IsSome}
use mathlib.Core.Bool.{false≢true}
use Rattle.std.proofs.lemmas.Bool.{eq-eqb}
use Rattle.std.proofs.lemmas.Bool.Decides.{nat_tests}
use Rattle.std.proofs.lemmas.List.{append-nil}
use Rattle.units.specs.declared.request.UnitUsage.{UnitUsage}
use Rattle.records.specs.declared.limits.RecordLimits.{RecordLimits}
use Rattle.records.specs.declared.record.Kept.{Kept}
use Rattle.records.specs.declared.filing.Filing.{Filing}
use Rattle.records.specs.declared.filing.Filing.TheVariants.{Begun, Added, Ended, ClosedAll}
use Rattle.records.specs.Usage.{with_entry, with_usage}
use Rattle.records.specs.Closing.{opened, with_added, closed_as}
use Rattle.records.specs.Book.{Session, Records, session_of, open_in, open_of, entered, with_open, reopened, and_closed, cause_of, settled, added, ended, sweeping, swept, all_swept, with_one, after, records_after}
use Rattle.records.specs.Once.{MayCome}
use Rattle.records.specs.InOrder.{closed_usages, open_usages, usages_of, entries_by, entries_of, AreDivided, ContainersInOrder}
use Rattle.records.proofs.Once.{AllOwn, own_of, all_own}

-- ---- stretches

with_usage-append : (u a b : List UnitUsage) → with_usage u (a ++ b) ≡ with_usage (with_usage u a) b
with_usage-append u [] b = refl
with_usage-append u (e ∷ es) b = with_usage-append (with_entry u e) es b

-- more comes to the last record
more : (us : List (List UnitUsage)) (u entries used : List UnitUsage) → AreDivided (us ++ u ∷ []) entries → AreDivided (us ++ with_usage u used ∷ []) (entries ++ used)
more [] u entries used h =
    let all : entries ≡ h.0 = h.2 ∙ ap (λ (z : List UnitUsage). h.0 ++ z) h.4 ∙ append-nil h.0 in (
      h.0 ++ used,
      [],
      ap (λ (z : List UnitUsage). z ++ used) all ∙ sym (append-nil (h.0 ++ used)),
      ap (λ (z : List UnitUsage). with_usage z used) h.3 ∙ sym (with_usage-append [] h.0 used),
      refl,
    )
more (v ∷ us) u entries used h = (h.0, h.1 ++ used, ap (λ (z : List UnitUsage). z ++ used) h.2 ∙ append_assoc h.0 h.1 used, h.3, more us u h.1 used h.4)

-- another record opens
fresh : (us : List (List UnitUsage)) (entries : List UnitUsage) → AreDivided us entries → AreDivided (us ++ [] ∷ []) entries
fresh [] entries h = ([], [], h, refl, refl)
fresh (v ∷ us) entries h = (h.0, h.1, h.2, h.3, fresh us h.1 h.4)

nothing_more : (us : List (List UnitUsage)) (entries : List UnitUsage) → AreDivided us entries → AreDivided us (entries ++ [])
nothing_more us entries h = subst (AreDivided us) (sym (append-nil entries)) h

-- ---- closed records

closed_by : (n : ℕ) (us : List (List UnitUsage)) (u : List UnitUsage) (more : List (List UnitUsage)) (b : Bool) → cond b (u ∷ (us ++ more)) (us ++ more) ≡ cond b (u ∷ us) us ++ more
closed_by n us u more true = refl
closed_by n us u more false = refl

closed_usages-push : (n : ℕ) (ks : List Kept) (k : Kept) → closed_usages n (ks ++ k ∷ []) ≡ closed_usages n ks ++ cond (eqb k.session n) (k.usage ∷ []) []
closed_usages-push n [] k = refl
closed_usages-push n (j ∷ js) k =
    let m : List (List UnitUsage) = cond (eqb k.session n) (k.usage ∷ []) [] in
    ap (λ (z : List (List UnitUsage)). cond (eqb j.session n) (j.usage ∷ z) z) (closed_usages-push n js k) ∙ closed_by n (closed_usages n js) j.usage m (eqb j.session n)

own_closed : (n : ℕ) (ks : List Kept) (k : Kept) (cause stamp : ℕ) → k.session ≡ n → closed_usages n (and_closed ks k cause stamp) ≡ closed_usages n ks ++ k.usage ∷ []
own_closed n ks k cause stamp is =
    let same : eqb k.session n ≡ true = eq-eqb k.session n is in
    closed_usages-push n ks (closed_as k cause stamp (length ks + 1)) ∙ ap (λ (b : Bool). closed_usages n ks ++ cond b (k.usage ∷ []) []) same

other_closed : (n : ℕ) (ks : List Kept) (k : Kept) (cause stamp : ℕ) → eqb k.session n ≡ false → closed_usages n (and_closed ks k cause stamp) ≡ closed_usages n ks
other_closed n ks k cause stamp is =
    closed_usages-push n ks (closed_as k cause stamp (length ks + 1)) ∙ ap (λ (b : Bool). closed_usages n ks ++ cond b (k.usage ∷ []) []) is ∙ append-nil (closed_usages n ks)

-- a session's record is closed or not, and the next one opens
abbrev Both : ℕ → Option Kept × List Kept → List UnitUsage → Type 0
Both n x entries = AreDivided (closed_usages n x.1 ++ open_usages x.0) entries

own_settled : (n : ℕ) (k : Kept) (cause : Option ℕ) (stamp : ℕ) (closed : List Kept) (entries : List UnitUsage) → k.session ≡ n → Both n (Some k, closed) entries → Both n (settled k cause stamp closed) entries
own_settled n k None stamp closed entries is h = h
own_settled n k (Some cause) stamp closed entries is h =
    subst (λ (z : List (List UnitUsage)). AreDivided (z ++ [] ∷ []) entries) (sym (own_closed n closed k cause stamp is)) (fresh (closed_usages n closed ++ k.usage ∷ []) entries h)

other_settled : (n : ℕ) (k : Kept) (cause : Option ℕ) (stamp : ℕ) (closed : List Kept) → eqb k.session n ≡ false → closed_usages n (settled k cause stamp closed).1 ≡ closed_usages n closed
other_settled n k None stamp closed is = refl
other_settled n k (Some cause) stamp closed is = other_closed n closed k cause stamp is

own_swept : (n stamp : ℕ) (o : Option Kept) (closed : List Kept) (entries : List UnitUsage) → IfSome o (λ k. k.session ≡ n) → Both n (o, closed) entries → Both n (swept stamp o closed) entries
own_swept n stamp None closed entries is h = h
own_swept n stamp (Some k) closed entries is h = own_settled n k (sweeping k) stamp closed entries is h

differ : (a b n : ℕ) → a ≡ b → eqb b n ≡ false → eqb a n ≡ false
differ a b n same ne = ap (λ (m : ℕ). eqb m n) same ∙ ne

other_swept : (n m stamp : ℕ) (o : Option Kept) (closed : List Kept) → eqb m n ≡ false → IfSome o (λ k. k.session ≡ m) → closed_usages n (swept stamp o closed).1 ≡ closed_usages n closed
other_swept n m stamp None closed ne is = refl
other_swept n m stamp (Some k) closed ne is = other_settled n k (sweeping k) stamp closed (differ k.session m n is ne)

-- ---- the sessions of a book

found_by : (a b : Option Session) (c : Bool) → c ≡ true → cond c a b ≡ a
found_by a b c is = ap (λ (t : Bool). cond t a b) is

passed_by : (a b : Option Session) (c : Bool) → c ≡ false → cond c a b ≡ b
passed_by a b c is = ap (λ (t : Bool). cond t a b) is

reopened_same : (zs : List Session) (n : ℕ) (u : Option Kept) → IsSome (session_of zs n) → open_of (reopened n u zs) n ≡ u
reopened_same [] n u some = absurd (false≢true some)
reopened_same (z ∷ zs) n u some = by (λ s. reopened_same zs n u s) (eqb z.number n) refl some where
  by : (IsSome (session_of zs n) → open_of (reopened n u zs) n ≡ u) → (b : Bool) → eqb z.number n ≡ b → IsSome (cond b (Some z) (session_of zs n)) → open_of (cond b (with_open u z ∷ zs) (z ∷ reopened n u zs)) n ≡ u
  by r true t s = ap open_in (found_by (Some (with_open u z)) (session_of zs n) (eqb z.number n) t)
  by r false t s = ap open_in (passed_by (Some z) (session_of (reopened n u zs) n) (eqb z.number n) t) ∙ r s

reopened_other : (zs : List Session) (m n : ℕ) (u : Option Kept) → eqb m n ≡ false → open_of (reopened m u zs) n ≡ open_of zs n
reopened_other [] m n u ne = refl
reopened_other (z ∷ zs) m n u ne = by (reopened_other zs m n u ne) (eqb z.number m) refl where
  same : eqb z.number m ≡ true → eqb z.number n ≡ false
  same t = let e : z.number ≡ m = grind (arith, nat_tests) in differ z.number m n e ne

  rest : open_of (reopened m u zs) n ≡ open_of zs n → (b : Bool) → open_in (cond b (Some z) (session_of (reopened m u zs) n)) ≡ open_in (cond b (Some z) (session_of zs n))
  rest r true = refl
  rest r false = r

  by : open_of (reopened m u zs) n ≡ open_of zs n → (b : Bool) → eqb z.number m ≡ b → open_of (cond b (with_open u z ∷ zs) (z ∷ reopened m u zs)) n ≡ open_of (z ∷ zs) n
  by r true t = ap open_in (passed_by (Some (with_open u z)) (session_of zs n) (eqb z.number n) (same t)) ∙ sym (ap open_in (passed_by (Some z) (session_of zs n) (eqb z.number n) (same t)))
  by r false t = rest r (eqb z.number n)

none_reopened : (zs : List Session) (m n : ℕ) (u : Option Kept) → session_of zs n ≡ None → session_of (reopened m u zs) n ≡ None
none_reopened [] m n u h = refl
none_reopened (z ∷ zs) m n u h = by (λ s. none_reopened zs m n u s) (eqb z.number m) (eqb z.number n) refl h where
  by : (session_of zs n ≡ None → session_of (reopened m u zs) n ≡ None) → (b c : Bool) → eqb z.number n ≡ c → cond c (Some z) (session_of zs n) ≡ None → session_of (cond b (with_open u z ∷ zs) (z ∷ reopened m u zs)) n ≡ None
  by r b true t s = absurd cc
  by r true false t s = passed_by (Some (with_open u z)) (session_of zs n) (eqb z.number n) t ∙ s
  by r false false t s = passed_by (Some z) (session_of (reopened m u zs) n) (eqb z.number n) t ∙ r s

entered_same : (new : Session) (zs : List Session) → session_of zs new.number ≡ None → session_of (entered new zs) new.number ≡ Some new
entered_same new [] h = found_by (Some new) None (eqb new.number new.number) (eq-eqb new.number new.number refl)
entered_same new (z ∷ zs) h = by (λ s. entered_same new zs s) (ltb new.number z.number) (eqb z.number new.number) refl h where
  by : (session_of zs new.number ≡ None → session_of (entered new zs) new.number ≡ Some new) → (b c : Bool) → eqb z.number new.number ≡ c → cond c (Some z) (session_of zs new.number) ≡ None → session_of (cond b (new ∷ z ∷ zs) (z ∷ entered new zs)) new.number ≡ Some new
  by r b true t s = absurd cc
  by r true false t s = found_by (Some new) (session_of (z ∷ zs) new.number) (eqb new.number new.number) (eq-eqb new.number new.number refl)
  by r false false t s = passed_by (Some z) (session_of (entered new zs) new.number) (eqb z.number new.number) t ∙ r s

entered_other : (new : Session) (zs : List Session) (n : ℕ) → eqb new.number n ≡ false → session_of (entered new zs) n ≡ session_of zs n
entered_other new [] n ne = passed_by (Some new) None (eqb new.number n) ne
entered_other new (z ∷ zs) n ne = by (entered_other new zs n ne) (ltb new.number z.number) where
  by : session_of (entered new zs) n ≡ session_of zs n → (b : Bool) → session_of (cond b (new ∷ z ∷ zs) (z ∷ entered new zs)) n ≡ session_of (z ∷ zs) n
  by r true = passed_by (Some new) (session_of (z ∷ zs) n) (eqb new.number n) ne
  by r false = ap (λ (o : Option Session). cond (eqb z.number n) (Some z) o) r

-- no number stands twice
abbrev Apart : List Session → Type 0
Apart [] = Unit {0}
Apart (z ∷ zs) = (session_of zs z.number ≡ None) × Apart zs

differs : (z : Session) (zs : List Session) (n : ℕ) → session_of (z ∷ zs) n ≡ None → (eqb n z.number ≡ false) × (session_of zs n ≡ None)
differs z zs n h = by (eqb z.number n) refl h where
  by : (b : Bool) → eqb z.number n ≡ b → cond b (Some z) (session_of zs n) ≡ None → (eqb n z.number ≡ false) × (session_of zs n ≡ None)
  by true t s = absurd cc
  by false t s = (grind (arith, nat_tests), s)

apart_entered : (new : Session) (zs : List Session) → session_of zs new.number ≡ None → Apart zs → Apart (entered new zs)
apart_entered new [] none apart = (refl, tt)
apart_entered new (z ∷ zs) none apart = by (apart_entered new zs (differs z zs new.number none).1 apart.1) (ltb new.number z.number) where
  by : Apart (entered new zs) → (b : Bool) → Apart (cond b (new ∷ z ∷ zs) (z ∷ entered new zs))
  by r true = (none, apart)
  by r false = (entered_other new zs z.number (differs z zs new.number none).0 ∙ apart.0, r)

apart_reopened : (zs : List Session) (m : ℕ) (u : Option Kept) → Apart zs → Apart (reopened m u zs)
apart_reopened [] m u apart = tt
apart_reopened (z ∷ zs) m u apart = by (apart_reopened zs m u apart.1) (eqb z.number m) where
  by : Apart (reopened m u zs) → (b : Bool) → Apart (cond b (with_open u z ∷ zs) (z ∷ reopened m u zs))
  by r true = apart
  by r false = (none_reopened zs m z.number u apart.0, r)

none_swept : (zs : List Session) (stamp : ℕ) (closed : List Kept) (n : ℕ) → session_of zs n ≡ None → session_of (all_swept zs stamp closed).sessions n ≡ None
none_swept [] stamp closed n h = refl
none_swept (z ∷ zs) stamp closed n h = by (λ s. none_swept zs stamp (swept stamp z.unclosed closed).1 n s) (eqb z.number n) h where
  by : (session_of zs n ≡ None → session_of (all_swept zs stamp (swept stamp z.unclosed closed).1).sessions n ≡ None) → (b : Bool) → cond b (Some z) (session_of zs n) ≡ None → cond b (Some (with_open (swept stamp z.unclosed closed).0 z)) (session_of (all_swept zs stamp (swept stamp z.unclosed closed).1).sessions n) ≡ None
  by r true s = absurd cc
  by r false s = r s

apart_swept : (zs : List Session) (stamp : ℕ) (closed : List Kept) → Apart zs → Apart (all_swept zs stamp closed).sessions
apart_swept [] stamp closed apart = tt
apart_swept (z ∷ zs) stamp closed apart = (none_swept zs stamp (swept stamp z.unclosed closed).1 z.number apart.0, apart_swept zs stamp (swept stamp z.unclosed closed).1 apart.1)

apart_after : (l : RecordLimits) (f : Filing) (b : Records) → MayCome b f → Apart b.sessions → Apart (after l f b).sessions
apart_after l (Begun number subscriber consumer charging_id stamp) b may apart = apart_entered _ b.sessions may apart
apart_after l (Added number used stamp last) b may apart = apart_reopened b.sessions number _ apart
apart_after l (Ended number cause stamp) b may apart = apart_reopened b.sessions number _ apart
apart_after l (ClosedAll stamp) b may apart = apart_swept b.sessions stamp b.closed apart

-- ---- closing all

unswept : (zs : List Session) (stamp n : ℕ) (closed : List Kept) → AllOwn zs → session_of zs n ≡ None → closed_usages n (all_swept zs stamp closed).closed ≡ closed_usages n closed
unswept [] stamp n closed own none = refl
unswept (z ∷ zs) stamp n closed own none =
    let d = differs z zs n none in
    let ne : eqb z.number n ≡ false = grind (arith, nat_tests, d.0) in
    unswept zs stamp n (swept stamp z.unclosed closed).1 own.1 d.1 ∙ other_swept n z.number stamp z.unclosed closed ne own.0

all_divided : (zs : List Session) (stamp n : ℕ) (closed : List Kept) (entries : List UnitUsage) → AllOwn zs → Apart zs → Both n (open_of zs n, closed) entries → AreDivided (usages_of n (all_swept zs stamp closed)) entries
all_divided [] stamp n closed entries own apart h = h
all_divided (z ∷ zs) stamp n closed entries own apart h = by (λ s. all_divided zs stamp n (swept stamp z.unclosed closed).1 entries own.1 apart.1 s) (eqb z.number n) refl h where
  by : (Both n (open_of zs n, (swept stamp z.unclosed closed).1) entries → AreDivided (usages_of n (all_swept zs stamp (swept stamp z.unclosed closed).1)) entries) → (b : Bool) → eqb z.number n ≡ b → Both n (open_in (cond b (Some z) (session_of zs n)), closed) entries
      → AreDivided (closed_usages n (all_swept zs stamp (swept stamp z.unclosed closed).1).closed ++ open_usages (open_in (cond b (Some (with_open (swept stamp z.unclosed closed).0 z)) (session_of (all_swept zs stamp (swept stamp z.unclosed closed).1).sessions n)))) entries
  by r true t s =
      let same : z.number ≡ n = grind (arith, nat_tests) in
      let none : session_of zs n ≡ None = subst (λ (m : ℕ). session_of zs m ≡ None) same apart.0 in
      let mine : IfSome z.unclosed (λ k. k.session ≡ n) = subst (λ (m : ℕ). IfSome z.unclosed (λ k. k.session ≡ m)) same own.0 in
      subst (λ (c : List (List UnitUsage)). AreDivided (c ++ open_usages (swept stamp z.unclosed closed).0) entries) (sym (unswept zs stamp n (swept stamp z.unclosed closed).1 own.1 none)) (own_swept n stamp z.unclosed closed entries mine s)
  by r false t s = r (subst (λ (c : List (List UnitUsage)). AreDivided (c ++ open_usages (open_of zs n)) entries) (sym (other_swept n z.number stamp z.unclosed closed t own.0)) s)

-- ---- one call

some_session : (zs : List Session) (n : ℕ) (k : Kept) → open_of zs n ≡ Some k → IsSome (session_of zs n)
some_session zs n k is = by (session_of zs n) is where
  by : (o : Option Session) → open_in o ≡ Some k → IsSome o
  by None s = absurd cc
  by (Some z) s = refl

-- a call that concerns this session and its record
own_changed : (b : Records) (n : ℕ) (x : Option Kept × List Kept) (entries : List UnitUsage) → IsSome (session_of b.sessions n) → Both n x entries → AreDivided (usages_of n (with_one n b x)) entries
own_changed b n x entries some h = subst (λ (o : Option Kept). AreDivided (closed_usages n x.1 ++ open_usages o) entries) (sym (reopened_same b.sessions n x.0 some)) h

-- and one that concerns another
other_changed : (b : Records) (m n : ℕ) (x : Option Kept × List Kept) (entries : List UnitUsage) → eqb m n ≡ false → closed_usages n x.1 ≡ closed_usages n b.closed → AreDivided (usages_of n b) entries → AreDivided (usages_of n (with_one m b x)) entries
other_changed b m n x entries ne is h =
    subst (λ (o : Option Kept). AreDivided (closed_usages n x.1 ++ open_usages o) entries) (sym (reopened_other b.sessions m n x.0 ne)) (subst (λ (c : List (List UnitUsage)). AreDivided (c ++ open_usages (open_of b.sessions n)) entries) (sym is) h)

open_none : (zs : List Session) (n : ℕ) → open_of zs n ≡ None → open_of (reopened n None zs) n ≡ None
open_none [] n e = refl
open_none (z ∷ zs) n e = by (λ s. open_none zs n s) (eqb z.number n) refl e where
  by : (open_of zs n ≡ None → open_of (reopened n None zs) n ≡ None) → (t : Bool) → eqb z.number n ≡ t → open_in (cond t (Some z) (session_of zs n)) ≡ None → open_of (cond t (with_open None z ∷ zs) (z ∷ reopened n None zs)) n ≡ None
  by r true t s = ap open_in (found_by (Some (with_open None z)) (session_of zs n) (eqb z.number n) t)
  by r false t s = ap open_in (passed_by (Some z) (session_of (reopened n None zs) n) (eqb z.number n) t) ∙ r s

module _ (n : ℕ) (entries : List UnitUsage) where
  begun_divided : (b : Records) (new : Session) (k : Kept) → new.unclosed ≡ Some k → k.usage ≡ [] → session_of b.sessions new.number ≡ None → AreDivided (usages_of n b) entries → AreDivided (closed_usages n b.closed ++ open_usages (open_of (entered new b.sessions) n)) entries
  begun_divided b new k opens empty none h = by (eqb new.number n) refl where
    by : (t : Bool) → eqb new.number n ≡ t → AreDivided (closed_usages n b.closed ++ open_usages (open_of (entered new b.sessions) n)) entries
    by true t =
        let same : new.number ≡ n = grind (arith, nat_tests) in
        let before : open_of b.sessions n ≡ None = ap open_in (subst (λ (m : ℕ). session_of b.sessions m ≡ None) same none) in
        let now : open_of (entered new b.sessions) n ≡ Some k = ap open_in (subst (λ (m : ℕ). session_of (entered new b.sessions) m ≡ Some new) same (entered_same new b.sessions none)) ∙ opens in
        let shut : AreDivided (closed_usages n b.closed) entries =
        subst (λ (z : List (List UnitUsage)). AreDivided z entries) (append-nil (closed_usages n b.closed)) (subst (λ (o : Option Kept). AreDivided (closed_usages n b.closed ++ open_usages o) entries) before h) in
        subst (λ (o : Option Kept). AreDivided (closed_usages n b.closed ++ open_usages o) entries) (sym now)
        (subst (λ (u : List UnitUsage). AreDivided (closed_usages n b.closed ++ u ∷ []) entries) (sym empty) (fresh (closed_usages n b.closed) entries shut))
    by false t = subst (λ (o : Option Kept). AreDivided (closed_usages n b.closed ++ open_usages o) entries) (sym (ap open_in (entered_other new b.sessions n t))) h

  added_divided : (l : RecordLimits) (b : Records) (m : ℕ) (used : List UnitUsage) (stamp : ℕ) (last : Bool) (o : Option Kept) → open_of b.sessions m ≡ o → IsSome o → IfSome o (λ k. k.session ≡ m) → AreDivided (usages_of n b) entries
      → AreDivided (usages_of n (with_one m b (added l used stamp last o b.closed))) (entries ++ cond (eqb m n) used [])
  added_divided l b m used stamp last None is some own h = absurd (false≢true some)
  added_divided l b m used stamp last (Some k) is some own h = by (eqb m n) refl where
    by : (t : Bool) → eqb m n ≡ t → AreDivided (usages_of n (with_one m b (added l used stamp last (Some k) b.closed))) (entries ++ cond t used [])
    by true t =
        let same : m ≡ n = grind (arith, nat_tests) in
        let here : AreDivided (closed_usages n b.closed ++ k.usage ∷ []) entries =
        subst (λ (o : Option Kept). AreDivided (closed_usages n b.closed ++ open_usages o) entries) (subst (λ (j : ℕ). open_of b.sessions j ≡ Some k) same is) h in
        let x = added l used stamp last (Some k) b.closed in
        subst (λ (j : ℕ). AreDivided (usages_of n (with_one j b x)) (entries ++ used)) (sym same)
        (own_changed b n x (entries ++ used) (some_session b.sessions n k (subst (λ (j : ℕ). open_of b.sessions j ≡ Some k) same is))
        (own_settled n (with_added k used) (cause_of l last (with_added k used) stamp) stamp b.closed (entries ++ used) (own ∙ same) (more (closed_usages n b.closed) k.usage entries used here)))
    by false t =
        nothing_more _ entries
        (other_changed b m n (added l used stamp last (Some k) b.closed) entries t (other_settled n (with_added k used) (cause_of l last (with_added k used) stamp) stamp b.closed (differ k.session m n own t)) h)

  ended_divided : (b : Records) (m cause stamp : ℕ) (o : Option Kept) → open_of b.sessions m ≡ o → IfSome o (λ k. k.session ≡ m) → AreDivided (usages_of n b) entries → AreDivided (usages_of n (with_one m b (ended cause stamp o b.closed))) entries
  ended_divided b m cause stamp None is own h = by (eqb m n) refl where
    by : (t : Bool) → eqb m n ≡ t → AreDivided (usages_of n (with_one m b (None, b.closed))) entries
    by true t =
        let same : m ≡ n = grind (arith, nat_tests) in
        let none : open_of b.sessions n ≡ None = subst (λ (j : ℕ). open_of b.sessions j ≡ None) same is in
        let after : open_of (reopened m None b.sessions) n ≡ open_of b.sessions n = ap (λ (j : ℕ). open_of (reopened j None b.sessions) n) same ∙ open_none b.sessions n none ∙ sym none in
        subst (λ (o : Option Kept). AreDivided (closed_usages n b.closed ++ open_usages o) entries) (sym after) h
    by false t = other_changed b m n (None, b.closed) entries t refl h
  ended_divided b m cause stamp (Some k) is own h = by (eqb m n) refl where
    by : (t : Bool) → eqb m n ≡ t → AreDivided (usages_of n (with_one m b (None, and_closed b.closed k cause stamp))) entries
    by true t =
        let same : m ≡ n = grind (arith, nat_tests) in
        let at : open_of b.sessions n ≡ Some k = subst (λ (j : ℕ). open_of b.sessions j ≡ Some k) same is in
        let here : AreDivided (closed_usages n b.closed ++ k.usage ∷ []) entries = subst (λ (o : Option Kept). AreDivided (closed_usages n b.closed ++ open_usages o) entries) at h in
        let all : closed_usages n (and_closed b.closed k cause stamp) ++ [] ≡ closed_usages n b.closed ++ k.usage ∷ [] = append-nil (closed_usages n (and_closed b.closed k cause stamp)) ∙ own_closed n b.closed k cause stamp (own ∙ same) in
        subst (λ (j : ℕ). AreDivided (usages_of n (with_one j b (None, and_closed b.closed k cause stamp))) entries) (sym same)
        (own_changed b n (None, and_closed b.closed k cause stamp) entries (some_session b.sessions n k at) (subst (λ (z : List (List UnitUsage)). AreDivided z entries) (sym all) here))
    by false t = other_changed b m n (None, and_closed b.closed k cause stamp) entries t (other_closed n b.closed k cause stamp (differ k.session m n own t)) h

  step : (l : RecordLimits) (f : Filing) (b : Records) → AllOwn b.sessions → Apart b.sessions → MayCome b f → AreDivided (usages_of n b) entries → AreDivided (usages_of n (after l f b)) (entries ++ entries_by n f)
  step l (Begun number subscriber consumer charging_id stamp) b own apart may h =
      nothing_more _ entries (begun_divided b (record { number = number; subscriber = subscriber; consumer = consumer; charging_id = charging_id; unclosed = Some (opened number stamp 1) }) (opened number stamp 1) refl refl may h)
  step l (Added number used stamp last) b own apart may h = added_divided l b number used stamp last (open_of b.sessions number) refl may (own_of b.sessions number own (open_of b.sessions number) refl) h
  step l (Ended number cause stamp) b own apart may h = nothing_more _ entries (ended_divided b number cause stamp (open_of b.sessions number) refl (own_of b.sessions number own (open_of b.sessions number) refl) h)
  step l (ClosedAll stamp) b own apart may h = nothing_more _ entries (all_divided b.sessions stamp n b.closed entries own apart h)

-- ---- every list of calls

abbrev May : RecordLimits → List Filing → Type 0
May l [] = Unit {0}
May l (f ∷ fs) = MayCome (records_after l fs) f × May l fs

all_apart : (l : RecordLimits) (fs : List Filing) → May l fs → Apart (records_after l fs).sessions
all_apart l [] may = tt
all_apart l (f ∷ fs) may = apart_after l f (records_after l fs) may.0 (all_apart l fs may.1)

divided : (l : RecordLimits) (fs : List Filing) (n : ℕ) → May l fs → AreDivided (usages_of n (records_after l fs)) (entries_of n fs)
divided l [] n may = refl
divided l (f ∷ fs) n may = step n (entries_of n fs) l f (records_after l fs) (all_own l fs) (all_apart l fs may.1) may.0 (divided l fs n may.1)

pub in_order : ContainersInOrder
in_order l fs n may = divided l fs n may
