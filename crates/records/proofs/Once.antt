-- Each container stands in one record: call by call.
use Rattle.std.proofs.Common.{◌≡◌, ℕ, ◌+◌, eqb, ltb, cond, Bool, true, false, List, [], ◌∷◌, ◌++◌, length, Option, Some, None, sum_by, refl, sym, ap, ◌∙◌, subst, arith}
use Rattle.std.specs.Prelude.{IfSome, IsSome}
use mathlib.Core.Bool.{false≢true}
use Rattle.std.proofs.lemmas.Bool.Decides.{nat_tests}
use Rattle.std.proofs.lemmas.List.Sums.{sum_by_push, sum_by-cons}
use Rattle.units.specs.declared.request.Used.{Used}
use Rattle.units.specs.declared.request.UnitUsage.{UnitUsage}
use Rattle.records.specs.declared.limits.RecordLimits.{RecordLimits}
use Rattle.records.specs.declared.record.Kept.{Kept}
use Rattle.records.specs.declared.filing.Filing.{Filing}
use Rattle.records.specs.declared.filing.Filing.TheVariants.{Begun, Added, Ended, ClosedAll}
use Rattle.records.specs.Usage.{with_entry, with_usage}
use Rattle.records.specs.Sums.{total}
use Rattle.records.specs.Closing.{opened, with_added, closed_as, next_of}
use Rattle.records.specs.Book.{Session, Records, session_of, open_in, open_of, entered, with_open, reopened, and_closed, cause_of, settled, added, ended, sweeping, swept, all_swept, with_one, after, records_after}
use Rattle.records.specs.Once.{stands_in, stands_open, stand, came_by, MayCome, ContainersStandOnce}
use Rattle.records.proofs.Added.{total-with_group}

-- ---- the containers of a record

entry_by : (f : Used → ℕ) (us : List UnitUsage) (q : ℕ) (used : List Used) → total f (with_entry us (record { group = q; ask = None; used = used })) ≡ total f us + sum_by f used
entry_by f us q [] = omega arith
entry_by f us q (x ∷ xs) = let some : eqb (length (x ∷ xs)) 0 ≡ false = grind (arith, nat_tests) in rw some (total-with_group f us q (x ∷ xs))

total-with_entry : (f : Used → ℕ) (us : List UnitUsage) (e : UnitUsage) → total f (with_entry us e) ≡ total f us + sum_by f e.used
total-with_entry f us e = entry_by f us e.group e.used

add_first : (a b n m k : ℕ) → n ≡ a + b → k ≡ b + m → n + m ≡ a + k
add_first a b n m k e g = omega arith

total-with_usage : (f : Used → ℕ) (us es : List UnitUsage) → total f (with_usage us es) ≡ total f us + total f es
total-with_usage f us [] = omega arith
total-with_usage f us (e ∷ es) =
    total-with_usage f (with_entry us e) es ∙ add_first (total f us) (sum_by f e.used) (total f (with_entry us e)) (total f es) (total f (e ∷ es)) (total-with_entry f us e) (sum_by-cons (λ (u : UnitUsage). sum_by f u.used) e es)

-- ---- a record and the closed ones

module _ (f : Used → ℕ) (n : ℕ) where
  abbrev over_closed : List Kept → ℕ
  over_closed closed = sum_by (stands_in f n) closed

  abbrev over_open : List Session → ℕ
  over_open zs = sum_by (λ (z : Session). stands_open f n z.unclosed) zs

  closed_more : (closed : List Kept) (k : Kept) → over_closed (closed ++ k ∷ []) ≡ over_closed closed + stands_in f n k
  closed_more closed k = sum_by_push (stands_in f n) closed k

  empty_stands : (session stamp sequence : ℕ) → stands_in f n (opened session stamp sequence) ≡ 0
  empty_stands session stamp sequence = by (eqb session n) where
    by : (b : Bool) → cond b (total f []) 0 ≡ 0
    by true = refl
    by false = refl

  abbrev both : Option Kept × List Kept → ℕ
  both x = stands_open f n x.0 + over_closed x.1

  settled_stands : (k : Kept) (cause : Option ℕ) (stamp : ℕ) (closed : List Kept) → both (settled k cause stamp closed) ≡ stands_in f n k + over_closed closed
  settled_stands k None stamp closed = refl
  settled_stands k (Some cause) stamp closed =
      let a : stands_in f n (next_of k stamp) ≡ 0 = empty_stands k.session stamp (k.sequence + 1) in
      let b : over_closed (and_closed closed k cause stamp) ≡ over_closed closed + stands_in f n k = closed_more closed (closed_as k cause stamp (length closed + 1)) in omega arith

  added_stands : (k : Kept) (used : List UnitUsage) → stands_in f n (with_added k used) ≡ stands_in f n k + cond (eqb k.session n) (total f used) 0
  added_stands k used = by (eqb k.session n) where
    by : (b : Bool) → cond b (total f (with_usage k.usage used)) 0 ≡ cond b (total f k.usage) 0 + cond b (total f used) 0
    by true = total-with_usage f k.usage used
    by false = refl

  ended_stands : (cause stamp : ℕ) (u : Option Kept) (closed : List Kept) → both (ended cause stamp u closed) ≡ stands_open f n u + over_closed closed
  ended_stands cause stamp None closed = refl
  ended_stands cause stamp (Some k) closed =
      let b : over_closed (and_closed closed k cause stamp) ≡ over_closed closed + stands_in f n k = closed_more closed (closed_as k cause stamp (length closed + 1)) in omega arith

  swept_stands : (stamp : ℕ) (u : Option Kept) (closed : List Kept) → both (swept stamp u closed) ≡ stands_open f n u + over_closed closed
  swept_stands stamp None closed = refl
  swept_stands stamp (Some k) closed = settled_stands k (sweeping k) stamp closed

  -- ---- one session of a book

  first_open : (z : Session) (zs : List Session) → over_open (z ∷ zs) ≡ stands_open f n z.unclosed + over_open zs
  first_open z zs = sum_by-cons (λ (y : Session). stands_open f n y.unclosed) z zs

  reopened_by : (z : Session) (zs : List Session) (m : ℕ) (u : Option Kept) (k : Kept) → (open_of zs m ≡ Some k → over_open (reopened m u zs) + stands_in f n k ≡ over_open zs + stands_open f n u)
      → (b : Bool) → open_in (cond b (Some z) (session_of zs m)) ≡ Some k → over_open (cond b (with_open u z ∷ zs) (z ∷ reopened m u zs)) + stands_in f n k ≡ over_open (z ∷ zs) + stands_open f n u
  reopened_by z zs m u k rest true is =
      let a = first_open (with_open u z) zs in let b = first_open z zs in
      let c : stands_open f n z.unclosed ≡ stands_in f n k = ap (λ (o : Option Kept). stands_open f n o) is in omega arith
  reopened_by z zs m u k rest false is =
      let a = first_open z (reopened m u zs) in let b = first_open z zs in let r = rest is in omega arith

  reopened_stands : (zs : List Session) (m : ℕ) (u : Option Kept) (k : Kept) → open_of zs m ≡ Some k → over_open (reopened m u zs) + stands_in f n k ≡ over_open zs + stands_open f n u
  reopened_stands [] m u k is = absurd cc
  reopened_stands (z ∷ zs) m u k is = reopened_by z zs m u k (λ e. reopened_stands zs m u k e) (eqb z.number m) is

  unopened_by : (z : Session) (zs : List Session) (m : ℕ) → (open_of zs m ≡ None → over_open (reopened m None zs) ≡ over_open zs)
      → (b : Bool) → open_in (cond b (Some z) (session_of zs m)) ≡ None → over_open (cond b (with_open None z ∷ zs) (z ∷ reopened m None zs)) ≡ over_open (z ∷ zs)
  unopened_by z zs m rest true is =
      let a = first_open (with_open None z) zs in let b = first_open z zs in
      let c : stands_open f n z.unclosed ≡ 0 = ap (λ (o : Option Kept). stands_open f n o) is in omega arith
  unopened_by z zs m rest false is = let a = first_open z (reopened m None zs) in let b = first_open z zs in let r = rest is in omega arith

  unopened_stands : (zs : List Session) (m : ℕ) → open_of zs m ≡ None → over_open (reopened m None zs) ≡ over_open zs
  unopened_stands [] m is = refl
  unopened_stands (z ∷ zs) m is = unopened_by z zs m (λ e. unopened_stands zs m e) (eqb z.number m) is

  entered_by : (new z : Session) (zs : List Session) → over_open (entered new zs) ≡ over_open zs + stands_open f n new.unclosed
      → (b : Bool) → over_open (cond b (new ∷ z ∷ zs) (z ∷ entered new zs)) ≡ over_open (z ∷ zs) + stands_open f n new.unclosed
  entered_by new z zs rest true = let a = first_open new (z ∷ zs) in omega arith
  entered_by new z zs rest false = let a = first_open z (entered new zs) in let b = first_open z zs in omega arith

  entered_stands : (new : Session) (zs : List Session) → over_open (entered new zs) ≡ over_open zs + stands_open f n new.unclosed
  entered_stands new [] = omega arith
  entered_stands new (z ∷ zs) = entered_by new z zs (entered_stands new zs) (ltb new.number z.number)

  all_swept_stand : (zs : List Session) (stamp : ℕ) (closed : List Kept) → stand f n (all_swept zs stamp closed) ≡ over_closed closed + over_open zs
  all_swept_stand [] stamp closed = refl
  all_swept_stand (z ∷ zs) stamp closed =
      let x = swept stamp z.unclosed closed in
      let a = first_open (with_open (swept stamp z.unclosed closed).0 z) (all_swept zs stamp (swept stamp z.unclosed closed).1).sessions in
      let b = first_open z zs in
      let r = all_swept_stand zs stamp (swept stamp z.unclosed closed).1 in
      let s = swept_stands stamp z.unclosed closed in omega arith

-- ---- an open record is of its session

abbrev pub Own : Session → Type 0
Own z = IfSome z.unclosed (λ k. k.session ≡ z.number)

abbrev pub AllOwn : List Session → Type 0
AllOwn [] = Unit {0}
AllOwn (z ∷ zs) = Own z × AllOwn zs

own_found_by : (z : Session) (zs : List Session) (m : ℕ) (k : Kept) → Own z → (open_of zs m ≡ Some k → k.session ≡ m) → (b : Bool) → eqb z.number m ≡ b → open_in (cond b (Some z) (session_of zs m)) ≡ Some k → k.session ≡ m
own_found_by z zs m k own rest true t is =
    let same : z.number ≡ m = grind (arith, nat_tests) in subst (λ (o : Option Kept). IfSome o (λ j. j.session ≡ z.number)) is own ∙ same
own_found_by z zs m k own rest false t is = rest is

own_found : (zs : List Session) (m : ℕ) (k : Kept) → AllOwn zs → open_of zs m ≡ Some k → k.session ≡ m
own_found [] m k own is = absurd cc
own_found (z ∷ zs) m k own is = own_found_by z zs m k own.0 (λ e. own_found zs m k own.1 e) (eqb z.number m) refl is

renumbered : (u : Option Kept) (m n : ℕ) → n ≡ m → IfSome u (λ k. k.session ≡ m) → IfSome u (λ k. k.session ≡ n)
renumbered u m n same h = subst (λ (j : ℕ). IfSome u (λ k. k.session ≡ j)) (sym same) h

own_reopened_by : (z : Session) (zs : List Session) (m : ℕ) (u : Option Kept) → Own z → AllOwn zs → IfSome u (λ k. k.session ≡ m) → AllOwn (reopened m u zs) → (b : Bool) → eqb z.number m ≡ b → AllOwn (cond b (with_open u z ∷ zs) (z ∷ reopened m u zs))
own_reopened_by z zs m u own all of rest true t = let same : z.number ≡ m = grind (arith, nat_tests) in (renumbered u m z.number same of, all)
own_reopened_by z zs m u own all of rest false t = (own, rest)

own_reopened : (zs : List Session) (m : ℕ) (u : Option Kept) → AllOwn zs → IfSome u (λ k. k.session ≡ m) → AllOwn (reopened m u zs)
own_reopened [] m u own of = tt
own_reopened (z ∷ zs) m u own of = own_reopened_by z zs m u own.0 own.1 of (own_reopened zs m u own.1 of) (eqb z.number m) refl

own_entered_by : (new z : Session) (zs : List Session) → Own new → Own z → AllOwn zs → AllOwn (entered new zs) → (b : Bool) → AllOwn (cond b (new ∷ z ∷ zs) (z ∷ entered new zs))
own_entered_by new z zs own first all rest true = (own, (first, all))
own_entered_by new z zs own first all rest false = (first, rest)

own_entered : (new : Session) (zs : List Session) → Own new → AllOwn zs → AllOwn (entered new zs)
own_entered new [] own all = (own, tt)
own_entered new (z ∷ zs) own all = own_entered_by new z zs own all.0 all.1 (own_entered new zs own all.1) (ltb new.number z.number)

own_settled : (k : Kept) (cause : Option ℕ) (stamp m : ℕ) (closed : List Kept) → k.session ≡ m → IfSome (settled k cause stamp closed).0 (λ j. j.session ≡ m)
own_settled k None stamp m closed same = same
own_settled k (Some cause) stamp m closed same = same

own_swept : (stamp m : ℕ) (u : Option Kept) (closed : List Kept) → IfSome u (λ k. k.session ≡ m) → IfSome (swept stamp u closed).0 (λ j. j.session ≡ m)
own_swept stamp m None closed own = tt
own_swept stamp m (Some k) closed own = own_settled k (sweeping k) stamp m closed own

own_all_swept : (zs : List Session) (stamp : ℕ) (closed : List Kept) → AllOwn zs → AllOwn (all_swept zs stamp closed).sessions
own_all_swept [] stamp closed own = tt
own_all_swept (z ∷ zs) stamp closed own = (own_swept stamp z.number z.unclosed closed own.0, own_all_swept zs stamp (swept stamp z.unclosed closed).1 own.1)

own_added : (l : RecordLimits) (used : List UnitUsage) (stamp : ℕ) (last : Bool) (u : Option Kept) (closed : List Kept) (m : ℕ) → IfSome u (λ k. k.session ≡ m) → IfSome (added l used stamp last u closed).0 (λ j. j.session ≡ m)
own_added l used stamp last None closed m own = tt
own_added l used stamp last (Some k) closed m own = own_settled (with_added k used) (cause_of l last (with_added k used) stamp) stamp m closed own

own_ended : (cause stamp : ℕ) (u : Option Kept) (closed : List Kept) (m : ℕ) → IfSome (ended cause stamp u closed).0 (λ j. j.session ≡ m)
own_ended cause stamp None closed m = tt
own_ended cause stamp (Some k) closed m = tt

pub own_of : (zs : List Session) (m : ℕ) → AllOwn zs → (o : Option Kept) → open_of zs m ≡ o → IfSome o (λ k. k.session ≡ m)
own_of zs m own None is = tt
own_of zs m own (Some k) is = own_found zs m k own is

own_after : (l : RecordLimits) (f : Filing) (b : Records) → AllOwn b.sessions → AllOwn (after l f b).sessions
own_after l (Begun number subscriber consumer charging_id stamp) b own = own_entered _ b.sessions refl own
own_after l (Added number used stamp last) b own = own_reopened b.sessions number _ own (own_added l used stamp last (open_of b.sessions number) b.closed number (own_of b.sessions number own (open_of b.sessions number) refl))
own_after l (Ended number cause stamp) b own = own_reopened b.sessions number _ own (own_ended cause stamp (open_of b.sessions number) b.closed number)
own_after l (ClosedAll stamp) b own = own_all_swept b.sessions stamp b.closed own

pub all_own : (l : RecordLimits) (fs : List Filing) → AllOwn (records_after l fs).sessions
all_own l [] = tt
all_own l (f ∷ fs) = own_after l f (records_after l fs) (all_own l fs)

-- ---- one call

module _ (f : Used → ℕ) (n : ℕ) where
  added_by : (l : RecordLimits) (b : Records) (m : ℕ) (used : List UnitUsage) (stamp : ℕ) (last : Bool) → AllOwn b.sessions → (o : Option Kept) → open_of b.sessions m ≡ o → IsSome o
      → stand f n (with_one m b (added l used stamp last o b.closed)) ≡ stand f n b + cond (eqb m n) (total f used) 0
  added_by l b m used stamp last own None is some = absurd (false≢true some)
  added_by l b m used stamp last own (Some k) is some =
      let x = added l used stamp last (Some k) b.closed in
      let s = settled_stands f n (with_added k used) (cause_of l last (with_added k used) stamp) stamp b.closed in
      let a : stands_in f n (with_added k used) ≡ stands_in f n k + cond (eqb m n) (total f used) 0 = subst (λ (j : ℕ). stands_in f n (with_added k used) ≡ stands_in f n k + cond (eqb j n) (total f used) 0) (own_found b.sessions m k own is) (added_stands f n k used) in
      let r = reopened_stands f n b.sessions m (settled (with_added k used) (cause_of l last (with_added k used) stamp) stamp b.closed).0 k is in omega arith

  ended_by : (b : Records) (m cause stamp : ℕ) (o : Option Kept) → open_of b.sessions m ≡ o → stand f n (with_one m b (ended cause stamp o b.closed)) ≡ stand f n b
  ended_by b m cause stamp None is = let r = unopened_stands f n b.sessions m is in omega arith
  ended_by b m cause stamp (Some k) is =
      let s = ended_stands f n cause stamp (Some k) b.closed in
      let r = reopened_stands f n b.sessions m None k is in omega arith

  begun_stands : (b : Records) (new : Session) (session stamp sequence : ℕ) → new.unclosed ≡ Some (opened session stamp sequence) → over_open f n (entered new b.sessions) ≡ over_open f n b.sessions
  begun_stands b new session stamp sequence is =
      let e = entered_stands f n new b.sessions in
      let z : stands_open f n new.unclosed ≡ 0 = ap (λ (o : Option Kept). stands_open f n o) is ∙ empty_stands f n session stamp sequence in omega arith

  step : (l : RecordLimits) (call : Filing) (b : Records) → AllOwn b.sessions → MayCome b call → stand f n (after l call b) ≡ stand f n b + came_by f n call
  step l (Begun number subscriber consumer charging_id stamp) b own may =
      let e = begun_stands b (record { number = number; subscriber = subscriber; consumer = consumer; charging_id = charging_id; unclosed = Some (opened number stamp 1) }) number stamp 1 refl in omega arith
  step l (Added number used stamp last) b own may = added_by l b number used stamp last own (open_of b.sessions number) refl may
  step l (Ended number cause stamp) b own may = let e = ended_by b number cause stamp (open_of b.sessions number) refl in omega arith
  step l (ClosedAll stamp) b own may = let e = all_swept_stand f n b.sessions stamp b.closed in omega arith

pub stand_once : ContainersStandOnce
stand_once l [] f n may = refl
stand_once l (call ∷ calls) f n may =
    let e = step f n l call (records_after l calls) (all_own l calls) may.0 in
    let r = stand_once l calls f n may.1 in
    let c = sum_by-cons (came_by f n) call calls in omega arith
