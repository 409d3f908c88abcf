-- A container that is not closed is the open one of its group, whatever is done.
use Rattle.std.proofs.Common.{◌≡◌, ◌≢◌, ◌==◌, ℕ, suc, zero, ◌+◌, ◌-◌, ◌<◌, ◌≤◌, nat_lt, ◌⊎◌, inl, inr, Bool, true, false, List, [], ◌∷◌, ◌++◌, length, set, refl, sym, ◌∙◌, ap, subst, arith, Option, Some, None}
use Rattle.std.specs.List.{slice_get}
use Rattle.std.specs.Option.{option_flatten}
use Rattle.std.proofs.lemmas.Bool.{eqb-true, eqb-false}
use Rattle.std.proofs.lemmas.List.{length-append}
use Rattle.std.proofs.lemmas.Bool.Decides.{nat_tests}
use Rattle.units.specs.declared.report.Report.{Report}
use Rattle.units.specs.declared.report.Container.{Container}
use Rattle.units.specs.declared.trigger.TriggerType.{TriggerType}
use Rattle.meter.specs.declared.close.Close.{Close}
use Rattle.meter.specs.Meter.{Contents, open_of, last_of, last_in, close_of, close_of_last, unless_closed, extended, opened, with_joined, with_closed, with_opened, AreNumbered, AreClosedButOpen, IsOpenUntil, after_report}
use Rattle.meter.proofs.Lasts.{LastAt, last_at, last_set, last_within, last_middle, last_middle_other, last_push, last_push_other}
use Rattle.meter.proofs.After.{JoinsAt, OpensAt, after_is, open_last, open_unclosed}
use Rattle.meter.proofs.Undisturbed.{get_push_old, get_push_new, get_set_other, stays_open, other_number, closes_long}

get_set_same : {X : Type 0} (xs : List X) (i : ℕ) (y : X) → i < length xs → slice_get (set xs i y) i ≡ Some y
get_set_same [] i y l = absurd (omega arith)
get_set_same (x ∷ xs) zero y l = refl
get_set_same (x ∷ xs) (suc i) y l = get_set_same xs i y (omega arith)

get_within : {X : Type 0} (xs : List X) (i : ℕ) (x : X) → slice_get xs i ≡ Some x → i < length xs
get_within [] i x h = cc
get_within (y ∷ ys) zero x h = omega arith
get_within (y ∷ ys) (suc i) x h = let l = get_within ys i x h in omega (arith, l)

get_numbered : (cs : List Container) (n i : ℕ) (c : Container) → AreNumbered n cs → slice_get cs i ≡ Some c → c.lsn ≡ n + i
get_numbered [] n i c all h = cc
get_numbered (d ∷ ds) n zero c all h = let same : d ≡ c = cc in ap (λ (k : Container). k.lsn) (sym same) ∙ omega (arith, all.0)
get_numbered (d ∷ ds) n (suc i) c all h = let l = get_numbered ds (n + 1) i c all.1 h in omega (arith, l)

-- the last container of a group, not closed, is open
is_open : (t : Contents) (g : ℕ) (c : Container) → last_of t g ≡ Some c → close_of t c.lsn ≡ None → open_of t g ≡ Some c
is_open t g c is none = ap (λ o. unless_closed o (close_of_last t o)) is ∙ ap (unless_closed (Some c)) none

one_of : (a b : Container) (o : Option Container) → o ≡ Some a → o ≡ Some b → a ≡ b
one_of a b o p q = let same : Some a ≡ Some b = sym p ∙ q in cc

joined_same : (s : Contents) (r : Report) (c : Container) → LastAt r.group s.containers c → close_of s c.lsn ≡ None → open_of (with_joined s c r) c.group ≡ Some (extended c r)
joined_same s r c at none =
    let x : Container = extended c r in
    let now : set s.containers (c.lsn - 1) x ≡ at.split.front ++ x ∷ at.split.back = last_set r.group s.containers c x at in
    let last : last_of (with_joined s c r) c.group ≡ Some x =
    ap (λ l. last_in c.group l) now ∙ ap (λ h. last_in h (at.split.front ++ x ∷ at.split.back)) at.split.of_group ∙ last_middle r.group at.split.front x at.split.back at.split.of_group at.split.none_behind in
    is_open (with_joined s c r) c.group x last none

joined_other : (s : Contents) (r : Report) (c d : Container) → LastAt r.group s.containers c → d.group ≢ r.group → open_of s d.group ≡ Some d → close_of s d.lsn ≡ None → open_of (with_joined s c r) d.group ≡ Some d
joined_other s r c d at apart o none =
    let x : Container = extended c r in
    let now : set s.containers (c.lsn - 1) x ≡ at.split.front ++ x ∷ at.split.back = last_set r.group s.containers c x at in
    let away : c.group ≢ d.group = λ e. apart (sym e ∙ at.split.of_group) in
    let last : last_of (with_joined s c r) d.group ≡ Some d =
    ap (λ l. last_in d.group l) now ∙ last_middle_other d.group at.split.front x c at.split.back away away ∙ ap (λ l. last_in d.group l) (sym at.split.is) ∙ open_last s d.group d o in
    is_open (with_joined s c r) d.group d last none

pub closed_joined : (s : Contents) (r : Report) (c : Container) → AreNumbered 1 s.containers → last_of s r.group ≡ Some c → AreClosedButOpen s → AreClosedButOpen (with_joined s c r)
closed_joined s r c numbered is old i d there none = by (last_at r.group s.containers c numbered is) (i == (c.lsn - 1)) refl
  where
    by : LastAt r.group s.containers c → (b : Bool) → (i == (c.lsn - 1)) ≡ b → open_of (with_joined s c r) d.group ≡ Some d
    by at true e =
        let x : Container = extended c r in
        let place : i ≡ c.lsn - 1 = eqb-true i (c.lsn - 1) e in
        let here = get_set_same s.containers (c.lsn - 1) x (last_within r.group s.containers c at) in
        let same : x ≡ d = one_of x d (slice_get (set s.containers (c.lsn - 1) x) (c.lsn - 1)) here (ap (λ n. slice_get (set s.containers (c.lsn - 1) x) n) (sym place) ∙ there) in
        subst (λ (k : Container). open_of (with_joined s c r) k.group ≡ Some k) same (joined_same s r c at (ap (λ (k : Container). close_of s k.lsn) same ∙ none))
    by at false e =
        let apart : i ≢ c.lsn - 1 = eqb-false i (c.lsn - 1) e in
        let before : slice_get s.containers i ≡ Some d = sym (get_set_other s.containers (c.lsn - 1) i (extended c r) (λ k. apart (sym k))) ∙ there in
        let o : open_of s d.group ≡ Some d = old i d before none in
        let number = get_numbered s.containers 1 i d numbered before in
        let other : d.group ≢ r.group = λ k.
        let same : d ≡ c = one_of d c (last_of s r.group) (ap (last_of s) (sym k) ∙ open_last s d.group d o) is in
        let lsn = ap (λ (m : Container). m.lsn) same in
        apart (omega (arith, number, lsn)) in
        joined_other s r c d at other o none

pub closed_opened : (s : Contents) (r : Report) → AreNumbered 1 s.containers → length s.closes ≡ length s.containers → open_of s r.group ≡ None → AreClosedButOpen s → AreClosedButOpen (with_opened s r)
closed_opened s r numbered long none_open old i d there none = by (nat_lt i (length s.containers)) refl
  where
    by : (b : Bool) → nat_lt i (length s.containers) ≡ b → open_of (with_opened s r) d.group ≡ Some d
    by true e =
        let x : Container = opened (length s.containers + 1) r in
        let inside : i < length s.containers = grind (arith, nat_tests, e) in
        let before : slice_get s.containers i ≡ Some d = sym (get_push_old s.containers x i inside) ∙ there in
        let number = get_numbered s.containers 1 i d numbered before in
        let within : d.lsn - 1 < length s.closes = omega (arith, number, inside, long) in
        let unclosed : close_of s d.lsn ≡ None = ap option_flatten (sym (get_push_old s.closes None (d.lsn - 1) within)) ∙ none in
        let o : open_of s d.group ≡ Some d = old i d before unclosed in
        let apart : r.group ≢ d.group = λ k. let clash : None ≡ Some d = sym none_open ∙ ap (open_of s) k ∙ o in cc in
        is_open (with_opened s r) d.group d (last_push_other d.group s.containers x apart ∙ open_last s d.group d o) none
    by false e =
        let x : Container = opened (length s.containers + 1) r in
        let inside = get_within (s.containers ++ x ∷ []) i d there in
        let more = length-append s.containers (x ∷ []) in
        let out : length s.containers ≤ i = grind (arith, nat_tests, e) in
        let place : i ≡ length s.containers = omega (arith, inside, more, out) in
        let same : x ≡ d = one_of x d (slice_get (s.containers ++ x ∷ []) i) (get_push_new s.containers x i place) there in
        subst (λ (k : Container). open_of (with_opened s r) k.group ≡ Some k) same
        (is_open (with_opened s r) x.group x (last_push x.group s.containers x refl) (ap (λ (k : Container). close_of (with_opened s r) k.lsn) same ∙ none))

shut_is : (s : Contents) (g : ℕ) (c : Container) (t : TriggerType) (m : ℕ) → AreNumbered 1 s.containers → length s.closes ≡ length s.containers → last_of s g ≡ Some c → close_of (with_closed s c t m) c.lsn ≡ Some (record { trigger = t; moment = m })
shut_is s g c t m numbered long is =
    let inside = last_within g s.containers c (last_at g s.containers c numbered is) in
    ap option_flatten (get_set_same s.closes (c.lsn - 1) (Some (record { trigger = t; moment = m })) (omega (arith, inside, long)))

pub closed_shut : (s : Contents) (g : ℕ) (c : Container) (t : TriggerType) (m : ℕ) → AreNumbered 1 s.containers → length s.closes ≡ length s.containers → last_of s g ≡ Some c → AreClosedButOpen s → AreClosedButOpen (with_closed s c t m)
closed_shut s g c t m numbered long is old i d there none =
    let k : Close = record { trigger = t; moment = m } in
    let apart : c.lsn - 1 ≢ d.lsn - 1 = λ e.
    let clash : Some k ≡ None = sym (shut_is s g c t m numbered long is) ∙ ap (λ n. option_flatten (slice_get (set s.closes (c.lsn - 1) (Some k)) n)) e ∙ none in
    cc in
    let unclosed : close_of s d.lsn ≡ None = ap option_flatten (sym (get_set_other s.closes (c.lsn - 1) (d.lsn - 1) (Some k) apart)) ∙ none in
    is_open (with_closed s c t m) d.group d (open_last s d.group d (old i d there unclosed)) none

pub none_after_shut : (s : Contents) (g : ℕ) (c : Container) (t : TriggerType) (m : ℕ) → AreNumbered 1 s.containers → length s.closes ≡ length s.containers → last_of s g ≡ Some c → open_of (with_closed s c t m) g ≡ None
none_after_shut s g c t m numbered long is =
    ap (λ o. unless_closed o (close_of_last (with_closed s c t m) o)) is ∙ ap (unless_closed (Some c)) (shut_is s g c t m numbered long is)

-- after a close and a report
pub shut_others : (s : Contents) (g h : ℕ) (c : Container) (t : TriggerType) (m : ℕ) → AreNumbered 1 s.containers → last_of s g ≡ Some c → h ≢ g → open_of (with_closed s c t m) h ≡ open_of s h
shut_others s g h c t m numbered is apart =
    stays_open s (with_closed s c t m) h refl (λ d last. ap option_flatten (get_set_other s.closes (c.lsn - 1) (d.lsn - 1) (Some (record { trigger = t; moment = m })) (other_number s g h c d numbered is last (λ e. apart (sym e)))))

pub open_after : (s : Contents) (r : Report) → AreNumbered 1 s.containers → length s.closes ≡ length s.containers → IsOpenUntil (after_report s r) r.group r.moment
open_after s r numbered long = by (after_is s r)
  where
    by : JoinsAt s r ⊎ OpensAt s r → IsOpenUntil (after_report s r) r.group r.moment
    by (inl j) =
        let c : Container = j.container in
        let at : LastAt r.group s.containers c = last_at r.group s.containers c numbered (open_last s r.group c j.is_open) in
        record {
          container = extended c r;
          is_open = ap (λ t. open_of t r.group) j.after ∙ ap (open_of (with_joined s c r)) (sym at.split.of_group) ∙ joined_same s r c at (open_unclosed s r.group c j.is_open);
          last = refl;
        }
    by (inr o) =
        let x : Container = opened (length s.containers + 1) r in
        let t : Contents = with_opened (record s { closes = o.closes }) r in
        let place : x.lsn - 1 ≡ length o.closes = let same = closes_long s r o in omega (arith, same, long) in
        record {
          container = x;
          is_open = ap (λ u. open_of u r.group) o.after ∙ is_open t r.group x (last_push r.group s.containers x refl) (ap option_flatten (get_push_new o.closes None (x.lsn - 1) place));
          last = refl;
        }
