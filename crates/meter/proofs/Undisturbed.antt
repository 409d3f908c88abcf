-- Where no horizon is set and nothing is closed, a report leaves it so.
use Rattle.std.proofs.Common.{◌≡◌, ◌≢◌, ◌==◌, ℕ, suc, zero, ◌+◌, ◌-◌, ◌<◌, ◌⊎◌, inl, inr, Bool, true, false, List, [], ◌∷◌, ◌++◌, length, set, get_or, refl, sym, ◌∙◌, ap, subst, arith, Option, Some, None}
use Rattle.std.specs.List.{slice_get}
use Rattle.std.specs.Option.{option_flatten}
use Rattle.std.proofs.lemmas.List.{length-set}
use Rattle.std.proofs.lemmas.Bool.{eqb-true, eqb-false}
use Rattle.units.specs.declared.report.Report.{Report}
use Rattle.units.specs.declared.report.Container.{Container}
use Rattle.meter.specs.declared.close.Close.{Close}
use Rattle.meter.specs.Meter.{Contents, open_of, last_of, last_in, close_of, close_of_last, unless_closed, extended, opened, with_joined, with_opened, after_report, AreNumbered, IsUndisturbed}
use Rattle.meter.proofs.Lasts.{LastAt, last_at, last_set, last_read, last_within, last_middle, last_middle_other, last_push, last_push_other}
use Rattle.meter.proofs.After.{JoinsAt, OpensAt, after_is, open_last, open_unclosed}

pub get_push_old : {X : Type 0} (xs : List X) (y : X) (i : ℕ) → i < length xs → slice_get (xs ++ y ∷ []) i ≡ slice_get xs i
get_push_old [] y i l = absurd (omega arith)
get_push_old (x ∷ xs) y zero l = refl
get_push_old (x ∷ xs) y (suc i) l = get_push_old xs y i (omega arith)

pub get_push_new : {X : Type 0} (xs : List X) (y : X) (i : ℕ) → i ≡ length xs → slice_get (xs ++ y ∷ []) i ≡ Some y
get_push_new [] y zero e = refl
get_push_new [] y (suc i) e = absurd (omega arith)
get_push_new (x ∷ xs) y zero e = absurd (omega arith)
get_push_new (x ∷ xs) y (suc i) e = get_push_new xs y i (omega arith)

pub get_set_other : {X : Type 0} (xs : List X) (i j : ℕ) (y : X) → i ≢ j → slice_get (set xs i y) j ≡ slice_get xs j
get_set_other [] i j y n = refl
get_set_other (x ∷ xs) zero zero y n = absurd (n refl)
get_set_other (x ∷ xs) zero (suc j) y n = refl
get_set_other (x ∷ xs) (suc i) zero y n = refl
get_set_other (x ∷ xs) (suc i) (suc j) y n = get_set_other xs i j y (λ e. n (ap suc e))

-- an open container stays, where the last one and its close do
pub stays_open : (s t : Contents) (g : ℕ) → last_of t g ≡ last_of s g → ((c : Container) → last_of s g ≡ Some c → close_of t c.lsn ≡ close_of s c.lsn) → open_of t g ≡ open_of s g
stays_open s t g same closes = ap (λ o. unless_closed o (close_of_last t o)) same ∙ ap (unless_closed (last_of s g)) (by (last_of s g) refl)
  where
    by : (o : Option Container) → last_of s g ≡ o → close_of_last t o ≡ close_of_last s o
    by None e = refl
    by (Some c) e = closes c e

-- the group's last container is open
new_open : (t : Contents) (g : ℕ) (c : Container) → last_of t g ≡ Some c → close_of t c.lsn ≡ None → open_of t g ≡ last_of t g
new_open t g c is none = ap (λ o. unless_closed o (close_of_last t o)) is ∙ ap (unless_closed (Some c)) none ∙ sym is

same_open : (s t : Contents) (g : ℕ) → last_of t g ≡ last_of s g → ((c : Container) → last_of s g ≡ Some c → close_of t c.lsn ≡ close_of s c.lsn) → open_of s g ≡ last_of s g → open_of t g ≡ last_of t g
same_open s t g same closes old = stays_open s t g same closes ∙ old ∙ sym same

joined_open : (s : Contents) (r : Report) (g : ℕ) (c : Container) → LastAt r.group s.containers c → open_of s r.group ≡ Some c → open_of s g ≡ last_of s g → (b : Bool) → (r.group == g) ≡ b → open_of (with_joined s c r) g ≡ last_of (with_joined s c r) g
joined_open s r g c at is old true e =
    let x : Container = extended c r in
    let same : r.group ≡ g = eqb-true r.group g e in
    let now : set s.containers (c.lsn - 1) x ≡ at.split.front ++ x ∷ at.split.back = last_set r.group s.containers c x at in
    let last : last_of (with_joined s c r) g ≡ Some x =
    ap (λ l. last_in g l) now ∙ ap (λ h. last_in h (at.split.front ++ x ∷ at.split.back)) (sym same) ∙ last_middle r.group at.split.front x at.split.back at.split.of_group at.split.none_behind in
    new_open (with_joined s c r) g x last (open_unclosed s r.group c is)
joined_open s r g c at is old false e =
    let x : Container = extended c r in
    let apart : c.group ≢ g = λ k. eqb-false r.group g e (sym at.split.of_group ∙ k) in
    let now : set s.containers (c.lsn - 1) x ≡ at.split.front ++ x ∷ at.split.back = last_set r.group s.containers c x at in
    let last : last_of (with_joined s c r) g ≡ last_of s g =
    ap (λ l. last_in g l) now ∙ last_middle_other g at.split.front x c at.split.back apart apart ∙ ap (λ l. last_in g l) (sym at.split.is) in
    same_open s (with_joined s c r) g last (λ d h. refl) old

-- the closes before the next container is opened
pub closes_long : (s : Contents) (r : Report) (o : OpensAt s r) → length o.closes ≡ length s.closes
closes_long s r o = by (open_of s r.group) refl
  where
    by : (k : Option Container) → open_of s r.group ≡ k → length o.closes ≡ length s.closes
    by None e = ap length (o.none_closed e)
    by (Some c) e = let one = o.one_closed c e in ap length one.1 ∙ length-set s.closes (c.lsn - 1) (Some one.0)

-- two last containers of different groups have different numbers
pub other_number : (s : Contents) (g h : ℕ) (c d : Container) → AreNumbered 1 s.containers → last_of s g ≡ Some c → last_of s h ≡ Some d → g ≢ h → c.lsn - 1 ≢ d.lsn - 1
other_number s g h c d numbered is_c is_d apart e =
    let at : LastAt g s.containers c = last_at g s.containers c numbered is_c in
    let on : LastAt h s.containers d = last_at h s.containers d numbered is_d in
    let same : c ≡ d = sym (last_read g s.containers c c at) ∙ ap (λ n. get_or s.containers n c) e ∙ last_read h s.containers d c on in
    apart (sym at.split.of_group ∙ ap (λ (k : Container). k.group) same ∙ on.split.of_group)

closes_other : (s : Contents) (r : Report) (g : ℕ) (o : OpensAt s r) (c : Container) → AreNumbered 1 s.containers → r.group ≢ g → last_of s g ≡ Some c → slice_get o.closes (c.lsn - 1) ≡ slice_get s.closes (c.lsn - 1)
closes_other s r g o c numbered apart is = by (open_of s r.group) refl
  where
    by : (k : Option Container) → open_of s r.group ≡ k → slice_get o.closes (c.lsn - 1) ≡ slice_get s.closes (c.lsn - 1)
    by None e = ap (λ l. slice_get l (c.lsn - 1)) (o.none_closed e)
    by (Some d) e =
        let one = o.one_closed d e in
        let away : d.lsn - 1 ≢ c.lsn - 1 = other_number s r.group g d c numbered (open_last s r.group d e) is apart in
        ap (λ l. slice_get l (c.lsn - 1)) one.1 ∙ get_set_other s.closes (d.lsn - 1) (c.lsn - 1) (Some one.0) away

-- the contents with the next container
abbrev next_of : Contents → List (Option Close) → Report → Contents
next_of s closes r = with_opened (record s { closes = closes }) r

opened_open : (s : Contents) (r : Report) (g : ℕ) (o : OpensAt s r) → AreNumbered 1 s.containers → length s.closes ≡ length s.containers → open_of s g ≡ last_of s g → (b : Bool) → (r.group == g) ≡ b → open_of (next_of s o.closes r) g ≡ last_of (next_of s o.closes r) g
opened_open s r g o numbered long old true e =
    let x : Container = opened (length s.containers + 1) r in
    let last : last_of (next_of s o.closes r) g ≡ Some x = last_push g s.containers x (eqb-true r.group g e) in
    let place : x.lsn - 1 ≡ length o.closes = let same = closes_long s r o in omega (arith, same, long) in
    new_open (next_of s o.closes r) g x last (ap option_flatten (get_push_new o.closes None (x.lsn - 1) place))
opened_open s r g o numbered long old false e =
    let x : Container = opened (length s.containers + 1) r in
    let apart : r.group ≢ g = eqb-false r.group g e in
    same_open s (next_of s o.closes r) g (last_push_other g s.containers x apart)
    (λ c is.
    let inside = last_within g s.containers c (last_at g s.containers c numbered is) in
    let within : c.lsn - 1 < length o.closes = let same = closes_long s r o in omega (arith, same, long, inside) in
    ap option_flatten (get_push_old o.closes None (c.lsn - 1) within ∙ closes_other s r g o c numbered apart is))
    old

pub after_undisturbed : (s : Contents) (r : Report) → AreNumbered 1 s.containers → length s.closes ≡ length s.containers → IsUndisturbed s → IsUndisturbed (after_report s r)
after_undisturbed s r numbered long free = by (after_is s r)
  where
    by : JoinsAt s r ⊎ OpensAt s r → IsUndisturbed (after_report s r)
    by (inl j) = subst IsUndisturbed (sym j.after) (record {
      no_horizon = free.no_horizon;
      all_open = λ g. joined_open s r g j.container (last_at r.group s.containers j.container numbered (open_last s r.group j.container j.is_open)) j.is_open (free.all_open g) (r.group == g) refl;
    })
    by (inr o) = subst IsUndisturbed (sym o.after) (record {
      no_horizon = free.no_horizon;
      all_open = λ g. opened_open s r g o numbered long (free.all_open g) (r.group == g) refl;
    })

-- the open containers of other groups are as before a report
joined_others : (s : Contents) (r : Report) (g : ℕ) (c : Container) → LastAt r.group s.containers c → r.group ≢ g → open_of (with_joined s c r) g ≡ open_of s g
joined_others s r g c at away =
    let x : Container = extended c r in
    let apart : c.group ≢ g = λ k. away (sym at.split.of_group ∙ k) in
    let now : set s.containers (c.lsn - 1) x ≡ at.split.front ++ x ∷ at.split.back = last_set r.group s.containers c x at in
    stays_open s (with_joined s c r) g (ap (λ l. last_in g l) now ∙ last_middle_other g at.split.front x c at.split.back apart apart ∙ ap (λ l. last_in g l) (sym at.split.is)) (λ d h. refl)

opened_others : (s : Contents) (r : Report) (g : ℕ) (o : OpensAt s r) → AreNumbered 1 s.containers → length s.closes ≡ length s.containers → r.group ≢ g → open_of (next_of s o.closes r) g ≡ open_of s g
opened_others s r g o numbered long apart =
    let x : Container = opened (length s.containers + 1) r in
    stays_open s (next_of s o.closes r) g (last_push_other g s.containers x apart)
    (λ c is.
    let inside = last_within g s.containers c (last_at g s.containers c numbered is) in
    let within : c.lsn - 1 < length o.closes = let same = closes_long s r o in omega (arith, same, long, inside) in
    ap option_flatten (get_push_old o.closes None (c.lsn - 1) within ∙ closes_other s r g o c numbered apart is))

pub after_others : (s : Contents) (r : Report) (g : ℕ) → AreNumbered 1 s.containers → length s.closes ≡ length s.containers → g ≢ r.group → open_of (after_report s r) g ≡ open_of s g
after_others s r g numbered long apart = by (after_is s r)
  where
    away : r.group ≢ g
    away e = apart (sym e)

    by : JoinsAt s r ⊎ OpensAt s r → open_of (after_report s r) g ≡ open_of s g
    by (inl j) = ap (λ t. open_of t g) j.after ∙ joined_others s r g j.container (last_at r.group s.containers j.container numbered (open_last s r.group j.container j.is_open)) away
    by (inr o) = ap (λ t. open_of t g) o.after ∙ opened_others s r g o numbered long away
