-- What a report does: it joins, or it opens.
use Rattle.std.proofs.Common.{◌≡◌, ℕ, ◌+◌, ◌-◌, ◌^◌, ◌<◌, ◌≤◌, ◌&&◌, ◌⊎◌, inl, inr, not, nat_lt, Bool, true, false, cond, List, set, refl, sym, ◌∙◌, ap, arith, Option, Some, None}
use Rattle.std.proofs.lemmas.Bool.Decides.{nat_tests}
use Rattle.units.specs.Cut.{NoSwitchWithin, SwitchWithin}
use Rattle.units.specs.declared.report.Report.{Report}
use Rattle.units.specs.declared.report.Container.{Container}
use Rattle.meter.specs.declared.close.Close.{Close}
use Rattle.meter.specs.declared.horizon.Horizon.{Horizon}
use Rattle.meter.specs.Horizons.{is_unsafe, has_unsafe}
use Rattle.meter.specs.Meter.{Contents, open_of, last_of, unless_closed, close_of_last, close_of, horizon_of, may_join, trigger_of, with_joined, with_closed, with_opened, report_taken, after_report, IsTaken}
use Rattle.meter.proofs.Unsafe.{no_unsafe, some_unsafe, unsafe_is_some, unsafe_is_none}

kept_last : (last : Option Container) (k : Option Close) (c : Container) → unless_closed last k ≡ Some c → (last ≡ Some c) × (k ≡ None)
kept_last last None c h = (h, refl)
kept_last last (Some x) c h = cc

-- an open container is the group's last one
pub open_last : (s : Contents) (g : ℕ) (c : Container) → open_of s g ≡ Some c → last_of s g ≡ Some c
open_last s g c h = (kept_last (last_of s g) (close_of_last s (last_of s g)) c h).0

pub open_unclosed : (s : Contents) (g : ℕ) (c : Container) → open_of s g ≡ Some c → close_of s c.lsn ≡ None
open_unclosed s g c h =
    let both = kept_last (last_of s g) (close_of_last s (last_of s g)) c h in
    ap (close_of_last s) (sym both.0) ∙ both.1

pub record JoinsAt (s : Contents) (r : Report) : Type 0 where
  pub container : Container
  pub is_open : open_of s r.group ≡ Some container
  pub may : may_join (horizon_of s r.group) container r ≡ true
  pub after : after_report s r ≡ with_joined s container r

pub record OpensAt (s : Contents) (r : Report) : Type 0 where
  pub closes : List (Option Close)
  pub after : after_report s r ≡ with_opened (record s { closes = closes }) r
  pub may_not : (c : Container) → open_of s r.group ≡ Some c → may_join (horizon_of s r.group) c r ≡ false
  pub none_closed : open_of s r.group ≡ None → closes ≡ s.closes
  pub one_closed : (c : Container) → open_of s r.group ≡ Some c → (k : Close) × (closes ≡ set s.closes (c.lsn - 1) (Some k))

pub after_is : (s : Contents) (r : Report) → JoinsAt s r ⊎ OpensAt s r
after_is s r = by (open_of s r.group) refl
  where
    by : (o : Option Container) → open_of s r.group ≡ o → JoinsAt s r ⊎ OpensAt s r
    by None e = inr (record {
      closes = s.closes;
      after = ap (report_taken s r) e;
      may_not = λ c h. cc (sym e ∙ h);
      none_closed = λ h. refl;
      one_closed = λ c h. cc (sym e ∙ h);
    })
    by (Some c) e = at (may_join (horizon_of s r.group) c r) refl
      where
        at : (b : Bool) → may_join (horizon_of s r.group) c r ≡ b → JoinsAt s r ⊎ OpensAt s r
        at true m = inl (record { container = c; is_open = e; may = m; after = ap (report_taken s r) e ∙ ap (λ b. cond b (with_joined s c r) (with_opened (with_closed s c (trigger_of (horizon_of s r.group) c r) r.moment) r)) m })
        at false m =
            let one : (d : Container) → open_of s r.group ≡ Some d → c ≡ d = λ d h. let same : Some c ≡ Some d = sym e ∙ h in cc in
            inr (record {
              closes = (with_closed s c (trigger_of (horizon_of s r.group) c r) r.moment).closes;
              after = ap (report_taken s r) e ∙ ap (λ b. cond b (with_joined s c r) (with_opened (with_closed s c (trigger_of (horizon_of s r.group) c r) r.moment) r)) m;
              may_not = λ d h. ap (λ x. may_join (horizon_of s r.group) x r) (sym (one d h)) ∙ m;
              none_closed = λ h. cc (sym e ∙ h);
              one_closed = λ d h. (record { trigger = trigger_of (horizon_of s r.group) c r; moment = r.moment }, ap (λ (x : Container). set s.closes (x.lsn - 1) (Some (record { trigger = trigger_of (horizon_of s r.group) c r; moment = r.moment }))) (one d h));
            })

-- what may join lies in one stretch without an unsafe hour, and fits
pub joins_safe : (h : Option Horizon) (c : Container) (r : Report) → may_join h c r ≡ true → NoSwitchWithin (is_unsafe h) c.last r.moment × (c.seconds + r.seconds < 2 ^ 32)
joins_safe h c r may = by (has_unsafe h c.last r.moment) refl may
  where
    by : (b : Bool) → has_unsafe h c.last r.moment ≡ b → (not b && nat_lt (c.seconds + r.seconds) (2 ^ 32)) ≡ true → NoSwitchWithin (is_unsafe h) c.last r.moment × (c.seconds + r.seconds < 2 ^ 32)
    by true e m = cc
    by false e m = (no_unsafe h c.last r.moment e, grind (arith, nat_tests, m))

pub joins_not : (h : Option Horizon) (c : Container) (r : Report) → may_join h c r ≡ false → SwitchWithin (is_unsafe h) c.last r.moment ⊎ (2 ^ 32 ≤ c.seconds + r.seconds)
joins_not h c r may = by (has_unsafe h c.last r.moment) refl may
  where
    by : (b : Bool) → has_unsafe h c.last r.moment ≡ b → (not b && nat_lt (c.seconds + r.seconds) (2 ^ 32)) ≡ false → SwitchWithin (is_unsafe h) c.last r.moment ⊎ (2 ^ 32 ≤ c.seconds + r.seconds)
    by true e m = inl (some_unsafe h c.last r.moment e)
    by false e m = inr (grind (arith, nat_tests, m))

-- the report is taken by the rule for joining
pub taken_is : (s : Contents) (r : Report) → IsTaken s r (after_report s r)
taken_is s r = record {
  joins = λ c is none fits.
      let apart = unsafe_is_none (horizon_of s r.group) c.last r.moment none in
      let less : nat_lt (c.seconds + r.seconds) (2 ^ 32) ≡ true = grind (arith, nat_tests) in
      ap (report_taken s r) is ∙ rw (apart, less) refl;
  unsafe_hour = λ c is some.
      let split = unsafe_is_some (horizon_of s r.group) c.last r.moment some in
      ap (report_taken s r) is ∙ rw split refl;
  too_long = λ c is none long.
      let apart = unsafe_is_none (horizon_of s r.group) c.last r.moment none in
      let more : nat_lt (c.seconds + r.seconds) (2 ^ 32) ≡ false = grind (arith, nat_tests) in
      ap (report_taken s r) is ∙ rw (apart, more) refl;
  none_open = λ is. ap (report_taken s r) is;
}

pub taken_joined : (s : Contents) (r : Report) (c : Container) (h : Option Horizon) → h ≡ horizon_of s r.group → open_of s r.group ≡ Some c → may_join h c r ≡ true → with_joined s c r ≡ after_report s r
taken_joined s r c h known is may =
    let m : may_join (horizon_of s r.group) c r ≡ true = ap (λ k. may_join k c r) (sym known) ∙ may in
    sym (ap (report_taken s r) is ∙ ap (λ b. cond b (with_joined s c r) (with_opened (with_closed s c (trigger_of (horizon_of s r.group) c r) r.moment) r)) m)

pub taken_opened : (s : Contents) (r : Report) (c : Container) (h : Option Horizon) → h ≡ horizon_of s r.group → open_of s r.group ≡ Some c → may_join h c r ≡ false → with_opened (with_closed s c (trigger_of h c r) r.moment) r ≡ after_report s r
taken_opened s r c h known is may =
    let m : may_join (horizon_of s r.group) c r ≡ false = ap (λ k. may_join k c r) (sym known) ∙ may in
    ap (λ k. with_opened (with_closed s c (trigger_of k c r) r.moment) r) known
    ∙ sym (ap (report_taken s r) is ∙ ap (λ b. cond b (with_joined s c r) (with_opened (with_closed s c (trigger_of (horizon_of s r.group) c r) r.moment) r)) m)
