-- What holds of a report that is answered `New`.
use Rattle.std.proofs.Common.{◌≡◌, ◌==◌, ℕ, ◌^◌, ◌<◌, ◌&&◌, ◌⊎◌, inl, inr, Bool, true, false, not, length, refl, arith, Ok, Err, Result, cond, nat_lt, nat_le}
use Rattle.std.proofs.lemmas.Bool.Decides.{nat_tests}
use Rattle.units.specs.declared.report.Report.{Report}
use Rattle.meter.specs.declared.refusal.Seen.{Seen}
use Rattle.meter.specs.declared.refusal.Seen.TheVariants.{New, Known}
use Rattle.meter.specs.declared.refusal.MeterRefusal.{MeterRefusal}
use Rattle.meter.specs.declared.refusal.MeterRefusal.TheVariants.{OutOfStep, TooLarge, MomentBack, TooManyReports, TooManyGroups}
use Rattle.meter.specs.Meter.{Contents, answer_of, latest, report_total, expected_of, is_too_large, is_in, groups_of, HasPlaceFor}
use Rattle.meter.specs.Caches.{Admitted}

passed : (b : Bool) (e : MeterRefusal) (rest : Result Seen MeterRefusal) → cond b (Err e) rest ≡ Ok New → (b ≡ false) × (rest ≡ Ok New)
passed true e rest h = cc
passed false e rest h = (refl, h)

fresh : (b : Bool) (rest : Result Seen MeterRefusal) → cond b (Ok Known) rest ≡ Ok New → rest ≡ Ok New
fresh true rest h = cc
fresh false rest h = h

-- the report is admitted, and its group has a place
pub record IsNew (s : Contents) (r : Report) : Type 0 where
  pub admitted : Admitted s.containers r
  pub place : HasPlaceFor s r.group

pub new_is : (s : Contents) (r : Report) → answer_of s r ≡ Ok New → IsNew s r
new_is s r h =
    let step = passed (not (r.number == expected_of s r.group)) (OutOfStep (expected_of s r.group)) _ (fresh (nat_le 1 r.number && nat_lt r.number (expected_of s r.group)) _ h) in
    let large = passed (is_too_large r) TooLarge _ step.1 in
    let back = passed (nat_lt r.moment (latest s.containers)) (MomentBack (latest s.containers)) _ large.1 in
    let many = passed (nat_le (2 ^ 20) (report_total s.containers)) TooManyReports _ back.1 in
    let groups = passed (not (is_in r.group (groups_of s)) && nat_le 16 (length (groups_of s))) TooManyGroups _ many.1 in
    record {
      admitted = record {
        number = grind (arith, nat_tests, step.0);
        up = grind (arith, nat_tests, large.0);
        down = grind (arith, nat_tests, large.0);
        seconds = grind (arith, nat_tests, large.0);
        later = grind (arith, nat_tests, back.0);
        few = grind (arith, nat_tests, many.0);
      };
      place = by (is_in r.group (groups_of s)) refl (length (groups_of s)) groups.0;
    }
  where
    by : (b : Bool) → is_in r.group (groups_of s) ≡ b → (n : ℕ) → (not b && nat_le 16 n) ≡ false → (b ≡ true) ⊎ (n < 16)
    by true e n h = inl refl
    by false e n h = inr (grind (arith, nat_tests, h))
