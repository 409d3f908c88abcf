-- What is written is read back.
use Rattle.std.proofs.Common.{◌≡◌, ◌≤◌, ◌+◌, ◌-◌, ◌*◌, ◌/◌, ◌%◌, ◌&&◌, ℕ, true, refl, if◌then◌else◌, List, drop, option_and_then, Some, None, sym, ap, ◌∙◌, arith, nat_le, slice_index}
use Rattle.std.specs.Char.{is_ascii_digit}
use Rattle.std.proofs.lemmas.Bool.Decides.{nat_tests}
use Rattle.moments.specs.declared.calendar.LocalTime.{LocalTime}
use Rattle.moments.specs.Calendar.{IsZulu, moment_of, shown_at}
use Rattle.moments.proofs.Dated.{zulu_at, moment_at}
use Rattle.moments.specs.Digits.{two_at}
use Rattle.moments.specs.Text.{local_time, has_marks, zone_of, after_fraction, written_in, zulu_text, time_of, time_text}
use Rattle.moments.specs.Stamp.{bcd_of, octet_of, full_year, shift_of, date_and_clock, zulu_octets, stamp_time, stamp_octets}

-- two digits read as the number that they were written for
pub pair_reads : (n : ℕ) → n ≤ 99 → (if is_ascii_digit (48 + n / 10) && is_ascii_digit (48 + n % 10) then Some ((48 + n / 10 - 48) * 10 + (48 + n % 10 - 48)) else None) ≡ Some n
pair_reads n h =
    let first : is_ascii_digit (48 + n / 10) ≡ true = grind (arith, nat_tests) in
    let second : is_ascii_digit (48 + n % 10) ≡ true = grind (arith, nat_tests) in
    let sum : (48 + n / 10 - 48) * 10 + (48 + n % 10 - 48) ≡ n = omega arith in
    rw (first, second, sum) refl

assemble : (t : List ℕ) (c r a b mo d h mi s : ℕ) → has_marks t ≡ true → two_at t 0 ≡ Some c → two_at t 2 ≡ Some r
    → option_and_then zone_of (after_fraction (drop 19 t)) ≡ Some (a, b)
    → two_at t 5 ≡ Some mo → two_at t 8 ≡ Some d → two_at t 11 ≡ Some h → two_at t 14 ≡ Some mi → two_at t 17 ≡ Some s
    → written_in t ≡ Some (local_time (c * 100 + r) a b mo d h mi s)
assemble t c r a b mo d h mi s marks e0 e2 zone e5 e8 e11 e14 e17 = rw (marks, e0, e2, zone, e5, e8, e11, e14, e17) refl

at_utc : (p : LocalTime) (y : ℕ) → y ≡ p.year → p.ahead ≡ 0 → p.behind ≡ 0 → Some (local_time y 0 0 p.month p.day p.hour p.minute p.second) ≡ Some p
at_utc p y year ahead behind =
    ap (λ y. Some (local_time y 0 0 p.month p.day p.hour p.minute p.second)) year
    ∙ ap (λ a. Some (local_time p.year a 0 p.month p.day p.hour p.minute p.second)) (sym ahead)
    ∙ ap (λ b. Some (local_time p.year p.ahead b p.month p.day p.hour p.minute p.second)) (sym behind)

pub text_reads : (p : LocalTime) → IsZulu p → written_in (zulu_text p) ≡ Some p
text_reads p z =
    let read = assemble (zulu_text p) (p.year / 100) (p.year % 100) 0 0 p.month p.day p.hour p.minute p.second refl
    (pair_reads (p.year / 100) (omega (arith, z.until))) (pair_reads (p.year % 100) (omega arith)) refl
    (pair_reads p.month (omega (arith, z.month))) (pair_reads p.day (omega (arith, z.day))) (pair_reads p.hour (omega (arith, z.hour)))
    (pair_reads p.minute (omega (arith, z.minute))) (pair_reads p.second (omega (arith, z.second))) in
    let year : p.year / 100 * 100 + p.year % 100 ≡ p.year = omega arith in
    read ∙ at_utc p (p.year / 100 * 100 + p.year % 100) year z.ahead z.behind

octet_reads : (n : ℕ) → n ≤ 99 → bcd_of (octet_of n) ≡ Some n
octet_reads n h =
    let tens : octet_of n / 16 ≡ n / 10 = omega arith in
    let units : octet_of n % 16 ≡ n % 10 = omega arith in
    let first : nat_le (n / 10) 9 ≡ true = grind (arith, nat_tests) in
    let second : nat_le (n % 10) 9 ≡ true = grind (arith, nat_tests) in
    let sum : n / 10 * 10 + n % 10 ≡ n = omega arith in
    rw (tens, units, first, second, sum) refl

year_reads : (y : ℕ) → 1970 ≤ y → y ≤ 2069 → full_year (y % 100) ≡ y
year_reads y from until = grind (arith, nat_tests)

parts_read : (t : List ℕ) (y mo d h mi s a b : ℕ) → s ≤ 59
    → bcd_of (slice_index t 0) ≡ Some y → bcd_of (slice_index t 1) ≡ Some mo → bcd_of (slice_index t 2) ≡ Some d
    → bcd_of (slice_index t 3) ≡ Some h → bcd_of (slice_index t 4) ≡ Some mi → bcd_of (slice_index t 5) ≡ Some s
    → date_and_clock t a b ≡ Some (local_time (full_year y) a b mo d h mi s)
parts_read t y mo d h mi s a b small e0 e1 e2 e3 e4 e5 = let test : nat_le s 59 ≡ true = grind (arith, nat_tests, small) in rw (e0, e1, e2, e3, e4, e5, test) refl

pub octets_read : (p : LocalTime) → IsZulu p → option_and_then (λ shift. date_and_clock (zulu_octets p) shift.0 shift.1) (shift_of (zulu_octets p)) ≡ Some p
octets_read p z = parts_read (zulu_octets p) (p.year % 100) p.month p.day p.hour p.minute p.second 0 0 z.second
    (octet_reads (p.year % 100) (omega arith)) (octet_reads p.month (omega (arith, z.month))) (octet_reads p.day (omega (arith, z.day)))
    (octet_reads p.hour (omega (arith, z.hour))) (octet_reads p.minute (omega (arith, z.minute))) (octet_reads p.second (omega (arith, z.second)))
    ∙ at_utc p (full_year (p.year % 100)) (year_reads p.year z.from z.until) z.ahead z.behind

pub time_reads : (moment : ℕ) → moment ≤ 3155759999 → time_of (time_text moment) ≡ Some moment
unfolding time_text
time_reads moment range = ap (option_and_then moment_of) (text_reads (shown_at moment) (zulu_at moment range)) ∙ moment_at moment range

pub stamp_reads : (moment : ℕ) → moment ≤ 3155759999 → stamp_time (stamp_octets moment) ≡ Some moment
unfolding stamp_octets
stamp_reads moment range = ap (option_and_then moment_of) (octets_read (shown_at moment) (zulu_at moment range)) ∙ moment_at moment range
