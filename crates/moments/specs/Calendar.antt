-- A local time, its moment, and what a clock of UTC shows at a moment.
use Rattle.std.specs.Prelude.{◌≡◌, ◌<◌, ◌≤◌, ℕ, zero, suc, ◌+◌, ◌*◌, ◌/◌, ◌%◌, ◌&&◌, nat_le, Bool, if◌then◌else◌, min, Option, Some, None, ℤ, pos, negsuc, ◌+ℤ◌, ◌-ℤ◌, ◌*ℤ◌}
use Rattle.jiff_core.specs.Calendar.{days_in_month, days_from_civil, day_count}
use Rattle.jiff_core.specs.declared.civil.datetime.DateTime.{DateTime}
use Rattle.moments.specs.declared.calendar.LocalTime.{LocalTime}
use Rattle.units.specs.Limits.{greatest_moment}

-- the calendar has this date (RFC 3339, 5.7)
abbrev pub is_date : ℕ → ℕ → ℕ → Bool
is_date year month day = nat_le 1 month && nat_le month 12 && nat_le 1 day && nat_le day (days_in_month (pos year) month)

-- the clock shows hours to 23, minutes to 59 and seconds to 60, which a leap second may show (RFC 3339, 5.6)
abbrev pub is_clock : ℕ → ℕ → ℕ → Bool
is_clock hour minute second = nat_le hour 23 && nat_le minute 59 && nat_le second 60

-- the seconds of the day; second 60 counts as 59 (this product's own)
abbrev pub clock_seconds : LocalTime → ℕ
clock_seconds time = time.hour * 3600 + time.minute * 60 + min time.second 59

-- a count of seconds from 1970-01-01T00:00:00Z, where it is a moment: until 2069-12-31T23:59:59Z (this product's own)
abbrev pub in_range : ℤ → Option ℕ
in_range (pos seconds) = if nat_le seconds greatest_moment then Some seconds else None
in_range (negsuc below) = None

-- the moment of a local time: the local seconds less the offset, where date and clock are sound and the moment is in range (RFC 3339, 4.1)
abbrev pub moment_of : LocalTime → Option ℕ
moment_of time =
    if is_date time.year time.month time.day && is_clock time.hour time.minute time.second
    then in_range ((days_from_civil (pos time.year) time.month time.day *ℤ pos 86_400 +ℤ pos (clock_seconds time + time.behind)) -ℤ pos time.ahead)
    else None

-- the greatest number up to a bound that passes a test, or 0
abbrev pub last_that : (ℕ → Bool) → ℕ → ℕ
last_that test zero = 0
last_that test (suc n) = if test (suc n) then suc n else last_that test n

-- whether a date is not after the day of this number, which is counted from 1970-01-01
abbrev pub is_reached : ℕ → ℕ → ℕ → ℕ → Bool
is_reached days year month day = nat_le (day_count (pos year) month day) (days + day_count (pos 1970) 1 1)

-- the year of a day: the last that began
abbrev pub year_at : ℕ → ℕ
year_at days = last_that (λ year. is_reached days year 1 1) 2069

-- its month: the last of the year that began
abbrev pub month_at : ℕ → ℕ
month_at days = last_that (λ month. is_reached days (year_at days) month 1) 12

-- its day in the month: the last that was reached
abbrev pub day_at : ℕ → ℕ
day_at days = last_that (λ day. is_reached days (year_at days) (month_at days) day) 31

-- what a clock of UTC shows at a moment
abbrev pub shown_at : ℕ → LocalTime
shown_at moment = record {
  year = year_at (moment / 86_400);
  month = month_at (moment / 86_400);
  day = day_at (moment / 86_400);
  hour = moment % 86_400 / 3600;
  minute = moment % 3600 / 60;
  second = moment % 60;
  ahead = 0;
  behind = 0;
}

-- the day number of a date from 1970-01-01, where the calendar has the date
abbrev pub day_of : ℕ → ℕ → ℕ → Option ℤ
day_of year month day = if is_date year month day then Some (days_from_civil (pos year) month day) else None

-- the ranges that digits give
pub record IsWritten (time : LocalTime) : Type 0 where
  pub year : time.year ≤ 9999
  pub month : time.month ≤ 99
  pub day : time.day ≤ 99
  pub hour : time.hour ≤ 99
  pub minute : time.minute ≤ 99
  pub second : time.second ≤ 99
  pub ahead : time.ahead < 86_400
  pub behind : time.behind < 86_400

-- a time of UTC of this product's range
pub record IsZulu (time : LocalTime) : Type 0 where
  pub from : 1970 ≤ time.year
  pub until : time.year ≤ 2069
  pub month : time.month ≤ 12
  pub day : time.day ≤ 31
  pub hour : time.hour ≤ 23
  pub minute : time.minute ≤ 59
  pub second : time.second ≤ 59
  pub ahead : time.ahead ≡ 0
  pub behind : time.behind ≡ 0

-- the local time is that of a datetime, at UTC
pub record IsShown (clock : DateTime) (time : LocalTime) : Type 0 where
  pub year : pos time.year ≡ clock.date.year
  pub month : time.month ≡ clock.date.month
  pub day : time.day ≡ clock.date.day
  pub hour : time.hour ≡ clock.time.hour
  pub minute : time.minute ≡ clock.time.minute
  pub second : time.second ≡ clock.time.second
  pub ahead : time.ahead ≡ 0
  pub behind : time.behind ≡ 0
