-- Time stamps of nine octets, after TS 32.298, 5.1.1.14 (TimeStamp).
use Rattle.std.specs.Prelude.{ℕ, ◌+◌, ◌*◌, ◌/◌, ◌%◌, ◌==◌, ◌&&◌, nat_le, if◌then◌else◌, List, [], ◌∷◌, slice_index, Option, Some, None, option_map, option_and_then}
use Rattle.moments.specs.declared.calendar.LocalTime.{LocalTime}
use Rattle.moments.specs.Calendar.{moment_of, shown_at}
use Rattle.moments.specs.Text.{offset_of, local_time}

-- two decimal digits in one octet, the tens in the upper half
abbrev pub bcd_of : ℕ → Option ℕ
bcd_of octet = if nat_le (octet / 16) 9 && nat_le (octet % 16) 9 then Some (octet / 16 * 10 + octet % 16) else None

-- the octet of a number of two digits
abbrev pub octet_of : ℕ → ℕ
octet_of n = n / 10 * 16 + n % 10

-- the year of two digits: 70 to 99 are of 1970 to 1999, 00 to 69 of 2000 to 2069 (this product's own)
abbrev pub full_year : ℕ → ℕ
full_year year = if nat_le 70 year then 1900 + year else 2000 + year

-- the offset: `+` (2B) is ahead of UTC, `-` (2D) behind it
abbrev pub shift_of : List ℕ → Option (ℕ × ℕ)
shift_of octets =
    if slice_index octets 6 == 43 then option_map (λ seconds. (seconds, 0)) (offset_of (bcd_of (slice_index octets 7)) (bcd_of (slice_index octets 8)))
    else if slice_index octets 6 == 45 then option_map (λ seconds. (0, seconds)) (offset_of (bcd_of (slice_index octets 7)) (bcd_of (slice_index octets 8)))
    else None

-- date and clock in BCD, with this offset; seconds are at most 59
abbrev pub date_and_clock : List ℕ → ℕ → ℕ → Option LocalTime
date_and_clock octets ahead behind =
    option_and_then (λ year. option_and_then (λ month. option_and_then (λ day. option_and_then (λ hour. option_and_then (λ minute. option_and_then (λ second.
    if nat_le second 59 then Some (local_time (full_year year) ahead behind month day hour minute second) else None)
    (bcd_of (slice_index octets 5))) (bcd_of (slice_index octets 4))) (bcd_of (slice_index octets 3))) (bcd_of (slice_index octets 2))) (bcd_of (slice_index octets 1))) (bcd_of (slice_index octets 0))

-- the moment of nine octets `YYMMDDhhmmss`, sign, `hhmm`
abbrev pub stamp_time : List ℕ → Option ℕ
stamp_time octets = option_and_then moment_of (option_and_then (λ shift. date_and_clock octets shift.0 shift.1) (shift_of octets))

-- the octets of a local time of UTC
abbrev pub zulu_octets : LocalTime → List ℕ
zulu_octets time = octet_of (time.year % 100) ∷ octet_of time.month ∷ octet_of time.day ∷ octet_of time.hour ∷ octet_of time.minute ∷ octet_of time.second ∷ 43 ∷ 0 ∷ 0 ∷ []

-- the octets of a moment: what a clock of UTC shows
unfoldable pub stamp_octets : ℕ → List ℕ
stamp_octets moment = zulu_octets (shown_at moment)
