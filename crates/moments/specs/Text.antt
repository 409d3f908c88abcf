-- Times as text, after RFC 3339, 5.6, with this product's own rules on fractions and range.
use Rattle.std.specs.Prelude.{ℕ, ◌+◌, ◌*◌, ◌/◌, ◌%◌, ◌==◌, ◌&&◌, ◌||◌, Bool, nat_le, if◌then◌else◌, List, [], ◌∷◌, ◌++◌, length, drop, slice_index, Option, Some, None, option_map, option_and_then}
use Rattle.std.specs.List.{prefix_len}
use Rattle.std.specs.Char.{is_ascii_digit}
use Rattle.moments.specs.declared.calendar.LocalTime.{LocalTime}
use Rattle.moments.specs.Calendar.{moment_of, shown_at}
use Rattle.moments.specs.Digits.{two_at, two_digits}

-- what follows so many digits, where they are 1 to 9
abbrev pub after_digits : List ℕ → ℕ → Option (List ℕ)
after_digits text count = if nat_le 1 count && nat_le count 9 then Some (drop count text) else None

-- what follows the fraction of a second: a point and 1 to 9 digits, where there is a point
abbrev pub after_fraction : List ℕ → Option (List ℕ)
after_fraction text = if slice_index text 0 == 46 then after_digits (drop 1 text) (prefix_len is_ascii_digit (drop 1 text)) else Some text

-- an offset in seconds, of hours to 23 and minutes to 59
abbrev pub offset_of : Option ℕ → Option ℕ → Option ℕ
offset_of None minutes = None
offset_of (Some hours) None = None
offset_of (Some hours) (Some minutes) = if nat_le hours 23 && nat_le minutes 59 then Some (hours * 3600 + minutes * 60) else None

-- the zone: `Z` or `z`, or a sign, hours, a colon and minutes. How many seconds it is ahead of UTC and behind it
abbrev pub zone_of : List ℕ → Option (ℕ × ℕ)
zone_of text =
    if length text == 1 && (slice_index text 0 == 90 || slice_index text 0 == 122) then Some (0, 0)
    else if length text == 6 && slice_index text 3 == 58 && slice_index text 0 == 43 then option_map (λ seconds. (seconds, 0)) (offset_of (two_at text 1) (two_at text 4))
    else if length text == 6 && slice_index text 3 == 58 && slice_index text 0 == 45 then option_map (λ seconds. (0, seconds)) (offset_of (two_at text 1) (two_at text 4))
    else None

-- a local time of these parts
abbrev pub local_time : ℕ → ℕ → ℕ → ℕ → ℕ → ℕ → ℕ → ℕ → LocalTime
local_time year ahead behind month day hour minute second =
    record { year = year; month = month; day = day; hour = hour; minute = minute; second = second; ahead = ahead; behind = behind }

-- the date and clock of a text `....-MM-DDThh:mm:ss`, with this year and offset
abbrev pub clock_of : List ℕ → ℕ → ℕ → ℕ → Option LocalTime
clock_of text year ahead behind =
    option_and_then (λ month. option_and_then (λ day. option_and_then (λ hour. option_and_then (λ minute. option_map (λ second.
    local_time year ahead behind month day hour minute second) (two_at text 17)) (two_at text 14)) (two_at text 11)) (two_at text 8)) (two_at text 5)

-- the hyphens, the `T` or `t` and the colons stand at their places, and something follows the seconds
abbrev pub has_marks : List ℕ → Bool
has_marks text =
    nat_le 20 (length text) && slice_index text 4 == 45 && slice_index text 7 == 45 && (slice_index text 10 == 84 || slice_index text 10 == 116) && slice_index text 13 == 58 && slice_index text 16 == 58

-- the year of four digits, two by two
abbrev pub year_of : Option ℕ → Option ℕ → Option ℕ
year_of None rest = None
year_of (Some century) None = None
year_of (Some century) (Some rest) = Some (century * 100 + rest)

-- the local time that a text writes: `YYYY-MM-DDThh:mm:ss`, a fraction or none, a zone
abbrev pub written_in : List ℕ → Option LocalTime
written_in text =
    if has_marks text
    then option_and_then (λ year. option_and_then (λ zone. clock_of text year zone.0 zone.1) (option_and_then zone_of (after_fraction (drop 19 text)))) (year_of (two_at text 0) (two_at text 2))
    else None

-- the moment that a text writes: its local time's
abbrev pub time_of : List ℕ → Option ℕ
time_of text = option_and_then moment_of (written_in text)

-- `YYYY-MM-DDThh:mm:ssZ`
abbrev pub zulu_text : LocalTime → List ℕ
zulu_text time =
    two_digits (time.year / 100) ++ two_digits (time.year % 100) ++ (45 ∷ []) ++ two_digits time.month ++ (45 ∷ []) ++ two_digits time.day ++ (84 ∷ []) ++ two_digits time.hour ++ (58 ∷ []) ++ two_digits time.minute ++ (58 ∷ []) ++ two_digits time.second ++ (90 ∷ [])

-- the text of a moment: what a clock of UTC shows
unfoldable pub time_text : ℕ → List ℕ
time_text moment = zulu_text (shown_at moment)
