-- How long what is written is at most.
use Rattle.std.proofs.Common.{◌≡◌, ◌≤◌, ◌<◌, ◌+◌, ◌*◌, ◌/◌, ◌%◌, ◌^◌, ◌++◌, ℕ, zero, suc, Bool, true, false, cond, nat_lt, if◌then◌else◌, List, [], ◌∷◌, map, length, Option, Some, None, refl, ap, arith, Ordering, Less, Equal, Greater}
use Rattle.std.specs.Ordering.{nat_cmp, match_ordering}
use Rattle.std.specs.Cmp.Lexicographic.{slice_cmp}
use Rattle.std.proofs.lemmas.Bool.Decides.{nat_tests}
use Rattle.std.proofs.lemmas.List.{length-append}
use Rattle.std.proofs.lemmas.Fmt.{length-decimal-le}
use Rattle.json.specs.Print.{escape_letter, escape_byte, escape, quoted}
use Rattle.serde_json.specs.Data.{Data, string, array, Members, no_members, member, put}
use Rattle.serde_json.specs.View.{items_of}
use Rattle.serde_json.specs.Written.{compact_text, items_text, members_text, comma_if}
use Rattle.std.specs.Char.{digit_char}
use Rattle.moments.specs.declared.calendar.LocalTime.{LocalTime}
use Rattle.moments.specs.Calendar.{last_that, is_reached, year_at, month_at, shown_at}
use Rattle.moments.specs.Text.{zulu_text, time_text}
use Rattle.charging_json.proofs.ReadSizes.{same_name}
use Rattle.json_objects.specs.Objects.{put_if, with_fields, object_of, listed, number_data, time_data}

-- ---- objects

-- a member with its comma
pub member_text : List ℕ → Data → ℕ
member_text name value = length (quoted name) + 2 + length (compact_text value)

comma_bound : (later : Bool) → length (comma_if later) ≤ 1
comma_bound true = omega arith
comma_bound false = omega arith

abbrev members_length : Members → ℕ
members_length no_members = 0
members_length (member k d ms) = member_text k d + members_length ms

members_bound : (later : Bool) (ms : Members) → length (members_text later ms) ≤ 1 + members_length ms
unfolding member_text
members_bound later no_members = omega arith
members_bound later (member k d ms) =
    let h = members_bound true ms in
    let e1 = length-append (comma_if later) (quoted k ++ 58 ∷ (compact_text d ++ members_text true ms)) in
    let e2 = length-append (quoted k) (58 ∷ (compact_text d ++ members_text true ms)) in
    let e3 = length-append (compact_text d) (members_text true ms) in
    let c = comma_bound later in
    omega (arith, h, e1, e2, e3, c)

put_at : (o : Ordering) (k l : List ℕ) (d e : Data) (ms : Members) → slice_cmp nat_cmp k l ≡ o
    → members_length (put k d ms) ≤ member_text k d + members_length ms
    → members_length (match_ordering o (member k d (member l e ms)) (member l d ms) (member l e (put k d ms)))
    ≤ member_text k d + members_length (member l e ms)
put_at Less k l d e ms is h = omega arith
put_at Equal k l d e ms is h =
    let n : member_text k d ≡ member_text l d = ap (λ name. member_text name d) (same_name k l is) in omega (arith, n)
put_at Greater k l d e ms is h = omega (arith, h)

put_length : (k : List ℕ) (d : Data) (ms : Members)
    → members_length (put k d ms) ≤ member_text k d + members_length ms
put_length k d no_members = omega arith
put_length k d (member l e ms) = put_at (slice_cmp nat_cmp k l) k l d e ms refl (put_length k d ms)

-- a field, where it has a value
abbrev pub field_text : List ℕ → Option Data → ℕ
field_text name None = 0
field_text name (Some value) = member_text name value

abbrev pub fields_text : List (List ℕ × Option Data) → ℕ
fields_text [] = 0
fields_text (f ∷ rest) = field_text f.0 f.1 + fields_text rest

put_if_length : (name : List ℕ) (o : Option Data) (ms : Members)
    → members_length (put_if name o ms) ≤ field_text name o + members_length ms
put_if_length name None ms = omega arith
put_if_length name (Some value) ms = put_length name value ms

with_fields_length : (fields : List (List ℕ × Option Data)) (ms : Members)
    → members_length (with_fields fields ms) ≤ fields_text fields + members_length ms
with_fields_length [] ms = omega arith
with_fields_length (f ∷ rest) ms =
    let a = put_if_length f.0 f.1 ms in let b = with_fields_length rest (put_if f.0 f.1 ms) in omega (arith, a, b)

pub object_bound : (fields : List (List ℕ × Option Data))
    → length (compact_text (object_of fields)) ≤ 2 + fields_text fields
object_bound fields =
    let a = members_bound false (with_fields fields no_members) in
    let b = with_fields_length fields no_members in omega (arith, a, b)

-- ---- texts

-- a text that has no escapes
pub record Bare (text : List ℕ) : Type 0 where
  pub same : length (escape text) ≡ length text

pub quoted_length : (text : List ℕ) → length (quoted text) ≡ length (escape text) + 2
quoted_length text = let e = length-append (escape text) (34 ∷ []) in omega (arith, e)

one_of_three : (a b : Bool) (x y z : List ℕ) → length x ≤ 6 → length y ≤ 6 → length z ≤ 6
    → length (cond a x (cond b y z)) ≤ 6
one_of_three true b x y z hx hy hz = hx
one_of_three false true x y z hx hy hz = hy
one_of_three false false x y z hx hy hz = hz

byte_length : (x : ℕ) → length (escape_byte x) ≤ 6
unfolding escape_byte
byte_length x =
    one_of_three (nat_lt 0 (escape_letter x)) (nat_lt x 32) (92 ∷ escape_letter x ∷ []) _ (x ∷ []) (omega arith)
    (six (digit_char (x / 16)) (digit_char (x % 16))) (omega arith)
  where
    six : (a b : ℕ) → length (92 ∷ 117 ∷ 48 ∷ 48 ∷ a ∷ b ∷ []) ≤ 6
    six a b = omega arith

escape_length : (text : List ℕ) → length (escape text) ≤ 6 * length text
escape_length [] = omega arith
escape_length (x ∷ text) =
    let a = byte_length x in
    let b = escape_length text in let e = length-append (escape_byte x) (escape text) in omega (arith, a, b, e)

pub string_bound : (text : List ℕ) → length (compact_text (string text)) ≤ 6 * length text + 2
string_bound text = let a = escape_length text in let e = quoted_length text in omega (arith, a, e)

-- a field of a name that has no escapes
pub field_bound : (name : List ℕ) (value : Data) (n : ℕ) → Bare name → length (compact_text value) ≤ n
    → field_text name (Some value) ≤ length name + 4 + n
unfolding member_text
field_bound name value n bare h = let e = quoted_length name in let b = bare.same in omega (arith, e, b, h)

-- ---- times

bare_byte : (x : ℕ) → 48 ≤ x → x < 92 → length (escape_byte x) ≡ 1
unfolding escape_byte
bare_byte x least most = grind (arith, nat_tests)

bare_more : (x : ℕ) (text : List ℕ) → length (escape_byte x) ≡ 1 → Bare text → Bare (x ∷ text)
bare_more x text one rest =
    let e = length-append (escape_byte x) (escape text) in
    let r = rest.same in record { same = omega (arith, e, one, r) }

two_bare : (n : ℕ) (text : List ℕ) → n < 440 → Bare text → Bare ((48 + n / 10) ∷ (48 + n % 10) ∷ text)
two_bare n text small rest =
    bare_more (48 + n / 10) ((48 + n % 10) ∷ text) (bare_byte (48 + n / 10) (omega arith) (omega arith))
    (bare_more (48 + n % 10) text (bare_byte (48 + n % 10) (omega arith) (omega arith)) rest)

last_bound : (test : ℕ → Bool) (n : ℕ) → last_that test n ≤ n
last_bound test zero = omega arith
last_bound test (suc n) = by (test (suc n)) (last_bound test n)
  where
    by : (b : Bool) → last_that test n ≤ n → (if b then suc n else last_that test n) ≤ suc n
    by true h = omega arith
    by false h = omega (arith, h)

zulu_bare : (t : LocalTime) → t.year < 10000 → t.month < 100 → t.day < 100 → t.hour < 100 → t.minute < 100
    → t.second < 100 → Bare (zulu_text t)
unfolding escape_byte
zulu_bare t year month day hour minute second =
    two_bare (t.year / 100) _ (omega arith)
    (two_bare (t.year % 100) _ (omega arith)
    (bare_more 45 _ refl (two_bare t.month _ (omega arith)
    (bare_more 45 _ refl (two_bare t.day _ (omega arith) (bare_more 84 _ refl
    (two_bare t.hour _ (omega arith)
    (bare_more 58 _ refl (two_bare t.minute _ (omega arith)
    (bare_more 58 _ refl (two_bare t.second (90 ∷ []) (omega arith)
    (bare_more 90 [] refl (record { same = refl })))))))))))))

time_bare : (moment : ℕ) → Bare (time_text moment)
unfolding time_text
time_bare moment =
    let days = moment / 86400 in
    let year = last_bound (λ year. is_reached days year 1 1) 2069 in
    let month = last_bound (λ month. is_reached days (year_at days) month 1) 12 in
    let day = last_bound (λ day. is_reached days (year_at days) (month_at days) day) 31 in
    zulu_bare (shown_at moment) (omega (arith, year)) (omega (arith, month)) (omega (arith, day)) (omega arith)
    (omega arith) (omega arith)

pub time_bound : (moment : ℕ) → length (compact_text (time_data moment)) ≤ 22
unfolding time_text
time_bound moment = let e = quoted_length (time_text moment) in let b = (time_bare moment).same in omega (arith, e, b)

-- ---- numbers

pub number_bound : (n : ℕ) → n ≤ 4294967295 → length (compact_text (number_data n)) ≤ 10
number_bound n most = length-decimal-le 10 n (omega arith) (omega arith) (omega arith)

pub volume_bound : (n : ℕ) → n ≤ 2 ^ 61 → length (compact_text (number_data n)) ≤ 19
volume_bound n most = length-decimal-le 19 n (omega arith) (omega arith) (omega arith)

-- ---- lists

-- the texts of values, each with a comma
abbrev pub texts_size : {T : Type 0} → (T → Data) → List T → ℕ
texts_size writes [] = 0
texts_size writes (x ∷ xs) = length (compact_text (writes x)) + 1 + texts_size writes xs

items_bound : {T : Type 0} (later : Bool) (writes : T → Data) (xs : List T)
    → length (items_text later (items_of (map writes xs))) ≤ 1 + texts_size writes xs
items_bound later writes [] = omega arith
items_bound later writes (x ∷ xs) =
    let h = items_bound true writes xs in
    let e1 = length-append (comma_if later) (compact_text (writes x) ++ items_text true (items_of (map writes xs))) in
    let e2 = length-append (compact_text (writes x)) (items_text true (items_of (map writes xs))) in
    let c = comma_bound later in
    omega (arith, h, e1, e2, c)

pub listed_bound : {T : Type 0} (name : List ℕ) (writes : T → Data) (xs : List T) (n : ℕ) → Bare name
    → texts_size writes xs + 2 ≤ 10 * n → field_text name (listed (map writes xs)) ≤ 10 * (length name + 4 + n)
listed_bound name writes [] n bare h = omega arith
listed_bound name writes (x ∷ xs) n bare h =
    let b = items_bound false writes (x ∷ xs) in
    let f = field_bound name (array (items_of (map writes (x ∷ xs)))) (2 + texts_size writes (x ∷ xs)) bare
    (omega (arith, b)) in
    omega (arith, f, h)
