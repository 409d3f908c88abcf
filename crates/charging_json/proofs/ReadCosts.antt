-- What is written of a value that was read is bounded by what the value was read from.
use Rattle.std.proofs.Common.{◌≤◌, ◌+◌, ◌*◌, ℕ, suc, nat_le, Bool, true, false, List, map, length, Option, Some, None, Result, IfSome, IfOk, option_map, option_and_then, arith, if◌then◌else◌}
use Rattle.std.specs.List.{AllByRecursion}
use Rattle.serde_json.specs.Data.{Data, null, boolean, number, string, array, object, Items, no_items, item}
use Rattle.serde_json.specs.Written.{compact_text}
use Rattle.moments.specs.Text.{time_of}
use Rattle.units.specs.Limits.{most_entries}
use Rattle.units.specs.Ranges.{Is32, IsMoment, IsVolume, IfGiven}
use Rattle.units.specs.declared.refusal.JsonRefusal.{JsonRefusal}
use Rattle.json_objects.specs.Fields.{given, number_32, volume, time, text_that, optional, needed, joined, each, list_of, or_empty, required, allowed, required_if, after}
use Rattle.json_objects.specs.Objects.{listed, number_data, time_data}
use Rattle.json_objects.specs.Sizes.{size, items_size}
use Rattle.charging_json.specs.Usage.{count, short_list_of}
use Rattle.charging_json.proofs.InRange.{chain, mapped, then_in}
use Rattle.charging_json.proofs.ReadSizes.{field_size, part, positive}
use Rattle.charging_json.proofs.WrittenSizes.{Bare, field_text, field_bound, string_bound, time_bound, number_bound, volume_bound, texts_size, listed_bound}

-- in range, a value is written with at most ten times so many bytes, and nine
abbrev pub Written : {T : Type 0} → (T → Data) → (T → Type 0) → ℕ → T → Type 0
Written writes P n x = P x → length (compact_text (writes x)) ≤ 10 * n + 9

-- what a reader gives is written so, by the size of what it was read from
abbrev pub Costs : {T : Type 0} → (Data → Option T) → (T → Data) → (T → Type 0) → Type 0
Costs reads writes P = (value : Data) → IfSome (reads value) (Written writes P (size value))

-- ---- numbers, texts and times

pub number_costs : Costs number_32 number_data Is32
number_costs value = by (number_32 value)
  where
    by : (o : Option ℕ) → IfSome o (Written number_data Is32 (size value))
    by None = tt
    by (Some n) = λ h. let b = number_bound n h in let p = positive value in omega (arith, b, p)

pub volume_costs : Costs volume number_data IsVolume
volume_costs value = by (volume value)
  where
    by : (o : Option ℕ) → IfSome o (Written number_data IsVolume (size value))
    by None = tt
    by (Some n) = λ h. let b = volume_bound n (omega (arith, h)) in let p = positive value in omega (arith, b, p)

-- a text, with its quotes
pub text_size : (test : List ℕ → Bool) (value : Data)
    → IfSome (text_that test value) (λ text. length text + 2 ≤ size value)
text_size test (string s) = by (test s)
  where
    by : (b : Bool) → IfSome (if b then Some s else None) (λ text. length text + 2 ≤ length s + 2)
    by true = omega arith
    by false = tt
text_size test null = tt
text_size test (boolean b) = tt
text_size test (number n) = tt
text_size test (array ds) = tt
text_size test (object ms) = tt

pub text_costs : (test : List ℕ → Bool) (P : List ℕ → Type 0) → Costs (text_that test) string P
text_costs test P value = by (text_that test value) (text_size test value)
  where
    by : (o : Option (List ℕ)) → IfSome o (λ text. length text + 2 ≤ size value)
        → IfSome o (Written string P (size value))
    by None h = tt
    by (Some text) h = λ p. let b = string_bound text in omega (arith, h, b)

pub time_costs : Costs time time_data IsMoment
time_costs (string s) = by (time_of s)
  where
    by : (o : Option ℕ) → IfSome o (Written time_data IsMoment (length s + 2))
    by None = tt
    by (Some m) = λ h. let b = time_bound m in omega (arith, b)
time_costs null = tt
time_costs (boolean b) = tt
time_costs (number n) = tt
time_costs (array ds) = tt
time_costs (object ms) = tt

-- ---- fields

-- in range, a field is written with at most ten times so many bytes
abbrev FieldWritten : {T : Type 0} → List ℕ → (T → Data) → (T → Type 0) → ℕ → T → Type 0
FieldWritten label writes P n x = P x → field_text label (Some (writes x)) ≤ 10 * n

-- the same where there is one
abbrev IfWritten : {T : Type 0} → List ℕ → (T → Data) → (T → Type 0) → ℕ → Option T → Type 0
IfWritten label writes P n o = IfGiven P o → field_text label (option_map writes o) ≤ 10 * n

field_costs : {T : Type 0} (label : List ℕ) (writes : T → Data) (P : T → Type 0) (x : T) (n : ℕ) → Bare label
    → Written writes P n x → FieldWritten label writes P (length label + 4 + n) x
field_costs label writes P x n bare h p =
    let f = field_bound label (writes x) (10 * n + 9) bare (h p) in omega (arith, f)

-- a field that is read, and then what follows it
module _ {T B : Type 0} (label : List ℕ) (reads : Data → Option T) (writes : T → Data) (P : T → Type 0)
    (bare : Bare label) (costs : Costs reads writes P) (value : Data) (Q : B → Type 0) where
  needed_costs : (found : Option Data)
      → IfSome (needed reads found) (FieldWritten label writes P (field_size label found))
  needed_costs None = tt
  needed_costs (Some v) = by (reads v) (costs v)
    where
      by : (o : Option T) → IfSome o (Written writes P (size v))
          → IfSome o (FieldWritten label writes P (length label + 4 + size v))
      by None h = tt
      by (Some x) h = field_costs label writes P x (size v) bare h

  optional_costs : (found : Option Data)
      → IfSome (optional reads found) (IfWritten label writes P (field_size label found))
  optional_costs None = λ h. omega arith
  optional_costs (Some v) = by (reads v) (costs v)
    where
      by : (o : Option T) → IfSome o (Written writes P (size v))
          → IfSome (option_map Some o) (IfWritten label writes P (length label + 4 + size v))
      by None h = tt
      by (Some x) h = field_costs label writes P x (size v) bare h

  required_costs : (found : Option Data)
      → IfOk (required label (option_map reads found)) (FieldWritten label writes P (field_size label found))
  required_costs None = tt
  required_costs (Some v) = by (reads v) (costs v)
    where
      by : (o : Option T) → IfSome o (Written writes P (size v))
          → IfOk (required label (Some o)) (FieldWritten label writes P (length label + 4 + size v))
      by None h = tt
      by (Some x) h = field_costs label writes P x (size v) bare h

  allowed_costs : (found : Option Data)
      → IfOk (allowed label (option_map reads found)) (IfWritten label writes P (field_size label found))
  allowed_costs None = λ h. omega arith
  allowed_costs (Some v) = by (reads v) (costs v)
    where
      by : (o : Option T) → IfSome o (Written writes P (size v))
          → IfOk (allowed label (Some o)) (IfWritten label writes P (length label + 4 + size v))
      by None h = tt
      by (Some x) h = field_costs label writes P x (size v) bare h

  required_if_costs : (must : Bool) (found : Option Data)
      → IfOk (required_if must label (option_map reads found)) (IfWritten label writes P (field_size label found))
  required_if_costs true None = tt
  required_if_costs false None = λ h. omega arith
  required_if_costs must (Some v) = by (reads v) (costs v)
    where
      by : (o : Option T) → IfSome o (Written writes P (size v))
          → IfOk (required_if must label (Some o)) (IfWritten label writes P (length label + 4 + size v))
      by None h = tt
      by (Some x) h = field_costs label writes P x (size v) bare h

  pub then_needed : (f : T → Option B)
      → ((x : T) → FieldWritten label writes P (part label value) x → IfSome (f x) Q)
      → IfSome (option_and_then f (needed reads (given label value))) Q
  then_needed f =
      chain (FieldWritten label writes P (part label value)) Q (needed reads (given label value)) f
      (needed_costs (given label value))

  pub then_optional : (f : Option T → Option B)
      → ((o : Option T) → IfWritten label writes P (part label value) o → IfSome (f o) Q)
      → IfSome (option_and_then f (optional reads (given label value))) Q
  then_optional f =
      chain (IfWritten label writes P (part label value)) Q (optional reads (given label value)) f
      (optional_costs (given label value))

  pub last_optional : (f : Option T → B) → ((o : Option T) → IfWritten label writes P (part label value) o → Q (f o))
      → IfSome (option_map f (optional reads (given label value))) Q
  last_optional f =
      mapped (IfWritten label writes P (part label value)) Q (optional reads (given label value)) f
      (optional_costs (given label value))

  pub then_required : (f : T → Result B JsonRefusal)
      → ((x : T) → FieldWritten label writes P (part label value) x → IfOk (f x) Q)
      → IfOk (after (required label (option_map reads (given label value))) f) Q
  then_required f =
      then_in (FieldWritten label writes P (part label value)) Q
      (required label (option_map reads (given label value))) f (required_costs (given label value))

  pub then_allowed : (f : Option T → Result B JsonRefusal)
      → ((o : Option T) → IfWritten label writes P (part label value) o → IfOk (f o) Q)
      → IfOk (after (allowed label (option_map reads (given label value))) f) Q
  then_allowed f =
      then_in (IfWritten label writes P (part label value)) Q
      (allowed label (option_map reads (given label value))) f (allowed_costs (given label value))

  pub then_required_if : (must : Bool) (f : Option T → Result B JsonRefusal)
      → ((o : Option T) → IfWritten label writes P (part label value) o → IfOk (f o) Q)
      → IfOk (after (required_if must label (option_map reads (given label value))) f) Q
  then_required_if must f =
      then_in (IfWritten label writes P (part label value)) Q
      (required_if must label (option_map reads (given label value))) f
      (required_if_costs must (given label value))

-- ---- lists

-- where each is in range, the values of a list are written with at most ten times so many bytes
abbrev EachWritten : {T : Type 0} → (T → Data) → (T → Type 0) → ℕ → List T → Type 0
EachWritten writes P n xs = AllByRecursion P xs → texts_size writes xs ≤ 10 * n

-- and with their brackets
abbrev AllWritten : {T : Type 0} → (T → Data) → (T → Type 0) → ℕ → List T → Type 0
AllWritten writes P n xs = AllByRecursion P xs → texts_size writes xs + 2 ≤ 10 * n

module _ {T : Type 0} (reads : Data → Option T) (writes : T → Data) (P : T → Type 0)
    (costs : Costs reads writes P) where
  joined_costs : (n m : ℕ) (o : Option T) (os : Option (List T)) → IfSome o (Written writes P n)
      → IfSome os (EachWritten writes P m) → IfSome (joined o os) (EachWritten writes P (n + 1 + m))
  joined_costs n m None os h k = tt
  joined_costs n m (Some x) None h k = tt
  joined_costs n m (Some x) (Some xs) h k = λ all. let a = h all.0 in let b = k all.1 in omega (arith, a, b)

  each_costs : (items : Items) → IfSome (each reads items) (EachWritten writes P (items_size items))
  each_costs no_items = λ all. omega arith
  each_costs (item value rest) =
      joined_costs (size value) (items_size rest) (reads value) (each reads rest) (costs value) (each_costs rest)

  with_brackets : (n : ℕ) (o : Option (List T)) → IfSome o (EachWritten writes P n)
      → IfSome o (AllWritten writes P (suc n))
  with_brackets n None h = tt
  with_brackets n (Some xs) h = λ all. let a = h all in omega (arith, a)

  pub list_costs : (value : Data) → IfSome (list_of reads value) (AllWritten writes P (size value))
  list_costs (array items) = with_brackets (items_size items) (each reads items) (each_costs items)
  list_costs null = tt
  list_costs (boolean b) = tt
  list_costs (number n) = tt
  list_costs (string s) = tt
  list_costs (object ms) = tt

  if_short : (items : Items) (b : Bool)
      → IfSome (option_and_then (each reads) (if b then Some items else None))
      (AllWritten writes P (suc (items_size items)))
  if_short items true = with_brackets (items_size items) (each reads items) (each_costs items)
  if_short items false = tt

  pub short_list_costs : (value : Data) → IfSome (short_list_of reads value) (AllWritten writes P (size value))
  short_list_costs (array items) = if_short items (nat_le (count items) most_entries)
  short_list_costs null = tt
  short_list_costs (boolean b) = tt
  short_list_costs (number n) = tt
  short_list_costs (string s) = tt
  short_list_costs (object ms) = tt

-- a list that is absent is written as if it were empty
abbrev ListWritten : {T : Type 0} → List ℕ → (T → Data) → (T → Type 0) → ℕ → Option (List T) → Type 0
ListWritten label writes P n o =
    AllByRecursion P (or_empty o) → field_text label (listed (map writes (or_empty o))) ≤ 10 * n

-- a list that is read, and then what follows it
module _ {T B : Type 0} (label : List ℕ) (reads : Data → Option (List T)) (writes : T → Data) (P : T → Type 0)
    (bare : Bare label) (costs : (value : Data) → IfSome (reads value) (AllWritten writes P (size value)))
    (value : Data) (Q : B → Type 0) where
  optional_list_costs : (found : Option Data)
      → IfSome (optional reads found) (ListWritten label writes P (field_size label found))
  optional_list_costs None = λ all. omega arith
  optional_list_costs (Some v) = by (reads v) (costs v)
    where
      by : (o : Option (List T)) → IfSome o (AllWritten writes P (size v))
          → IfSome (option_map Some o) (ListWritten label writes P (length label + 4 + size v))
      by None h = tt
      by (Some xs) h = λ all. listed_bound label writes xs (size v) bare (h all)

  allowed_list_costs : (found : Option Data)
      → IfOk (allowed label (option_map reads found)) (ListWritten label writes P (field_size label found))
  allowed_list_costs None = λ all. omega arith
  allowed_list_costs (Some v) = by (reads v) (costs v)
    where
      by : (o : Option (List T)) → IfSome o (AllWritten writes P (size v))
          → IfOk (allowed label (Some o)) (ListWritten label writes P (length label + 4 + size v))
      by None h = tt
      by (Some xs) h = λ all. listed_bound label writes xs (size v) bare (h all)

  pub last_list : (f : Option (List T) → B)
      → ((o : Option (List T)) → ListWritten label writes P (part label value) o → Q (f o))
      → IfSome (option_map f (optional reads (given label value))) Q
  last_list f =
      mapped (ListWritten label writes P (part label value)) Q (optional reads (given label value)) f
      (optional_list_costs (given label value))

  pub then_allowed_list : (f : Option (List T) → Result B JsonRefusal)
      → ((o : Option (List T)) → ListWritten label writes P (part label value) o → IfOk (f o) Q)
      → IfOk (after (allowed label (option_map reads (given label value))) f) Q
  then_allowed_list f =
      then_in (ListWritten label writes P (part label value)) Q
      (allowed label (option_map reads (given label value))) f (allowed_list_costs (given label value))
