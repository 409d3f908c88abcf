-- An input has one list of rows.
use mathlib.Core.Bool.{true≢false}
use Rattle.std.proofs.Common.{◌==◌, if◌then◌else◌, ◌≡◌, ◌<◌, ◌≤◌, ◌+◌, ℕ, suc, zero, Bool, true, false, List, [], ◌∷◌, ◌++◌, length, refl, sym, ◌∙◌, ap, subst, arith, Option, Some, None}
use Rattle.csv.specs.Machine.{Read, after_end, carriage_return, ends_at_end, ends_with, field_after, fields_after, in_field, is_end, next_record, start_field, start_record, step}
use Rattle.csv.specs.declared.parser.Action.{Action}
use Rattle.csv.specs.declared.parser.Action.TheVariants as act
use Rattle.csv.specs.declared.parser.Terminator.TheVariants as term
use Rattle.csv.specs.Reading.{AreRecords, Reached, default_config, strip_bom}
use Rattle.csv.specs.declared.parser.Config.{Config}
use Rattle.csv.specs.declared.parser.State.{State}
use Rattle.csv.specs.declared.parser.State.TheVariants as st
use Rattle.charging.specs.Rows.{AreRows}

some_none : {X : Type 0} (x : X) (o : Option X) → o ≡ Some x → o ≡ None → ⊥
some_none x o e n = cc

same_some : {X : Type 0} (x y : X) (o : Option X) → o ≡ Some x → o ≡ Some y → x ≡ y
same_some x y o e f = cc

same_records : (cfg : Config) (s sa sb : State) (xs ya yb : List ℕ) (us vs : List (List (List ℕ))) → Reached cfg s xs us sa ya → next_record cfg sa [] [] ya ≡ None → Reached cfg s xs vs sb yb → next_record cfg sb [] [] yb ≡ None → us ≡ vs
unfolding Reached
same_records cfg s sa sb xs ya yb [] [] a an b bn = refl
same_records cfg s sa sb xs ya yb [] (r ∷ rs) a an b bn =
    absurd (some_none b.0 (next_record cfg s [] [] xs) b.1 (ap (λ k. next_record cfg k [] [] xs) a.0 ∙ ap (λ k. next_record cfg sa [] [] k) a.1 ∙ an))
same_records cfg s sa sb xs ya yb (q ∷ qs) [] a an b bn =
    absurd (some_none a.0 (next_record cfg s [] [] xs) a.1 (ap (λ k. next_record cfg k [] [] xs) b.0 ∙ ap (λ k. next_record cfg sb [] [] k) b.1 ∙ bn))
same_records cfg s sa sb xs ya yb (q ∷ qs) (r ∷ rs) a an b bn =
    let one : a.0 ≡ b.0 = same_some a.0 b.0 (next_record cfg s [] [] xs) a.1 b.1 in
    let rest : Reached cfg a.0.1 a.0.2 rs sb yb = subst (λ (p : Read). Reached cfg p.1 p.2 rs sb yb) (sym one) b.3 in
    let head : q ≡ r = a.2 ∙ ap (λ (p : Read). p.0) one ∙ sym b.2 in
    let tail : qs ≡ rs = same_records cfg a.0.1 sa sb a.0.2 ya yb qs rs a.3 an rest bn in
    ap (λ k. k ∷ qs) head ∙ ap (λ k. r ∷ k) tail

-- the rows of an input are one list
pub same_rows : (bytes : List ℕ) (us vs : List (List (List ℕ))) → AreRows bytes us → AreRows bytes vs → us ≡ vs
same_rows bytes us vs a b = same_records default_config st.StartRecord a.0 b.0 (strip_bom bytes) a.1 b.1 us vs a.2 a.3 b.2 b.3

-- where a record is read, it is the first of those that are left
pub first_record : (s : State) (xs : List ℕ) (read : Read) (rows : List (List (List ℕ))) → AreRecords default_config s xs rows → next_record default_config s [] [] xs ≡ Some read
    → (rest : List (List (List ℕ))) × (rows ≡ read.0 ∷ rest) × AreRecords default_config read.1 read.2 rest
unfolding Reached
first_record s xs read [] a e =
    absurd (some_none read (next_record default_config s [] [] xs) e (ap (λ k. next_record default_config k [] [] xs) a.2.0 ∙ ap (λ k. next_record default_config a.0 [] [] k) a.2.1 ∙ a.3))
first_record s xs read (r ∷ rs) a e =
    let one : a.2.0 ≡ read = same_some a.2.0 read (next_record default_config s [] [] xs) a.2.1 e in
    let rest : Reached default_config read.1 read.2 rs a.0 a.1 = subst (λ (p : Read). Reached default_config p.1 p.2 rs a.0 a.1) one a.2.3 in
    (rs, ap (λ k. k ∷ rs) (a.2.2 ∙ ap (λ (p : Read). p.0) one), (a.0, a.1, rest, a.3))

-- where none is read, none is left
pub no_record : (s : State) (xs : List ℕ) (rows : List (List (List ℕ))) → AreRecords default_config s xs rows → next_record default_config s [] [] xs ≡ None → rows ≡ []
unfolding Reached
no_record s xs [] a e = refl
no_record s xs (r ∷ rs) a e = absurd (some_none a.2.0 (next_record default_config s [] [] xs) a.2.1 e)

-- a step that ends a record leaves a state in which the end of the text ends none
abbrev Ends : State × Action → Type 0
Ends p = is_end p.1 ≡ true → ends_at_end p.0 ≡ false

abbrev pick : Bool → State × Action → State × Action → State × Action
pick b p q = if b then p else q

picked : (b : Bool) (p q : State × Action) → Ends p → Ends q → Ends (pick b p q)
picked true p q here there h = here h
picked false p q here there h = there h

goes_on : (p : State × Action) → is_end p.1 ≡ false → Ends p
goes_on p e h = absurd (true≢false (sym h ∙ e))

at_start : (b : Bool) → ends_at_end (if b then st.AfterCr else st.StartRecord) ≡ false
at_start true = refl
at_start false = refl

in_field_ends : (c : ℕ) → Ends (in_field default_config c)
in_field_ends c = picked (c == 44) (st.StartField, act.EndField) (pick (ends_with term.CRLF c) (after_end term.CRLF c, act.EndRecord) (st.InField, act.Copy)) (goes_on (st.StartField, act.EndField) refl)
    (picked (ends_with term.CRLF c) (after_end term.CRLF c, act.EndRecord) (st.InField, act.Copy) (λ h. at_start (c == carriage_return)) (goes_on (st.InField, act.Copy) refl))

start_field_ends : (c : ℕ) → Ends (start_field default_config c)
start_field_ends c = picked (c == 34) (st.InQuoted, act.Skip) (in_field default_config c) (goes_on (st.InQuoted, act.Skip) refl) (in_field_ends c)

start_record_ends : (c : ℕ) → Ends (start_record default_config c)
start_record_ends c = picked (ends_with term.CRLF c) (st.StartRecord, act.Skip) (start_field default_config c) (goes_on (st.StartRecord, act.Skip) refl) (start_field_ends c)

ended_at_start : (s : State) (c : ℕ) → Ends (step default_config s c)
ended_at_start st.StartRecord c = start_record_ends c
ended_at_start st.StartField c = start_field_ends c
ended_at_start st.InField c = in_field_ends c
ended_at_start st.InQuoted c = picked (c == 34) (st.AfterQuote, act.Skip) (st.InQuoted, act.Copy) (goes_on (st.AfterQuote, act.Skip) refl) (goes_on (st.InQuoted, act.Copy) refl)
ended_at_start st.InEscape c = goes_on (st.InQuoted, act.Copy) refl
ended_at_start st.AfterQuote c = picked (c == 34) (st.InQuoted, act.Copy) (in_field default_config c) (goes_on (st.InQuoted, act.Copy) refl) (in_field_ends c)
ended_at_start st.InComment c = picked (c == 10) (st.StartRecord, act.Skip) (st.InComment, act.Skip) (goes_on (st.StartRecord, act.Skip) refl) (goes_on (st.InComment, act.Skip) refl)
ended_at_start st.AfterCr c = picked (c == 10) (st.StartRecord, act.Skip) (start_record default_config c) (goes_on (st.StartRecord, act.Skip) refl) (start_record_ends c)

-- what is read of a record leaves no more bytes than there were, in such a state
pub read_less : (s : State) (fields : List (List ℕ)) (field xs : List ℕ) (read : Read) → next_record default_config s fields field xs ≡ Some read → (ends_at_end read.1 ≡ false) × (length read.2 ≤ length xs)
unfolding next_record
read_less s fields field [] read e = by (ends_at_end s) refl
  where
    by : (b : Bool) → ends_at_end s ≡ b → (ends_at_end read.1 ≡ false) × (length read.2 ≤ 0)
    by true t =
        let is = rw t at e in
        let last : Read = (fields ++ field ∷ [], st.StartRecord, []) in
        let same : last ≡ read = cc in
        (ap (λ (p : Read). ends_at_end p.1) (sym same), omega (arith, ap (λ (p : Read). length p.2) same))
    by false t = let is = rw t at e in cc
read_less s fields field (c ∷ rest) read e = by (is_end (step default_config s c).1) refl (read_less (step default_config s c).0 (fields_after (step default_config s c).1 fields field) (field_after (step default_config s c).1 c field) rest read)
  where
    by : (b : Bool) → is_end (step default_config s c).1 ≡ b → (next_record default_config (step default_config s c).0 (fields_after (step default_config s c).1 fields field) (field_after (step default_config s c).1 c field) rest ≡ Some read → (ends_at_end read.1 ≡ false) × (length read.2 ≤ length rest))
        → (ends_at_end read.1 ≡ false) × (length read.2 ≤ suc (length rest))
    by true t more =
        let is = rw t at e in
        let last : Read = (fields_after (step default_config s c).1 fields field, (step default_config s c).0, rest) in
        let same : last ≡ read = cc in
        (ap (λ (p : Read). ends_at_end p.1) (sym same) ∙ ended_at_start s c t, omega (arith, ap (λ (p : Read). length p.2) same))
    by false t more = let all = more (rw t at e) in (all.0, omega (arith, all.1))

-- a record that is read from such a state takes a byte at least
read_some : (s : State) (xs : List ℕ) (read : Read) → ends_at_end s ≡ false → next_record default_config s [] [] xs ≡ Some read → (ends_at_end read.1 ≡ false) × (length read.2 < length xs)
unfolding next_record
read_some s [] read start e = let is = rw start at e in cc
read_some s (c ∷ rest) read start e = by (is_end (step default_config s c).1) refl
  where
    by : (b : Bool) → is_end (step default_config s c).1 ≡ b → (ends_at_end read.1 ≡ false) × (length read.2 < suc (length rest))
    by true t =
        let is = rw t at e in
        let last : Read = (fields_after (step default_config s c).1 [] [], (step default_config s c).0, rest) in
        let same : last ≡ read = cc in
        (ap (λ (p : Read). ends_at_end p.1) (sym same) ∙ ended_at_start s c t, omega (arith, ap (λ (p : Read). length p.2) same))
    by false t =
        let all = read_less (step default_config s c).0 (fields_after (step default_config s c).1 [] []) (field_after (step default_config s c).1 c []) rest read (rw t at e) in
        (all.0, omega (arith, all.1))

pub records_from_here : (n : ℕ) (s : State) (xs : List ℕ) → ends_at_end s ≡ false → length xs < n → (rows : List (List (List ℕ))) × AreRecords default_config s xs rows
unfolding Reached
records_from_here zero s xs start less = absurd (omega arith)
records_from_here (suc n) s xs start less = by (next_record default_config s [] [] xs) refl (λ t ys. records_from_here n t ys)
  where
    by : (o : Option Read) → next_record default_config s [] [] xs ≡ o → ((t : State) (ys : List ℕ) → ends_at_end t ≡ false → length ys < n → (rows : List (List (List ℕ))) × AreRecords default_config t ys rows)
        → (rows : List (List (List ℕ))) × AreRecords default_config s xs rows
    by None e more = ([], (s, xs, (refl, refl), e))
    by (Some read) e more =
        let some = read_some s xs read start e in
        let rest = more read.1 read.2 some.0 (omega (arith, some.1)) in
        (read.0 ∷ rest.0, (rest.1.0, rest.1.1, (read, e, refl, rest.1.2), rest.1.3))

-- each input has rows
pub some_rows : (bytes : List ℕ) → (rows : List (List (List ℕ))) × AreRows bytes rows
some_rows bytes = records_from_here (length (strip_bom bytes) + 1) st.StartRecord (strip_bom bytes) refl (omega arith)
