-- The setup of a row reads back.
use Rattle.std.proofs.Common.{◌≡◌, ◌∙◌, ◌-◌, ◌^◌, ◌<◌, ◌≤◌, ◌&&◌, ℕ, ap, sym, refl, subst, Bool, true, false, nat_le, nat_lt, bytes_eq, List, [], ◌∷◌, Option, Some, None, if◌then◌else◌, codes, decimal, arith}
use Rattle.std.specs.Prelude.{option_and_then}
use Rattle.std.specs.List.{list_all}
use Rattle.units.specs.Words.{failover_named, handling_named}
use Rattle.units.specs.declared.answer.Handling.{Handling}
use Rattle.std.proofs.lemmas.Option.{same_Some}
use Rattle.std.specs.Str.Parse.{digits_value}
use Rattle.std.proofs.lemmas.Bool.{and_parts}
use Rattle.std.proofs.lemmas.Bool.Decides.{nat_tests}
use Rattle.rows.specs.Number.{is_numeral, number_of}
use Rattle.row_fields.specs.Fields.{name_of, row_size}
use Rattle.row_texts.specs.RowTexts.{row_in, row_text}
use Rattle.row_texts.specs.ReadBack.{is_field, is_row}
use Rattle.smf_rows.specs.SetupRow.{count_of, setup_by, setup_in, setup_of, setup_with, worded}
use Rattle.smf_model.specs.declared.setup.SmfSetup.{SmfSetup}
use Rattle.smf_payloads.specs.Written.{setup_row}
use Rattle.smf_payloads.specs.Payloads.{SetupReadsBack}
use Rattle.smf_payloads.proofs.Options.{and_then, passed}
use Rattle.smf_payloads.proofs.Words.{failover_word, handling_word, named, same_text}
use Rattle.smf_payloads.proofs.EventRows.{IsNumber, Laws, number_is}

count_is : Laws → (most n : ℕ) (field : List ℕ) → most < 2 ^ 64 → count_of most field ≡ Some n → IsNumber n field
count_is laws most n field small h =
    let c = and_then (λ n. if nat_lt 0 n then Some n else None) (number_of most field) n h in
    let both = passed (nat_lt 0 c.source) (Some c.source) n c.read_is in
    let same : c.source ≡ n = cc in
    number_is laws most n field small (c.is ∙ ap Some same)

-- a number that was read is within its bound
number_within : (most n : ℕ) (field : List ℕ) → number_of most field ≡ Some n → n ≤ most
number_within most n field h =
    let parts = passed (is_numeral field && nat_le (digits_value 10 field) most) (Some (digits_value 10 field)) n h in
    let both = and_parts (is_numeral field) (nat_le (digits_value 10 field) most) parts.0 in
    let same : digits_value 10 field ≡ n = cc in
    grind (arith, nat_tests, both.1, same)

count_within : (most n : ℕ) (field : List ℕ) → count_of most field ≡ Some n → n ≤ most
count_within most n field h =
    let c = and_then (λ n. if nat_lt 0 n then Some n else None) (number_of most field) n h in
    let both = passed (nat_lt 0 c.source) (Some c.source) n c.read_is in
    let same : c.source ≡ n = cc in
    omega (arith, number_within most c.source field c.is, same)

-- the fields of the row, as they were read
record AreRead (failover : Option Bool) (handling : Option Handling) (retry held : Option ℕ) (changes : ℕ → Option ℕ) (volume time : Option ℕ) (name : Option (List ℕ)) (s : SmfSetup) : Type 0 where
  failover_is : failover ≡ Some s.failover
  handling_is : handling ≡ Some s.handling
  retry_is : retry ≡ Some s.retry
  held_is : held ≡ Some s.held_max
  changes_is : changes s.held_max ≡ Some s.changes_max
  volume_is : volume ≡ Some s.volume_limit
  time_is : time ≡ Some s.time_limit
  name_is : name ≡ Some s.name

-- those after the number of containers that may wait
record AreLast (f : Bool) (h : Handling) (r m : ℕ) (changes volume time : Option ℕ) (name : Option (List ℕ)) (s : SmfSetup) : Type 0 where
  failover_is : f ≡ s.failover
  handling_is : h ≡ s.handling
  retry_is : r ≡ s.retry
  held_is : m ≡ s.held_max
  changes_is : changes ≡ Some s.changes_max
  volume_is : volume ≡ Some s.volume_limit
  time_is : time ≡ Some s.time_limit
  name_is : name ≡ Some s.name

are_last : (f : Bool) (h : Handling) (r m : ℕ) (changes volume time : Option ℕ) (name : Option (List ℕ)) (s : SmfSetup)
    → setup_by (option_and_then (λ c. option_and_then (λ v. option_and_then (λ t. Some (record { failover = f; handling = h; retry = r; held_max = m; changes_max = c; volume_limit = v; time_limit = t })) time) volume) changes) name ≡ Some s
    → AreLast f h r m changes volume time name s
are_last f h r m (Some c) (Some v) (Some t) (Some n) s e =
    let same = same_Some (setup_with (record { failover = f; handling = h; retry = r; held_max = m; changes_max = c; volume_limit = v; time_limit = t }) n) s e in
    record {
      failover_is = ap (λ s. s.failover) same;
      handling_is = ap (λ s. s.handling) same;
      retry_is = ap (λ s. s.retry) same;
      held_is = ap (λ s. s.held_max) same;
      changes_is = ap (λ s. Some s.changes_max) same;
      volume_is = ap (λ s. Some s.volume_limit) same;
      time_is = ap (λ s. Some s.time_limit) same;
      name_is = ap (λ s. Some s.name) same;
    }
are_last f h r m changes volume time name s e = absurd (cc)

are_read : (failover : Option Bool) (handling : Option Handling) (retry held : Option ℕ) (changes : ℕ → Option ℕ) (volume time : Option ℕ) (name : Option (List ℕ)) (s : SmfSetup)
    → setup_by (option_and_then (λ f. option_and_then (λ h. option_and_then (λ r. option_and_then (λ m. option_and_then (λ c. option_and_then (λ v. option_and_then (λ t. Some (record { failover = f; handling = h; retry = r; held_max = m; changes_max = c; volume_limit = v; time_limit = t })) time) volume) (changes m)) held) retry) handling) failover) name ≡ Some s
    → AreRead failover handling retry held changes volume time name s
are_read (Some f) (Some h) (Some r) (Some m) changes volume time name s e =
    let last = are_last f h r m (changes m) volume time name s e in
    record {
      failover_is = ap Some last.failover_is;
      handling_is = ap Some last.handling_is;
      retry_is = ap Some last.retry_is;
      held_is = ap Some last.held_is;
      changes_is = ap changes (sym last.held_is) ∙ last.changes_is;
      volume_is = last.volume_is;
      time_is = last.time_is;
      name_is = last.name_is;
    }
are_read failover handling retry held changes volume time name s e = absurd (cc)

row_back : Laws → (word : List ℕ) (fields : List (List ℕ)) (s : SmfSetup) → setup_of (word ∷ fields) ≡ Some s → word ≡ codes "smf" → setup_in fields ≡ Some s → SetupReadsBack s
row_back laws word (name ∷ failover ∷ handling ∷ retry ∷ held ∷ changes ∷ volume ∷ time ∷ []) s given w h =
    let a = are_read (failover_named failover) (handling_named handling) (count_of 86400 retry) (count_of 1000 held) (λ m. count_of m changes) (number_of (2 ^ 64 - 1) volume) (number_of (2 ^ 32 - 1) time) (name_of name) s h in
    let n = named name s.name a.name_is in
    let f = failover_word failover s.failover a.failover_is in
    let d = handling_word handling s.handling a.handling_is in
    let r = count_is laws 86400 s.retry retry (omega arith) a.retry_is in
    let m = count_is laws 1000 s.held_max held (omega arith) a.held_is in
    let c = count_is laws s.held_max s.changes_max changes (omega (arith, count_within 1000 s.held_max held a.held_is)) a.changes_is in
    let v = number_is laws (2 ^ 64 - 1) s.volume_limit volume (omega arith) a.volume_is in
    let t = number_is laws (2 ^ 32 - 1) s.time_limit time (omega arith) a.time_is in
    let same : setup_row s ≡ word ∷ name ∷ failover ∷ handling ∷ retry ∷ held ∷ changes ∷ volume ∷ time ∷ [] =
    λ i. (sym w) i ∷ n.same i ∷ f.same i ∷ d.same i ∷ r.same i ∷ m.same i ∷ c.same i ∷ v.same i ∷ t.same i ∷ [] in
    let one : is_field word ≡ true = ap is_field w in
    let two : is_field name ≡ true = ap is_field (sym n.same) ∙ laws.fields.name s.name n.spells in
    let three : is_field failover ≡ true = f.plain in
    let four : is_field handling ≡ true = d.plain in
    let five : is_field retry ≡ true = r.plain in
    let six : is_field held ≡ true = m.plain in
    let seven : is_field changes ≡ true = c.plain in
    let eight : is_field volume ≡ true = v.plain in
    let nine : is_field time ≡ true = t.plain in
    let plain : is_row (word ∷ name ∷ failover ∷ handling ∷ retry ∷ held ∷ changes ∷ volume ∷ time ∷ []) ≡ true = rw (one, two, three, four, five, six, seven, eight, nine) refl in
    ap (λ k. option_and_then setup_of (row_in (row_text k))) same ∙ ap (λ k. option_and_then setup_of k) (laws.back.row (word ∷ name ∷ failover ∷ handling ∷ retry ∷ held ∷ changes ∷ volume ∷ time ∷ []) plain) ∙ given
row_back laws word fields s given w h = absurd (cc)

pub setup_back : Laws → (row : List (List ℕ)) (s : SmfSetup) → setup_of row ≡ Some s → SetupReadsBack s
setup_back laws [] s h = absurd (cc)
setup_back laws (word ∷ fields) s h =
    let both = passed (nat_le (row_size (word ∷ fields)) 65536) (worded (word ∷ fields)) s h in
    let named_smf = passed (bytes_eq word (codes "smf")) (setup_in fields) s both.1 in
    row_back laws word fields s h (same_text word (codes "smf") named_smf.0) named_smf.1
