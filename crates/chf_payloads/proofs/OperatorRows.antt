-- The command of an operator's row reads back.
use Rattle.std.proofs.Common.{◌≡◌, ◌≢◌, ◌∙◌, ◌+◌, ◌-◌, ◌^◌, ◌≤◌, ◌<◌, ◌&&◌, ◌==◌, ℕ, ap, sym, refl, subst, Bool, true, false, nat_le, nat_lt, bytes_eq, List, [], ◌∷◌, ◌++◌, length, Option, Some, None, if◌then◌else◌, codes, decimal, arith, sum_by}
use Rattle.std.specs.Prelude.{option_and_then, option_map}
use Rattle.std.specs.List.{list_all}
use Rattle.std.proofs.lemmas.Fmt.{length-decimal-le_wide}
use Rattle.std.specs.Str.Parse.{digits_value}
use Rattle.std.proofs.lemmas.Bool.{and_from, and_parts, le-leb, leb-true}
use Rattle.std.proofs.lemmas.Bool.Decides.{nat_tests}
use Rattle.std.specs.Cmp.Lexicographic.{bytes_decides}
use Rattle.units.specs.Names.{is_name_byte, spells_name}
use Rattle.rows.specs.Number.{is_numeral, number_of}
use Rattle.row_fields.specs.Fields.{groups_of, name_of, row_size}
use Rattle.row_texts.specs.RowTexts.{groups_text, row_in, row_text}
use Rattle.row_texts.specs.ReadBack.{AreFields, AreSpelledOnce, HaveSizes, NumbersReadBack, RowsReadBack, is_field, is_row}
use Rattle.chf_rows.specs.OperatorRow.{amount_of, close_of, command_in, command_of, expire_of, subscriber_of, topup_of}
use Rattle.chf_core.specs.declared.command.Command.{Command}
use Rattle.chf_core.specs.declared.command.Command.TheVariants.{Subscriber, TopUp, Expire, CloseRecords}
use Rattle.chf_payloads.specs.Written.{operator_row, payload_of}
use Rattle.chf_payloads.specs.Read as read
use Rattle.chf_payloads.specs.Payloads.{ReadsBack}
use Rattle.chf_payloads.proofs.Options.{and_then, mapped, passed}

-- the laws of rows
pub record Laws : Type 0 where
  pub back : RowsReadBack
  pub fields : AreFields
  pub numbers : NumbersReadBack
  pub once : AreSpelledOnce
  pub sizes : HaveSizes

-- a name that was read
pub record IsNamed (field name : List ℕ) : Type 0 where
  pub same : name ≡ field
  pub spells : spells_name name ≡ true

pub named : (field name : List ℕ) → name_of field ≡ Some name → IsNamed field name
named field name h =
    let both = passed (spells_name field) (Some field) name h in
    let same : name ≡ field = cc in
    record { same = same; spells = ap spells_name same ∙ both.0 }

-- a command reads back, and its payload is small
pub record IsBack (c : Command) : Type 0 where
  pub reads : ReadsBack c
  pub small : length (payload_of c) ≤ 1048577

-- a command whose row gives it
record IsOfRow (c : Command) : Type 0 where
  fields : is_row (operator_row c) ≡ true
  gives : command_of (operator_row c) ≡ Some c
  size : row_size (operator_row c) ≤ 1048577

-- one whose payload is that row reads back
row_back : Laws → (c : Command) → payload_of c ≡ codes "r" ++ row_text (operator_row c) → IsOfRow c → IsBack c
row_back laws c written h = record {
  reads = ap read.command_in written ∙ ap (λ k. option_and_then command_of k) (laws.back.row (operator_row c) h.fields) ∙ h.gives;
  small = omega (arith, ap length written, laws.sizes.row (operator_row c) h.fields, h.size);
}

-- ---- the four rows

-- what is read of a row, and the row itself
record Given (row : List (List ℕ)) (c : Command) : Type 0 where
  gives : command_of row ≡ Some c
  size : row_size row ≤ 1048577

same_size : (row other : List (List ℕ)) (c : Command) → Given row c → other ≡ row → row_size other ≤ 1048577
same_size row other c given same = omega (arith, ap row_size same, given.size)

-- a row that is written as it was read
as_given : (row : List (List ℕ)) (c written : Command) → Given row c → written ≡ c → operator_row written ≡ row → command_of (operator_row written) ≡ Some written
as_given row c written given made same = ap command_of same ∙ given.gives ∙ ap Some (sym made)

subscriber_back : Laws → (word : List ℕ) (fields : List (List ℕ)) (c : Command) → Given (word ∷ fields) c → word ≡ codes "subscriber" → subscriber_of fields ≡ Some c → IsBack c
subscriber_back laws word (supi ∷ account ∷ barred ∷ []) c given w h =
    let s = and_then (λ s. option_and_then (λ a. option_map (λ groups. Subscriber s a groups) (groups_of barred)) (name_of account)) (name_of supi) c h in
    let a = and_then (λ a. option_map (λ groups. Subscriber s.source a groups) (groups_of barred)) (name_of account) c s.read_is in
    let g = mapped (λ groups. Subscriber s.source a.source groups) (groups_of barred) c a.read_is in
    let supi_is = named supi s.source s.is in
    let account_is = named account a.source a.is in
    let barred_is : groups_text g.source ≡ barred = laws.once.groups barred g.source g.is in
    let same : operator_row (Subscriber s.source a.source g.source) ≡ word ∷ supi ∷ account ∷ barred ∷ [] =
    ap (λ k. k ∷ s.source ∷ a.source ∷ groups_text g.source ∷ []) (sym w) ∙ ap (λ k. word ∷ k ∷ a.source ∷ groups_text g.source ∷ []) supi_is.same
    ∙ ap (λ k. word ∷ supi ∷ k ∷ groups_text g.source ∷ []) account_is.same ∙ ap (λ k. word ∷ supi ∷ account ∷ k ∷ []) barred_is in
    let one : is_field s.source ≡ true = laws.fields.name s.source supi_is.spells in
    let two : is_field a.source ≡ true = laws.fields.name a.source account_is.spells in
    let three : is_field (groups_text g.source) ≡ true = ap is_field barred_is ∙ laws.fields.groups barred g.source g.is in
    let fields : is_row (operator_row (Subscriber s.source a.source g.source)) ≡ true =
    and_from (is_field s.source) (list_all is_field (a.source ∷ groups_text g.source ∷ [])) one
    (and_from (is_field a.source) (list_all is_field (groups_text g.source ∷ [])) two (and_from (is_field (groups_text g.source)) true three refl)) in
    subst IsBack g.made_is
    (row_back laws (Subscriber s.source a.source g.source) refl (record { fields = fields; gives = as_given (word ∷ supi ∷ account ∷ barred ∷ []) c (Subscriber s.source a.source g.source) given g.made_is same; size = same_size (word ∷ supi ∷ account ∷ barred ∷ []) (operator_row (Subscriber s.source a.source g.source)) c given same }))
subscriber_back laws word fields c given w h = absurd (cc)

-- an amount that was read
record IsAmount (field : List ℕ) (n : ℕ) : Type 0 where
  low : nat_lt 0 n ≡ true
  number : number_of (2 ^ 80) field ≡ Some n

amount_is : (field : List ℕ) (n : ℕ) → amount_of field ≡ Some n → IsAmount field n
amount_is field n h =
    let m = and_then (λ n. if nat_lt 0 n then Some n else None) (number_of (2 ^ 80) field) n h in
    let both = passed (nat_lt 0 m.source) (Some m.source) n m.read_is in
    let same : m.source ≡ n = cc in
    record { low = ap (nat_lt 0) (sym same) ∙ both.0; number = m.is ∙ ap Some same }

number_within : (most n : ℕ) (field : List ℕ) → number_of most field ≡ Some n → n ≤ most
number_within most n field h =
    let parts = passed (is_numeral field && nat_le (digits_value 10 field) most) (Some (digits_value 10 field)) n h in
    let both = and_parts (is_numeral field) (nat_le (digits_value 10 field) most) parts.0 in
    let same : digits_value 10 field ≡ n = cc in
    grind (arith, nat_tests, both.1, same)

short_name : (name : List ℕ) → spells_name name ≡ true → length name ≤ 255
short_name name h =
    let one = and_parts (nat_le 1 (length name) && nat_le (length name) 255) (list_all is_name_byte name) h in
    let two = and_parts (nat_le 1 (length name)) (nat_le (length name) 255) one.0 in
    grind (arith, nat_tests, two.1)

-- a top-up's row is short, and gives it again
topup_size : (id account : List ℕ) (n : ℕ) → spells_name id ≡ true → spells_name account ≡ true → n ≤ 2 ^ 80 → row_size (codes "topup" ∷ id ∷ account ∷ decimal n ∷ []) ≤ 1048577
topup_size id account n i a high =
    let i_short = short_name id i in
    let a_short = short_name account a in
    let n_short : length (decimal n) ≤ 25 = length-decimal-le_wide 25 n (omega arith) (omega arith) (omega arith) in
    omega (arith, i_short, a_short, n_short)

topup_gives : Laws → (id account : List ℕ) (n : ℕ) → spells_name id ≡ true → spells_name account ≡ true → nat_lt 0 n ≡ true → n ≤ 2 ^ 80 → command_of (codes "topup" ∷ id ∷ account ∷ decimal n ∷ []) ≡ Some (TopUp id account n)
topup_gives laws id account n i a low high =
    let size : nat_le (row_size (codes "topup" ∷ id ∷ account ∷ decimal n ∷ [])) 1048577 ≡ true = le-leb (row_size (codes "topup" ∷ id ∷ account ∷ decimal n ∷ [])) 1048577 (topup_size id account n i a high) in
    let number : number_of (2 ^ 80) (decimal n) ≡ Some n = laws.numbers.field (2 ^ 80) n high (omega arith) in
    rw (size, i, a) (ap (λ k. option_map (λ n. TopUp id account n) (option_and_then (λ n. if nat_lt 0 n then Some n else None) k)) number ∙ ap (λ k. option_map (λ n. TopUp id account n) (if k then Some n else None)) low)

topup_back : Laws → (word : List ℕ) (fields : List (List ℕ)) (c : Command) → topup_of fields ≡ Some c → IsBack c
topup_back laws word (id ∷ account ∷ amount ∷ []) c h =
    let i = and_then (λ i. option_and_then (λ a. option_map (λ n. TopUp i a n) (amount_of amount)) (name_of account)) (name_of id) c h in
    let a = and_then (λ a. option_map (λ n. TopUp i.source a n) (amount_of amount)) (name_of account) c i.read_is in
    let n = mapped (λ n. TopUp i.source a.source n) (amount_of amount) c a.read_is in
    let id_is = named id i.source i.is in
    let account_is = named account a.source a.is in
    let amount_read = amount_is amount n.source n.is in
    let high = number_within (2 ^ 80) n.source amount amount_read.number in
    let number : is_field (decimal n.source) ≡ true = laws.fields.number (2 ^ 80) n.source (decimal n.source) (laws.numbers.field (2 ^ 80) n.source high (omega (arith, high))) in
    let fields : is_row (operator_row (TopUp i.source a.source n.source)) ≡ true =
    and_from (is_field i.source) (list_all is_field (a.source ∷ decimal n.source ∷ [])) (laws.fields.name i.source id_is.spells)
    (and_from (is_field a.source) (list_all is_field (decimal n.source ∷ [])) (laws.fields.name a.source account_is.spells) (and_from (is_field (decimal n.source)) true number refl)) in
    subst IsBack n.made_is
    (row_back laws (TopUp i.source a.source n.source) refl (record { fields = fields; gives = topup_gives laws i.source a.source n.source id_is.spells account_is.spells amount_read.low high; size = topup_size i.source a.source n.source id_is.spells account_is.spells high }))
topup_back laws word fields c h = absurd (cc)

expire_back : Laws → (word : List ℕ) (fields : List (List ℕ)) (c : Command) → Given (word ∷ fields) c → word ≡ codes "expire" → expire_of fields ≡ Some c → IsBack c
expire_back laws word (moment ∷ []) c given w h =
    let m = mapped (λ m. Expire m) (number_of 3155759999 moment) c h in
    let moment_is : decimal m.source ≡ moment = laws.once.number 3155759999 m.source moment (omega arith) m.is in
    let same : operator_row (Expire m.source) ≡ word ∷ moment ∷ [] = ap (λ k. k ∷ decimal m.source ∷ []) (sym w) ∙ ap (λ k. word ∷ k ∷ []) moment_is in
    let field : is_field (decimal m.source) ≡ true = ap is_field moment_is ∙ laws.fields.number 3155759999 m.source moment m.is in
    subst IsBack m.made_is
    (row_back laws (Expire m.source) refl (record { fields = and_from (is_field (decimal m.source)) true field refl; gives = as_given (word ∷ moment ∷ []) c (Expire m.source) given m.made_is same; size = same_size (word ∷ moment ∷ []) (operator_row (Expire m.source)) c given same }))
expire_back laws word fields c given w h = absurd (cc)

close_back : Laws → (word : List ℕ) (fields : List (List ℕ)) (c : Command) → Given (word ∷ fields) c → word ≡ codes "close" → close_of fields ≡ Some c → IsBack c
close_back laws word (moment ∷ []) c given w h =
    let m = mapped (λ m. CloseRecords m) (number_of 3155759999 moment) c h in
    let moment_is : decimal m.source ≡ moment = laws.once.number 3155759999 m.source moment (omega arith) m.is in
    let same : operator_row (CloseRecords m.source) ≡ word ∷ moment ∷ [] = ap (λ k. k ∷ decimal m.source ∷ []) (sym w) ∙ ap (λ k. word ∷ k ∷ []) moment_is in
    let field : is_field (decimal m.source) ≡ true = ap is_field moment_is ∙ laws.fields.number 3155759999 m.source moment m.is in
    subst IsBack m.made_is
    (row_back laws (CloseRecords m.source) refl (record { fields = and_from (is_field (decimal m.source)) true field refl; gives = as_given (word ∷ moment ∷ []) c (CloseRecords m.source) given m.made_is same; size = same_size (word ∷ moment ∷ []) (operator_row (CloseRecords m.source)) c given same }))
close_back laws word fields c given w h = absurd (cc)

-- by the word of the row
same_word : (a b : List ℕ) → bytes_eq a b ≡ true → a ≡ b
same_word a b e = (bytes_decides a b).0 e

by_word : Laws → (word : List ℕ) (fields : List (List ℕ)) (c : Command) → Given (word ∷ fields) c → (s t e l : Bool) → bytes_eq word (codes "subscriber") ≡ s → bytes_eq word (codes "expire") ≡ e → bytes_eq word (codes "close") ≡ l
    → (if s then subscriber_of fields else (if t then topup_of fields else (if e then expire_of fields else (if l then close_of fields else None)))) ≡ Some c → IsBack c
by_word laws word fields c given true t e l sw ew lw h = subscriber_back laws word fields c given (same_word word (codes "subscriber") sw) h
by_word laws word fields c given false true e l sw ew lw h = topup_back laws word fields c h
by_word laws word fields c given false false true l sw ew lw h = expire_back laws word fields c given (same_word word (codes "expire") ew) h
by_word laws word fields c given false false false true sw ew lw h = close_back laws word fields c given (same_word word (codes "close") lw) h
by_word laws word fields c given false false false false sw ew lw h = absurd (cc)

pub command_back : Laws → (row : List (List ℕ)) (c : Command) → command_of row ≡ Some c → IsBack c
command_back laws [] c h = absurd (cc)
command_back laws (word ∷ fields) c h =
    let both = passed (nat_le (row_size (word ∷ fields)) 1048577) (command_in (word ∷ fields)) c h in
    let small : row_size (word ∷ fields) ≤ 1048577 = leb-true (row_size (word ∷ fields)) 1048577 both.0 in
    by_word laws word fields c (record { gives = h; size = small }) (bytes_eq word (codes "subscriber")) (bytes_eq word (codes "topup")) (bytes_eq word (codes "expire")) (bytes_eq word (codes "close")) refl refl refl both.1
