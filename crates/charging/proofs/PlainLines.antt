-- A plain line is one row: the pieces between its commas.
use Rattle.std.proofs.Common.{◌≡◌, ◌==◌, ◌&&◌, ◌||◌, not, nat_le, ℕ, Bool, true, false, cond, List, [], ◌∷◌, ◌++◌, Option, Some, None, refl, sym, ap, ◌∙◌, arith, append_assoc}
use Rattle.std.proofs.lemmas.Bool.Decides.{nat_tests}
use Rattle.std.specs.List.{list_all}
use Rattle.csv.specs.declared.parser.State.{State}
use Rattle.csv.specs.declared.parser.State.TheVariants as st
use Rattle.csv.specs.declared.parser.Action.{Action}
use Rattle.csv.specs.declared.parser.Action.TheVariants as act
use Rattle.csv.specs.Machine.{Read, next_record, step, is_end, fields_after, field_after}
use Rattle.csv.specs.Reading.{default_config, strip_bom}
use Rattle.rows.specs.Pieces.{pieces, joined_front}
use Rattle.charging.specs.Items.{rows_in}
use Rattle.charging.specs.PlainRows.{is_plain_byte, is_plain}
use Rattle.charging.proofs.OneRow.{one_row}

both : (a b : Bool) → (a && b) ≡ true → (a ≡ true) × (b ≡ true)
both true b e = (refl, e)
both false b e = absurd (cc)

-- what a plain byte is not
record IsOther (c : ℕ) : Type 0 where
  quote : (c == 34) ≡ false
  returns : (c == 13) ≡ false
  feeds : (c == 10) ≡ false
  mark : (c == 239) ≡ false

other : (c : ℕ) → is_plain_byte c ≡ true → IsOther c
other c e =
    let x = both (nat_le 32 c && nat_le c 126) (not (c == 34)) e in
    let y = both (nat_le 32 c) (nat_le c 126) x.0 in
    let low = y.0 in
    let high = y.1 in
    record {
      quote = (let q = x.1 in grind (arith, nat_tests));
      returns = grind (arith, nat_tests);
      feeds = grind (arith, nat_tests);
      mark = grind (arith, nat_tests);
    }

-- where a field begins, and within one
abbrev at : Bool → State
at true = st.StartField
at false = st.InField

abbrev stepped : ℕ → State × Action
stepped c = cond (c == 44) (st.StartField, act.EndField) (st.InField, act.Copy)

in_field_is : (c : ℕ) → IsOther c → (a b : Bool) → a ≡ false → b ≡ false → (x : State × Action) → cond (c == 44) (st.StartField, act.EndField) (cond (a || b) x (st.InField, act.Copy)) ≡ stepped c
in_field_is c h false false e f x = refl
in_field_is c h false true e f x = absurd (cc)
in_field_is c h true b e f x = absurd (cc)

step_is : (b : Bool) (c : ℕ) → IsOther c → step default_config (at b) c ≡ stepped c
step_is true c h = begins (c == 34) h.quote
  where
    begins : (q : Bool) → q ≡ false → cond q (st.InQuoted, act.Skip) (cond (c == 44) (st.StartField, act.EndField) (cond ((c == 13) || (c == 10)) (cond (c == 13) st.AfterCr st.StartRecord, act.EndRecord) (st.InField, act.Copy))) ≡ stepped c
    begins false e = in_field_is c h (c == 13) (c == 10) h.returns h.feeds (cond (c == 13) st.AfterCr st.StartRecord, act.EndRecord)
    begins true e = absurd (cc)
step_is false c h = in_field_is c h (c == 13) (c == 10) h.returns h.feeds (cond (c == 13) st.AfterCr st.StartRecord, act.EndRecord)

-- a record begins as a field does
begin_is : (c : ℕ) → IsOther c → step default_config st.StartRecord c ≡ step default_config st.StartField c
begin_is c h = by_end (c == 13) (c == 10) h.returns h.feeds
  where
    by_end : (a b : Bool) → a ≡ false → b ≡ false → cond (a || b) (st.StartRecord, act.Skip) (step default_config st.StartField c) ≡ step default_config st.StartField c
    by_end false false e f = refl
    by_end false true e f = absurd (cc)
    by_end true b e f = absurd (cc)

-- the field at hand before the first piece
abbrev joined : List ℕ → List (List ℕ) → List (List ℕ)
joined field [] = field ∷ []
joined field (piece ∷ more) = (field ++ piece) ∷ more

after_none : (field : List ℕ) → field ++ [] ≡ field
after_none [] = refl
after_none (x ∷ field) = ap (λ (l : List ℕ). x ∷ l) (after_none field)

joined_more : (field : List ℕ) (c : ℕ) (more : List (List ℕ)) → joined (field ++ c ∷ []) more ≡ joined field (joined_front c more)
joined_more field c [] = refl
joined_more field c (piece ∷ more) = ap (λ (l : List ℕ). l ∷ more) (append_assoc field (c ∷ []) piece)

joined_none : (text : List ℕ) → joined [] (pieces 44 text) ≡ pieces 44 text
joined_none [] = refl
joined_none (c ∷ text) = by_test (c == 44) (pieces 44 text)
  where
    by_front : (more : List (List ℕ)) → joined [] (joined_front c more) ≡ joined_front c more
    by_front [] = refl
    by_front (piece ∷ more) = refl

    by_test : (b : Bool) (more : List (List ℕ)) → joined [] (cond b ([] ∷ more) (joined_front c more)) ≡ cond b ([] ∷ more) (joined_front c more)
    by_test true more = refl
    by_test false more = by_front more

-- what follows a byte
abbrev goes : List (List ℕ) → List ℕ → ℕ → List ℕ → State × Action → Option Read
goes fields field c text p = cond (is_end p.1) (Some (fields_after p.1 fields field, p.0, text)) (next_record default_config p.0 (fields_after p.1 fields field) (field_after p.1 c field) text)

ends : (fields : List (List ℕ)) (field : List ℕ) (b : Bool) → next_record default_config (at b) fields field [] ≡ Some (fields ++ field ∷ [], st.StartRecord, [])
unfolding next_record
ends fields field true = refl
ends fields field false = refl

goes_is : (s : State) (fields : List (List ℕ)) (field : List ℕ) (c : ℕ) (text : List ℕ) → next_record default_config s fields field (c ∷ text) ≡ goes fields field c text (step default_config s c)
unfolding next_record
goes_is s fields field c text = refl

read_plain : (b : Bool) (fields : List (List ℕ)) (field text : List ℕ) → list_all is_plain_byte text ≡ true → next_record default_config (at b) fields field text ≡ Some (fields ++ joined field (pieces 44 text), st.StartRecord, [])
read_plain b fields field [] e = ends fields field b ∙ ap (λ (l : List ℕ). Some (fields ++ l ∷ [], st.StartRecord, [])) (sym (after_none field))
read_plain b fields field (c ∷ text) e =
    let x = both (is_plain_byte c) (list_all is_plain_byte text) e in
    goes_is (at b) fields field c text ∙ ap (goes fields field c text) (step_is b c (other c x.0)) ∙ by_test (c == 44) (λ k f g. read_plain k f g text x.1)
  where
    by_test : (k : Bool) → ((k : Bool) (fields : List (List ℕ)) (field : List ℕ) → next_record default_config (at k) fields field text ≡ Some (fields ++ joined field (pieces 44 text), st.StartRecord, []))
        → goes fields field c text (cond k (st.StartField, act.EndField) (st.InField, act.Copy)) ≡ Some (fields ++ joined field (cond k ([] ∷ pieces 44 text) (joined_front c (pieces 44 text))), st.StartRecord, [])
    by_test true more =
        more true (fields ++ field ∷ []) []
        ∙ ap (λ (l : List (List ℕ)). Some (l, st.StartRecord, []))
        (ap (λ (l : List (List ℕ)). (fields ++ field ∷ []) ++ l) (joined_none text) ∙ append_assoc fields (field ∷ []) (pieces 44 text) ∙ ap (λ (l : List ℕ). fields ++ (l ∷ pieces 44 text)) (sym (after_none field)))
    by_test false more = more false fields (field ++ c ∷ []) ∙ ap (λ (l : List (List ℕ)). Some (fields ++ l, st.StartRecord, [])) (joined_more field c (pieces 44 text))

no_mark : (line : List ℕ) → is_plain line ≡ true → strip_bom line ≡ line
unfolding strip_bom
no_mark [] e = refl
no_mark (a ∷ []) e = refl
no_mark (a ∷ b ∷ []) e = refl
no_mark (a ∷ b ∷ c ∷ rest) e = by_test (a == 239) (b == 187) (c == 191) (other a (both (is_plain_byte a) (list_all is_plain_byte (b ∷ c ∷ rest)) e).0).mark
  where
    by_test : (x y z : Bool) → x ≡ false → cond ((x && y) && z) rest (a ∷ b ∷ c ∷ rest) ≡ a ∷ b ∷ c ∷ rest
    by_test false y z f = refl
    by_test true y z f = absurd (cc)

first_plain : (line : List ℕ) → is_plain line ≡ true → next_record default_config st.StartRecord [] [] line ≡ Some (pieces 44 line, st.StartRecord, [])
first_plain [] e = absurd (cc)
first_plain (c ∷ text) e =
    let h = other c (both (is_plain_byte c) (list_all is_plain_byte text) e).0 in
    goes_is st.StartRecord [] [] c text ∙ ap (goes [] [] c text) (begin_is c h) ∙ sym (goes_is st.StartField [] [] c text)
    ∙ read_plain true [] [] (c ∷ text) e ∙ ap (λ (l : List (List ℕ)). Some (l, st.StartRecord, [])) (joined_none (c ∷ text))

none_left : next_record default_config st.StartRecord [] [] [] ≡ None
unfolding next_record
none_left = refl

pub plain_rows : (line : List ℕ) → is_plain line ≡ true → rows_in line ≡ pieces 44 line ∷ []
plain_rows line e = one_row line (pieces 44 line, st.StartRecord, []) (ap (next_record default_config st.StartRecord [] []) (no_mark line e) ∙ first_plain line e) none_left
