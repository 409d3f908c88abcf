-- The fields of a row, one after another.
use Rattle.std.proofs.Common.{◌≡◌, ◌<◌, ◌≤◌, ℕ, suc, zero, Bool, true, false, List, [], ◌∷◌, ◌++◌, length, take, drop, refl, ap, ◌∙◌, Option, Some, None, arith, if◌then◌else◌, ◌&&◌}
use Rattle.std.specs.List.{list_all}
use Rattle.std.specs.Str.{is_utf8}
use Rattle.std.proofs.lemmas.List.{drop_all, take_all}
use Rattle.csv.specs.Records.{field_at}
use Rattle.charging.specs.declared.item.Item.TheVariants.{Row, Bad}
use Rattle.charging.specs.Items.{row_item}

-- a field that is there is the next one
pub record IsNext (fields : List (List ℕ)) (i : ℕ) (field : List ℕ) : Type 0 where
  pub within : i < length fields
  pub rest : drop i fields ≡ field ∷ drop (suc i) fields
  pub front : take (suc i) fields ≡ take i fields ++ field ∷ []

pub next_field : (fields : List (List ℕ)) (i : ℕ) (field : List ℕ) → Some field ≡ field_at fields i → IsNext fields i field
unfolding field_at
next_field [] i field e = absurd (cc)
next_field (f ∷ fs) zero field e = let same : f ≡ field = cc in record { within = omega arith; rest = ap (λ k. k ∷ fs) same; front = ap (λ k. k ∷ []) same }
next_field (f ∷ fs) (suc i) field e = let more = next_field fs i field e in record { within = omega (arith, more.within); rest = more.rest; front = ap (λ k. f ∷ k) more.front }

pub past_fields : (fields : List (List ℕ)) (i : ℕ) → None ≡ field_at fields i → length fields ≤ i
unfolding field_at
past_fields [] i e = omega arith
past_fields (f ∷ fs) zero e = absurd (cc)
past_fields (f ∷ fs) (suc i) e = omega (arith, past_fields fs i e)

-- a field that is no UTF-8 makes the row bad
pub bad_field : (fields : List (List ℕ)) (i : ℕ) (field : List ℕ) → IsNext fields i field → list_all is_utf8 fields ≡ list_all is_utf8 (drop i fields) → is_utf8 field ≡ false → Bad ≡ row_item fields
bad_field fields i field next all no_text =
    let none : list_all is_utf8 fields ≡ false = all ∙ ap (list_all is_utf8) next.rest ∙ ap (λ b. b && list_all is_utf8 (drop (suc i) fields)) no_text in
    rw none refl

-- one that is goes on
pub good_field : (fields : List (List ℕ)) (i : ℕ) (field : List ℕ) → IsNext fields i field → list_all is_utf8 fields ≡ list_all is_utf8 (drop i fields) → is_utf8 field ≡ true → list_all is_utf8 fields ≡ list_all is_utf8 (drop (suc i) fields)
good_field fields i field next all text = all ∙ ap (list_all is_utf8) next.rest ∙ ap (λ b. b && list_all is_utf8 (drop (suc i) fields)) text

pub all_fields : (fields : List (List ℕ)) (i : ℕ) → length fields ≤ i → i ≤ length fields → list_all is_utf8 fields ≡ list_all is_utf8 (drop i fields) → Row (take i fields) ≡ row_item fields
all_fields fields i past within all =
    let none : drop i fields ≡ [] = drop_all i fields past in
    let whole : take i fields ≡ fields = take_all i fields past in
    let good : list_all is_utf8 fields ≡ true = all ∙ ap (list_all is_utf8) none in
    rw (good, whole) refl

-- what reading a field as text tells
pub no_text : (b : Bool) (field : List ℕ) (read : Option (List ℕ)) → read ≡ (if b then Some field else None) → read ≡ None → b ≡ false
no_text true field read e none = absurd (cc)
no_text false field read e none = refl

pub some_text : (b : Bool) (field text : List ℕ) (read : Option (List ℕ)) → read ≡ (if b then Some field else None) → read ≡ Some text → (b ≡ true) × (text ≡ field)
some_text true field text read e some = (refl, cc)
some_text false field text read e some = absurd (cc)
