-- What is written spells the element.
use Rattle.std.proofs.Common.{◌≡◌, ℕ, ◌+◌, ◌-◌, ◌*◌, ◌/◌, ◌%◌, ◌^◌, ◌<◌, ◌≤◌, inl, inr, Bool, true, false, eqb, List, [], ◌∷◌, ◌++◌, length, take, drop, Result, Ok, Err, refl, sym, ap, ◌∙◌, subst, append_assoc, arith}
use Rattle.std.specs.Prelude.{◌&&◌, IfOk}
use Rattle.std.specs.Int.{w64, to_be_bytes}
use Rattle.std.proofs.lemmas.Bool.{lt-ltb, le-ltb, ne_eqb, cases_lt}
use Rattle.std.proofs.lemmas.Bool.Decides.{nat_tests}
use Rattle.std.proofs.lemmas.List.{append-nil, length-append, take_at}
use Rattle.ber.specs.Anything.{anything, one, first_element}
use Rattle.ber.proofs.Front.{element_again, admitted}
use Rattle.std.proofs.lemmas.Nat.{from_be_bytes-to_be_bytes_8}
use Rattle.ber.specs.declared.tag.Tag.{Tag}
use Rattle.ber.specs.Spelling.{starts_with, tag_of, AreDigits, IsIdentifier, value_of, IsLength, SpellsInside, SpellsAll, Spells}
use Rattle.ber.specs.Element.{Element, primitive, constructed, Elements, none, more, tag_is}
use Rattle.ber.specs.Written.{octet_count, length_octets, high_octets, form_bit, identifier, inside_written, written_all, written, IsTag, IsBounded, AreBounded}

-- ---- lengths

below : (k : ℕ) → k < 127 → 128 + k ≡ 255 → ⊥
below k lt q = omega arith

long : (n : ℕ) → 128 ≤ n → n < 2 ^ 63 → IsLength ((128 + octet_count n) ∷ drop (8 - octet_count n) (to_be_bytes w64 n)) n
long n low high =
    let full : n ≡ value_of 0 (to_be_bytes w64 n) = omega (arith, from_be_bytes-to_be_bytes_8 n (omega arith)) in
    elim (cases_lt n (2 ^ 8)) as (λ z. IsLength ((128 + octet_count n) ∷ drop (8 - octet_count n) (to_be_bytes w64 n)) n) [
      | inl lt ↦ rw (lt-ltb n (2 ^ 8) lt) (inr (omega arith, below 1 (omega arith), refl, omega (arith, full)))
      | inr le1 ↦
          elim (cases_lt n (2 ^ 16)) as (λ z. IsLength ((128 + octet_count n) ∷ drop (8 - octet_count n) (to_be_bytes w64 n)) n) [
            | inl lt ↦ rw (le-ltb n (2 ^ 8) le1, lt-ltb n (2 ^ 16) lt) (inr (omega arith, below 2 (omega arith), refl, omega (arith, full)))
            | inr le2 ↦
                elim (cases_lt n (2 ^ 24)) as (λ z. IsLength ((128 + octet_count n) ∷ drop (8 - octet_count n) (to_be_bytes w64 n)) n) [
                  | inl lt ↦ rw (le-ltb n (2 ^ 8) le1, le-ltb n (2 ^ 16) le2, lt-ltb n (2 ^ 24) lt) (inr (omega arith, below 3 (omega arith), refl, omega (arith, full)))
                  | inr le3 ↦
                      elim (cases_lt n (2 ^ 32)) as (λ z. IsLength ((128 + octet_count n) ∷ drop (8 - octet_count n) (to_be_bytes w64 n)) n) [
                        | inl lt ↦ rw (le-ltb n (2 ^ 8) le1, le-ltb n (2 ^ 16) le2, le-ltb n (2 ^ 24) le3, lt-ltb n (2 ^ 32) lt) (inr (omega arith, below 4 (omega arith), refl, omega (arith, full)))
                        | inr le4 ↦
                            elim (cases_lt n (2 ^ 40)) as (λ z. IsLength ((128 + octet_count n) ∷ drop (8 - octet_count n) (to_be_bytes w64 n)) n) [
                              | inl lt ↦ rw (le-ltb n (2 ^ 8) le1, le-ltb n (2 ^ 16) le2, le-ltb n (2 ^ 24) le3, le-ltb n (2 ^ 32) le4, lt-ltb n (2 ^ 40) lt) (inr (omega arith, below 5 (omega arith), refl, omega (arith, full)))
                              | inr le5 ↦
                                  elim (cases_lt n (2 ^ 48)) as (λ z. IsLength ((128 + octet_count n) ∷ drop (8 - octet_count n) (to_be_bytes w64 n)) n) [
                                    | inl lt ↦ rw (le-ltb n (2 ^ 8) le1, le-ltb n (2 ^ 16) le2, le-ltb n (2 ^ 24) le3, le-ltb n (2 ^ 32) le4, le-ltb n (2 ^ 40) le5, lt-ltb n (2 ^ 48) lt) (inr (omega arith, below 6 (omega arith), refl, omega (arith, full)))
                                    | inr le6 ↦
                                        elim (cases_lt n (2 ^ 56)) as (λ z. IsLength ((128 + octet_count n) ∷ drop (8 - octet_count n) (to_be_bytes w64 n)) n) [
                                          | inl lt ↦ rw (le-ltb n (2 ^ 8) le1, le-ltb n (2 ^ 16) le2, le-ltb n (2 ^ 24) le3, le-ltb n (2 ^ 32) le4, le-ltb n (2 ^ 40) le5, le-ltb n (2 ^ 48) le6, lt-ltb n (2 ^ 56) lt) (inr (omega arith, below 7 (omega arith), refl, omega (arith, full)))
                                          | inr le7 ↦
                                              rw (le-ltb n (2 ^ 8) le1, le-ltb n (2 ^ 16) le2, le-ltb n (2 ^ 24) le3, le-ltb n (2 ^ 32) le4, le-ltb n (2 ^ 40) le5, le-ltb n (2 ^ 48) le6, le-ltb n (2 ^ 56) le7) (inr (omega arith, below 8 (omega arith), refl, omega (arith, full)))
                                        ]
                                  ]
                            ]
                      ]
                ]
          ]
    ]

pub length_written : (n : ℕ) → n < 2 ^ 63 → IsLength (length_octets n) n
length_written n high =
    elim (cases_lt n 128) as (λ z. IsLength (length_octets n) n) [
      | inl lt ↦ rw (lt-ltb n 128 lt) (inl (lt, refl, refl))
      | inr le ↦ rw (le-ltb n 128 le) (long n le high)
    ]

-- ---- tags

abbrev IsHighSpelled : List ℕ → ℕ → Type 0
IsHighSpelled octets n = (starts_with 128 octets ≡ false) × AreDigits 0 octets n

high : (n : ℕ) → 31 ≤ n → n < 2 ^ 32 → IsHighSpelled (high_octets n) n
high n low lt =
    elim (cases_lt n (2 ^ 7)) as (λ z. IsHighSpelled (high_octets n) n) [
      | inl a ↦ rw (lt-ltb n (2 ^ 7) a) (ne_eqb n 128 (λ (q : n ≡ 128). omega arith), inl (omega arith, refl, omega arith))
      | inr a ↦ elim (cases_lt n (2 ^ 14)) as (λ z. IsHighSpelled (high_octets n) n) [
        | inl b ↦ rw (le-ltb n (2 ^ 7) a, lt-ltb n (2 ^ 14) b) (ne_eqb (128 + n / 2 ^ 7) 128 (λ (q : 128 + n / 2 ^ 7 ≡ 128). omega arith), inr (omega arith, inl (omega arith, refl, omega arith)))
        | inr b ↦ elim (cases_lt n (2 ^ 21)) as (λ z. IsHighSpelled (high_octets n) n) [
          | inl d ↦ rw (le-ltb n (2 ^ 7) a, le-ltb n (2 ^ 14) b, lt-ltb n (2 ^ 21) d) (ne_eqb (128 + n / 2 ^ 14) 128 (λ (q : 128 + n / 2 ^ 14 ≡ 128). omega arith), inr (omega arith, inr (omega arith, inl (omega arith, refl, omega arith))))
          | inr d ↦ elim (cases_lt n (2 ^ 28)) as (λ z. IsHighSpelled (high_octets n) n) [
            | inl f ↦ rw (le-ltb n (2 ^ 7) a, le-ltb n (2 ^ 14) b, le-ltb n (2 ^ 21) d, lt-ltb n (2 ^ 28) f) (ne_eqb (128 + n / 2 ^ 21) 128 (λ (q : 128 + n / 2 ^ 21 ≡ 128). omega arith), inr (omega arith, inr (omega arith, inr (omega arith, inl (omega arith, refl, omega arith)))))
            | inr f ↦ rw (le-ltb n (2 ^ 7) a, le-ltb n (2 ^ 14) b, le-ltb n (2 ^ 21) d, le-ltb n (2 ^ 28) f) (ne_eqb (128 + n / 2 ^ 28) 128 (λ (q : 128 + n / 2 ^ 28 ≡ 128). omega arith), inr (omega arith, inr (omega arith, inr (omega arith, inr (omega arith, inl (omega arith, refl, omega arith))))))
          ]
        ]
      ]
    ]

tag_from : (t : Tag) (first : ℕ) → t.class ≡ first / 64 → t.constructed ≡ eqb (first / 32 % 2) 1 → t ≡ tag_of first t.number
tag_from t first p q = λ i. record { class = p i; constructed = q i; number = t.number }

bits : (b : Bool) (c low first : ℕ) → c < 4 → low < 32 → first ≡ c % 4 * 64 + form_bit b + low → (c ≡ first / 64) × (b ≡ eqb (first / 32 % 2) 1) × (low ≡ first % 32)
bits true c low first small within is = (omega arith, grind (arith, nat_tests), omega arith)
bits false c low first small within is = (omega arith, grind (arith, nat_tests), omega arith)

pub tag_written : (t : Tag) → IsTag t → IsIdentifier (identifier t) t
tag_written t h =
    elim (cases_lt t.number 31) as (λ z. IsIdentifier (identifier t) t) [
      | inl lt ↦
          let first = t.class % 4 * 64 + form_bit t.constructed + t.number in
          let b = bits t.constructed t.class t.number (t.class % 4 * 64 + form_bit t.constructed + t.number) h.0 (omega arith) refl in
          rw (lt-ltb t.number 31 lt) (t.number, tag_from t (t.class % 4 * 64 + form_bit t.constructed + t.number) b.0 b.1, inl (refl, b.2, lt, ap (λ (c : ℕ). eqb c 0 && eqb t.number 0) (sym b.0) ∙ h.2))
      | inr le ↦
          let b = bits t.constructed t.class 31 (t.class % 4 * 64 + form_bit t.constructed + 31) h.0 (omega arith) refl in
          let k = high t.number le h.1 in
          rw (le-ltb t.number 31 le) (t.number, tag_from t (t.class % 4 * 64 + form_bit t.constructed + 31) b.0 b.1, inr (sym b.2, le, h.1, k.0, k.1))
    ]

-- ---- elements

tag_bounded : (e : Element) (levels : ℕ) → IsBounded levels e → IsTag (tag_is e)
tag_bounded (primitive class number contents) levels bounded = bounded.0
tag_bounded (constructed class number inner) levels bounded = bounded.0

mutual
  pub inside_spells : (e : Element) (levels : ℕ) → length (inside_written e) < 2 ^ 63 → IsBounded levels e → SpellsInside levels (inside_written e) e
  inside_spells (primitive class number contents) levels lt bounded =
      let small : length contents < 2 ^ 63 = omega (arith, length-append (length_octets (length contents)) contents) in
      (bounded.1, length_octets (length contents), length_written (length contents) small, refl)
  inside_spells (constructed class number inner) levels lt bounded =
      let small : length (written_all inner) < 2 ^ 63 = omega (arith, length-append (length_octets (length (written_all inner))) (written_all inner)) in (
        bounded.1,
        length_octets (length (written_all inner)),
        written_all inner,
        [],
        inl (length_written (length (written_all inner)) small, refl),
        all_spell inner (levels - 1) small bounded.2,
        ap (λ (z : List ℕ). length_octets (length (written_all inner)) ++ z) (sym (append-nil (written_all inner))),
      )

  pub all_spell : (es : Elements) (levels : ℕ) → length (written_all es) < 2 ^ 63 → AreBounded levels es → SpellsAll levels (written_all es) es
  all_spell none levels lt bounded = refl
  all_spell (more e es) levels lt bounded =
      let whole = length-append (identifier (tag_is e) ++ inside_written e) (written_all es) in
      let first = length-append (identifier (tag_is e)) (inside_written e) in (
        identifier (tag_is e),
        inside_written e,
        written_all es,
        tag_written (tag_is e) (tag_bounded e levels bounded.0),
        inside_spells e levels (omega arith) bounded.0,
        all_spell es levels (omega arith) bounded.1,
        append_assoc (identifier (tag_is e)) (inside_written e) (written_all es),
      )

pub spells_written : (e : Element) → length (written e) < 2 ^ 63 → IsBounded 16 e → Spells 16 (written e) e
spells_written e lt bounded =
    let whole = length-append (identifier (tag_is e)) (inside_written e) in
    (identifier (tag_is e), inside_written e, tag_written (tag_is e) (tag_bounded e 16 bounded), inside_spells e 16 (omega arith) bounded, refl)

pub read_again : (e : Element) (rest : List ℕ) → length (written e ++ rest) < 2 ^ 63 → IsBounded 16 e → first_element (written e ++ rest) ≡ Ok (e, length (written e))
read_again e rest lt bounded =
    let len = length-append (written e) rest in
    let spells : Spells 16 (take (length (written e)) (written e ++ rest)) e = subst (λ (z : List ℕ). Spells 16 z e) (sym (take_at (written e) rest (length (written e)) refl)) (spells_written e (omega arith) bounded) in
    element_again anything one (written e ++ rest) e (length (written e)) lt (omega arith) spells (admitted e one)

pub if_spelled : {E : Type 0} (e : Element) (result : Result (List ℕ) E) → IfOk result (λ bytes. bytes ≡ written e) → IfOk result (λ bytes. length bytes < 2 ^ 63) → IsBounded 16 e → IfOk result (λ bytes. Spells 16 bytes e)
if_spelled e (Ok bytes) is lt bounded = subst (λ (z : List ℕ). Spells 16 z e) (sym is) (spells_written e (rw is at lt) bounded)
if_spelled e (Err f) is lt bounded = tt

pub if_read_again : {E : Type 0} (e : Element) (result : Result (List ℕ) E) → IfOk result (λ bytes. bytes ≡ written e) → IsBounded 16 e
    → IfOk result (λ bytes. (rest : List ℕ) → length (bytes ++ rest) < 2 ^ 63 → first_element (bytes ++ rest) ≡ Ok (e, length bytes))
if_read_again e (Ok bytes) is bounded = λ rest lt. subst (λ (z : List ℕ). first_element (z ++ rest) ≡ Ok (e, length z)) (sym is) (read_again e rest (rw is at lt) bounded)
if_read_again e (Err f) is bounded = tt

pub tag_parts : (tag : Tag) (e : Element) (class number : ℕ) (es : Elements) → e ≡ constructed class number es → tag ≡ tag_is e → e ≡ constructed tag.class tag.number es
tag_parts tag e class number es e-is tag-is =
    let both : tag ≡ tag_is (constructed class number es) = tag-is ∙ ap tag_is e-is in
    e-is ∙ ap (λ (t : Tag). constructed t.class t.number es) (sym both)
