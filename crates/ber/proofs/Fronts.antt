-- Identifier and length octets that are read are those that spell, and those that spell are read.
use Rattle.std.proofs.Common.{◌≡◌, ℕ, ◌+◌, ◌-◌, ◌*◌, ◌/◌, ◌%◌, ◌^◌, ◌<◌, ◌≤◌, ◌⊎◌, inl, inr, Bool, true, false, cond, eqb, ltb, leb, List, [], ◌∷◌, ◌++◌, length, take, drop, Option, Some, None, refl, sym, ap, ◌∙◌, subst, arith}
use Rattle.std.specs.Prelude.{option_and_then, ◌&&◌}
use Rattle.std.proofs.lemmas.Bool.{ltb-true, ltb-false, lt-ltb, le-ltb, leb-false, eqb-true, eqb-false, ne_eqb}
use Rattle.std.proofs.lemmas.Bool.Decides.{nat_tests}
use Rattle.std.proofs.lemmas.List.{take_at, drop_at, take-append-drop, length-append, length-take}
use Rattle.ber.specs.declared.tag.Tag.{Tag}
use Rattle.ber.specs.Octets.{digits_at, high_at, tag_at, value_at, length_at}
use Rattle.ber.specs.Spelling.{starts_with, tag_of, AreDigits, IsHigh, IsIdentifier, value_of, IsLength}

-- which way a test went
pub chosen : {A : Type 0} (b : Bool) (x y z : A) → cond b x y ≡ z → ((b ≡ true) × (x ≡ z)) ⊎ ((b ≡ false) × (y ≡ z))
chosen true x y z e = inl (refl, e)
chosen false x y z e = inr (refl, e)

abbrev pub some : {A : Type 0} → A → Option A
some x = Some x

pub some_is : {A : Type 0} (x y : A) → some x ≡ some y → x ≡ y
some_is x y e = cc

pub then_some : {A B : Type 0} (o : Option A) (f : A → Option B) (y : B) → option_and_then f o ≡ Some y → (x : A) × (o ≡ Some x) × (f x ≡ Some y)
then_some None f y e = absurd cc
then_some (Some x) f y e = (x, refl, e)

-- what was taken from the front
abbrev pub Front : (List ℕ → Type 0) → List ℕ → List ℕ → Type 0
Front P bytes rest = (front : List ℕ) × P front × (bytes ≡ front ++ rest)

-- ---- base 128

pub digits_found : (bytes : List ℕ) (n m : ℕ) (rest : List ℕ) → digits_at n bytes ≡ Some (m, rest) → (m < 2 ^ 32) × Front (λ front. AreDigits n front m) bytes rest
digits_found [] n m rest e = absurd cc
digits_found (b ∷ bs) n m rest e =
    elim (chosen (leb (2 ^ 25) n) None (cond (ltb b 128) (Some (n * 128 + b % 128, bs)) (digits_at (n * 128 + b % 128) bs)) (Some (m, rest)) e) [
      | inl h ↦ absurd (let k = h.1 in cc)
      | inr h ↦
          let small : n < 2 ^ 25 = leb-false _ _ h.0 in
          elim (chosen (ltb b 128) (Some (n * 128 + b % 128, bs)) (digits_at (n * 128 + b % 128) bs) (Some (m, rest)) h.1) [
            | inl k ↦
                let pair = some_is (n * 128 + b % 128, bs) (m, rest) k.1 in
                let m-is : n * 128 + b % 128 ≡ m = ap (λ (p : ℕ × List ℕ). p.0) pair in
                let rest-is : bs ≡ rest = ap (λ (p : ℕ × List ℕ). p.1) pair in
                (omega arith, (b ∷ [], inl (ltb-true _ _ k.0, refl, sym m-is), ap (λ (t : List ℕ). b ∷ t) rest-is))
            | inr k ↦
                let more = digits_found bs (n * 128 + b % 128) m rest k.1 in
                (more.0, (b ∷ more.1.0, inr (ltb-false _ _ k.0, more.1.1), ap (λ (t : List ℕ). b ∷ t) more.1.2))
          ]
    ]

digits-le : (front : List ℕ) (n m : ℕ) → AreDigits n front m → n * 128 ≤ m
digits-le [] n m h = absurd h
digits-le (b ∷ bs) n m (inl h) = let e = h.2 in omega arith
digits-le (b ∷ bs) n m (inr h) = let le = digits-le bs (n * 128 + b % 128) m h.1 in omega arith

pub digits_again : (front : List ℕ) (n m : ℕ) (rest : List ℕ) → AreDigits n front m → m < 2 ^ 32 → digits_at n (front ++ rest) ≡ Some (m, rest)
digits_again [] n m rest h lt = absurd h
digits_again (b ∷ bs) n m rest (inl h) lt =
    let e = h.2 in
    let small : leb (2 ^ 25) n ≡ false = grind (arith, nat_tests) in
    let last : ltb b 128 ≡ true = lt-ltb _ _ h.0 in
    rw (small, last, h.1, ← e) refl
digits_again (b ∷ bs) n m rest (inr h) lt =
    let le = digits-le bs (n * 128 + b % 128) m h.1 in
    let small : leb (2 ^ 25) n ≡ false = grind (arith, nat_tests) in
    let last : ltb b 128 ≡ false = le-ltb _ _ h.0 in
    rw (small, last) (digits_again bs (n * 128 + b % 128) m rest h.1 lt)

starts-front : (front rest : List ℕ) (n m : ℕ) → AreDigits n front m → starts_with 128 (front ++ rest) ≡ starts_with 128 front
starts-front [] rest n m h = absurd h
starts-front (b ∷ bs) rest n m h = refl

-- ---- identifier octets

high_found : (first : ℕ) (bs : List ℕ) (number : ℕ) (rest : List ℕ) → first % 32 ≡ 31 → high_at bs ≡ Some (number, rest) → Front (λ front. IsHigh first front number) bs rest
high_found first bs number rest is e =
    elim (chosen (starts_with 128 bs) None (option_and_then (λ (x : ℕ × List ℕ). cond (ltb x.0 31) None (Some x)) (digits_at 0 bs)) (Some (number, rest)) e) [
      | inl h ↦ absurd (let k = h.1 in cc)
      | inr h ↦
          let d = then_some (digits_at 0 bs) (λ (x : ℕ × List ℕ). cond (ltb x.0 31) None (Some x)) (number, rest) h.1 in
          elim (chosen (ltb d.0.0 31) None (Some d.0) (Some (number, rest)) d.2) [
            | inl k ↦ absurd (let w = k.1 in cc)
            | inr k ↦
                let pair = some_is d.0 (number, rest) k.1 in
                let read : digits_at 0 bs ≡ Some (number, rest) = d.1 ∙ ap (λ (p : ℕ × List ℕ). some p) pair in
                let large : 31 ≤ number = subst (λ (p : ℕ × List ℕ). 31 ≤ p.0) pair (ltb-false _ _ k.0) in
                let f = digits_found bs 0 number rest read in
                let starts : starts_with 128 f.1.0 ≡ false = sym (starts-front f.1.0 rest 0 number f.1.1) ∙ (rw (← f.1.2) h.0) in
                (f.1.0, (is, large, f.0, starts, f.1.1), f.1.2)
          ]
    ]

pub tag_found : (bytes : List ℕ) (t : Tag) (rest : List ℕ) → tag_at bytes ≡ Some (t, rest) → Front (λ front. IsIdentifier front t) bytes rest
tag_found [] t rest e = absurd cc
tag_found (first ∷ bs) t rest e =
    elim (chosen (eqb (first % 32) 31) (option_and_then (λ (x : ℕ × List ℕ). Some (tag_of first x.0, x.1)) (high_at bs))
    (cond (eqb (first / 64) 0 && eqb (first % 32) 0) None (Some (tag_of first (first % 32), bs))) (Some (t, rest)) e) [
      | inl h ↦
          let d = then_some (high_at bs) (λ (x : ℕ × List ℕ). Some (tag_of first x.0, x.1)) (t, rest) h.1 in
          let pair = some_is (tag_of first d.0.0, d.0.1) (t, rest) d.2 in
          let t-is : tag_of first d.0.0 ≡ t = ap (λ (p : Tag × List ℕ). p.0) pair in
          let rest-is : d.0.1 ≡ rest = ap (λ (p : Tag × List ℕ). p.1) pair in
          let f = high_found first bs d.0.0 d.0.1 (eqb-true _ _ h.0) d.1 in
          (first ∷ f.0, (d.0.0, sym t-is, inr f.1), ap (λ (x : List ℕ). first ∷ x) (f.2 ∙ ap (λ (x : List ℕ). f.0 ++ x) rest-is))
      | inr h ↦
          elim (chosen (eqb (first / 64) 0 && eqb (first % 32) 0) None (Some (tag_of first (first % 32), bs)) (Some (t, rest)) h.1) [
            | inl k ↦ absurd (let w = k.1 in cc)
            | inr k ↦
                let pair = some_is (tag_of first (first % 32), bs) (t, rest) k.1 in
                let t-is : tag_of first (first % 32) ≡ t = ap (λ (p : Tag × List ℕ). p.0) pair in
                let rest-is : bs ≡ rest = ap (λ (p : Tag × List ℕ). p.1) pair in
                let other = eqb-false _ _ h.0 in
                let ne : (first % 32 ≡ 31 → ⊥) = λ (q : first % 32 ≡ 31). other q in
                (first ∷ [], (first % 32, sym t-is, inl (refl, refl, omega arith, k.0)), ap (λ (x : List ℕ). first ∷ x) rest-is)
          ]
    ]

high_again : (first : ℕ) (front : List ℕ) (number : ℕ) (rest : List ℕ) → IsHigh first front number → high_at (front ++ rest) ≡ Some (number, rest)
high_again first front number rest h =
    let starts : starts_with 128 (front ++ rest) ≡ false = starts-front front rest 0 number h.4 ∙ h.3 in
    let large : ltb number 31 ≡ false = le-ltb _ _ h.1 in
    rw (starts, digits_again front 0 number rest h.4 h.2, large) refl

pub tag_again : (front : List ℕ) (t : Tag) (rest : List ℕ) → IsIdentifier front t → tag_at (front ++ rest) ≡ Some (t, rest)
tag_again [] t rest h = absurd h
tag_again (first ∷ octets) t rest (number, is, inl h) =
    let n-is = h.1 in
    let small = h.2 in
    let one : eqb (first % 32) 31 ≡ false = ne_eqb _ _ (λ (q : first % 32 ≡ 31). omega arith) in
    let two : (eqb (first / 64) 0 && eqb (first % 32) 0) ≡ false = rw (← n-is) h.3 in
    rw (one, two, h.0, is, n-is) refl
tag_again (first ∷ octets) t rest (number, is, inr h) =
    let shape = h.0 in
    let one : eqb (first % 32) 31 ≡ true = grind (arith, nat_tests) in
    rw (one, high_again first octets number rest h, is) refl

-- ---- length octets

value-le : (bs : List ℕ) (n : ℕ) → n ≤ value_of n bs
value-le [] n = omega arith
value-le (b ∷ bs) n = let le = value-le bs (n * 256 + b) in omega arith

value_found : (bs : List ℕ) (n m : ℕ) → value_at n bs ≡ Some m → m ≡ value_of n bs
value_found [] n m e = sym (some_is n m e)
value_found (b ∷ bs) n m e =
    elim (chosen (leb (2 ^ 56) n) None (value_at (n * 256 + b) bs) (Some m) e) [
      | inl h ↦ absurd (let k = h.1 in cc)
      | inr h ↦ value_found bs (n * 256 + b) m h.1
    ]

pub value_again : (bs : List ℕ) (n : ℕ) → value_of n bs < 2 ^ 63 → value_at n bs ≡ Some (value_of n bs)
value_again [] n lt = refl
value_again (b ∷ bs) n lt =
    let le = value-le bs (n * 256 + b) in
    let small : leb (2 ^ 56) n ≡ false = grind (arith, nat_tests) in
    rw small (value_again bs (n * 256 + b) lt)

-- the front of contents: a length, or 80 where there is none
abbrev pub IsFront : List ℕ → Option ℕ → Type 0
IsFront front None = front ≡ 128 ∷ []
IsFront front (Some n) = IsLength front n

pub length_found : (bytes : List ℕ) (len : Option ℕ) (rest : List ℕ) → length_at bytes ≡ Some (len, rest) → Front (λ front. IsFront front len) bytes rest
length_found [] len rest e = absurd cc
length_found (first ∷ bs) len rest e =
    let whole : Option (Option ℕ × List ℕ) = Some (len, rest) in
    let third : Option (Option ℕ × List ℕ) = option_and_then (λ n. Some (Some n, drop (first - 128) bs)) (value_at 0 (take (first - 128) bs)) in
    let second : Option (Option ℕ × List ℕ) = cond (ltb (length bs) (first - 128)) None third in
    elim (chosen (ltb first 128) (some (some first, bs)) (cond (eqb first 128) (some (None, bs)) (cond (eqb first 255) None second)) whole e) [
      | inl h ↦
          let pair = some_is (some first, bs) (len, rest) h.1 in
          let len-is : some first ≡ len = ap (λ (p : Option ℕ × List ℕ). p.0) pair in
          let rest-is : bs ≡ rest = ap (λ (p : Option ℕ × List ℕ). p.1) pair in
          (first ∷ [], subst (IsFront (first ∷ [])) len-is (inl (ltb-true _ _ h.0, refl, refl)), ap (λ (x : List ℕ). first ∷ x) rest-is)
      | inr h ↦ elim (chosen (eqb first 128) (some (None, bs)) (cond (eqb first 255) None second) whole h.1) [
        | inl k ↦
            let pair = some_is (None, bs) (len, rest) k.1 in
            let len-is : None ≡ len = ap (λ (p : Option ℕ × List ℕ). p.0) pair in
            let rest-is : bs ≡ rest = ap (λ (p : Option ℕ × List ℕ). p.1) pair in
            let one = eqb-true _ _ k.0 in
            (first ∷ [], subst (IsFront (first ∷ [])) len-is (ap (λ (x : ℕ). x ∷ []) one), ap (λ (x : List ℕ). first ∷ x) rest-is)
        | inr k ↦ elim (chosen (eqb first 255) None second whole k.1) [
          | inl w ↦ absurd (let v = w.1 in cc)
          | inr w ↦ elim (chosen (ltb (length bs) (first - 128)) None third whole w.1) [
            | inl v ↦ absurd (let u = v.1 in cc)
            | inr v ↦
                let d = then_some (value_at 0 (take (first - 128) bs)) (λ n. some (some n, drop (first - 128) bs)) (len, rest) v.1 in
                let pair = some_is (some d.0, drop (first - 128) bs) (len, rest) d.2 in
                let len-is : some d.0 ≡ len = ap (λ (p : Option ℕ × List ℕ). p.0) pair in
                let rest-is : drop (first - 128) bs ≡ rest = ap (λ (p : Option ℕ × List ℕ). p.1) pair in
                let low = ltb-false _ _ h.0 in
                let ne1 = eqb-false _ _ k.0 in
                let ne2 = eqb-false _ _ w.0 in
                let long = ltb-false _ _ v.0 in
                let count : length (take (first - 128) bs) ≡ first - 128 = omega (arith, length-take (first - 128) bs) in
                let is : IsLength (first ∷ take (first - 128) bs) d.0 = inr (omega arith, ne2, count, value_found (take (first - 128) bs) 0 d.0 d.1) in (
                  first ∷ take (first - 128) bs,
                  subst (IsFront (first ∷ take (first - 128) bs)) len-is is,
                  ap (λ (x : List ℕ). first ∷ x) (sym (take-append-drop (first - 128) bs) ∙ ap (λ (x : List ℕ). take (first - 128) bs ++ x) rest-is),
                )
          ]
        ]
      ]
    ]

pub length_again : (front : List ℕ) (n : ℕ) (rest : List ℕ) → n < 2 ^ 63 → IsLength front n → length_at (front ++ rest) ≡ Some (Some n, rest)
length_again [] n rest lt h = absurd h
length_again (first ∷ octets) n rest lt (inl h) =
    let low : ltb first 128 ≡ true = lt-ltb _ _ h.0 in
    rw (low, h.1, h.2) refl
length_again (first ∷ octets) n rest lt (inr h) =
    let from = h.0 in
    let low : ltb first 128 ≡ false = grind (arith, nat_tests) in
    let ne1 : eqb first 128 ≡ false = grind (arith, nat_tests) in
    let ne2 : eqb first 255 ≡ false = ne_eqb _ _ h.1 in
    let long : ltb (length (octets ++ rest)) (first - 128) ≡ false = le-ltb _ _ (omega (arith, length-append octets rest, h.2)) in
    let fits : value_of 0 octets < 2 ^ 63 = let is = h.3 in omega arith in
    rw (low, ne1, ne2, long, take_at octets rest (first - 128) h.2, drop_at octets rest (first - 128) h.2, value_again octets 0 fits, ← h.3) refl
