-- A number that is written as an INTEGER has its shortest octets, and is read back.
use Rattle.std.proofs.Common.{◌≡◌, ℕ, ◌+◌, ◌*◌, ◌/◌, ◌%◌, ◌^◌, ◌<◌, ◌≤◌, inl, inr, true, false, eqb, leb, List, [], ◌∷◌, Option, Some, refl, ap, ◌∙◌, arith}
use Rattle.std.specs.Prelude.{◌&&◌, is_some}
use Rattle.std.specs.Int.{w64, to_be_bytes}
use Rattle.std.proofs.lemmas.Bool.{lt-ltb, le-ltb, le-leb, cases_lt}
use Rattle.std.proofs.lemmas.Bool.Decides.{nat_tests}
use Rattle.std.proofs.lemmas.Nat.{from_be_bytes-to_be_bytes_8}
use Rattle.ber.specs.Octets.{value_at}
use Rattle.ber.specs.Spelling.{value_of}
use Rattle.records.specs.Fields.{starts_low, integer_of, integer_octets}

value_least : (bs : List ℕ) (n : ℕ) → n ≤ value_of n bs
value_least [] n = omega arith
value_least (b ∷ bs) n = let h = value_least bs (n * 256 + b) in omega (arith, h)

-- base 256, below 2 ^ 64
value_read : (bs : List ℕ) (n : ℕ) → value_of n bs < 2 ^ 64 → value_at n bs ≡ Some (value_of n bs)
value_read [] n lt = refl
value_read (b ∷ bs) n lt =
    let least = value_least bs (n * 256 + b) in
    let small : leb (2 ^ 56) n ≡ false = grind (arith, nat_tests) in
    rw small (value_read bs (n * 256 + b) lt)

-- shortest: the first octet is below 128, and not 0 before one below 128
read : (limit n b : ℕ) (bs : List ℕ) → n ≤ limit → n < 2 ^ 64 → b < 128 → ((eqb b 0 && starts_low bs) ≡ false) → value_of 0 (b ∷ bs) ≡ n → integer_of limit (b ∷ bs) ≡ Some n
read limit n b bs fits lt low shortest is =
    let small : leb 128 b ≡ false = grind (arith, nat_tests) in
    let value : value_at 0 (b ∷ bs) ≡ Some n = value_read (b ∷ bs) 0 (rw is lt) ∙ ap (λ (m : ℕ). let o : Option ℕ = Some m in o) is in
    let within : leb n limit ≡ true = le-leb n limit fits in
    rw (small, shortest, value, within) refl

pub integer_again : (limit n : ℕ) → n ≤ limit → n < 2 ^ 64 → integer_of limit (integer_octets n) ≡ Some n
integer_again limit n fits lt =
    let full : value_of 0 (to_be_bytes w64 n) ≡ n = omega (arith, from_be_bytes-to_be_bytes_8 n lt) in
    elim (cases_lt n (2 ^ 63)) as (λ z. integer_of limit (integer_octets n) ≡ Some n) [
      | inr top ↦
          rw (le-ltb n (2 ^ 63) top) (read limit n 0 (to_be_bytes w64 n) fits lt (omega arith) (grind (arith, nat_tests)) full)
      | inl low ↦
          elim (cases_lt n (2 ^ 7)) as (λ z. integer_of limit (integer_octets n) ≡ Some n) [
            | inl a1 ↦ rw (lt-ltb n (2 ^ 63) low, lt-ltb n (2 ^ 7) a1) (read limit n (n % 256) ([]) fits lt (omega arith) (grind (arith, nat_tests)) (omega (arith, full)))
            | inr b1 ↦
                elim (cases_lt n (2 ^ 15)) as (λ z. integer_of limit (integer_octets n) ≡ Some n) [
                  | inl a2 ↦ rw (lt-ltb n (2 ^ 63) low, le-ltb n (2 ^ 7) b1, lt-ltb n (2 ^ 15) a2) (read limit n (n / 2 ^ 8 % 256) (n % 256 ∷ []) fits lt (omega arith) (grind (arith, nat_tests)) (omega (arith, full)))
                  | inr b2 ↦
                      elim (cases_lt n (2 ^ 23)) as (λ z. integer_of limit (integer_octets n) ≡ Some n) [
                        | inl a3 ↦ rw (lt-ltb n (2 ^ 63) low, le-ltb n (2 ^ 7) b1, le-ltb n (2 ^ 15) b2, lt-ltb n (2 ^ 23) a3) (read limit n (n / 2 ^ 16 % 256) (n / 2 ^ 8 % 256 ∷ n % 256 ∷ []) fits lt (omega arith) (grind (arith, nat_tests)) (omega (arith, full)))
                        | inr b3 ↦
                            elim (cases_lt n (2 ^ 31)) as (λ z. integer_of limit (integer_octets n) ≡ Some n) [
                              | inl a4 ↦ rw (lt-ltb n (2 ^ 63) low, le-ltb n (2 ^ 7) b1, le-ltb n (2 ^ 15) b2, le-ltb n (2 ^ 23) b3, lt-ltb n (2 ^ 31) a4) (read limit n (n / 2 ^ 24 % 256) (n / 2 ^ 16 % 256 ∷ n / 2 ^ 8 % 256 ∷ n % 256 ∷ []) fits lt (omega arith) (grind (arith, nat_tests)) (omega (arith, full)))
                              | inr b4 ↦
                                  elim (cases_lt n (2 ^ 39)) as (λ z. integer_of limit (integer_octets n) ≡ Some n) [
                                    | inl a5 ↦ rw (lt-ltb n (2 ^ 63) low, le-ltb n (2 ^ 7) b1, le-ltb n (2 ^ 15) b2, le-ltb n (2 ^ 23) b3, le-ltb n (2 ^ 31) b4, lt-ltb n (2 ^ 39) a5) (read limit n (n / 2 ^ 32 % 256) (n / 2 ^ 24 % 256 ∷ n / 2 ^ 16 % 256 ∷ n / 2 ^ 8 % 256 ∷ n % 256 ∷ []) fits lt (omega arith) (grind (arith, nat_tests)) (omega (arith, full)))
                                    | inr b5 ↦
                                        elim (cases_lt n (2 ^ 47)) as (λ z. integer_of limit (integer_octets n) ≡ Some n) [
                                          | inl a6 ↦ rw (lt-ltb n (2 ^ 63) low, le-ltb n (2 ^ 7) b1, le-ltb n (2 ^ 15) b2, le-ltb n (2 ^ 23) b3, le-ltb n (2 ^ 31) b4, le-ltb n (2 ^ 39) b5, lt-ltb n (2 ^ 47) a6) (read limit n (n / 2 ^ 40 % 256) (n / 2 ^ 32 % 256 ∷ n / 2 ^ 24 % 256 ∷ n / 2 ^ 16 % 256 ∷ n / 2 ^ 8 % 256 ∷ n % 256 ∷ []) fits lt (omega arith) (grind (arith, nat_tests)) (omega (arith, full)))
                                          | inr b6 ↦
                                              elim (cases_lt n (2 ^ 55)) as (λ z. integer_of limit (integer_octets n) ≡ Some n) [
                                                | inl a7 ↦ rw (lt-ltb n (2 ^ 63) low, le-ltb n (2 ^ 7) b1, le-ltb n (2 ^ 15) b2, le-ltb n (2 ^ 23) b3, le-ltb n (2 ^ 31) b4, le-ltb n (2 ^ 39) b5, le-ltb n (2 ^ 47) b6, lt-ltb n (2 ^ 55) a7) (read limit n (n / 2 ^ 48 % 256) (n / 2 ^ 40 % 256 ∷ n / 2 ^ 32 % 256 ∷ n / 2 ^ 24 % 256 ∷ n / 2 ^ 16 % 256 ∷ n / 2 ^ 8 % 256 ∷ n % 256 ∷ []) fits lt (omega arith) (grind (arith, nat_tests)) (omega (arith, full)))
                                                | inr b7 ↦
                                                    rw (lt-ltb n (2 ^ 63) low, le-ltb n (2 ^ 7) b1, le-ltb n (2 ^ 15) b2, le-ltb n (2 ^ 23) b3, le-ltb n (2 ^ 31) b4, le-ltb n (2 ^ 39) b5, le-ltb n (2 ^ 47) b6, le-ltb n (2 ^ 55) b7) (read limit n (n / 2 ^ 56 % 256) (n / 2 ^ 48 % 256 ∷ n / 2 ^ 40 % 256 ∷ n / 2 ^ 32 % 256 ∷ n / 2 ^ 24 % 256 ∷ n / 2 ^ 16 % 256 ∷ n / 2 ^ 8 % 256 ∷ n % 256 ∷ []) fits lt (omega arith) (grind (arith, nat_tests)) (omega (arith, full)))
                                              ]
                                        ]
                                  ]
                            ]
                      ]
                ]
          ]
    ]

pub integer_taken : (limit n : ℕ) → n ≤ limit → n < 2 ^ 64 → is_some (integer_of limit (integer_octets n)) ≡ true
integer_taken limit n fits lt = rw (integer_again limit n fits lt) refl
