-- A name up to a slash: what the router's walk takes for it, and the piece that `specs/Paths` speaks of.
use Rattle.std.proofs.Common.{◌≡◌, ℕ, zero, suc, ◌+◌, ◌-◌, List, [], ◌∷◌, ◌++◌, length, take, drop, Bool, true, false, cond, not, refl, sym, ap, ◌∙◌, arith, nat_eq, ◌==◌, ltb, ◌&&◌, add-one, length-append}
use Rattle.std.proofs.lemmas.Bool.Decides.{nat_tests}
use Rattle.std.specs.Cmp.Lexicographic.{pointwise}
use Rattle.std.specs.List.{position_or_len}
use Rattle.matchit.specs.Seek.{has_slash, segment, cuts}
use Rattle.rows.specs.Pieces.{piece_length}

-- what stands before the first slash
abbrev pub name : List ℕ → List ℕ
name text = take (piece_length 47 text) text

-- what stands from the first slash on
abbrev pub after : List ℕ → List ℕ
after text = drop (piece_length 47 text) text

pub length_name : (text : List ℕ) → length (name text) ≡ piece_length 47 text
length_name [] = refl
length_name (b ∷ text) = by (b == 47) (length_name text)
  where
    by : (v : Bool) → length (take (piece_length 47 text) text) ≡ piece_length 47 text
        → length (take (cond v 0 (piece_length 47 text + 1)) (b ∷ text)) ≡ cond v 0 (piece_length 47 text + 1)
    by true ih = refl
    by false ih = rw add-one (ap suc ih)

-- with a slash after it, the segment is the name and the slash
segment_of_name : (text : List ℕ) → has_slash text ≡ true → segment text ≡ name text ++ 47 ∷ []
segment_of_name [] h = absurd (cc)
segment_of_name (b ∷ text) h = by (b == 47) refl h (λ q. segment_of_name text q)
  where
    by : (v : Bool) → (b == 47) ≡ v → cond v true (has_slash text) ≡ true → (has_slash text ≡ true → segment text ≡ take (piece_length 47 text) text ++ 47 ∷ [])
        → cond v (b ∷ []) (b ∷ segment text) ≡ take (cond v 0 (piece_length 47 text + 1)) (b ∷ text) ++ 47 ∷ []
    by true e q ih = let same : b ≡ 47 = grind (arith, nat_tests) in rw same refl
    by false e q ih = rw add-one (ap (λ z. b ∷ z) (ih q))

-- without one it is the text
segment_of_text : (text : List ℕ) → has_slash text ≡ false → segment text ≡ text
segment_of_text [] h = refl
segment_of_text (b ∷ text) h = by (b == 47) h (λ q. segment_of_text text q)
  where
    by : (v : Bool) → cond v true (has_slash text) ≡ false → (has_slash text ≡ false → segment text ≡ text) → cond v (b ∷ []) (b ∷ segment text) ≡ b ∷ text
    by true q ih = absurd (cc)
    by false q ih = ap (λ z. b ∷ z) (ih q)

some : (n : ℕ) → ltb 0 (suc n) ≡ true
some n = grind (arith, nat_tests)

one_more : (n m : ℕ) → ltb n m ≡ ltb (n + 1) (suc m)
one_more n m = grind (arith, nat_tests)

-- a text has a slash exactly where its first piece is not all of it
pub slash_is_within : (text : List ℕ) → has_slash text ≡ ltb (piece_length 47 text) (length text)
slash_is_within [] = refl
slash_is_within (b ∷ text) = by (b == 47) (slash_is_within text)
  where
    by : (v : Bool) → has_slash text ≡ ltb (piece_length 47 text) (length text) → cond v true (has_slash text) ≡ ltb (cond v 0 (piece_length 47 text + 1)) (suc (length text))
    by true ih = sym (some (length text))
    by false ih = ih ∙ one_more (piece_length 47 text) (length text)

pub nothing_after : (text : List ℕ) → has_slash text ≡ false → after text ≡ []
nothing_after [] h = refl
nothing_after (b ∷ text) h = by (b == 47) h (λ q. nothing_after text q)
  where
    by : (v : Bool) → cond v true (has_slash text) ≡ false → (has_slash text ≡ false → drop (piece_length 47 text) text ≡ [])
        → drop (cond v 0 (piece_length 47 text + 1)) (b ∷ text) ≡ []
    by true q ih = absurd (cc)
    by false q ih = rw add-one (ih q)

-- and then that piece is the text
pub whole_name : (text : List ℕ) → has_slash text ≡ false → name text ≡ text
whole_name [] h = refl
whole_name (b ∷ text) h = by (b == 47) h (λ q. whole_name text q)
  where
    by : (v : Bool) → cond v true (has_slash text) ≡ false → (has_slash text ≡ false → take (piece_length 47 text) text ≡ text)
        → take (cond v 0 (piece_length 47 text + 1)) (b ∷ text) ≡ b ∷ text
    by true q ih = absurd (cc)
    by false q ih = rw add-one (ap (λ z. b ∷ z) (ih q))

-- a parameter with a slash after it takes the name
pub taken : (text : List ℕ) → has_slash text ≡ true → length (segment text) - 1 ≡ piece_length 47 text
taken text h =
    let n = length_name text in
    rw (segment_of_name text h, length-append) (omega arith)

no_end : (text : List ℕ) (n : ℕ) → has_slash text ≡ false → pointwise nat_eq (47 ∷ []) (drop n text) ≡ false
no_end [] zero h = refl
no_end [] (suc n) h = refl
no_end (b ∷ text) zero h = by (b == 47) refl h
  where
    by : (v : Bool) → (b == 47) ≡ v → cond v true (has_slash text) ≡ false → (nat_eq 47 b && pointwise nat_eq [] text) ≡ false
    by true e q = absurd (cc)
    by false e q = let other : nat_eq 47 b ≡ false = grind (arith, nat_tests) in rw other refl
no_end (b ∷ text) (suc n) h = by (b == 47) h (λ q. no_end text n q)
  where
    by : (v : Bool) → cond v true (has_slash text) ≡ false → (has_slash text ≡ false → pointwise nat_eq (47 ∷ []) (drop n text) ≡ false) → pointwise nat_eq (47 ∷ []) (drop n text) ≡ false
    by true q ih = absurd (cc)
    by false q ih = ih q

last_slash : (xs : List ℕ) → drop (length (xs ++ 47 ∷ []) - 1) (xs ++ 47 ∷ []) ≡ 47 ∷ []
last_slash xs =
    let e : length xs + 1 - 1 ≡ length xs = omega arith in
    rw (length-append, e) (at_end xs)
  where
    at_end : (zs : List ℕ) → drop (length zs) (zs ++ 47 ∷ []) ≡ 47 ∷ []
    at_end [] = refl
    at_end (z ∷ zs) = at_end zs

-- the segment leaves a name of some bytes before its slash exactly where the name has some
pub cuts_after_name : (text : List ℕ) → has_slash text ≡ true → cuts (segment text) (47 ∷ []) ≡ ltb 0 (piece_length 47 text)
cuts_after_name text h =
    let d = last_slash (name text) in
    let n = length_name text in
    let l : ltb 1 (length (name text ++ 47 ∷ [])) ≡ ltb 0 (piece_length 47 text) = rw (length-append) (grind (arith, nat_tests)) in
    rw (segment_of_name text h, d, l) (right (ltb 0 (piece_length 47 text)))
  where
    right : (v : Bool) → (v && true) ≡ v
    right true = refl
    right false = refl

pub cuts_nowhere : (text : List ℕ) → has_slash text ≡ false → cuts (segment text) (47 ∷ []) ≡ false
cuts_nowhere text h = rw (segment_of_text text h, no_end text (length text - 1) h) (right (ltb 1 (length text)))
  where
    right : (v : Bool) → (v && false) ≡ false
    right true = refl
    right false = refl

-- where a byte stands, or none does: the first piece ends there
pub position_is_piece_length : (byte : ℕ) (text : List ℕ) → position_or_len (λ b. b == byte) text ≡ piece_length byte text
position_is_piece_length byte [] = refl
position_is_piece_length byte (b ∷ text) = by (b == byte) (position_is_piece_length byte text)
  where
    by : (v : Bool) → position_or_len (λ b. b == byte) text ≡ piece_length byte text
        → cond (not v) (1 + position_or_len (λ b. b == byte) text) 0 ≡ cond v 0 (piece_length byte text + 1)
    by true ih = refl
    by false ih = omega arith
