-- A walk over rows of plain text is a look-up.
use Rattle.std.proofs.Common.{◌≡◌, ℕ, ◌-◌, ◌<◌, ◌≤◌, List, [], ◌∷◌, drop, slice_index, zero, suc, Some, Bool, true, false, cond, refl, ap, arith, ◌==◌, ltb, ◌&&◌}
use Rattle.std.proofs.lemmas.Bool.Decides.{nat_tests}
use Rattle.matchit.specs.Rows.{Rows, param_token, catch_all_token}
use Rattle.matchit.specs.Seek.{own, step, seek, param_step, same_text}
use Rattle.matchit.specs.Order.{lookup}
use Rattle.matchit.specs.Level.{IsText}
use Rattle.matchit.proofs.SeekLemmas.{seek-empty, param_step-empty, or_else-none}

-- each row is plain text
abbrev pub AreTexts : Rows → Type 0
AreTexts [] = Unit {0}
AreTexts ((text, key) ∷ more) = IsText text × AreTexts more

own_is_lookup : (r : Rows) → own r ≡ lookup [] r
own_is_lookup [] = refl
own_is_lookup (([], key) ∷ r) = refl
own_is_lookup ((byte ∷ text, key) ∷ r) = own_is_lookup r

-- no row goes on with a token that is no byte
no_token : (token : ℕ) (r : Rows) → 256 ≤ token → AreTexts r → step token r ≡ []
no_token token [] l h = refl
no_token token (([], key) ∷ r) l h = no_token token r l h.1
no_token token ((byte ∷ text, key) ∷ r) l h =
    let other : (byte == token) ≡ false = grind (arith, nat_tests, h.0.0) in
    rw other (no_token token r l h.1)

step_keeps_texts : (b : ℕ) (r : Rows) → AreTexts r → AreTexts (step b r)
step_keeps_texts b [] h = tt
step_keeps_texts b (([], key) ∷ r) h = step_keeps_texts b r h.1
step_keeps_texts b ((byte ∷ text, key) ∷ r) h = by (byte == b) (step_keeps_texts b r h.1)
  where
    by : (v : Bool) → AreTexts (step b r) → AreTexts (cond v ((text, key) ∷ step b r) (step b r))
    by true ih = (h.0.1, ih)
    by false ih = ih

lookup_after_step : (b : ℕ) (p : List ℕ) (r : Rows) → lookup p (step b r) ≡ lookup (b ∷ p) r
lookup_after_step b p [] = refl
lookup_after_step b p (([], key) ∷ r) = lookup_after_step b p r
lookup_after_step b p ((byte ∷ text, key) ∷ r) = by (byte == b) (lookup_after_step b p r)
  where
    by : (v : Bool) → lookup p (step b r) ≡ lookup (b ∷ p) r → lookup p (cond v ((text, key) ∷ step b r) (step b r)) ≡ cond (v && same_text text p) (Some key) (lookup (b ∷ p) r)
    by true ih = ap (λ z. cond (same_text text p) (Some key) z) ih
    by false ih = ih

-- the walk over rows of plain text finds the row of that text
pub seek_is_lookup : (r : Rows) (path : List ℕ) → AreTexts r → seek 0 r path ≡ lookup path r
unfolding seek
seek_is_lookup r [] h = own_is_lookup r
seek_is_lookup r (b ∷ p) h =
    simp (no_token param_token r (omega arith) h, no_token catch_all_token r (omega arith) h, param_step-empty (b ∷ p), seek-empty ((param_step {K = ℕ} [] (b ∷ p)).0 - 1) p, or_else-none, seek_is_lookup (step b r) p (step_keeps_texts b r h), lookup_after_step b p r)

-- each code of a text is a byte
abbrev pub are_bytes : List ℕ → Bool
are_bytes [] = true
are_bytes (x ∷ xs) = ltb x 256 && are_bytes xs

pub tested : (xs : List ℕ) → are_bytes xs ≡ true → IsText xs
tested [] h = tt
tested (x ∷ xs) h = by (ltb x 256) refl h (λ q. tested xs q)
  where
    by : (v : Bool) → ltb x 256 ≡ v → (v && are_bytes xs) ≡ true → (are_bytes xs ≡ true → IsText xs) → IsText (x ∷ xs)
    by true e q ih = (grind (arith, nat_tests), ih q)
    by false e q ih = absurd (cc)

-- bytes are text
pub is_text : (xs : List ℕ) → ((k : ℕ) → slice_index xs k < 256) → IsText xs
is_text [] h = tt
is_text (x ∷ xs) h = (h 0, is_text xs (λ k. h (suc k)))

pub drop_is_text : (n : ℕ) (xs : List ℕ) → IsText xs → IsText (drop n xs)
drop_is_text zero xs h = h
drop_is_text (suc n) [] h = tt
drop_is_text (suc n) (x ∷ xs) h = drop_is_text n xs h.1
