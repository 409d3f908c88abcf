-- The first byte of an epoch's text.
use Rattle.std.proofs.Common.{◌≡◌, ℕ, ◌≤◌, Bool, true, false, eqb, List, [], ◌∷◌, length, Some, None, refl, arith}
use Rattle.std.proofs.lemmas.Bool.{ne_eqb}
use Rattle.edge.specs.EpochText.{epoch_from, epoch_of}

-- a text of two bytes at least that is read on as an epoch begins with a digit
pub first_digit : (bytes : List ℕ) (epoch : ℕ) → 2 ≤ length bytes → epoch_from 0 bytes ≡ Some epoch → epoch_of bytes ≡ Some epoch
first_digit [] epoch long read = absurd (omega arith)
first_digit (b ∷ []) epoch long read = absurd (omega arith)
first_digit (b ∷ c ∷ bs) epoch long read = by_feed (eqb b 10) refl
  where
    by_feed : (feed : Bool) → eqb b 10 ≡ feed → epoch_of (b ∷ c ∷ bs) ≡ Some epoch
    by_feed true e =
        let more : eqb (length (c ∷ bs)) 0 ≡ false = ne_eqb (length (c ∷ bs)) 0 (λ (q : length (c ∷ bs) ≡ 0). omega arith) in
        let none : None ≡ Some epoch = rw (e, more) at read in
        cc
    by_feed false e = rw e (rw e at read)
