-- Lines, one after another.
use Rattle.std.proofs.Common.{◌≡◌, ◌<◌, ◌≤◌, ◌+◌, ℕ, List, [], ◌∷◌, length, take, drop, map, refl}
use Rattle.rows.specs.Pieces.{pieces}
use Rattle.charging.specs.Items.{line_item}

-- the last line
pub last_line : (text : List ℕ) (n : ℕ) → (length text ≤ n → pieces 10 text ≡ take n text ∷ []) → length text ≤ n → map line_item (pieces 10 text) ≡ line_item (take n text) ∷ []
last_line text n last most = rw (last most) refl

-- one with more after it
pub next_line : (text : List ℕ) (n : ℕ) → (n < length text → pieces 10 text ≡ take n text ∷ pieces 10 (drop (n + 1) text)) → n < length text → map line_item (pieces 10 text) ≡ line_item (take n text) ∷ map line_item (pieces 10 (drop (n + 1) text))
next_line text n first less = rw (first less) refl
