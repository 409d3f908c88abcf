-- What bytes tell: one list, or one place at which they are no journal (this product's own).
use Rattle.std.specs.Prelude.{◌≡◌, ℕ, List, Option}
use Rattle.journal.specs.Bytes.{Spells, StandsFor}
use Rattle.journal.specs.Reads.{IsNoJournal}

-- bytes under an epoch stand for one list at most
abbrev pub OneList : Type 0
OneList = (epoch : Option ℕ) (bytes : List ℕ) (one other : List (List ℕ)) → StandsFor epoch bytes one → StandsFor epoch bytes other → one ≡ other

-- bytes are no journal at one place at most
abbrev pub OnePlace : Type 0
OnePlace = (bytes : List ℕ) (one other : ℕ) → IsNoJournal bytes one → IsNoJournal bytes other → one ≡ other

-- bytes that stand for a list are no journal at no place
abbrev pub NoPlace : Type 0
NoPlace = (bytes : List ℕ) (list : List (List ℕ)) (at : ℕ) → Spells bytes list → IsNoJournal bytes at → ⊥
