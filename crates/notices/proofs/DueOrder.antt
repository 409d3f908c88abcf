-- Notices that are due are in the order of their subscriptions.
use Rattle.std.proofs.Common.{◌≡◌, ◌<◌, ◌≤◌, ℕ, suc, List, [], ◌∷◌, length, get_or, Option, Some, None, arith}
use Rattle.std.specs.Prelude.{⊤}
use Rattle.std.specs.List.{cons_option}
use Rattle.std.specs.List.Sorted.{IsNonDecreasing, IsNonDecreasingBy}
use Rattle.notices.specs.declared.notice.Notice.{Notice}
use Rattle.notices.specs.Watched.{Watched}
use Rattle.notices.specs.Due.{notice_of, notices_of}
use Rattle.notices.proofs.Leaving.{AreFrom, AreRising}
use Rattle.notices.proofs.Numbering.{IfNext, is_next}
use Rattle.notices.proofs.Merged.{from_rising}

-- all numbers are from this one on
abbrev IdsFrom : ℕ → List ℕ → Type 0
IdsFrom least [] = ⊤
IdsFrom least (id ∷ ids) = (least ≤ id) × IdsFrom least ids

-- each is no greater than those after it
abbrev IdsRise : List ℕ → Type 0
IdsRise [] = ⊤
IdsRise (id ∷ ids) = IdsFrom id ids × IdsRise ids

ids_from_each : (least : ℕ) (ids : List ℕ) → ((k : ℕ) (d : ℕ) → k < length ids → least ≤ get_or ids k d) → IdsFrom least ids
ids_from_each least [] h = tt
ids_from_each least (id ∷ ids) h = (h 0 id (omega arith), ids_from_each least ids (λ k d l. h (suc k) d (omega arith)))

ids_rise : (ids : List ℕ) → IsNonDecreasing ids → IdsRise ids
ids_rise [] sorted = tt
ids_rise (id ∷ ids) sorted =
    (ids_from_each id ids (λ k d l. sorted 0 (suc k) d (omega arith) (omega arith)), ids_rise ids (λ i j d le l. sorted (suc i) (suc j) d (omega arith) (omega arith)))

module _ (rows : List (List (List ℕ))) (w : Watched) (before after : ℕ) where
  notices_from : (least : ℕ) (ids : List ℕ) → IdsFrom least ids → AreFrom least (notices_of rows w before after ids)
  notices_from least [] from = tt
  notices_from least (id ∷ ids) from = by (notices_from least ids from.1) (notice_of rows w before after id) (is_next rows w before after id)
    where
      by : AreFrom least (notices_of rows w before after ids) → (o : Option Notice) → IfNext w id o → AreFrom least (cons_option o (notices_of rows w before after ids))
      by rest None next = rest
      by rest (Some n) next = let own = next.own in let low = from.0 in (omega arith, rest)

  notices_rise : (ids : List ℕ) → IdsRise ids → AreRising (notices_of rows w before after ids)
  notices_rise [] rise = tt
  notices_rise (id ∷ ids) rise = by (notices_from id ids rise.0) (notices_rise ids rise.1) (notice_of rows w before after id) (is_next rows w before after id)
    where
      lower : (n : ℕ) (ns : List Notice) → n ≡ id → AreFrom id ns → AreFrom n ns
      lower n [] e from = tt
      lower n (m ∷ ns) e from = let here = from.0 in (omega arith, lower n ns e from.1)

      by : AreFrom id (notices_of rows w before after ids) → AreRising (notices_of rows w before after ids) → (o : Option Notice) → IfNext w id o → AreRising (cons_option o (notices_of rows w before after ids))
      by from rest None next = rest
      by from rest (Some n) next = (lower n.id (notices_of rows w before after ids) next.own from, rest)

  pub due_in_order : (ids : List ℕ) → IsNonDecreasing ids → IsNonDecreasingBy (λ (n : Notice). n.id) (notices_of rows w before after ids)
  due_in_order ids sorted = from_rising (notices_of rows w before after ids) (notices_rise ids (ids_rise ids sorted))
