-- The count of faults rises at each turn of a kind.
use Rattle.std.proofs.Common.{◌≡◌, ℕ, ◌+◌, ◌≤◌, Bool, true, false, List, [], ◌∷◌, arith, refl, ap, cond}
use Rattle.edge.specs.Faults.{CountRose}
use Rattle.serving.specs.Laws.{CountRoseBy, count_of}
use Rattle.serving.specs.Sides.{Meaning}
use Rattle.serving.specs.Talk.{Talk, Turn}

one_more : (b : Bool) (n before now next : ℕ) → CountRoseBy n before now → now ≤ next → (b ≡ true → CountRose now next) → CountRoseBy (n + cond b 1 0) before next
one_more true n before now next h le rose = let r = rose refl in omega (arith, h, r)
one_more false n before now next h le rose = omega (arith, h, le)

module _ {S : Type 0} (meaning : Meaning S) (faults : S → ℕ) (test : Turn → Bool)
    (each : (before : S) (turn : Turn) (after : S) → meaning.gives before turn.message turn.answer after → (faults before ≤ faults after) × (test turn ≡ true → CountRose (faults before) (faults after))) where
  pub counted : (start : S) (bytes : List ℕ) (turns : List Turn) (state : S) (rest : List ℕ) → Talk meaning start bytes turns state rest → CountRoseBy (count_of test turns) (faults start) (faults state)
  counted start bytes [] state rest h = let same : faults state ≡ faults start = ap faults h.0 in omega (arith, same)
  counted start bytes (turn ∷ turns) state rest (before, left, earlier, this) =
      let e = each before turn state this.answered in
      one_more (test turn) (count_of test turns) (faults start) (faults before) (faults state) (counted start bytes turns before left earlier) e.0 e.1
