-- What a read at a place gives of the bytes of a disk.
use Rattle.std.proofs.Common.{◌≡◌, ℕ, ◌+◌, ◌-◌, ◌≤◌, ◌<◌, min, List, ◌++◌, length, get_or, take, drop, sym, ◌∙◌, ap, arith, length-drop, length-take, take-take}
use Rattle.std.proofs.lemmas.List.{drop-take, get_or-drop, get_or-take, take-append-le}
use Rattle.std.proofs.lemmas.Grind.{common_steps}
use Rattle.std.specs.Int.{w32, to_be_bytes}
use Rattle.journal.specs.Reads.{IsHeadAt}
use Rattle.journal.specs.declared.entries.Head.{Head}

pub drop-add : (n m : ℕ) (xs : List ℕ) → drop (n + m) xs ≡ drop m (drop n xs)
drop-add n m xs = grind (arith, common_steps)

-- m bytes behind the j-th that was read
pub part_read : (at j m n : ℕ) (b into now : List ℕ) → now ≡ take n (drop at b) ++ drop n into → n ≤ length b - at → j + m ≤ n → take m (drop j now) ≡ take m (drop (at + j) b)
part_read at j m n b into now is count within =
    let here : length (take n (drop at b)) ≡ n = omega (arith, count, length-take n (drop at b), length-drop at b) in
    sym (drop-take j m now) ∙ ap (λ (l : List ℕ). drop j (take (j + m) l)) is
    ∙ ap (λ (l : List ℕ). drop j l) (take-append-le (j + m) (take n (drop at b)) (drop n into) (omega (arith, here, within)) ∙ take-take (j + m) n (drop at b) within)
    ∙ drop-take j m (drop at b) ∙ ap (λ (l : List ℕ). take m l) (sym (drop-add at j b))

-- the first of some bytes
first_of : (xs ys : List ℕ) → take 1 xs ≡ take 1 ys → get_or xs 0 0 ≡ get_or ys 0 0
first_of xs ys same = sym (get_or-take 1 xs 0 0 (omega arith)) ∙ ap (λ (l : List ℕ). get_or l 0 0) same ∙ get_or-take 1 ys 0 0 (omega arith)

-- a head that was read as the last five bytes
pub head_there : (at j n : ℕ) (b into now : List ℕ) (head : Head) → now ≡ take n (drop at b) ++ drop n into → n ≡ min (length into) (length b - at) → length into ≡ j + 5 → at + j < length b
    → head.gate ≡ get_or now j 0 → to_be_bytes w32 head.size ≡ take 4 (drop (j + 1) now) → IsHeadAt b (at + j) head
head_there at j n b into now head is count long here gate size = record {
  gate = gate ∙ ap (λ (k : ℕ). get_or now k 0) (let sum : j ≡ j + 0 = omega arith in sum) ∙ sym (get_or-drop j now 0 0) ∙ first_of (drop j now) (drop (at + j) b) (part_read at j 1 n b into now is (omega (arith, count)) (omega (arith, count, long, here))) ∙ get_or-drop (at + j) b 0 0
      ∙ ap (λ (k : ℕ). get_or b k 0) (let sum : at + j + 0 ≡ at + j = omega arith in sum);
  size = λ all.
      size ∙ part_read at (j + 1) 4 n b into now is (omega (arith, count)) (omega (arith, count, long, all))
      ∙ ap (λ (k : ℕ). take 4 (drop k b)) (let sum : at + (j + 1) ≡ at + j + 1 = omega arith in sum);
}
