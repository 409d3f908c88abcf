-- Reading entries one after the other.
use Rattle.std.proofs.Common.{◌≡◌, ◌≢◌, inr, ⊎_elim, ℕ, suc, min, ◌+◌, ◌≤◌, ◌<◌, ◌^◌, List, [], ◌∷◌, ◌++◌, length, get_or, take, drop, refl, sym, ◌∙◌, ap, arith, append-nil, length-take, length-drop, length-append, take-append-drop, take-add}
use Rattle.std.specs.Int.{w32, from_be_bytes, to_be_bytes}
use Rattle.std.proofs.lemmas.List.{drop_more}
use Rattle.std.proofs.lemmas.Nat.{from_be_bytes-to_be_bytes_4}
use Rattle.journal.specs.Bytes.{front, header, sized, Spells}
use Rattle.journal.specs.Reads.{IsHeadAt, IsNoJournal}
use Rattle.journal.specs.declared.entries.Head.{Head}
use Rattle.journal.proofs.Append.{below_or_not}
use Rattle.journal.proofs.Part.{drop-add}
use Rattle.journal.proofs.Torn.{front_push}

split_gate : (bytes : List ℕ) (list : List (List ℕ)) (at g : ℕ) → at < length bytes → take at bytes ≡ front list → get_or bytes at 0 ≡ g → bytes ≡ front list ++ g ∷ drop (at + 1) bytes
split_gate bytes list at g here read gate =
    sym (take-append-drop at bytes) ∙ ap (λ (l : List ℕ). l ++ drop at bytes) read
    ∙ ap (λ (l : List ℕ). front list ++ l) (drop_more bytes at 0 here ∙ ap (λ (k : ℕ). k ∷ drop (at + 1) bytes) gate)

pub front_is : (bytes : List ℕ) (list : List (List ℕ)) (at : ℕ) → at < length bytes → take at bytes ≡ front list → length (front list) ≡ at
front_is bytes list at here read = omega (arith, ap length read, length-take at bytes)

pub header_read : (bytes : List ℕ) → take 16 bytes ≡ header → take 16 bytes ≡ front []
unfolding front
header_read bytes is = is

pub entry_read : (bytes : List ℕ) (list : List (List ℕ)) (at : ℕ) (payload : List ℕ) → take at bytes ≡ front list → at < length bytes → get_or bytes at 0 ≡ 1
    → sized payload ≡ take (length payload + 4) (drop (at + 1) bytes) → take (at + (length payload + 5)) bytes ≡ front (list ++ payload ∷ [])
entry_read bytes list at payload read here gate is =
    let more : take (length payload + 5) (drop at bytes) ≡ 1 ∷ sized payload =
    ap (λ (l : List ℕ). take (length payload + 5) l) (drop_more bytes at 0 here ∙ ap (λ (k : ℕ). k ∷ drop (at + 1) bytes) gate) ∙ one_more (length payload + 4) (drop (at + 1) bytes) (length payload + 5) (omega arith)
    ∙ ap (λ (l : List ℕ). 1 ∷ l) (sym is) in
    take-add at (length payload + 5) bytes ∙ ap (λ (l : List ℕ). l ++ take (length payload + 5) (drop at bytes)) read ∙ ap (λ (l : List ℕ). front list ++ l) more
    ∙ ap (λ (l : List ℕ). front list ++ 1 ∷ l) (sym (append-nil (sized payload))) ∙ sym (front_push list payload []) ∙ append-nil (front (list ++ payload ∷ []))
  where
    one_more : (n : ℕ) (xs : List ℕ) (m : ℕ) → m ≡ suc n → take m (1 ∷ xs) ≡ 1 ∷ take n xs
    one_more n xs m same = ap (λ (k : ℕ). take k (1 ∷ xs)) same

pub all_read : (bytes : List ℕ) (list : List (List ℕ)) (at : ℕ) → at < length bytes → at < 2 ^ 30 → take at bytes ≡ front list → get_or bytes at 0 ≢ 1 → Spells bytes list
all_read bytes list at here most read shut = record {
  gate = get_or bytes at 0;
  closed = shut;
  rest = drop (at + 1) bytes;
  is = split_gate bytes list at (get_or bytes at 0) here read refl;
  within = omega (arith, front_is bytes list at here read);
}

-- an entry that the head at this place tells does not fit
pub runs_past : (bytes : List ℕ) (list : List (List ℕ)) (at : ℕ) (head : Head) → at < length bytes → at < 2 ^ 30 → take at bytes ≡ front list → IsHeadAt bytes at head → head.gate ≡ 1 → head.size < 2 ^ 32
    → min (length bytes) (2 ^ 30) < at + 6 + head.size → IsNoJournal bytes at
runs_past bytes list at head here most read is opened small short = inr (inr (record {
  list = list;
  rest = drop (at + 1) bytes;
  is = split_gate bytes list at 1 here read (sym is.gate ∙ opened);
  here = sym (front_is bytes list at here read);
  within = most;
  past = ⊎_elim
      (λ there.
      let size : from_be_bytes w32 (take 4 (drop (at + 1) bytes)) ≡ head.size = ap (λ (l : List ℕ). from_be_bytes w32 l) (sym (is.size there)) ∙ from_be_bytes-to_be_bytes_4 head.size small in
      omega (arith, short, size))
      (λ cut. omega (arith, cut))
      (below_or_not (at + 5) (length bytes));
}))

-- the entry at this place was read
pub next_read : (bytes : List ℕ) (list : List (List ℕ)) (at : ℕ) (head : Head) (payload : List ℕ) → at + 6 + head.size ≤ length bytes → take at bytes ≡ front list → IsHeadAt bytes at head → head.gate ≡ 1
    → payload ≡ take head.size (drop (at + 5) bytes) → take (at + (head.size + 5)) bytes ≡ front (list ++ payload ∷ [])
next_read bytes list at head payload fits read is opened same =
    let long : length payload ≡ head.size = omega (arith, ap length same, length-take head.size (drop (at + 5) bytes), length-drop (at + 5) bytes) in
    let behind : take (length payload + 4) (drop (at + 1) bytes) ≡ sized payload =
    ap (λ (n : ℕ). take n (drop (at + 1) bytes)) (let sum : length payload + 4 ≡ 4 + head.size = omega (arith, long) in sum) ∙ take-add 4 head.size (drop (at + 1) bytes)
    ∙ ap (λ (l : List ℕ). l ++ take head.size (drop 4 (drop (at + 1) bytes))) (sym (is.size (omega (arith, fits))))
    ∙ ap (λ (l : List ℕ). to_be_bytes w32 head.size ++ take head.size l) (sym (drop-add (at + 1) 4 bytes) ∙ ap (λ (n : ℕ). drop n bytes) (let sum : at + 1 + 4 ≡ at + 5 = omega arith in sum))
    ∙ ap (λ (l : List ℕ). to_be_bytes w32 head.size ++ l) (sym same) ∙ ap (λ (n : ℕ). to_be_bytes w32 n ++ payload) (sym long) in
    ap (λ (n : ℕ). take n bytes) (let sum : at + (head.size + 5) ≡ at + (length payload + 5) = omega (arith, long) in sum)
    ∙ entry_read bytes list at payload read (omega (arith, fits)) (sym is.gate ∙ opened) (sym behind)

pub front_empty : (list : List (List ℕ)) → list ≡ [] → length (front list) ≡ 16
unfolding front
front_empty list none = rw none refl

pub front_pushed : (list : List (List ℕ)) (payload : List ℕ) → length (front (list ++ payload ∷ [])) ≡ length (front list) + (length payload + 5)
front_pushed list payload =
    omega (arith, ap length (front_push list payload []), ap length (append-nil (front (list ++ payload ∷ []))), length-append (front list) (1 ∷ (sized payload ++ [])), length-append (sized payload) [], length-append (to_be_bytes w32 (length payload)) payload)
