-- What a write may leave of a journal's bytes.
use Rattle.std.proofs.Common.{◌≡◌, ◌⊎◌, inl, inr, ℕ, ◌+◌, ◌-◌, ◌≤◌, ◌<◌, ◌^◌, List, [], ◌∷◌, ◌++◌, length, get_or, take, drop, replicate, sym, ◌∙◌, ap, arith, append_assoc, append-nil, length-append, length-take, length-drop, take-append-drop, get_or-take, get_or-drop, ext_get_or}
use Rattle.std.proofs.lemmas.List.{take_at, drop_at, drop_more}
use Rattle.std.proofs.lemmas.Bool.{cases_eq}
use Rattle.std.specs.Int.{w32, to_be_bytes}
use Rattle.edge.specs.Disk.{Torn, overwritten}
use Rattle.journal.specs.Bytes.{front, header, entries, sized, Spells}
use Rattle.journal.specs.Stages.{Staged}

pub torn_take : (at n m : ℕ) (old new : List ℕ) → Torn at n old new → m ≤ at → m ≤ length old → take m new ≡ take m old
torn_take at n m old new torn below within = ext_get_or 0 (take m new) (take m old)
    (omega (arith, length-take m new, length-take m old, torn.no_shorter))
    (λ i h. let lt : i < m = omega (arith, length-take m new) in
    let here : i < length old = omega (arith, within) in
    let before : i < at = omega (arith, below) in
    get_or-take m new i 0 lt ∙ torn.same i here (inl before) ∙ sym (get_or-take m old i 0 lt))

pub torn_drop : (at n m : ℕ) (old new : List ℕ) → Torn at n old new → at + n ≤ m → drop m new ≡ drop m old
torn_drop at n m old new torn behind = ext_get_or 0 (drop m new) (drop m old)
    (omega (arith, length-drop m new, length-drop m old, torn.no_shorter, torn.no_longer))
    (λ i h. let here : m + i < length old = omega (arith, length-drop m new, torn.no_shorter, torn.no_longer) in
    let after : at + n ≤ m + i = omega (arith, behind) in
    get_or-drop m new i 0 ∙ torn.same (m + i) here (inr after) ∙ sym (get_or-drop m old i 0))

-- whole up to its end
whole : (n : ℕ) (bytes F : List ℕ) (g : ℕ) → take n bytes ≡ F ++ g ∷ [] → bytes ≡ F ++ g ∷ drop n bytes
whole n bytes F g is = sym (take-append-drop n bytes) ∙ ap (λ (l : List ℕ). l ++ drop n bytes) is ∙ append_assoc F (g ∷ []) (drop n bytes)

take_gate : (n g : ℕ) (F rest : List ℕ) → length F + 1 ≡ n → take n (F ++ g ∷ rest) ≡ F ++ g ∷ []
take_gate n g F rest size =
    ap (λ (l : List ℕ). take n l) (sym (append_assoc F (g ∷ []) rest)) ∙ take_at (F ++ g ∷ []) rest n (omega (arith, size, length-append F (g ∷ [])))

long : (bytes F rest : List ℕ) (g : ℕ) → bytes ≡ F ++ g ∷ rest → length F + 1 ≤ length bytes
long bytes F rest g is = omega (arith, ap length is, length-append F (g ∷ rest))

-- what is written behind the closed gate changes nothing
pub torn_behind : (n k : ℕ) (list : List (List ℕ)) (old new : List ℕ) → length (front list) + 1 ≡ n → Spells old list → Torn n k old new → Spells new list
torn_behind n k list old new ends s torn =
    let inside : n ≤ length old = omega (arith, ends, long old (front list) s.rest s.gate s.is) in
    let here : n ≤ n = omega arith in
    let same : take n new ≡ front list ++ s.gate ∷ [] =
    torn_take n k n old new torn here inside ∙ ap (λ (l : List ℕ). take n l) s.is ∙ take_gate n s.gate (front list) s.rest ends in
    record { gate = s.gate; closed = s.closed; rest = drop n new; is = whole n new (front list) s.gate same; within = s.within }

no_gap : (at : ℕ) (old : List ℕ) → at ≤ length old → old ++ replicate (at - length old) 0 ≡ old
no_gap at old within = let none : at - length old ≡ 0 = omega (arith, within) in ap (λ (k : ℕ). old ++ replicate k 0) none ∙ append-nil old

pub overwritten_within : (at : ℕ) (bytes old : List ℕ) → at ≤ length old → overwritten at bytes old ≡ take at old ++ bytes ++ drop (at + length bytes) old
overwritten_within at bytes old within = ap (λ (l : List ℕ). take at l ++ bytes ++ drop (at + length bytes) old) (no_gap at old within)

pub written_behind : (n : ℕ) (list : List (List ℕ)) (old behind : List ℕ) → length (front list) + 1 ≡ n → Spells old list → Staged (overwritten n behind old) list behind
written_behind n list old behind ends s =
    let inside : n ≤ length old = omega (arith, ends, long old (front list) s.rest s.gate s.is) in
    let rest = drop (n + length behind) old in
    record {
      gate = s.gate;
      rest = rest;
      is = overwritten_within n behind old inside
          ∙ ap (λ (l : List ℕ). l ++ behind ++ rest) (ap (λ (l : List ℕ). take n l) s.is ∙ take_gate n s.gate (front list) s.rest ends)
          ∙ append_assoc (front list ++ s.gate ∷ []) behind rest ∙ append_assoc (front list) (s.gate ∷ []) (behind ++ rest);
    }

-- any byte may stand at the gate, and what is behind it stays
pub torn_gate : (n : ℕ) (list : List (List ℕ)) (behind old new : List ℕ) → length (front list) ≡ n → Staged old list behind → Torn n 1 old new → Staged new list behind
torn_gate n list behind old new size st torn =
    let inside : n + 1 ≤ length old = omega (arith, size, long old (front list) (behind ++ st.rest) st.gate st.is) in
    let below : n ≤ n = omega arith in
    let within : n ≤ length old = omega (arith, inside) in
    let first : take n new ≡ front list =
    torn_take n 1 n old new torn below within ∙ ap (λ (l : List ℕ). take n l) st.is ∙ take_at (front list) (st.gate ∷ (behind ++ st.rest)) n size in
    let behind_it : n + 1 ≤ n + 1 = omega arith in
    let last : drop (n + 1) new ≡ behind ++ st.rest =
    torn_drop n 1 (n + 1) old new torn behind_it ∙ ap (λ (l : List ℕ). drop (n + 1) l) (st.is ∙ sym (append_assoc (front list) (st.gate ∷ []) (behind ++ st.rest)))
    ∙ drop_at (front list ++ st.gate ∷ []) (behind ++ st.rest) (n + 1) (omega (arith, size, length-append (front list) (st.gate ∷ []))) in
    let here : n < length new = omega (arith, inside, torn.no_shorter) in
    record {
      gate = get_or new n 0;
      rest = st.rest;
      is = sym (take-append-drop n new) ∙ ap (λ (l : List ℕ). l ++ drop n new) first
          ∙ ap (λ (l : List ℕ). front list ++ l) (drop_more new n 0 here ∙ ap (λ (l : List ℕ). get_or new n 0 ∷ l) last);
    }

pub written_gate : (n : ℕ) (list : List (List ℕ)) (behind old : List ℕ) → length (front list) ≡ n → Staged old list behind → (rest : List ℕ) × (overwritten n (1 ∷ []) old ≡ front list ++ 1 ∷ (behind ++ rest))
written_gate n list behind old size st =
    let inside : n ≤ length old = omega (arith, size, long old (front list) (behind ++ st.rest) st.gate st.is) in (
      st.rest,
      overwritten_within n (1 ∷ []) old inside
          ∙ ap (λ (l : List ℕ). l ++ (1 ∷ []) ++ drop (n + 1) old) (ap (λ (l : List ℕ). take n l) st.is ∙ take_at (front list) (st.gate ∷ (behind ++ st.rest)) n size)
          ∙ ap (λ (l : List ℕ). front list ++ (1 ∷ []) ++ l) (ap (λ (l : List ℕ). drop (n + 1) l) (st.is ∙ sym (append_assoc (front list) (st.gate ∷ []) (behind ++ st.rest)))
          ∙ drop_at (front list ++ st.gate ∷ []) (behind ++ st.rest) (n + 1) (omega (arith, size, length-append (front list) (st.gate ∷ []))))
          ∙ append_assoc (front list) (1 ∷ []) (behind ++ st.rest),
    )

entries_push : (list : List (List ℕ)) (payload rest : List ℕ) → entries (list ++ payload ∷ []) ++ rest ≡ entries list ++ 1 ∷ (sized payload ++ rest)
entries_push [] payload rest = ap (λ (l : List ℕ). l ++ rest) (append-nil (1 ∷ sized payload))
entries_push (p ∷ list) payload rest =
    append_assoc (1 ∷ sized p) (entries (list ++ payload ∷ [])) rest ∙ ap (λ (l : List ℕ). (1 ∷ sized p) ++ l) (entries_push list payload rest)
    ∙ sym (append_assoc (1 ∷ sized p) (entries list) (1 ∷ (sized payload ++ rest)))

pub front_push : (list : List (List ℕ)) (payload rest : List ℕ) → front (list ++ payload ∷ []) ++ rest ≡ front list ++ 1 ∷ (sized payload ++ rest)
unfolding front
front_push list payload rest =
    append_assoc header (entries (list ++ payload ∷ [])) rest ∙ ap (λ (l : List ℕ). header ++ l) (entries_push list payload rest)
    ∙ sym (append_assoc header (entries list) (1 ∷ (sized payload ++ rest)))

pub length-sized : (payload : List ℕ) → length (sized payload) ≡ length payload + 4
length-sized payload = omega (arith, length-append (to_be_bytes w32 (length payload)) payload)

pub length-front_push : (list : List (List ℕ)) (payload : List ℕ) → length (front (list ++ payload ∷ [])) ≡ length (front list) + (length payload + 5)
length-front_push list payload =
    ap length (sym (append-nil (front (list ++ payload ∷ []))) ∙ front_push list payload [])
    ∙ omega (arith, length-append (front list) (1 ∷ (sized payload ++ [])), length-append (sized payload) [], length-sized payload)

-- an open gate before the entry
pub opened : (list : List (List ℕ)) (payload bytes rest : List ℕ) → bytes ≡ front list ++ 1 ∷ ((sized payload ++ 0 ∷ []) ++ rest) → bytes ≡ front (list ++ payload ∷ []) ++ 0 ∷ rest
opened list payload bytes rest is =
    is ∙ ap (λ (l : List ℕ). front list ++ 1 ∷ l) (append_assoc (sized payload) (0 ∷ []) rest) ∙ sym (front_push list payload (0 ∷ rest))

pub ends_with : (n : ℕ) (list : List (List ℕ)) (payload bytes rest : List ℕ) → length (front list) + 1 ≡ n → n + (length payload + 5) ≤ 2 ^ 30
    → bytes ≡ front list ++ 1 ∷ ((sized payload ++ 0 ∷ []) ++ rest) → Spells bytes (list ++ payload ∷ [])
ends_with n list payload bytes rest size within is = record {
  gate = 0;
  closed = λ e. absurd (omega (arith, e));
  rest = rest;
  is = opened list payload bytes rest is;
  within = omega (arith, size, within, length-front_push list payload);
}

-- the entry counts where its gate is open
pub with_or_without : (n : ℕ) (list : List (List ℕ)) (payload bytes : List ℕ) → length (front list) + 1 ≡ n → n + (length payload + 5) ≤ 2 ^ 30 → Staged bytes list (sized payload ++ 0 ∷ [])
    → Spells bytes list ⊎ Spells bytes (list ++ payload ∷ [])
with_or_without n list payload bytes size within st = elim (cases_eq st.gate 1) [
  | inl is_open ↦ inr (ends_with n list payload bytes st.rest size within (st.is ∙ ap (λ (g : ℕ). front list ++ g ∷ ((sized payload ++ 0 ∷ []) ++ st.rest)) is_open))
  | inr shut ↦ inl (record { gate = st.gate; closed = shut; rest = (sized payload ++ 0 ∷ []) ++ st.rest; is = st.is; within = omega (arith, size, within) })
]

pub front_long : (list : List (List ℕ)) → 16 ≤ length (front list)
unfolding front
front_long list = omega (arith, length-append header (entries list))
