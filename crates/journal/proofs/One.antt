-- Bytes stand for one list at most.
use Rattle.std.proofs.Common.{◌≡◌, ◌≢◌, ℕ, zero, suc, ◌<◌, ◌^◌, List, [], ◌∷◌, ◌++◌, length, take, drop, refl, sym, ◌∙◌, ap, arith, append_assoc, length-append, Option, Some, None}
use Rattle.std.specs.Int.{w32, to_be_bytes, from_be_bytes}
use Rattle.std.proofs.lemmas.List.{take_at, drop_at, append_cancel_left}
use Rattle.std.proofs.lemmas.Nat.{from_be_bytes-to_be_bytes_4}
use Rattle.journal.specs.Bytes.{front, header, entries, sized, Spells, StandsFor}

pub halves : (a b x y : List ℕ) → length a ≡ length b → a ++ x ≡ b ++ y → (a ≡ b) × (x ≡ y)
halves a b x y same e = (
  sym (take_at a x (length a) refl) ∙ ap (λ (l : List ℕ). take (length a) l) e ∙ take_at b y (length a) (sym same),
  sym (drop_at a x (length a) refl) ∙ ap (λ (l : List ℕ). drop (length a) l) e ∙ drop_at b y (length a) (sym same),
)

pub sizes : (m n : ℕ) → m < 2 ^ 32 → n < 2 ^ 32 → to_be_bytes w32 m ≡ to_be_bytes w32 n → m ≡ n
sizes m n a b e = sym (from_be_bytes-to_be_bytes_4 m a) ∙ ap (λ (l : List ℕ). from_be_bytes w32 l) e ∙ from_be_bytes-to_be_bytes_4 n b

pub tail : (a b : ℕ) (x y : List ℕ) → a ∷ x ≡ b ∷ y → x ≡ y
tail a b x y e = cc

pub head : (a b : ℕ) (x y : List ℕ) → a ∷ x ≡ b ∷ y → a ≡ b
head a b x y e = cc

pub regroup : (p more rest : List ℕ) → (sized p ++ more) ++ rest ≡ to_be_bytes w32 (length p) ++ (p ++ (more ++ rest))
regroup p more rest = append_assoc (sized p) more rest ∙ append_assoc (to_be_bytes w32 (length p)) p (more ++ rest)

one_entries : (l m : List (List ℕ)) (g h : ℕ) (r s : List ℕ) → g ≢ 1 → h ≢ 1 → length (entries l) < 2 ^ 32 → length (entries m) < 2 ^ 32 → entries l ++ g ∷ r ≡ entries m ++ h ∷ s → l ≡ m
one_entries [] [] g h r s gs hs fl fm e = refl
one_entries [] (q ∷ m) g h r s gs hs fl fm e = absurd (gs (head g 1 r ((sized q ++ entries m) ++ h ∷ s) e))
one_entries (p ∷ l) [] g h r s gs hs fl fm e = absurd (hs (sym (head 1 h ((sized p ++ entries l) ++ g ∷ r) s e)))
one_entries (p ∷ l) (q ∷ m) g h r s gs hs fl fm e =
    let rest = tail 1 1 ((sized p ++ entries l) ++ g ∷ r) ((sized q ++ entries m) ++ h ∷ s) e in
    let apart = sym (regroup p (entries l) (g ∷ r)) ∙ rest ∙ regroup q (entries m) (h ∷ s) in
    let cut = halves (to_be_bytes w32 (length p)) (to_be_bytes w32 (length q)) _ _ refl apart in
    let fp : length p < 2 ^ 32 = omega (arith, length-append (sized p) (entries l), length-append (to_be_bytes w32 (length p)) p) in
    let fq : length q < 2 ^ 32 = omega (arith, length-append (sized q) (entries m), length-append (to_be_bytes w32 (length q)) q) in
    let long = sizes (length p) (length q) fp fq cut.0 in
    let more = halves p q _ _ long cut.1 in
    let gl : length (entries l) < 2 ^ 32 = omega (arith, length-append (sized p) (entries l)) in
    let gm : length (entries m) < 2 ^ 32 = omega (arith, length-append (sized q) (entries m)) in
    let rec = one_entries l m g h r s gs hs gl gm more.1 in
    ap (λ (x : List ℕ). x ∷ l) more.0 ∙ ap (λ (ls : List (List ℕ)). q ∷ ls) rec

pub one_spelling : (bytes : List ℕ) (l m : List (List ℕ)) → Spells bytes l → Spells bytes m → l ≡ m
unfolding front
one_spelling bytes l m a b =
    let e = sym (append_assoc header (entries l) (a.gate ∷ a.rest)) ∙ sym a.is ∙ b.is ∙ append_assoc header (entries m) (b.gate ∷ b.rest) in
    let fl : length (entries l) < 2 ^ 32 = omega (arith, a.within, length-append header (entries l)) in
    let fm : length (entries m) < 2 ^ 32 = omega (arith, b.within, length-append header (entries m)) in
    one_entries l m a.gate b.gate a.rest b.rest a.closed b.closed fl fm (append_cancel_left header _ _ e)

pub one_list : (epoch : Option ℕ) (bytes : List ℕ) (l m : List (List ℕ)) → StandsFor epoch bytes l → StandsFor epoch bytes m → l ≡ m
one_list None bytes l m a b = absurd a
one_list (Some zero) bytes l m a b = a ∙ sym b
one_list (Some (suc e)) bytes l m a b = one_spelling bytes l m a b
