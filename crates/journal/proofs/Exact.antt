-- Bytes that stand for a list are no other than a journal.
use Rattle.std.proofs.Common.{◌≡◌, ◌≢◌, ⊎_elim, ℕ, zero, suc, Option, Some, ◌+◌, ◌≤◌, ◌<◌, ◌^◌, List, [], ◌∷◌, ◌++◌, length, take, refl, sym, ◌∙◌, ap, subst, arith, append_assoc, length-append}
use Rattle.std.specs.Int.{w32, to_be_bytes, from_be_bytes}
use Rattle.std.proofs.lemmas.List.{take_at, append_cancel_left}
use Rattle.std.proofs.lemmas.Nat.{from_be_bytes-to_be_bytes_4}
use Rattle.journal.specs.Bytes.{front, header, entries, sized, Spells, StandsFor}
use Rattle.journal.specs.Reads.{IsNoJournal}
use Rattle.journal.proofs.One.{halves, sizes, tail, head, regroup}

-- an open gate within the entries has its whole entry and a gate after it
whole_entry : (l m : List (List ℕ)) (g : ℕ) (r rest : List ℕ) → g ≢ 1 → length (entries l) < 2 ^ 32 → length (entries m) < 2 ^ 32 → entries l ++ g ∷ r ≡ entries m ++ 1 ∷ rest
    → length (entries m) + 6 + from_be_bytes w32 (take 4 rest) ≤ length (entries l) + 1
whole_entry [] [] g r rest gs fl fm e = absurd (gs (head g 1 r rest e))
whole_entry [] (q ∷ m) g r rest gs fl fm e = absurd (gs (head g 1 r ((sized q ++ entries m) ++ 1 ∷ rest) e))
whole_entry (p ∷ l) [] g r rest gs fl fm e =
    let fp : length p < 2 ^ 32 = omega (arith, length-append (sized p) (entries l), length-append (to_be_bytes w32 (length p)) p) in
    let rest_is : rest ≡ to_be_bytes w32 (length p) ++ (p ++ (entries l ++ g ∷ r)) = sym (tail 1 1 ((sized p ++ entries l) ++ g ∷ r) rest e) ∙ regroup p (entries l) (g ∷ r) in
    let size_is : from_be_bytes w32 (take 4 rest) ≡ length p = ap (λ (x : List ℕ). from_be_bytes w32 (take 4 x)) rest_is ∙ from_be_bytes-to_be_bytes_4 (length p) fp in
    omega (arith, size_is, length-append (sized p) (entries l), length-append (to_be_bytes w32 (length p)) p)
whole_entry (p ∷ l) (q ∷ m) g r rest gs fl fm e =
    let more = tail 1 1 ((sized p ++ entries l) ++ g ∷ r) ((sized q ++ entries m) ++ 1 ∷ rest) e in
    let apart = sym (regroup p (entries l) (g ∷ r)) ∙ more ∙ regroup q (entries m) (1 ∷ rest) in
    let cut = halves (to_be_bytes w32 (length p)) (to_be_bytes w32 (length q)) _ _ refl apart in
    let fp : length p < 2 ^ 32 = omega (arith, length-append (sized p) (entries l), length-append (to_be_bytes w32 (length p)) p) in
    let fq : length q < 2 ^ 32 = omega (arith, length-append (sized q) (entries m), length-append (to_be_bytes w32 (length q)) q) in
    let long = sizes (length p) (length q) fp fq cut.0 in
    let parts = halves p q _ _ long cut.1 in
    let gl : length (entries l) < 2 ^ 32 = omega (arith, length-append (sized p) (entries l)) in
    let gm : length (entries m) < 2 ^ 32 = omega (arith, length-append (sized q) (entries m)) in
    let rec = whole_entry l m g r rest gs gl gm parts.1 in
    omega (arith, rec, long, length-append (sized p) (entries l), length-append (sized q) (entries m), length-append (to_be_bytes w32 (length p)) p, length-append (to_be_bytes w32 (length q)) q)

pub not_both : (b : List ℕ) (l : List (List ℕ)) (at : ℕ) → Spells b l → IsNoJournal b at → ⊥
unfolding front
not_both b l at s why =
    let long : length b ≡ 16 + length (entries l) + 1 + length s.rest = omega (arith, ap length s.is, length-append (header ++ entries l) (s.gate ∷ s.rest), length-append header (entries l)) in
    ⊎_elim
    (λ other. other.1 (ap (λ (x : List ℕ). take 16 x) (s.is ∙ append_assoc header (entries l) (s.gate ∷ s.rest)) ∙ take_at header (entries l ++ s.gate ∷ s.rest) 16 refl))
    (λ more. ⊎_elim
    (λ short. omega (arith, ap length short.1, long))
    (λ past.
    let both = append_cancel_left header _ _ (sym (append_assoc header (entries l) (s.gate ∷ s.rest)) ∙ sym s.is ∙ past.is ∙ append_assoc header (entries past.list) (1 ∷ past.rest)) in
    let fl : length (entries l) < 2 ^ 32 = omega (arith, s.within, length-append header (entries l)) in
    let same = ap length both in
    let fm : length (entries past.list) < 2 ^ 32 = omega (arith, past.within, past.here, length-append header (entries past.list)) in
    let w = whole_entry l past.list s.gate s.rest past.rest s.closed fl fm both in
    omega (arith, w, long, past.past, past.here, s.within, length-append header (entries past.list), length-append header (entries l)))
    more)
    why

-- under an epoch that is not 0
pub not_both_under : (epoch : Option ℕ) (e : ℕ) (b : List ℕ) (l : List (List ℕ)) (at : ℕ) → epoch ≡ Some e → 1 ≤ e → StandsFor epoch b l → IsNoJournal b at → ⊥
not_both_under epoch e b l at is le stands why = not_both b l at (spelled e b l le (subst (λ o. StandsFor o b l) is stands)) why
  where
    spelled : (e : ℕ) (b : List ℕ) (l : List (List ℕ)) → 1 ≤ e → StandsFor (Some e) b l → Spells b l
    spelled zero b l le s = absurd (omega arith)
    spelled (suc e) b l le s = s
