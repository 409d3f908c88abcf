-- The images of a disk in memory after a write, a sync and a stop.
use Rattle.std.proofs.Common.{◌≡◌, ◌⊎◌, inl, inr, ⊎_elim, ℕ, ◌+◌, ◌-◌, ◌≤◌, ◌<◌, max, min, List, [], ◌∷◌, ◌++◌, map, length, get_or, take, drop, replicate, refl, sym, ◌∙◌, ap, subst, arith, length-append, length-take, length-drop, get_or-take, get_or-drop, ext_get_or, Bool, true, false}
use Rattle.std.proofs.lemmas.List.{get_or_append_left, get_or-append_right, length-replicate}
use Rattle.std.proofs.lemmas.List.FromFn.{length-map-range_with_len, get_or-map-range_with_len}
use Rattle.std.specs.List.{range_with_len}
use Rattle.edge.specs.declared.disk_store.Span.{Span}
use Rattle.edge.specs.Disk.{overwritten, Torn}
use Rattle.edge.specs.Stored.{IsCovered, IsSettled, Stored, IsImageOf, has_span, with_span, written}
use Rattle.std.specs.Prelude.{if◌then◌else◌}
use Rattle.edge.proofs.Fills.{filled_uncovered}
use Rattle.edge.proofs.Put.{below_or_not}
use Rattle.edge.proofs.Spans.{covered_split}

pub length-overwritten : (at : ℕ) (bytes b : List ℕ) → length (overwritten at bytes b) ≡ max (length b) (at + length bytes)
length-overwritten at bytes b = omega (
  arith,
  length-append (take at (b ++ replicate (at - length b) 0) ++ bytes) (drop (at + length bytes) b),
  length-append (take at (b ++ replicate (at - length b) 0)) bytes,
  length-take at (b ++ replicate (at - length b) 0),
  length-append b (replicate (at - length b) 0),
  length-replicate {A = ℕ} (at - length b) 0,
  length-drop (at + length bytes) b,
)

pub overwritten_outside : (at : ℕ) (bytes b : List ℕ) (k : ℕ) → k < length b → (k < at) ⊎ (at + length bytes ≤ k) → get_or (overwritten at bytes b) k 0 ≡ get_or b k 0
overwritten_outside at bytes b k here where_is =
    let front : List ℕ = take at (b ++ replicate (at - length b) 0) in
    let long : length front ≡ at = omega (arith, length-take at (b ++ replicate (at - length b) 0), length-append b (replicate (at - length b) 0), length-replicate {A = ℕ} (at - length b) 0) in
    let both : length (front ++ bytes) ≡ at + length bytes = omega (arith, long, length-append front bytes) in
    ⊎_elim
    (λ low.
    let in_both : k < length (front ++ bytes) = omega (arith, both, low) in
    let in_front : k < length front = omega (arith, long, low) in
    get_or_append_left (front ++ bytes) (drop (at + length bytes) b) 0 k in_both ∙ get_or_append_left front bytes 0 k in_front ∙ get_or-take at (b ++ replicate (at - length b) 0) k 0 low
    ∙ get_or_append_left b (replicate (at - length b) 0) 0 k here)
    (λ high.
    let back : at + length bytes + (k - (at + length bytes)) ≡ k = omega (arith, high) in
    get_or-append_right (front ++ bytes) (drop (at + length bytes) b) (at + length bytes) k 0 both high ∙ get_or-drop (at + length bytes) b (k - (at + length bytes)) 0 ∙ ap (λ (i : ℕ). get_or b i 0) back)
    where_is

-- the old byte in the range, and that of an image elsewhere
abbrev pick : (at n k x y : ℕ) → (at ≤ k) ⊎ (k < at) → (at + n ≤ k) ⊎ (k < at + n) → ℕ
pick at n k x y (inr low) v = y
pick at n k x y (inl from) (inl high) = y
pick at n k x y (inl from) (inr inside) = x

pick_inside : (at n k x y : ℕ) (u : (at ≤ k) ⊎ (k < at)) (v : (at + n ≤ k) ⊎ (k < at + n)) → at ≤ k → k < at + n → pick at n k x y u v ≡ x
pick_inside at n k x y (inr low) v a b = absurd (omega (arith, low, a))
pick_inside at n k x y (inl from) (inl high) a b = absurd (omega (arith, high, b))
pick_inside at n k x y (inl from) (inr inside) a b = refl

pick_outside : (at n k x y : ℕ) (u : (at ≤ k) ⊎ (k < at)) (v : (at + n ≤ k) ⊎ (k < at + n)) → (k < at) ⊎ (at + n ≤ k) → pick at n k x y u v ≡ y
pick_outside at n k x y (inr low) v w = refl
pick_outside at n k x y (inl from) (inl high) w = refl
pick_outside at n k x y (inl from) (inr inside) w = absurd (⊎_elim (λ low. omega (arith, low, from)) (λ high. omega (arith, high, inside)) w)

module _ (at n : ℕ) (b c : List ℕ) where
  byte : ℕ → ℕ
  byte k = pick at n k (get_or b k 0) (get_or c k 0) (below_or_not at k) (below_or_not (at + n) k)

  mixed : List ℕ
  mixed = map byte (range_with_len 0 (min (length c) (length b)))

  length-mixed : length mixed ≡ min (length c) (length b)
  unfolding mixed
  length-mixed = length-map-range_with_len byte 0 (min (length c) (length b))

  mixed_inside : (k : ℕ) → k < length mixed → at ≤ k → k < at + n → get_or mixed k 0 ≡ get_or b k 0
  unfolding mixed byte
  mixed_inside k here a e =
      let lt : k < min (length c) (length b) = omega (arith, here, length-mixed) in
      get_or-map-range_with_len byte 0 (min (length c) (length b)) k k 0 lt (omega arith) ∙ pick_inside at n k (get_or b k 0) (get_or c k 0) (below_or_not at k) (below_or_not (at + n) k) a e

  mixed_outside : (k : ℕ) → k < length mixed → (k < at) ⊎ (at + n ≤ k) → get_or mixed k 0 ≡ get_or c k 0
  unfolding mixed byte
  mixed_outside k here w =
      let lt : k < min (length c) (length b) = omega (arith, here, length-mixed) in
      get_or-map-range_with_len byte 0 (min (length c) (length b)) k k 0 lt (omega arith) ∙ pick_outside at n k (get_or b k 0) (get_or c k 0) (below_or_not at k) (below_or_not (at + n) k) w

-- a place outside a range that was kept too
not_covered_with : (at n k : ℕ) (spans : List Span) → (IsCovered spans k → ⊥) → (k < at) ⊎ (at + n ≤ k) → IsCovered (with_span at n spans) k → ⊥
not_covered_with at n k spans free out = by_test (has_span at n spans)
  where
    by_test : (known : Bool) → IsCovered (if known then spans else spans ++ record { at = at; size = n } ∷ []) k → ⊥
    by_test true c = free c
    by_test false c = ⊎_elim free (λ last. ⊎_elim (λ r. ⊎_elim (λ low. omega (arith, low, r.0)) (λ high. omega (arith, high, r.1)) out) (λ none. none) last) (covered_split spans (record { at = at; size = n } ∷ []) k c)

-- after a write an image is one of those before, torn in the range
pub write_follows : (s : Stored) (at : ℕ) (bytes : List ℕ) → (c : List ℕ) → IsImageOf (written at bytes s) c → (d : List ℕ) × IsImageOf s d × Torn at (length bytes) d c
write_follows s at bytes c im =
    let b = s.bytes in
    let n = length bytes in
    let long : length (overwritten at bytes b) ≡ max (length b) (at + n) = omega (arith, length-overwritten at bytes b) in
    let d = mixed at n b c in
    let d_long : length d ≡ min (length c) (length b) = length-mixed at n b c in (
      d,
      record {
        no_shorter = omega (arith, im.no_shorter, long, d_long);
        no_longer = omega (arith, d_long);
        same = λ k here old free. ⊎_elim
            (λ low. kept k here old free (inl low))
            (λ from. ⊎_elim (λ high. kept k here old free (inr high)) (λ inside. mixed_inside at n b c k here from inside) (below_or_not (at + n) k))
            (swap_cases (below_or_not at k));
      },
      record {
        same = λ k here w. sym (mixed_outside at n b c k here w);
        no_shorter = omega (arith, d_long);
        no_longer = omega (arith, d_long, long, im.no_longer);
      },
    )
  where
    swap_cases : {A B : Type 0} → A ⊎ B → B ⊎ A
    swap_cases (inl a) = inr a
    swap_cases (inr b) = inl b

    kept : (k : ℕ) → k < length (mixed at (length bytes) s.bytes c) → k < s.synced → (IsCovered s.spans k → ⊥) → (k < at) ⊎ (at + length bytes ≤ k) → get_or (mixed at (length bytes) s.bytes c) k 0 ≡ get_or s.bytes k 0
    kept k here old free w =
        let in_c : k < length c = omega (arith, here, length-mixed at (length bytes) s.bytes c) in
        let in_b : k < length s.bytes = omega (arith, here, length-mixed at (length bytes) s.bytes c) in
        mixed_outside at (length bytes) s.bytes c k here w ∙ im.same k in_c old (not_covered_with at (length bytes) k s.spans free w) ∙ overwritten_outside at bytes s.bytes k in_b w

-- after a sync there is one
pub synced_only : (b : List ℕ) (size : ℕ) (c : List ℕ) → IsImageOf (record { bytes = b; synced = length b; spans = []; size = size }) c → c ≡ b
synced_only b size c im = ext_get_or 0 c b (omega (arith, im.no_shorter, im.no_longer)) (λ k here. let in_b : k < length b = omega (arith, here, im.no_longer) in im.same k here in_b (λ none. none))

-- what a stop leaves is the one image that is left, and it was one
pub settled_images : (fill : List ℕ) (old new : Stored) → IsSettled fill old new → (c : List ℕ) → IsImageOf new c → IsImageOf old c
settled_images fill old new settled c im =
    let long : length new.bytes ≡ length old.bytes = settled.long in
    let is_new : new ≡ record { bytes = new.bytes; synced = length new.bytes; spans = []; size = old.size } = settled.rest ∙ ap (λ (n : ℕ). record { bytes = new.bytes; synced = n; spans = []; size = old.size }) (sym long) in
    let is : c ≡ new.bytes = synced_only new.bytes old.size c (subst (λ (t : Stored). IsImageOf t c) is_new im) in
    let was : IsImageOf old new.bytes = record {
      no_shorter = omega (arith, long);
      no_longer = omega (arith, long);
      same = λ k here before free. let in_old : k < length old.bytes = omega (arith, here, long) in settled.filled k in_old ∙ filled_uncovered fill old.spans k (get_or old.bytes k 0) free;
    } in
    subst (λ (l : List ℕ). IsImageOf old l) (sym is) was

pub settled_size : (fill : List ℕ) (old new : Stored) → IsSettled fill old new → new.size ≡ old.size
settled_size fill old new settled = ap (λ (s : Stored). s.size) settled.rest

pub settled_ranges : (fill : List ℕ) (old new : Stored) → IsSettled fill old new → length new.spans ≡ 0
settled_ranges fill old new settled = ap (λ (s : Stored). length s.spans) settled.rest
