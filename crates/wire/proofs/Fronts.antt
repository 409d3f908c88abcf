-- A front only grows, and a cut one stays.
use Rattle.std.proofs.Common.{◌≡◌, ℕ, zero, suc, ◌+◌, ◌-◌, ◌<◌, ◌≤◌, ◌⊎◌, inl, inr, ⊎_elim, Bool, true, false, cond, ◌==◌, List, [], ◌∷◌, ◌++◌, length, take, drop, min, get_or, arith, refl, sym, ◌∙◌, ap, append_assoc, length-append, true≢false}
use Rattle.std.proofs.lemmas.List.{append-nil, length-take, nil_from_length, take_all, take-append-drop, take-append-le, take-take}
use Rattle.std.proofs.lemmas.List.Sums.{sum_by-cons}
use Rattle.std.proofs.lemmas.Grind.{common_steps}
use Rattle.std.proofs.lemmas.Bool.{cases_lt, eq-eqb, ne_eqb}
use Rattle.std.proofs.Math.Seq.{take-append-add}
use Rattle.wire.specs.Front.{front, is_cut, line_feeds, up_to}

pub line_feeds-cons : (x : ℕ) (b : List ℕ) → line_feeds (x ∷ b) ≡ cond (x == 10) 1 0 + line_feeds b
line_feeds-cons x b = sum_by-cons (λ byte. cond (byte == 10) 1 0) x b

pub line_feeds-append : (a b : List ℕ) → line_feeds (a ++ b) ≡ line_feeds a + line_feeds b
line_feeds-append [] b = omega arith
line_feeds-append (x ∷ a) b = omega (arith, line_feeds-append a b, line_feeds-cons x a, line_feeds-cons x (a ++ b))

-- bytes of which no more than n are line feeds: they are all up to the n-th, and then some of what follows
up_to_short : (b : List ℕ) (n : ℕ) (m : List ℕ) → line_feeds b < n → (k : ℕ) × (up_to n (b ++ m) ≡ length b + k)
up_to_short [] n m h = (up_to n m, omega arith)
up_to_short (x ∷ b) zero m h = absurd (omega arith)
up_to_short (x ∷ b) (suc n) m h = at (x == 10) (omega (arith, line_feeds-cons x b, h)) (λ h. up_to_short b n m h) (λ h. up_to_short b (suc n) m h) where
  at : (t : Bool) → cond t 1 0 + line_feeds b < suc n → (line_feeds b < n → (k : ℕ) × (up_to n (b ++ m) ≡ length b + k)) → (line_feeds b < suc n → (k : ℕ) × (up_to (suc n) (b ++ m) ≡ length b + k))
      → (k : ℕ) × (1 + up_to (cond t n (suc n)) (b ++ m) ≡ length (x ∷ b) + k)
  at true h f g = let r = f (omega arith) in (r.0, omega (arith, r.1))
  at false h f g = let r = g (omega arith) in (r.0, omega (arith, r.1))

up_to_all : (b : List ℕ) (n : ℕ) → line_feeds b < n → up_to n b ≡ length b
up_to_all [] zero h = absurd (omega arith)
up_to_all [] (suc n) h = refl
up_to_all (x ∷ b) zero h = absurd (omega arith)
up_to_all (x ∷ b) (suc n) h = at (x == 10) (omega (arith, line_feeds-cons x b, h)) (λ h. up_to_all b n h) (λ h. up_to_all b (suc n) h) where
  at : (t : Bool) → cond t 1 0 + line_feeds b < suc n → (line_feeds b < n → up_to n b ≡ length b) → (line_feeds b < suc n → up_to (suc n) b ≡ length b) → 1 + up_to (cond t n (suc n)) b ≡ length (x ∷ b)
  at true h f g = omega (arith, f (omega arith))
  at false h f g = omega (arith, g (omega arith))

-- enough line feeds: what follows changes nothing
up_to_full : (b : List ℕ) (n : ℕ) (m : List ℕ) → n ≤ line_feeds b → (up_to n (b ++ m) ≡ up_to n b) × (up_to n b ≤ length b)
up_to_full b zero m h = (refl, omega arith)
up_to_full [] (suc n) m h = absurd (omega arith)
up_to_full (x ∷ b) (suc n) m h = at (x == 10) (omega (arith, line_feeds-cons x b, h)) (λ h. up_to_full b n m h) (λ h. up_to_full b (suc n) m h) where
  at : (t : Bool) → suc n ≤ cond t 1 0 + line_feeds b → (n ≤ line_feeds b → (up_to n (b ++ m) ≡ up_to n b) × (up_to n b ≤ length b)) → (suc n ≤ line_feeds b → (up_to (suc n) (b ++ m) ≡ up_to (suc n) b) × (up_to (suc n) b ≤ length b))
      → (1 + up_to (cond t n (suc n)) (b ++ m) ≡ 1 + up_to (cond t n (suc n)) b) × (1 + up_to (cond t n (suc n)) b ≤ length (x ∷ b))
  at true h f g = let r = f (omega arith) in (ap (λ k. 1 + k) r.0, omega (arith, r.1))
  at false h f g = let r = g (omega arith) in (ap (λ k. 1 + k) r.0, omega (arith, r.1))

-- bytes that are short of both bounds
pub record IsShort (bytes : List ℕ) : Type 0 where
  pub size : length bytes < 16384
  pub lines : line_feeds bytes < 66

short_or_cut : (b : List ℕ) → IsShort b ⊎ ((16384 ≤ length b) ⊎ (66 ≤ line_feeds b))
short_or_cut b = ⊎_elim (λ s. ⊎_elim (λ l. inl (record { size = s; lines = l })) (λ l. inr (inr l)) (cases_lt (line_feeds b) 66)) (λ s. inr (inl s)) (cases_lt (length b) 16384)

pub front_short : (b : List ℕ) → IsShort b → front b ≡ b
unfolding front
front_short b h = ap (λ k. take 16384 (take k b)) (up_to_all b 66 h.lines) ∙ ap (take 16384) (take_all (length b) b (omega arith)) ∙ take_all 16384 b (omega (arith, h.size))

-- a front of the bytes that is short enough stands at the front
pub front_has : (b m : List ℕ) → length b ≤ 16384 → line_feeds b < 66 → (x : List ℕ) × (front (b ++ m) ≡ b ++ x)
unfolding front
front_has b m size lines =
    let u = up_to_short b 66 m lines in
    let inner : take (up_to 66 (b ++ m)) (b ++ m) ≡ b ++ take u.0 m = ap (λ k. take k (b ++ m)) u.1 ∙ take-append-add b m u.0 in
    (take (16384 - length b) (take u.0 m), ap (take 16384) inner ∙ ap (λ k. take k (b ++ take u.0 m)) (room (length b) size) ∙ take-append-add b (take u.0 m) (16384 - length b)) where
      room : (n : ℕ) → n ≤ 16384 → 16384 ≡ n + (16384 - n)
      room n le = omega arith

front_lines : (b m : List ℕ) → 66 ≤ line_feeds b → front (b ++ m) ≡ front b
unfolding front
front_lines b m h =
    let u = up_to_full b 66 m h in
    ap (take 16384) (ap (λ k. take k (b ++ m)) u.0 ∙ take-append-le (up_to 66 b) b m u.1)

front_long : (b m : List ℕ) → 16384 ≤ length b → line_feeds b < 66 → front (b ++ m) ≡ front b
unfolding front
front_long b m h l =
    let u = up_to_short b 66 m l in
    let inner : take (up_to 66 (b ++ m)) (b ++ m) ≡ b ++ take u.0 m = ap (λ k. take k (b ++ m)) u.1 ∙ take-append-add b m u.0 in
    let own : take (up_to 66 b) b ≡ b = ap (λ k. take k b) (up_to_all b 66 l) ∙ take_all (length b) b (omega arith) in
    ap (take 16384) inner ∙ take-append-le 16384 b (take u.0 m) h ∙ ap (take 16384) (sym own)

cut_front : (b m : List ℕ) → (16384 ≤ length b) ⊎ (66 ≤ line_feeds b) → front (b ++ m) ≡ front b
cut_front b m cut = ⊎_elim (λ l. ⊎_elim (λ few. front_long b m l few) (λ many. front_lines b m many) (cases_lt (line_feeds b) 66)) (λ many. front_lines b m many) cut

-- the front of more bytes is the front with more, and the same where it was cut
pub front_grows : (b m : List ℕ) → (x : List ℕ) × (front (b ++ m) ≡ front b ++ x)
front_grows b m = ⊎_elim (λ s. let g = front_has b m (omega (arith, s.size)) s.lines in (g.0, g.1 ∙ ap (λ f. f ++ g.0) (sym (front_short b s)))) (λ cut. ([], cut_front b m cut ∙ sym (append-nil (front b)))) (short_or_cut b)

cut_is : (b : List ℕ) → is_cut b ≡ true → (16384 ≤ length b) ⊎ (66 ≤ line_feeds b)
unfolding is_cut
cut_is b h = ⊎_elim (λ s. ⊎_elim (λ l. absurd (grind (arith, common_steps))) (λ l. inr l) (cases_lt (line_feeds b) 66)) (λ s. inl s) (cases_lt (length b) 16384)

is_cut_by : (b : List ℕ) → (16384 ≤ length b) ⊎ (66 ≤ line_feeds b) → is_cut b ≡ true
unfolding is_cut
is_cut_by b h = ⊎_elim (λ s. grind arith) (λ l. grind arith) h

pub cut_stays : (b m : List ℕ) → is_cut b ≡ true → (is_cut (b ++ m) ≡ true) × (front (b ++ m) ≡ front b)
cut_stays b m h =
    let c = cut_is b h in
    (is_cut_by (b ++ m) (⊎_elim (λ s. inl (omega (arith, length-append b m, s))) (λ l. inr (omega (arith, line_feeds-append b m, l))) c), cut_front b m c)

pub open_is_short : (b : List ℕ) → is_cut b ≡ false → IsShort b
open_is_short b h = ⊎_elim (λ s. s) (λ c. absurd (true≢false (sym (is_cut_by b c) ∙ h))) (short_or_cut b)

pub front_within : (b : List ℕ) → (length (front b) ≤ 16384) × (length (front b) ≤ length b)
unfolding front
front_within b =
    let outer = length-take 16384 (take (up_to 66 b) b) in
    let inner = length-take (up_to 66 b) b in
    (omega arith, omega arith)

-- one byte more of those up to the n-th line feed
pub up_to-step : (n at : ℕ) (b : List ℕ) → 0 < n → at < length b → up_to n (drop at b) ≡ 1 + up_to (cond (get_or b at 0 == 10) (n - 1) n) (drop (at + 1) b)
up_to-step zero at b some lt = absurd (omega arith)
up_to-step (suc n) at [] some lt = absurd (omega arith)
up_to-step (suc n) zero (x ∷ b) some lt = ap (λ k. 1 + up_to (cond (x == 10) k (suc n)) b) (same n) where
  same : (n : ℕ) → n ≡ suc n - 1
  same n = omega arith
up_to-step (suc n) (suc at) (x ∷ b) some lt = let e : suc at + 1 ≡ suc (at + 1) = omega arith in rw e (up_to-step (suc n) at b some (omega arith))

-- the front where the last line feed of it stands at a place, and where it does not come
pub front_ends : (at : ℕ) (b : List ℕ) → up_to 66 b ≡ at → at ≤ 16384 → at ≤ length b → front b ≡ take at b
unfolding front
front_ends at b is short within = ap (λ k. take 16384 (take k b)) is ∙ take_all 16384 (take at b) (omega (arith, length-take at b))

pub front_open : (end : ℕ) (b : List ℕ) → end ≡ min (length b) 16384 → end ≤ up_to 66 b → front b ≡ take end b
unfolding front
front_open end b is le =
    let u = up_to 66 b in
    ⊎_elim
    (λ (s : length b < 16384). ap (take 16384) (take_all u b (omega arith)) ∙ take_all 16384 b (omega arith) ∙ sym (take_all end b (omega arith)))
    (λ (s : 16384 ≤ length b). let e : 16384 ≡ end = omega arith in take-take 16384 u b (omega arith) ∙ ap (λ k. take k b) e)
    (cases_lt (length b) 16384)

-- the count where the byte at a place is a line feed, and where it is another
pub after_feed : (u n at : ℕ) (b : List ℕ) → u ≡ at + up_to n (drop at b) → 0 < n → at < length b → get_or b at 0 ≡ 10 → u ≡ at + 1 + up_to (n - 1) (drop (at + 1) b)
after_feed u n at b is some lt feed =
    let step = up_to-step n at b some lt in
    let here : up_to n (drop at b) ≡ 1 + up_to (n - 1) (drop (at + 1) b) = step ∙ ap (λ t. 1 + up_to (cond t (n - 1) n) (drop (at + 1) b)) (eq-eqb (get_or b at 0) 10 feed) in
    omega (arith, is, here)

pub after_other : (u n at : ℕ) (b : List ℕ) → u ≡ at + up_to n (drop at b) → 0 < n → at < length b → (get_or b at 0 ≡ 10 → ⊥) → u ≡ at + 1 + up_to n (drop (at + 1) b)
after_other u n at b is some lt other =
    let step = up_to-step n at b some lt in
    let here : up_to n (drop at b) ≡ 1 + up_to n (drop (at + 1) b) = step ∙ ap (λ t. 1 + up_to (cond t (n - 1) n) (drop (at + 1) b)) (ne_eqb (get_or b at 0) 10 other) in
    omega (arith, is, here)

-- the front is where the bytes begin
pub front_prefix : (b : List ℕ) → (rest : List ℕ) × (b ≡ front b ++ rest)
unfolding front
front_prefix b =
    let u = up_to 66 b in (
      drop 16384 (take u b) ++ drop u b,
      sym (take-append-drop u b) ∙ ap (λ t. t ++ drop u b) (sym (take-append-drop 16384 (take u b))) ∙ append_assoc (take 16384 (take u b)) (drop 16384 (take u b)) (drop u b),
    )

pub front_takes : (b : List ℕ) (size : ℕ) → size ≤ length (front b) → take size (front b) ≡ take size b
front_takes b size h = let p = front_prefix b in sym (ap (take size) p.1 ∙ take-append-le size (front b) p.0 h)

one_more : (k : ℕ) → 1 + k ≡ suc k
one_more k = omega arith

-- the line feeds of a front of n lines
up_to_lines : (b : List ℕ) (n : ℕ) → line_feeds (take (up_to n b) b) ≤ n
up_to_lines b zero = omega arith
up_to_lines [] (suc n) = omega arith
up_to_lines (x ∷ b) (suc n) = at (x == 10) refl (up_to_lines b n) (up_to_lines b (suc n)) where
  at : (t : Bool) → (x == 10) ≡ t → line_feeds (take (up_to n b) b) ≤ n → line_feeds (take (up_to (suc n) b) b) ≤ suc n → line_feeds (take (1 + up_to (cond t n (suc n)) b) (x ∷ b)) ≤ suc n
  at true e f g = let one : take (1 + up_to n b) (x ∷ b) ≡ x ∷ take (up_to n b) b = ap (λ k. take k (x ∷ b)) (one_more (up_to n b)) in omega (arith, ap line_feeds one, line_feeds-cons x (take (up_to n b) b), ap {B = ℕ} (λ t. cond t 1 0) e, f)
  at false e f g = let one : take (1 + up_to (suc n) b) (x ∷ b) ≡ x ∷ take (up_to (suc n) b) b = ap (λ k. take k (x ∷ b)) (one_more (up_to (suc n) b)) in omega (arith, ap line_feeds one, line_feeds-cons x (take (up_to (suc n) b) b), ap {B = ℕ} (λ t. cond t 1 0) e, g)

pub front_lines_few : (b : List ℕ) → line_feeds (front b) ≤ 66
unfolding front
front_lines_few b =
    let t = take (up_to 66 b) b in
    let parts = ap line_feeds (take-append-drop 16384 t) in
    omega (arith, up_to_lines b 66, parts, line_feeds-append (take 16384 t) (drop 16384 t))

-- the front where the first bytes have few lines: these bytes
pub front_near : (b : List ℕ) (end : ℕ) → end ≡ min (length b) 16384 → line_feeds (take end b) < 66 → front b ≡ take end b
front_near b end is few =
    let long : length (take end b) ≡ min end (length b) = length-take end b in
    let g = front_has (take end b) (drop end b) (omega (arith, long, is)) few in
    let whole : front b ≡ take end b ++ g.0 = ap front (sym (take-append-drop end b)) ∙ g.1 in
    let within = front_within b in
    let none : length g.0 ≡ 0 = omega (arith, ap length whole, length-append (take end b) g.0, long, is, within.0, within.1) in
    whole ∙ ap (λ x. take end b ++ x) (nil_from_length g.0 none) ∙ append-nil (take end b)

-- bytes short of both bounds are not cut
pub short_is_open : (b : List ℕ) → length b < 16384 → line_feeds b < 66 → is_cut b ≡ false
unfolding is_cut
short_is_open b size lines = grind arith
