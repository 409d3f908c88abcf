-- Two marks together, and rows with a mark for each two.
use Rattle.std.proofs.Common.{◌≡◌, ℕ, suc, ◌+◌, ◌-◌, ◌/◌, ◌<◌, ◌≤◌, ◌||◌, nat_lt, nat_le, min, Bool, true, false, cond, List, [], ◌∷◌, length, fold, get_or, refl, sym, ◌∙◌, ap, arith}
use Rattle.std.specs.Prelude.{Option, Some, None}
use Rattle.std.proofs.lemmas.List.{get_or_read, get_or_past}
use Rattle.std.proofs.lemmas.Bool.{ltb-true, ltb-false, lt-ltb, le-ltb}
use Rattle.smf_model.specs.declared.session.Peer.{Peer}
use Rattle.agenda.specs.declared.mark.Mark.{Mark}
use Rattle.agenda.specs.declared.mark.Search.{Search}
use Rattle.agenda.specs.declared.mark.Search.TheVariants.{Waits, Due, Flies}
use Rattle.quotas.specs.Deadline.{earlier, has_come}
use Rattle.agenda.specs.Marks.{quiet, first_send, both, all_of, finds}
use Rattle.agenda.specs.Rows.{halved, AreRows, first_row, top}

-- two marks are one where their parts are
same_parts : (a b : Mark) → a.send ≡ b.send → a.wait ≡ b.wait → a.due ≡ b.due → a.flies ≡ b.flies → a ≡ b
same_parts a b send wait due flies = ap (λ x. record a { send = x }) send ∙ ap (λ x. record a { send = b.send; wait = x }) wait ∙ ap (λ x. record a { send = b.send; wait = b.wait; due = x }) due ∙ ap (λ x. record b { flies = x }) flies

send_none : (a : Option (ℕ × Peer)) → first_send a None ≡ a
send_none None = refl
send_none (Some x) = refl

earlier_none : (a : Option ℕ) → earlier a None ≡ a
earlier_none None = refl
earlier_none (Some x) = refl

or_false : (b : Bool) → (b || false) ≡ b
or_false true = refl
or_false false = refl

-- a mark with nothing to find leaves the other
pub both_quiet : (a : Mark) → both a quiet ≡ a
both_quiet a = same_parts (both a quiet) a (send_none a.send) (earlier_none a.wait) (earlier_none a.due) (or_false a.flies)

-- in any order

abbrev least_of : Bool → (ℕ × Peer) → (ℕ × Peer) → ℕ × Peer
least_of b x y = cond b y x

send_some : (x y : ℕ × Peer) → first_send (Some x) (Some y) ≡ Some (least_of (nat_lt y.0 x.0) x y)
send_some x y = at (nat_lt y.0 x.0)
  where
    at : (b : Bool) → cond b (Some y) (Some x) ≡ Some (least_of b x y)
    at true = refl
    at false = refl

three : (x y z : ℕ × Peer) (yx zy zx : Bool) → nat_lt y.0 x.0 ≡ yx → nat_lt z.0 y.0 ≡ zy → nat_lt z.0 x.0 ≡ zx
    → cond (nat_lt z.0 (least_of yx x y).0) (Some z) (Some (least_of yx x y)) ≡ cond (nat_lt (least_of zy y z).0 x.0) (Some (least_of zy y z)) (Some x)
three x y z true true zx a b c = ap (λ t. cond t (Some z) (Some y)) b ∙ ap (λ t. cond t (Some z) (Some x)) (sym (lt-ltb z.0 x.0 (let m = ltb-true y.0 x.0 a in let n = ltb-true z.0 y.0 b in omega (arith, m, n))))
three x y z true false zx a b c = ap (λ t. cond t (Some z) (Some y)) b ∙ ap (λ t. cond t (Some y) (Some x)) (sym a)
three x y z false true zx a b c = refl
three x y z false false zx a b c =
    ap (λ t. cond t (Some z) (Some x)) (le-ltb z.0 x.0 (let m = ltb-false y.0 x.0 a in let n = ltb-false z.0 y.0 b in omega (arith, m, n))) ∙ ap (λ t. cond t (Some y) (Some x)) (sym a)

send_assoc : (a b c : Option (ℕ × Peer)) → first_send (first_send a b) c ≡ first_send a (first_send b c)
send_assoc None b c = refl
send_assoc (Some x) None c = refl
send_assoc (Some x) (Some y) None = send_none (first_send (Some x) (Some y))
send_assoc (Some x) (Some y) (Some z) =
    ap (λ o. first_send o (Some z)) (send_some x y)
    ∙ three x y z (nat_lt y.0 x.0) (nat_lt z.0 y.0) (nat_lt z.0 x.0) refl refl refl
    ∙ ap (first_send (Some x)) (sym (send_some y z))

earlier_assoc : (a b c : Option ℕ) → earlier (earlier a b) c ≡ earlier a (earlier b c)
earlier_assoc None b c = refl
earlier_assoc (Some x) None c = refl
earlier_assoc (Some x) (Some y) None = refl
earlier_assoc (Some x) (Some y) (Some z) = ap Some (omega arith)

or_assoc : (a b c : Bool) → ((a || b) || c) ≡ (a || (b || c))
or_assoc true b c = refl
or_assoc false b c = refl

both_assoc : (a b c : Mark) → both (both a b) c ≡ both a (both b c)
both_assoc a b c = same_parts (both (both a b) c) (both a (both b c)) (send_assoc a.send b.send c.send) (earlier_assoc a.wait b.wait c.wait) (earlier_assoc a.due b.due c.due) (or_assoc a.flies b.flies c.flies)

-- the row over marks has them all together
fold_halved : (x : Mark) (ms : List Mark) → fold both x (halved ms) ≡ fold both x ms
fold_halved x [] = refl
fold_halved x (a ∷ []) = ap (both x) (both_quiet a)
fold_halved x (a ∷ b ∷ ms) = ap (λ y. fold both y (halved ms)) (sym (both_assoc x a b)) ∙ fold_halved (both (both x a) b) ms

one_alone : (row : List Mark) → length row ≤ 1 → get_or row 0 quiet ≡ all_of row
one_alone [] l = refl
one_alone (m ∷ []) l = refl
one_alone (m ∷ n ∷ ms) l = absurd (omega (arith, l))

pub top_all : (rows : List (List Mark)) → AreRows rows → top rows ≡ all_of (first_row rows)
top_all [] r = refl
top_all (row ∷ []) r = one_alone row r
top_all (row ∷ above ∷ rows) r = top_all (above ∷ rows) r.1 ∙ ap all_of r.0 ∙ fold_halved quiet row

top_last : (rows : List (List Mark)) → top rows ≡ get_or (get_or rows (length rows - 1) []) 0 quiet
top_last [] = refl
top_last (row ∷ []) = refl
top_last (row ∷ above ∷ rows) = top_last (above ∷ rows) ∙ ap (λ n. get_or (get_or (row ∷ above ∷ rows) n []) 0 quiet) (more (length rows))
  where
    more : (n : ℕ) → suc (suc n - 1) ≡ suc (suc n) - 1
    more n = omega arith

top_read : (rows : List (List Mark)) (row : List Mark) → 0 < length rows → row ≡ get_or rows (length rows - 1) row → top rows ≡ get_or row 0 quiet
top_read rows row some is = top_last rows ∙ ap (λ r. get_or r 0 quiet) (sym (get_or_read rows (length rows - 1) row (omega (arith, some)) is []))

pub top_empty : (rows : List (List Mark)) (row : List Mark) → 0 < length rows → row ≡ get_or rows (length rows - 1) row → length row ≤ 0 → quiet ≡ top rows
top_empty rows row some is none = sym (top_read rows row some is ∙ get_or_past row 0 quiet none)

pub top_head : (rows : List (List Mark)) (row : List Mark) (m : Mark) → 0 < length rows → row ≡ get_or rows (length rows - 1) row → 0 < length row → m ≡ get_or row 0 m → m ≡ top rows
top_head rows row m some is there at = get_or_read row 0 m there at quiet ∙ sym (top_read rows row some is)

-- a search finds two together where it finds one of them
come_both : (now : ℕ) (a b : Option ℕ) → has_come now (earlier a b) ≡ (has_come now a || has_come now b)
come_both now None b = refl
come_both now (Some x) None = sym (or_false (nat_le x now))
come_both now (Some x) (Some y) = at (nat_le x now) (nat_le y now) refl refl
  where
    at : (p q : Bool) → nat_le x now ≡ p → nat_le y now ≡ q → nat_le (min x y) now ≡ (p || q)
    at p q e f = grind arith

pub finds_both : (search : Search) (a b : Mark) → finds search (both a b) ≡ (finds search a || finds search b)
finds_both (Waits now) a b = come_both now a.wait b.wait
finds_both (Due now) a b = come_both now a.due b.due
finds_both Flies a b = refl

pub finds_quiet : (search : Search) → finds search quiet ≡ false
finds_quiet (Waits now) = refl
finds_quiet (Due now) = refl
finds_quiet Flies = refl

-- how many there are
pub length_halved : (ms : List Mark) → length (halved ms) ≡ (length ms + 1) / 2
length_halved [] = omega arith
length_halved (a ∷ []) = omega arith
length_halved (a ∷ b ∷ ms) = let e = length_halved ms in omega (arith, e)
