-- Pieces between separators, put together and taken apart.
use Rattle.std.proofs.Common.{◌≡◌, ◌==◌, ◌&&◌, ◌+◌, ◌<◌, ℕ, not, suc, Bool, true, false, List, [], ◌∷◌, ◌++◌, length, take, drop, refl, sym, ap, ◌∙◌, if◌then◌else◌, map, append-nil, append_assoc, arith, eq-eqb, add-one}
use Rattle.std.specs.List.{flat_map, list_all}
use Rattle.std.proofs.lemmas.Bool.{and_parts, eqb-true, not-true}
use Rattle.rows.specs.Pieces.{joined_front, piece_length, pieces}
use Rattle.row_texts.proofs.Lines.{has_pieces}

-- a text without the separator
abbrev pub lacks : ℕ → ℕ → Bool
lacks separator byte = not (byte == separator)

pub record Lacks (separator : ℕ) (text : List ℕ) : Type 0 where
  pub all : list_all (lacks separator) text ≡ true

pub lacks_parts : (separator b : ℕ) (t : List ℕ) → Lacks separator (b ∷ t) → ((b == separator) ≡ false) × Lacks separator t
lacks_parts separator b t h = let both = and_parts (lacks separator b) (list_all (lacks separator) t) h.all in (not-true (b == separator) both.0, record { all = both.1 })

-- such a text is one piece
pub one_piece : (separator : ℕ) (text : List ℕ) → Lacks separator text → pieces separator text ≡ text ∷ []
one_piece separator [] h = refl
one_piece separator (b ∷ t) h = let parts = lacks_parts separator b t h in rw (parts.0, one_piece separator t parts.1) refl

-- before a separator it is the first piece
pub first_piece : (separator : ℕ) (text rest : List ℕ) → Lacks separator text → pieces separator (text ++ separator ∷ rest) ≡ text ∷ pieces separator rest
first_piece separator [] rest h = rw (eq-eqb separator separator refl) refl
first_piece separator (b ∷ t) rest h = let parts = lacks_parts separator b t h in rw (parts.0, first_piece separator t rest parts.1) refl

-- and its length is that of the first piece
pub first_length : (separator : ℕ) (text rest : List ℕ) → Lacks separator text → piece_length separator (text ++ separator ∷ rest) ≡ length text
first_length separator [] rest h = rw (eq-eqb separator separator refl) refl
first_length separator (b ∷ t) rest h = let parts = lacks_parts separator b t h in rw (parts.0, first_length separator t rest parts.1) (add-one (length t))

-- such texts with a separator before each but the first are the pieces
pub record AllLack {X : Type 0} (separator : ℕ) (text_of : X → List ℕ) (xs : List X) : Type 0 where
  pub all : list_all (λ x. list_all (lacks separator) (text_of x)) xs ≡ true

pub pieces_of : {X : Type 0} (separator : ℕ) (text_of : X → List ℕ) (first : List ℕ) (xs : List X) → Lacks separator first → AllLack separator text_of xs
    → pieces separator (first ++ flat_map (λ x. separator ∷ text_of x) xs) ≡ first ∷ map text_of xs
pieces_of separator text_of first [] h all = rw (append-nil first) (one_piece separator first h)
pieces_of separator text_of first (x ∷ xs) h all =
    let both = and_parts (list_all (lacks separator) (text_of x)) (list_all (λ x. list_all (lacks separator) (text_of x)) xs) all.all in
    first_piece separator first (text_of x ++ flat_map (λ x. separator ∷ text_of x) xs) h
    ∙ ap (λ k. first ∷ k) (pieces_of separator text_of (text_of x) xs (record { all = both.0 }) (record { all = both.1 }))

-- pieces with a separator between
abbrev pub glued : ℕ → List (List ℕ) → List ℕ
glued separator [] = []
glued separator (first ∷ rest) = first ++ flat_map (λ piece. separator ∷ piece) rest

glued_front : (separator b : ℕ) (text : List ℕ) (pieces : List (List ℕ)) (some : (first : List ℕ) × (rest : List (List ℕ)) × (pieces ≡ first ∷ rest)) → glued separator pieces ≡ text → glued separator (joined_front b pieces) ≡ b ∷ text
glued_front separator b text pieces some h =
    ap (λ k. glued separator (joined_front b k)) some.2 ∙ ap (λ k. b ∷ k) (ap (glued separator) (sym some.2) ∙ h)

glued_next : (separator : ℕ) (text : List ℕ) (pieces : List (List ℕ)) (some : (first : List ℕ) × (rest : List (List ℕ)) × (pieces ≡ first ∷ rest)) → glued separator pieces ≡ text → glued separator ([] ∷ pieces) ≡ separator ∷ text
glued_next separator text pieces some h =
    ap (λ k. glued separator ([] ∷ k)) some.2 ∙ ap (λ k. separator ∷ k) (ap (glued separator) (sym some.2) ∙ h)

-- the pieces of a text give it back
pub glued_pieces : (separator : ℕ) (text : List ℕ) → glued separator (pieces separator text) ≡ text
glued_pieces separator [] = refl
glued_pieces separator (b ∷ t) = by (b == separator) refl (glued_pieces separator t)
  where
    by : (v : Bool) → (b == separator) ≡ v → glued separator (pieces separator t) ≡ t → glued separator (if v then [] ∷ pieces separator t else joined_front b (pieces separator t)) ≡ b ∷ t
    by true e more = glued_next separator t (pieces separator t) (has_pieces separator t) more ∙ ap (λ k. k ∷ t) (sym (eqb-true b separator e))
    by false e more = glued_front separator b t (pieces separator t) (has_pieces separator t) more
