-- A scan of the request line ends in the target where the bytes do.
use Rattle.std.proofs.Common.{◌≡◌, inl, inr, ℕ, List, [], ◌∷◌, ◌++◌, fold, All, IsTrue, true, false, ◌==◌, refl, sym, ap, ◌∙◌, subst, arith, append_assoc, eqb-true}
use Rattle.std.proofs.lemmas.List.Folds.{fold_stays}
use Rattle.std.proofs.lemmas.List.Elements.{All-nil, All-cons, All-head, All-tail}
use Rattle.std.proofs.lemmas.Bool.{cases_Bool}
use Rattle.httparse.specs.Grammar.{is_token_byte, is_uri_byte, IsToken, LineEnd, crlf, lf, print_end, print_blank, EndsInTarget}
use Rattle.wire.specs.Target.{step}
use Rattle.wire.specs.declared.target.Place.{Place}
use Rattle.wire.specs.declared.target.Place.TheVariants.{Start, AfterReturn, Method, Target, Elsewhere}

abbrev Tokens : List ℕ → Type 0
Tokens xs = All (λ b. IsTrue (is_token_byte b)) xs

abbrev Uris : List ℕ → Type 0
Uris xs = All (λ b. IsTrue (is_uri_byte b)) xs

lost : (xs : List ℕ) → fold step Elsewhere xs ≡ Elsewhere
lost xs = fold_stays step Elsewhere (λ x. refl) xs

-- ---- from the grammar to the scan

return_is_none : is_token_byte 13 ≡ false
unfolding is_token_byte
return_is_none = refl

feed_is_none : is_token_byte 10 ≡ false
unfolding is_token_byte
feed_is_none = refl

space_is_none : is_token_byte 32 ≡ false
unfolding is_token_byte
space_is_none = refl

after_blank : (ends : List LineEnd) (rest : List ℕ) → fold step Start (print_blank ends ++ rest) ≡ fold step Start rest
after_blank [] rest = refl
after_blank (crlf ∷ ends) rest = rw (return_is_none) (after_blank ends rest)
after_blank (lf ∷ ends) rest = rw (feed_is_none) (after_blank ends rest)

starts : (b : ℕ) → is_token_byte b ≡ true → step Start b ≡ Method
starts b t = rw t refl

goes_on : (b : ℕ) → is_token_byte b ≡ true → step Method b ≡ Method
goes_on b t = rw t refl

in_method : (m rest : List ℕ) → Tokens m → fold step Method (m ++ rest) ≡ fold step Method rest
in_method [] rest h = refl
in_method (b ∷ m) rest h = ap (λ p. fold step p (m ++ rest)) (goes_on b (All-head (λ x. IsTrue (is_token_byte x)) b m h)) ∙ in_method m rest (All-tail (λ x. IsTrue (is_token_byte x)) b m h)

stays : (b : ℕ) → is_uri_byte b ≡ true → step Target b ≡ Target
stays b t = rw t refl

in_target : (t : List ℕ) → Uris t → fold step Target t ≡ Target
in_target [] h = refl
in_target (b ∷ t) h = ap (λ p. fold step p t) (stays b (All-head (λ x. IsTrue (is_uri_byte x)) b t h)) ∙ in_target t (All-tail (λ x. IsTrue (is_uri_byte x)) b t h)

from_method_name : (m rest : List ℕ) → IsToken m → fold step Start (m ++ rest) ≡ fold step Method rest
from_method_name [] rest h = absurd (omega (arith, h.0))
from_method_name (b ∷ m) rest h = ap (λ p. fold step p (m ++ rest)) (starts b (All-head (λ x. IsTrue (is_token_byte x)) b m h.1)) ∙ in_method m rest (All-tail (λ x. IsTrue (is_token_byte x)) b m h.1)

space_starts : step Method 32 ≡ Target
space_starts = rw space_is_none refl

pub scan_ends : (buf : List ℕ) → EndsInTarget buf → fold step Start buf ≡ Target
scan_ends buf h =
    let blank = h.0 in let method = h.1 in let target = h.2 in
    let shape : (print_blank blank ++ method) ++ (32 ∷ target) ≡ print_blank blank ++ (method ++ (32 ∷ target)) = append_assoc (print_blank blank) method (32 ∷ target) in
    ap (fold step Start) (h.5 ∙ shape) ∙ after_blank blank (method ++ (32 ∷ target)) ∙ from_method_name method (32 ∷ target) h.3 ∙ ap (λ p. fold step p target) space_starts ∙ in_target target h.4

-- ---- and back

goes : (p q : Place) (xs : List ℕ) → p ≡ q → fold step p xs ≡ Target → fold step q xs ≡ Target
goes p q xs s e = ap (λ r. fold step r xs) (sym s) ∙ e

never : {P : Type 0} (p : Place) (xs : List ℕ) → p ≡ Elsewhere → fold step p xs ≡ Target → P
never p xs s e = let bad : Elsewhere ≡ Target = sym (lost xs) ∙ goes p Elsewhere xs s e in absurd (cc)

target_bytes : (xs : List ℕ) → fold step Target xs ≡ Target → Uris xs
target_bytes [] e = All-nil (λ x. IsTrue (is_uri_byte x))
target_bytes (b ∷ xs) e = elim (cases_Bool (is_uri_byte b)) [
  | inl uri ↦ All-cons (λ x. IsTrue (is_uri_byte x)) b xs uri (target_bytes xs (goes (step Target b) Target xs (rw uri refl) e))
  | inr other ↦ never (step Target b) xs (rw other refl) e
]

pub record AfterMethod (xs : List ℕ) : Type 0 where
  pub method : List ℕ
  pub target : List ℕ
  pub tokens : Tokens method
  pub uris : Uris target
  pub shape : xs ≡ method ++ (32 ∷ target)

method_bytes : (xs : List ℕ) → fold step Method xs ≡ Target → AfterMethod xs
method_bytes [] e = absurd (cc)
method_bytes (b ∷ xs) e = elim (cases_Bool (is_token_byte b)) [
  | inl token ↦ let more = method_bytes xs (goes (step Method b) Method xs (goes_on b token) e) in
      record { method = b ∷ more.method; target = more.target; tokens = All-cons (λ x. IsTrue (is_token_byte x)) b more.method token more.tokens; uris = more.uris; shape = ap (λ r. b ∷ r) more.shape }
  | inr none ↦ elim (cases_Bool (b == 32)) [
    | inl space ↦ record { method = []; target = xs; tokens = All-nil (λ x. IsTrue (is_token_byte x)); uris = target_bytes xs (goes (step Method b) Target xs (rw (none, space) refl) e); shape = ap (λ c. c ∷ xs) (eqb-true b 32 space) }
    | inr other ↦ never (step Method b) xs (rw (none, other) refl) e
  ]
]

regroup : (a b c d : List ℕ) → a ++ ((b ++ c) ++ d) ≡ ((a ++ b) ++ c) ++ d
regroup a b c d = simp append_assoc

one_blank : (end : LineEnd) (xs : List ℕ) → EndsInTarget xs → EndsInTarget (print_end end ++ xs)
one_blank end xs h = (end ∷ h.0, h.1, h.2, h.3, h.4, ap (λ r. print_end end ++ r) h.5 ∙ regroup (print_end end) (print_blank h.0) h.1 (32 ∷ h.2))

named : (b : ℕ) (xs : List ℕ) → is_token_byte b ≡ true → AfterMethod xs → EndsInTarget (b ∷ xs)
named b xs token more = ([], b ∷ more.method, more.target, (omega arith, All-cons (λ x. IsTrue (is_token_byte x)) b more.method token more.tokens), more.uris, ap (λ r. b ∷ r) more.shape)

both : (xs : List ℕ) → (fold step Start xs ≡ Target → EndsInTarget xs) × (fold step AfterReturn xs ≡ Target → EndsInTarget (13 ∷ xs))
both [] = (λ e. absurd (cc), λ e. absurd (cc))
both (b ∷ xs) = let more = both xs in (λ e. from_start b xs more.0 more.1 e, λ e. from_return b xs more.0 e)
  where
    from_return : (b : ℕ) (xs : List ℕ) → (fold step Start xs ≡ Target → EndsInTarget xs) → fold step (step AfterReturn b) xs ≡ Target → EndsInTarget (13 ∷ b ∷ xs)
    from_return b xs start e = elim (cases_Bool (b == 10)) [
      | inl feed ↦ subst EndsInTarget (ap (λ c. 13 ∷ c ∷ xs) (sym (eqb-true b 10 feed))) (one_blank crlf xs (start (goes (step AfterReturn b) Start xs (rw feed refl) e)))
      | inr other ↦ never (step AfterReturn b) xs (rw other refl) e
    ]

    from_start : (b : ℕ) (xs : List ℕ) → (fold step Start xs ≡ Target → EndsInTarget xs) → (fold step AfterReturn xs ≡ Target → EndsInTarget (13 ∷ xs)) → fold step (step Start b) xs ≡ Target → EndsInTarget (b ∷ xs)
    from_start b xs start return e = elim (cases_Bool (is_token_byte b)) [
      | inl token ↦ named b xs token (method_bytes xs (goes (step Start b) Method xs (starts b token) e))
      | inr none ↦ elim (cases_Bool (b == 13)) [
        | inl is_return ↦ subst EndsInTarget (ap (λ c. c ∷ xs) (sym (eqb-true b 13 is_return))) (return (goes (step Start b) AfterReturn xs (rw (none, is_return) refl) e))
        | inr not_return ↦ elim (cases_Bool (b == 10)) [
          | inl feed ↦ subst EndsInTarget (ap (λ c. c ∷ xs) (sym (eqb-true b 10 feed))) (one_blank lf xs (start (goes (step Start b) Start xs (rw (none, not_return, feed) refl) e)))
          | inr other ↦ never (step Start b) xs (rw (none, not_return, other) refl) e
        ]
      ]
    ]

pub target_ends : (buf : List ℕ) → fold step Start buf ≡ Target → EndsInTarget buf
target_ends buf = (both buf).0
