-- When the parse of the words after a command fails.
use Rattle.std.proofs.Common.{◌≡◌, ◌==◌, ℕ, Bool, not, List, [], ◌∷◌, refl, true, false, None, length, arith, sym, subst, ◌∙◌, ◌⊎◌, inl, inr}
use Rattle.std.specs.Str.{bytes_eq}
use Rattle.std.specs.List.{list_all}
use Rattle.std.proofs.lemmas.Bool.{and_parts}
use Rattle.clap.specs.declared.error.ErrorKind.{ErrorKind}
use Rattle.clap.specs.declared.error.ErrorKind.TheVariants.{MissingRequiredArgument, UnknownArgument, OutOfMemory}
use Rattle.clap.specs.Lexer.{strip_byte}
use Rattle.clap.specs.Words.{App, IsAmong, Kinds, fault_of, is_simple_and_free}
use Rattle.clap.proofs.OnLiterals.{clap_on_literals}
use Rattle.charging.specs.Parsing.{alone_app, is_plain, meter_app}

-- what the parse asks of a word: it begins with no hyphen
Plain : List ℕ → Type 0
Plain w = (strip_byte 45 w ≡ None) × (bytes_eq w (45 ∷ 45 ∷ []) ≡ false)

plain : (w : List ℕ) → is_plain w ≡ true → Plain w
unfolding Plain
plain [] h = (refl, refl)
plain (b ∷ w) h = by (b == 45) refl h
  where
    by : (v : Bool) → (b == 45) ≡ v → not v ≡ true → Plain (b ∷ w)
    by true e q = absurd (cc)
    by false e q = simp (e) (refl, refl)

first : (w : List ℕ) (ws : List (List ℕ)) → list_all is_plain (w ∷ ws) ≡ true → Plain w
first w ws h = plain w (and_parts _ _ h).0

others : (w : List ℕ) (ws : List (List ℕ)) → list_all is_plain (w ∷ ws) ≡ true → list_all is_plain ws ≡ true
others w ws h = (and_parts _ _ h).1

-- ---- `meter`

meter_is_simple : is_simple_and_free meter_app ≡ true
unfolding clap_on_literals
meter_is_simple = refl

none : fault_of meter_app [] ≡ MissingRequiredArgument ∷ []
unfolding clap_on_literals
none = refl

one : (v : List ℕ) → Plain v → fault_of meter_app (v ∷ []) ≡ MissingRequiredArgument ∷ []
unfolding clap_on_literals Plain
one v a = simp (a.0, a.1)

two : (v w : List ℕ) → Plain v → Plain w → fault_of meter_app (v ∷ w ∷ []) ≡ MissingRequiredArgument ∷ []
unfolding clap_on_literals Plain
two v w a b = simp (a.0, a.1, b.0, b.1)

three : (v w x : List ℕ) → Plain v → Plain w → Plain x → fault_of meter_app (v ∷ w ∷ x ∷ []) ≡ []
unfolding clap_on_literals Plain
three v w x a b c = simp (a.0, a.1, b.0, b.1, c.0, c.1)

more : (v w x y : List ℕ) (rest : List (List ℕ)) → Plain v → Plain w → Plain x → Plain y → fault_of meter_app (v ∷ w ∷ x ∷ y ∷ rest) ≡ UnknownArgument ∷ []
unfolding clap_on_literals Plain
more v w x y rest a b c d = simp (a.0, a.1, b.0, b.1, c.0, c.1, d.0, d.1)

abbrev meter_faults : List (List ℕ) → Kinds
meter_faults [] = MissingRequiredArgument ∷ []
meter_faults (v ∷ []) = MissingRequiredArgument ∷ []
meter_faults (v ∷ w ∷ []) = MissingRequiredArgument ∷ []
meter_faults (v ∷ w ∷ x ∷ []) = []
meter_faults (v ∷ w ∷ x ∷ y ∷ rest) = UnknownArgument ∷ []

of_meter : (ws : List (List ℕ)) → list_all is_plain ws ≡ true → fault_of meter_app ws ≡ meter_faults ws
of_meter [] h = none
of_meter (v ∷ []) h = one v (first v [] h)
of_meter (v ∷ w ∷ []) h = two v w (first v (w ∷ []) h) (first w [] (others v (w ∷ []) h))
of_meter (v ∷ w ∷ x ∷ []) h =
    let k = others v (w ∷ x ∷ []) h in
    three v w x (first v (w ∷ x ∷ []) h) (first w (x ∷ []) k) (first x [] (others w (x ∷ []) k))
of_meter (v ∷ w ∷ x ∷ y ∷ rest) h =
    let k = others v (w ∷ x ∷ y ∷ rest) h in
    let m = others w (x ∷ y ∷ rest) k in
    more v w x y rest (first v (w ∷ x ∷ y ∷ rest) h) (first w (x ∷ y ∷ rest) k) (first x (y ∷ rest) m) (first y rest (others x (y ∷ rest) m))

three_of_none : (ws : List (List ℕ)) → meter_faults ws ≡ [] → length ws ≡ 3
three_of_none [] e = absurd (cc)
three_of_none (v ∷ []) e = absurd (cc)
three_of_none (v ∷ w ∷ []) e = absurd (cc)
three_of_none (v ∷ w ∷ x ∷ []) e = refl
three_of_none (v ∷ w ∷ x ∷ y ∷ rest) e = absurd (cc)

none_of_three : (ws : List (List ℕ)) (k : ErrorKind) → IsAmong k (meter_faults ws) → length ws ≡ 3 → ⊥
none_of_three [] k a e = omega (arith, e)
none_of_three (v ∷ []) k a e = omega (arith, e)
none_of_three (v ∷ w ∷ []) k a e = omega (arith, e)
none_of_three (v ∷ w ∷ x ∷ []) k a e = a
none_of_three (v ∷ w ∷ x ∷ y ∷ rest) k a e = omega (arith, e)

-- ---- a command without words

alone_is_simple : is_simple_and_free alone_app ≡ true
unfolding clap_on_literals
alone_is_simple = refl

no_word : fault_of alone_app [] ≡ []
unfolding clap_on_literals
no_word = refl

some_word : (v : List ℕ) (rest : List (List ℕ)) → Plain v → fault_of alone_app (v ∷ rest) ≡ UnknownArgument ∷ []
unfolding clap_on_literals Plain
some_word v rest a = simp (a.0, a.1)

abbrev alone_faults : List (List ℕ) → Kinds
alone_faults [] = []
alone_faults (v ∷ rest) = UnknownArgument ∷ []

of_alone : (ws : List (List ℕ)) → list_all is_plain ws ≡ true → fault_of alone_app ws ≡ alone_faults ws
of_alone [] h = no_word
of_alone (v ∷ rest) h = some_word v rest (first v rest h)

zero_of_none : (ws : List (List ℕ)) → alone_faults ws ≡ [] → length ws ≡ 0
zero_of_none [] e = refl
zero_of_none (v ∷ rest) e = absurd (cc)

none_of_zero : (ws : List (List ℕ)) (k : ErrorKind) → IsAmong k (alone_faults ws) → length ws ≡ 0 → ⊥
none_of_zero [] k a e = a
none_of_zero (v ∷ rest) k a e = omega (arith, e)

-- ---- what the parse's clause gives, for a command of that shape

has_fault : (k : ErrorKind) (ks : Kinds) → (k ≡ OutOfMemory) ⊎ IsAmong k ks → (k ≡ OutOfMemory → ⊥) → IsAmong k ks
has_fault k ks (inl e) other = absurd (other e)
has_fault k ks (inr a) other = a

pub three_ok : (a : App) (ws : List (List ℕ)) → a ≡ meter_app → list_all is_plain ws ≡ true → (is_simple_and_free a ≡ true → fault_of a ws ≡ []) → length ws ≡ 3
three_ok a ws e plain k = three_of_none ws (sym (of_meter ws plain) ∙ subst (λ x. fault_of x ws ≡ []) e (k (subst (λ x. is_simple_and_free x ≡ true) (sym e) meter_is_simple)))

pub three_err : (a : App) (ws : List (List ℕ)) (kind : ErrorKind) → a ≡ meter_app → list_all is_plain ws ≡ true → (is_simple_and_free a ≡ true → (kind ≡ OutOfMemory) ⊎ IsAmong kind (fault_of a ws)) → (kind ≡ OutOfMemory → ⊥) → length ws ≡ 3 → ⊥
three_err a ws kind e plain k other =
    none_of_three ws kind (subst (IsAmong kind) (of_meter ws plain) (has_fault kind (fault_of meter_app ws) (subst (λ x. (kind ≡ OutOfMemory) ⊎ IsAmong kind (fault_of x ws)) e (k (subst (λ x. is_simple_and_free x ≡ true) (sym e) meter_is_simple))) other))

pub none_ok : (a : App) (ws : List (List ℕ)) → a ≡ alone_app → list_all is_plain ws ≡ true → (is_simple_and_free a ≡ true → fault_of a ws ≡ []) → length ws ≡ 0
none_ok a ws e plain k = zero_of_none ws (sym (of_alone ws plain) ∙ subst (λ x. fault_of x ws ≡ []) e (k (subst (λ x. is_simple_and_free x ≡ true) (sym e) alone_is_simple)))

pub none_err : (a : App) (ws : List (List ℕ)) (kind : ErrorKind) → a ≡ alone_app → list_all is_plain ws ≡ true → (is_simple_and_free a ≡ true → (kind ≡ OutOfMemory) ⊎ IsAmong kind (fault_of a ws)) → (kind ≡ OutOfMemory → ⊥) → length ws ≡ 0 → ⊥
none_err a ws kind e plain k other =
    none_of_zero ws kind (subst (IsAmong kind) (of_alone ws plain) (has_fault kind (fault_of alone_app ws) (subst (λ x. (kind ≡ OutOfMemory) ⊎ IsAmong kind (fault_of x ws)) e (k (subst (λ x. is_simple_and_free x ≡ true) (sym e) alone_is_simple))) other))
