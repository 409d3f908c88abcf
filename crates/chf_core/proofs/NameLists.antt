-- Names and their numbers: one more name, and what a table of texts keeps.
use Rattle.std.proofs.Common.{◌≡◌, ◌<◌, ℕ, suc, ◌+◌, ◌||◌, Bool, true, false, cond, List, [], ◌∷◌, ◌++◌, length, map, reverse, slice_get, Option, Some, None, option_map, refl, sym, ap, ◌∙◌, string_bytes, arith}
use Rattle.std.specs.declared.alloc.Global.{Global}
use Rattle.std.specs.Prelude.{String}
use Rattle.std.specs.HashMap.{HashMap, get, get_by_text}
use Rattle.std.specs.Map.{lookup}
use Rattle.std.specs.Cmp.Lexicographic.{bytes_decides, nat_list_eq_equiv}
use Rattle.std.specs.List.{list_any, position, position_from}
use Rattle.std.specs.Option.{option_or}
use Rattle.std.proofs.lemmas.Iterator.Adapters.{position_from-zero}
use Rattle.std.specs.String.{string_eq}
use Rattle.std.proofs.lemmas.Map.Entries.{place_from_lookup}
use Rattle.std.proofs.lemmas.Map.Text.{is_text, hash_map_text_same}
use Rattle.std.proofs.lemmas.List.{reverse-append, reverse-reverse, length-reverse, map-append, length-map}
use Rattle.std.proofs.lemmas.Option.{slice_get-map}
use Rattle.chf_core.specs.Operator.{name_eq, number_in, with_name}
use Rattle.chf_core.specs.NamesKept.{is_name}
use Rattle.chf_core.proofs.Named.{same_name}

pub seen_push : (ts : List (String Global)) (t : String Global) → reverse (map string_bytes (ts ++ t ∷ [])) ≡ string_bytes t ∷ reverse (map string_bytes ts)
seen_push ts t = ap reverse (map-append string_bytes ts (t ∷ [])) ∙ reverse-append (map string_bytes ts) (string_bytes t ∷ [])

pub seen_length : (ts : List (String Global)) → length (reverse (map string_bytes ts)) ≡ length ts
seen_length ts = length-reverse (map string_bytes ts) ∙ (simp length-map)

-- the place of a text among those that came is the number of its name
from_push : {X : Type 0} (t : X → Bool) (i : ℕ) (xs : List X) (y : X) → position_from t i (xs ++ y ∷ []) ≡ option_or (position_from t i xs) (cond (t y) (Some (i + length xs)) None)
from_push t i [] y = ap (λ n. cond (t y) (Some n) None) (let e : i ≡ i + 0 = omega arith in e)
from_push t i (x ∷ xs) y = by_test (t x) (from_push t (i + 1) xs y)
  where
    next : i + 1 + length xs ≡ i + suc (length xs)
    next = omega arith

    by_test : (b : Bool) → position_from t (i + 1) (xs ++ y ∷ []) ≡ option_or (position_from t (i + 1) xs) (cond (t y) (Some (i + 1 + length xs)) None)
        → cond b (Some i) (position_from t (i + 1) (xs ++ y ∷ [])) ≡ option_or (cond b (Some i) (position_from t (i + 1) xs)) (cond (t y) (Some (i + suc (length xs))) None)
    by_test true rest = refl
    by_test false rest = rest ∙ ap (λ n. option_or (position_from t (i + 1) xs) (cond (t y) (Some n) None)) next

place_push : (name : List ℕ) (ts : List (String Global)) (t : String Global) → position (is_name name) (ts ++ t ∷ []) ≡ option_or (position (is_name name) ts) (cond (is_name name t) (Some (length ts)) None)
place_push name ts t =
    position_from-zero (is_name name) (ts ++ t ∷ []) ∙ from_push (is_name name) 0 ts t
    ∙ (λ i. option_or (sym (position_from-zero (is_name name) ts) i) (cond (is_name name t) (Some ((let e : 0 + length ts ≡ length ts = omega arith in e) i)) None))

-- where a name has no number, no text is it
none_from : {X : Type 0} (t : X → Bool) (i : ℕ) (xs : List X) → position_from t i xs ≡ None → list_any t xs ≡ false
none_from t i [] e = refl
none_from t i (x ∷ xs) e = by_test (t x) (none_from t (i + 1) xs) e
  where
    by_test : (b : Bool) → (position_from t (i + 1) xs ≡ None → list_any t xs ≡ false) → cond b (Some i) (position_from t (i + 1) xs) ≡ None → (b || list_any t xs) ≡ false
    by_test true rest w = absurd (cc)
    by_test false rest w = rest w

pub none_is : (name : List ℕ) (ts : List (String Global)) → position (is_name name) ts ≡ None → list_any (is_name name) ts ≡ false
none_is name ts e = none_from (is_name name) 0 ts (sym (position_from-zero (is_name name) ts) ∙ e)

-- with one more, which was no name before
pub numbered_push : (ts : List (String Global)) (t : String Global)
    → ((name : List ℕ) → position (is_name name) ts ≡ number_in (reverse (map string_bytes ts)) name)
    → number_in (reverse (map string_bytes ts)) (string_bytes t) ≡ None
    → (name : List ℕ) → position (is_name name) (ts ++ t ∷ []) ≡ number_in (reverse (map string_bytes (ts ++ t ∷ []))) name
numbered_push ts t at none name =
    place_push name ts t ∙ (λ i. option_or (at name i) (cond (turn i) (Some (sym (seen_length ts) i)) None))
    ∙ by_test (name_eq (string_bytes t) name) refl (number_in (reverse (map string_bytes ts)) name) refl
    ∙ ap (λ (l : List (List ℕ)). number_in l name) (sym (seen_push ts t))
  where
    turn : is_name name t ≡ name_eq (string_bytes t) name
    turn = nat_list_eq_equiv.symm name (string_bytes t)

    known : List (List ℕ)
    known = reverse (map string_bytes ts)

    by_test : (b : Bool) → name_eq (string_bytes t) name ≡ b → (o : Option ℕ) → number_in known name ≡ o
        → option_or o (cond b (Some (length known)) None) ≡ cond b (Some (length known)) o
    by_test true e None w = refl
    by_test true e (Some n) w = absurd (let z : Some n ≡ None = sym w ∙ ap (number_in known) (sym (same_name (string_bytes t) name e)) ∙ none in cc)
    by_test false e None w = refl
    by_test false e (Some n) w = refl

pub names_at : (ts : List (String Global)) (i : ℕ) → option_map string_bytes (slice_get ts i) ≡ slice_get (reverse (reverse (map string_bytes ts))) i
names_at ts i = sym (slice_get-map string_bytes ts i) ∙ ap (λ (l : List (List ℕ)). slice_get l i) (sym (reverse-reverse (map string_bytes ts)))

-- tables that agree at each key agree at each text
pub same_text : {X S : Type 0} (m n : HashMap (String Global) X S) → ((q : String Global) → get string_eq n q ≡ get string_eq m q) → (cs : List ℕ) → get_by_text n cs ≡ get_by_text m cs
same_text {X} {S} m n h cs = by_case (get_by_text n cs) refl (get_by_text m cs) refl
  where
    at : (es : List (String Global × X)) (v : X) → lookup (is_text cs) es ≡ Some v → get_by_text n cs ≡ get_by_text m cs
    at es v e =
        let p = place_from_lookup (is_text cs) es v e in
        let k = p.1 in
        let b : cs ≡ string_bytes k = same_name cs (string_bytes k) p.3 in
        sym (hash_map_text_same k cs n.entries b).0 ∙ h k ∙ (hash_map_text_same k cs m.entries b).0

    by_case : (a : Option X) → get_by_text n cs ≡ a → (b : Option X) → get_by_text m cs ≡ b → get_by_text n cs ≡ get_by_text m cs
    by_case (Some v) e b f = at n.entries v e
    by_case None e (Some v) f = at m.entries v f
    by_case None e None f = e ∙ sym f

-- each number is below how many names there are
pub number_below : (ns : List (List ℕ)) (a : List ℕ) (n : ℕ) → number_in ns a ≡ Some n → n < length ns
number_below [] a n e = absurd (cc)
number_below (x ∷ ns) a n e = by_test (name_eq x a) (number_below ns a n) e
  where
    by_test : (b : Bool) → (number_in ns a ≡ Some n → n < length ns) → cond b (Some (length ns)) (number_in ns a) ≡ Some n → n < suc (length ns)
    by_test true r w = let z : length ns ≡ n = cc in omega arith
    by_test false r w = let z = r w in omega arith

-- and no two names have one
pub number_one : (ns : List (List ℕ)) (a b : List ℕ) (n : ℕ) → number_in ns a ≡ Some n → number_in ns b ≡ Some n → a ≡ b
number_one [] a b n e f = absurd (cc)
number_one (x ∷ ns) a b n e f = by_tests (name_eq x a) (name_eq x b) refl refl (number_one ns a b n) e f
  where
    by_tests : (s t : Bool) → name_eq x a ≡ s → name_eq x b ≡ t → (number_in ns a ≡ Some n → number_in ns b ≡ Some n → a ≡ b)
        → cond s (Some (length ns)) (number_in ns a) ≡ Some n → cond t (Some (length ns)) (number_in ns b) ≡ Some n → a ≡ b
    by_tests true true s t r v w = sym (same_name x a s) ∙ same_name x b t
    by_tests true false s t r v w = let z : length ns ≡ n = cc in let y = number_below ns b n w in absurd (omega arith)
    by_tests false true s t r v w = let z : length ns ≡ n = cc in let y = number_below ns a n v in absurd (omega arith)
    by_tests false false s t r v w = r v w

pub itself : (a : List ℕ) → name_eq a a ≡ true
itself a = (bytes_decides a a).1 refl

-- a name has a number once it is added
pub number_of : (ns : List (List ℕ)) (a : List ℕ) → number_in ns a ≡ None → number_in (a ∷ ns) a ≡ Some (length ns)
number_of ns a e = ap (λ b. cond b (Some (length ns)) (number_in ns a)) (itself a)

pub with_new : (ns : List (List ℕ)) (a : List ℕ) → number_in ns a ≡ None → with_name ns a (number_in ns a) ≡ a ∷ ns
with_new ns a e = ap (with_name ns a) e

pub with_known : (ns : List (List ℕ)) (a : List ℕ) (n : ℕ) → number_in ns a ≡ Some n → with_name ns a (number_in ns a) ≡ ns
with_known ns a n e = ap (with_name ns a) e
