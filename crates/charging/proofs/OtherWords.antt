-- Words that are no command's.
use Rattle.std.proofs.Common.{◌≡◌, ◌≢◌, ◌==◌, ◌&&◌, ℕ, Bool, true, false, not, List, [], ◌∷◌, length, refl, sym, subst, Option, Some, None, if◌then◌else◌, arith, codes, ◌^◌}
use Rattle.std.specs.List.{list_all}
use Rattle.std.specs.Option.{option_and_then}
use Rattle.std.specs.Str.{bytes_eq}
use Rattle.std.proofs.lemmas.Bool.Decides.{nat_tests}
use Rattle.rows.specs.Number.{number_of}
use Rattle.charging.specs.declared.words.Prices.{Prices}
use Rattle.charging.specs.declared.words.Task.{Task}
use Rattle.charging.specs.declared.words.Task.TheVariants.{Operator, Answer}
use Rattle.charging.specs.Parsing.{is_plain}
use Rattle.charging.specs.Words.{alone, meter_words, prices_of, task_by}

-- `meter` takes three words
pub not_three : (words : List (List ℕ)) → length words ≢ 3 → meter_words words ≡ None
not_three [] h = refl
not_three (a ∷ []) h = refl
not_three (a ∷ b ∷ []) h = refl
not_three (a ∷ b ∷ c ∷ []) h = absurd (h refl)
not_three (a ∷ b ∷ c ∷ d ∷ rest) h = refl

pub not_none : (task : Task) (words : List (List ℕ)) → length words ≢ 0 → alone task words ≡ None
not_none task [] h = absurd (h refl)
not_none task (word ∷ words) h = refl

pub is_none : (task : Task) (words : List (List ℕ)) → length words ≡ 0 → alone task words ≡ Some task
is_none task [] h = refl
is_none task (word ∷ words) h = absurd (omega arith)

-- a word that begins with a hyphen is no numeral
hyphen : (most : ℕ) (word : List ℕ) → is_plain word ≡ false → number_of most word ≡ None
hyphen most [] h = absurd (cc)
hyphen most (b ∷ word) h = let same : b ≡ 45 = by (b == 45) refl h in subst (λ (k : ℕ). number_of most (k ∷ word) ≡ None) (sym same) (other word)
  where
    by : (v : Bool) → (b == 45) ≡ v → not v ≡ false → b ≡ 45
    by true e q = grind (arith, nat_tests, e)
    by false e q = absurd (cc)

    other : (word : List ℕ) → number_of most (45 ∷ word) ≡ None
    other [] = refl
    other (c ∷ word) = refl

no_prices : (up down seconds : List ℕ) → list_all is_plain (up ∷ down ∷ seconds ∷ []) ≡ false → prices_of up down seconds ≡ None
no_prices up down seconds h = by (is_plain up) (is_plain down) (is_plain seconds) refl refl refl h
  where
    by : (a b c : Bool) → is_plain up ≡ a → is_plain down ≡ b → is_plain seconds ≡ c → (a && (b && (c && true))) ≡ false → prices_of up down seconds ≡ None
    by false b c u d s h = rw (hyphen (2 ^ 32) up u) refl
    by true false c u d s h = rw (hyphen (2 ^ 32) down d) (nothing (number_of (2 ^ 32) up))
      where
        nothing : (o : Option ℕ) → ◌≡◌ {A = Option Prices} (option_and_then (λ (n : ℕ). None) o) None
        nothing None = refl
        nothing (Some n) = refl
    by true true false u d s h = rw (hyphen (2 ^ 32) seconds s) (nothing (number_of (2 ^ 32) up) (number_of (2 ^ 32) down))
      where
        nothing : (o p : Option ℕ) → ◌≡◌ {A = Option Prices} (option_and_then (λ (n : ℕ). option_and_then (λ (m : ℕ). None) p) o) None
        nothing None p = refl
        nothing (Some n) None = refl
        nothing (Some n) (Some m) = refl
    by true true true u d s h = absurd (cc)

not_meter : (words : List (List ℕ)) → list_all is_plain words ≡ false → meter_words words ≡ None
not_meter [] h = absurd (cc)
not_meter (a ∷ []) h = refl
not_meter (a ∷ b ∷ []) h = refl
not_meter (a ∷ b ∷ c ∷ []) h = no_prices a b c h
not_meter (a ∷ b ∷ c ∷ d ∷ rest) h = refl

not_alone : (task : Task) (words : List (List ℕ)) → list_all is_plain words ≡ false → alone task words ≡ None
not_alone task [] h = absurd (cc)
not_alone task (word ∷ words) h = refl

-- no command has a word after it that begins with a hyphen
pub not_plain : (command : List ℕ) (words : List (List ℕ)) → list_all is_plain words ≡ false → task_by command words ≡ None
not_plain command words h =
    rw (not_meter words h, not_alone Operator words h, not_alone Answer words h) (by (bytes_eq command (codes "meter")) (bytes_eq command (codes "operator")) (bytes_eq command (codes "answer")))
  where
    by : (a b c : Bool) → ◌≡◌ {A = Option Task} (if a then None else (if b then None else (if c then None else None))) None
    by true b c = refl
    by false true c = refl
    by false false true = refl
    by false false false = refl

pub ruleset other_words = (not_three, not_none, is_none, not_plain)
