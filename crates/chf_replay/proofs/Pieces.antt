-- How the entries of a list of commands fall apart.
use Rattle.std.proofs.Common.{arith, ◌≡◌, ◌∙◌, ℕ, List, [], ◌∷◌, ◌++◌, ◌+◌, ◌⊎◌, inl, inr, All, length, refl, sym, ap, subst}
use Rattle.std.proofs.lemmas.List.Elements.{All-tail}
use Rattle.std.proofs.lemmas.List.{append-nil, append_assoc, length_push}
use Rattle.chf_core.specs.declared.command.Command.{Command}
use Rattle.chf_core.specs.After.{IsHistory}
use Rattle.chf_payloads.specs.Payloads.{ReadsBack}
use Rattle.chf_payloads.specs.Written.{payload_of}
use Rattle.chf_replay.specs.Entries.{payloads_of, AreEntriesOf}

-- ---- lists

pub no_push : {X : Type 0} (ys : List X) (y : X) → [] ≡ ys ++ y ∷ [] → ⊥
no_push [] y e = cc
no_push (b ∷ ys) y e = cc

pub pushes_same : {X : Type 0} (xs ys : List X) (x y : X) → xs ++ x ∷ [] ≡ ys ++ y ∷ [] → (xs ≡ ys) × (x ≡ y)
pushes_same [] [] x y e = (refl, cc)
pushes_same [] (b ∷ ys) x y e = absurd (let tails : [] ≡ ys ++ y ∷ [] = cc in no_push ys y tails)
pushes_same (a ∷ xs) [] x y e = absurd (let tails : [] ≡ xs ++ x ∷ [] = cc in no_push xs x tails)
pushes_same (a ∷ xs) (b ∷ ys) x y e =
    let tails : xs ++ x ∷ [] ≡ ys ++ y ∷ [] = cc in
    let heads : a ≡ b = cc in
    let rest = pushes_same xs ys x y tails in
    ((λ i. heads i ∷ rest.0 i), rest.1)

-- a list is empty, or has a last element
abbrev IsPushed : {X : Type 0} → List X → Type 0
IsPushed {X} xs = (xs ≡ []) ⊎ ((ys : List X) × (y : X) × (xs ≡ ys ++ y ∷ []))

pushed_more : {X : Type 0} (x : X) (xs : List X) → IsPushed xs → IsPushed (x ∷ xs)
pushed_more x xs (inl none) = inr ([], x, ap (λ t. x ∷ t) none)
pushed_more x xs (inr last) = inr (x ∷ last.0, last.1, ap (λ t. x ∷ t) last.2)

pushed : {X : Type 0} (xs : List X) → IsPushed xs
pushed [] = inl refl
pushed (x ∷ xs) = pushed_more x xs (pushed xs)

-- ---- the commands of the first entries

came : (later before : List Command) → IsHistory (later ++ before) → IsHistory before
came [] before h = h
came (c ∷ later) before h = came later before h.1.1

read : (later before : List Command) → All ReadsBack (later ++ before) → All ReadsBack before
read [] before h = h
read (c ∷ later) before h = read later before (All-tail ReadsBack c (later ++ before) h)

-- the commands whose payloads the first entries are
abbrev IsCut : List Command → List (List ℕ) → Type 0
IsCut commands first = (later : List Command) × (before : List Command) × (commands ≡ later ++ before) × (payloads_of before ≡ first)

cut_by : (c : Command) (before : List Command) (first more : List (List ℕ)) → payloads_of (c ∷ before) ≡ first ++ more
    → ((more : List (List ℕ)) → payloads_of before ≡ first ++ more → IsCut before first) → IsPushed more → IsCut (c ∷ before) first
cut_by c before first more e cut (inl none) = ([], c ∷ before, refl, e ∙ ap (λ t. first ++ t) none ∙ append-nil first)
cut_by c before first more e cut (inr last) =
    let here = pushes_same (payloads_of before) (first ++ last.0) (payload_of c) last.1 (e ∙ ap (λ t. first ++ t) last.2 ∙ sym (append_assoc first last.0 (last.1 ∷ []))) in
    let of_before = cut last.0 here.0 in
    (c ∷ of_before.0, of_before.1, ap (λ t. c ∷ t) of_before.2, of_before.3)

cut : (commands : List Command) (first more : List (List ℕ)) → payloads_of commands ≡ first ++ more → IsCut commands first
cut [] [] more e = ([], [], refl, refl)
cut [] (x ∷ first) more e = absurd cc
cut (c ∷ before) first more e = cut_by c before first more e (cut before first) (pushed more)

pub split : (commands : List Command) (first more : List (List ℕ)) → AreEntriesOf commands (first ++ more)
    → (later : List Command) × (before : List Command) × (commands ≡ later ++ before) × AreEntriesOf before first
split commands first more are =
    let parts = cut commands first more are.payloads in (
      parts.0,
      parts.1,
      parts.2,
      record {
        came = came parts.0 parts.1 (subst (λ (t : List Command). IsHistory t) parts.2 are.came);
        read_back = read parts.0 parts.1 (subst (λ (t : List Command). All ReadsBack t) parts.2 are.read_back);
        payloads = parts.3;
      },
    )

-- as many entries as commands
pub as_many : (commands : List Command) → length (payloads_of commands) ≡ length commands
as_many [] = refl
as_many (c ∷ before) = let counted : length before + 1 ≡ length (c ∷ before) = grind arith in length_push (payloads_of before) (payload_of c) ∙ ap (λ n. n + 1) (as_many before) ∙ counted
