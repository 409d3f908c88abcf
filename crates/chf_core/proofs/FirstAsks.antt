-- What groups ask, by the entries before a place and from there on.
use Rattle.std.proofs.Common.{◌≡◌, ℕ, ◌+◌, ◌<◌, ◌==◌, ◌&&◌, ◌||◌, Bool, not, true, false, cond, if◌then◌else◌, List, [], ◌∷◌, ◌++◌, length, take, drop, refl, sym, ap, ◌∙◌, subst, is_some, Option, None, zero, suc}
use Rattle.std.proofs.Math.ListN.{get_or}
use Rattle.std.proofs.lemmas.List.{take_more, drop_more, append_assoc}
use Rattle.std.proofs.lemmas.List.Folds.{list_any-append}
use Rattle.units.specs.declared.request.Ask.{Ask}
use Rattle.units.specs.declared.request.UnitUsage.{UnitUsage}
use Rattle.chf_core.specs.declared.target.GroupAsk.{GroupAsk}
use Rattle.chf_core.specs.Effect.{asking, asks_after, asks_of, first_ask, mentions}

-- a group that was not mentioned before asks what it asks from there on
first_at : (g i : ℕ) (usage : List UnitUsage) → mentions (take i usage) g ≡ false → first_ask g (drop i usage) ≡ first_ask g usage
first_at g i [] e = by i
  where
    by : (i : ℕ) → first_ask g (drop i []) ≡ None
    by zero = refl
    by (suc i) = refl
first_at g zero (u ∷ usage) e = refl
first_at g (suc i) (u ∷ usage) e = by (u.group == g) e (first_at g i usage)
  where
    by : (v : Bool) → (v || mentions (take i usage) g) ≡ false → (mentions (take i usage) g ≡ false → first_ask g (drop i usage) ≡ first_ask g usage)
        → first_ask g (drop i usage) ≡ cond (v && is_some u.ask) u.ask (first_ask g usage)
    by true e more = absurd (cc)
    by false e more = more e

-- the entry at a place, between those before it and those behind it
split_at : (usage : List UnitUsage) (i : ℕ) (u : UnitUsage) → i < length usage → u ≡ get_or usage i u
    → (take (i + 1) usage ≡ take i usage ++ u ∷ []) × (drop i usage ≡ u ∷ drop (i + 1) usage)
split_at usage i u within at = (
  subst (λ k. take (i + 1) usage ≡ take i usage ++ k ∷ []) (sym at) (take_more usage i u within),
  subst (λ k. drop i usage ≡ k ∷ drop (i + 1) usage) (sym at) (drop_more usage i u within),
)

-- which groups were mentioned, with one entry more
pub mentions_more : (usage : List UnitUsage) (i : ℕ) (u : UnitUsage) → i < length usage → u ≡ get_or usage i u
    → (g : ℕ) → mentions (take (i + 1) usage) g ≡ cond (u.group == g) true (mentions (take i usage) g)
mentions_more usage i u within at g =
    ap (λ k. mentions k g) (split_at usage i u within at).0 ∙ list_any-append (λ v. v.group == g) (take i usage) (u ∷ []) ∙ by (mentions (take i usage) g) (u.group == g)
  where
    by : (a b : Bool) → (a || (b || false)) ≡ cond b true a
    by true true = refl
    by true false = refl
    by false true = refl
    by false false = refl

-- what asks from a place on, the entry there first
asks_more : (usage : List UnitUsage) (i : ℕ) (u : UnitUsage) → i < length usage → u ≡ get_or usage i u
    → asks_after (take i usage) (drop i usage) ≡ (if mentions (take i usage) u.group then [] else asking u.group (first_ask u.group (drop i usage))) ++ asks_after (take (i + 1) usage) (drop (i + 1) usage)
asks_more usage i u within at =
    subst (λ k. asks_after (take i usage) (drop i usage) ≡ (if mentions (take i usage) u.group then [] else asking u.group (first_ask u.group (drop i usage))) ++ asks_after k (drop (i + 1) usage))
    (sym (split_at usage i u within at).0)
    (subst (λ k. asks_after (take i usage) k ≡ (if mentions (take i usage) u.group then [] else asking u.group (first_ask u.group k)) ++ asks_after (take i usage ++ u ∷ []) (drop (i + 1) usage))
    (sym (split_at usage i u within at).1) refl)

-- the groups that ask up to a place and from there on, one entry on
pub asking_next : (asks : List GroupAsk) (usage : List UnitUsage) (i : ℕ) (u : UnitUsage) (first : Option Ask) → i < length usage → u ≡ get_or usage i u
    → mentions (take i usage) u.group ≡ false → first ≡ first_ask u.group usage → asks ++ asks_after (take i usage) (drop i usage) ≡ asks_of usage
    → (asks ++ asking u.group first) ++ asks_after (take (i + 1) usage) (drop (i + 1) usage) ≡ asks_of usage
asking_next asks usage i u first within at new is before =
    append_assoc asks (asking u.group first) (asks_after (take (i + 1) usage) (drop (i + 1) usage))
    ∙ ap (λ k. asks ++ (asking u.group k ++ asks_after (take (i + 1) usage) (drop (i + 1) usage))) (is ∙ sym (first_at u.group i usage new))
    ∙ ap (λ k. asks ++ k) (sym (subst (λ v. asks_after (take i usage) (drop i usage) ≡ (if v then [] else asking u.group (first_ask u.group (drop i usage))) ++ asks_after (take (i + 1) usage) (drop (i + 1) usage)) new (asks_more usage i u within at)))
    ∙ before

-- the same where the group was mentioned before
pub mentioned_next : (asks : List GroupAsk) (usage : List UnitUsage) (i : ℕ) (u : UnitUsage) → i < length usage → u ≡ get_or usage i u
    → mentions (take i usage) u.group ≡ true → asks ++ asks_after (take i usage) (drop i usage) ≡ asks_of usage
    → asks ++ asks_after (take (i + 1) usage) (drop (i + 1) usage) ≡ asks_of usage
mentioned_next asks usage i u within at old before =
    ap (λ k. asks ++ k) (sym (subst (λ v. asks_after (take i usage) (drop i usage) ≡ (if v then [] else asking u.group (first_ask u.group (drop i usage))) ++ asks_after (take (i + 1) usage) (drop (i + 1) usage)) old (asks_more usage i u within at)))
    ∙ before

-- what a test says of its opposite
pub opposite : (v m b : Bool) → v ≡ not m → v ≡ b → m ≡ not b
opposite v true b e f = ap not (sym e ∙ f)
opposite v false b e f = ap not (sym e ∙ f)
