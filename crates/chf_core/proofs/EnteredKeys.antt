-- A request that is fresh in a state has a key of its own, which has no place before.
use Rattle.std.proofs.Common.{◌≡◌, ℕ, Bool, true, false, cond, Option, Some, None, refl, sym, ap, ◌∙◌}
use Rattle.std.specs.Option.{option_or}
use Rattle.units.specs.declared.request.Request.{Request}
use Rattle.chf_core.specs.declared.command.Command.TheVariants.{Charge}
use Rattle.chf_core.specs.declared.command.Outcome.{Outcome}
use Rattle.chf_core.specs.declared.decision.Verdict.TheVariants.{Fresh}
use Rattle.chf_core.specs.declared.key.Key.{Key}
use Rattle.chf_core.specs.Keys.{key_eq}
use Rattle.chf_core.specs.Decisions.{last_of, at_kept}
use Rattle.chf_core.specs.State.{State, named_by, key_of, place_of, kept_at}
use Rattle.chf_core.specs.Deciding.{decision, at_key, at_place, is_repeat}
use Rattle.chf_core.proofs.Named.{same_key}

kept_not_fresh : (place last : ℕ) (b : Bool) (o : Outcome) → at_kept place last b ≡ Fresh o → ⊥
kept_not_fresh place last true o e = cc
kept_not_fresh place last false o e = cc

no_place : (s : State) (q : Request) (k : Key) (o : Outcome) → at_key s q (Some k) ≡ Fresh o → place_of s k ≡ None
no_place s q k o = by (place_of s k)
  where
    by : (p : Option ℕ) → at_place s q (named_by q.operation s q) p ≡ Fresh o → p ≡ None
    by None e = refl
    by (Some i) e = absurd (kept_not_fresh i (last_of (named_by q.operation s q)) (is_repeat q (kept_at s i)) o e)

pub fresh_place : (s : State) (q : Request) (k : Key) (o : Outcome) → key_of s q ≡ Some k
    → decision s (Charge q) ≡ Fresh o → place_of s k ≡ None
fresh_place s q k o w d = no_place s q k o (ap (at_key s q) (sym w) ∙ d)

or_none : (p : Option ℕ) → p ≡ option_or p None
or_none None = refl
or_none (Some i) = refl

-- a key that has no place is entered as the first of its requests
pub entered_first : (old : Key → Option ℕ) (j k : Key) (place : ℕ) → old j ≡ None
    → cond (key_eq j k) (Some place) (old k) ≡ option_or (old k) (cond (key_eq j k) (Some place) None)
entered_first old j k place none = elim (key_eq j k) as (λ b. key_eq j k ≡ b
    → cond b (Some place) (old k) ≡ option_or (old k) (cond b (Some place) None)) [
      | true ↦ λ t. sym (ap (λ p. option_or p (Some place)) (ap old (sym (same_key j k t)) ∙ none))
      | false ↦ λ t. or_none (old k)
    ] refl
