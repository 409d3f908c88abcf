-- Subscriptions watch an account exactly where they are live.
use Rattle.std.proofs.Common.{◌≡◌, ◌-◌, ◌<◌, ◌≤◌, ℕ, zero, suc, true, List, [], ◌∷◌, ◌++◌, length, slice_get, Option, Some, None, is_some, refl, sym, subst, ◌∙◌, arith}
use Rattle.std.proofs.Math.ListN.{set}
use Rattle.std.proofs.lemmas.Bool.{false≢true}
use Rattle.units.specs.declared.spending.SpendContext.{SpendContext}
use Rattle.counters.specs.Subscriptions.{where_made, is_live}
use Rattle.notices.specs.Caches.{AreAligned}

pub aligned_length : (contexts : List (Option SpendContext)) (accounts : List (Option ℕ)) → AreAligned contexts accounts → length contexts ≡ length accounts
aligned_length [] [] h = refl
aligned_length [] (a ∷ accounts) h = absurd h
aligned_length (c ∷ contexts) [] h = absurd h
aligned_length (c ∷ contexts) (a ∷ accounts) h = let rest = aligned_length contexts accounts h.1 in omega arith

pub aligned_push : (contexts : List (Option SpendContext)) (accounts : List (Option ℕ)) (context : SpendContext) (account : ℕ) → AreAligned contexts accounts
    → AreAligned (contexts ++ Some context ∷ []) (accounts ++ Some account ∷ [])
aligned_push [] [] context account h = (refl, tt)
aligned_push [] (a ∷ accounts) context account h = absurd h
aligned_push (c ∷ contexts) [] context account h = absurd h
aligned_push (c ∷ contexts) (a ∷ accounts) context account h = (h.0, aligned_push contexts accounts context account h.1)

-- a subscription ends
pub aligned_end : (contexts : List (Option SpendContext)) (accounts : List (Option ℕ)) (i : ℕ) → AreAligned contexts accounts → AreAligned (set contexts i None) (set accounts i None)
aligned_end [] [] i h = tt
aligned_end [] (a ∷ accounts) i h = absurd h
aligned_end (c ∷ contexts) [] i h = absurd h
aligned_end (c ∷ contexts) (a ∷ accounts) zero h = (refl, h.1)
aligned_end (c ∷ contexts) (a ∷ accounts) (suc i) h = (h.0, aligned_end contexts accounts i h.1)

-- one that is live has another context
pub aligned_context : (contexts : List (Option SpendContext)) (accounts : List (Option ℕ)) (i : ℕ) (context : SpendContext) → is_some (where_made (slice_get contexts i)) ≡ true
    → AreAligned contexts accounts → AreAligned (set contexts i (Some context)) accounts
aligned_context [] [] i context live h = tt
aligned_context [] (a ∷ accounts) i context live h = absurd h
aligned_context (c ∷ contexts) [] i context live h = absurd h
aligned_context (c ∷ contexts) (a ∷ accounts) zero context live h = (sym live ∙ h.0, h.1)
aligned_context (c ∷ contexts) (a ∷ accounts) (suc i) context live h = (h.0, aligned_context contexts accounts i context live h.1)

-- one that is live watches another account
pub aligned_account : (contexts : List (Option SpendContext)) (accounts : List (Option ℕ)) (i account : ℕ) → is_some (where_made (slice_get contexts i)) ≡ true
    → AreAligned contexts accounts → AreAligned contexts (set accounts i (Some account))
aligned_account [] [] i account live h = tt
aligned_account [] (a ∷ accounts) i account live h = absurd h
aligned_account (c ∷ contexts) [] i account live h = absurd h
aligned_account (c ∷ contexts) (a ∷ accounts) zero account live h = (live, h.1)
aligned_account (c ∷ contexts) (a ∷ accounts) (suc i) account live h = (h.0, aligned_account contexts accounts i account live h.1)

none_live : (contexts : List (Option SpendContext)) (i : ℕ) → is_some (where_made (slice_get contexts i)) ≡ true → i < length contexts
none_live [] i live = absurd (false≢true live)
none_live (c ∷ contexts) zero live = omega arith
none_live (c ∷ contexts) (suc i) live = let rest = none_live contexts i live in omega arith

-- the place of a live subscription
pub record HasPlace (contexts : List (Option SpendContext)) (id : ℕ) : Type 0 where
  pub some : 0 < id
  pub made : id ≤ length contexts
  pub live : is_some (where_made (slice_get contexts (id - 1))) ≡ true

pub live_place : (contexts : List (Option SpendContext)) (id : ℕ) → is_live contexts id ≡ true → HasPlace contexts id
live_place contexts zero live = absurd (false≢true live)
live_place contexts (suc i) live =
    let within = none_live contexts i live in
    let e : i ≡ suc i - 1 = omega arith in
    record {
      some = omega arith;
      made = omega arith;
      live = subst (λ n. is_some (where_made (slice_get contexts n)) ≡ true) e live;
    }
