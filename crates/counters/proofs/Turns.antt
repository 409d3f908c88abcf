-- One counter more of those that are watched.
use Rattle.std.proofs.Common.{◌≡◌, ℕ, ◌+◌, ◌<◌, Bool, true, false, cond, List, [], ◌∷◌, ◌++◌, length, get_or, take, Option, Some, None, sym, ap, ◌∙◌, append-nil}
use Rattle.std.specs.List.{filter, filter_map, cons_option}
use Rattle.std.proofs.lemmas.List.Elements.{filter_map-append, filter_more}

one_more : {X Y : Type 0} (f : X → Option Y) (p : X → Bool) (xs : List X) (at : ℕ) (d : X) → at < length xs
    → filter_map f (filter p (take (at + 1) xs)) ≡ filter_map f (filter p (take at xs)) ++ filter_map f (cond (p (get_or xs at d)) (get_or xs at d ∷ []) [])
one_more f p xs at d within = ap (filter_map f) (filter_more p xs at d within) ∙ filter_map-append f (filter p (take at xs)) (cond (p (get_or xs at d)) (get_or xs at d ∷ []) [])

-- one that gives something
pub given : {X Y : Type 0} (f : X → Option Y) (p : X → Bool) (xs : List X) (at : ℕ) (d : X) (y : Y) → at < length xs → p (get_or xs at d) ≡ true → f (get_or xs at d) ≡ Some y
    → filter_map f (filter p (take at xs)) ++ y ∷ [] ≡ filter_map f (filter p (take (at + 1) xs))
given f p xs at d y within pass is =
    sym (one_more f p xs at d within ∙ ap (λ b. filter_map f (filter p (take at xs)) ++ filter_map f (cond b (get_or xs at d ∷ []) [])) pass
    ∙ ap (λ o. filter_map f (filter p (take at xs)) ++ cons_option o []) is)

-- one that gives nothing
pub nothing : {X Y : Type 0} (f : X → Option Y) (p : X → Bool) (xs : List X) (at : ℕ) (d : X) → at < length xs → p (get_or xs at d) ≡ true → f (get_or xs at d) ≡ None
    → filter_map f (filter p (take at xs)) ≡ filter_map f (filter p (take (at + 1) xs))
nothing f p xs at d within pass is =
    sym (one_more f p xs at d within ∙ ap (λ b. filter_map f (filter p (take at xs)) ++ filter_map f (cond b (get_or xs at d ∷ []) [])) pass
    ∙ ap (λ o. filter_map f (filter p (take at xs)) ++ cons_option o []) is ∙ append-nil (filter_map f (filter p (take at xs))))

-- one that is passed over
pub passed : {X Y : Type 0} (f : X → Option Y) (p : X → Bool) (xs : List X) (at : ℕ) (d : X) → at < length xs → p (get_or xs at d) ≡ false
    → filter_map f (filter p (take at xs)) ≡ filter_map f (filter p (take (at + 1) xs))
passed f p xs at d within fail =
    sym (one_more f p xs at d within ∙ ap (λ b. filter_map f (filter p (take at xs)) ++ filter_map f (cond b (get_or xs at d ∷ []) [])) fail ∙ append-nil (filter_map f (filter p (take at xs))))
