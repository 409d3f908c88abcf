-- The first item after the setup that is not accepted, found item by item.
use Rattle.std.proofs.Common.{◌≡◌, ◌+◌, ◌&&◌, not, ℕ, suc, Bool, true, false, List, ◌∷◌, drop, Some, if◌then◌else◌, refl, sym, ap, ◌∙◌, arith}
use Rattle.charging.specs.declared.item.Item.{Item}
use Rattle.charging.specs.Accepted.{bad_from, first_bad, is_accepted, is_setup, setup_length}

-- an item that does not belong to the setup
past_setup : (here there : ℕ) (items : List Item) (accepted : Bool) → there ≡ here
    → (if accepted then first_bad (there + 1) items else Some there) ≡ (if not accepted then Some here else first_bad (here + 1) items)
past_setup here there items true e = ap (λ k. first_bad (k + 1) items) e
past_setup here there items false e = ap Some e

-- an item while all before it belong to the setup
in_setup : (here : ℕ) (item : Item) (items : List Item) (belongs : Bool) (size : ℕ) → size ≡ (if belongs then setup_length items + 1 else 0)
    → first_bad (size + here) (drop size (item ∷ items)) ≡ (if not belongs && not (is_accepted item) then Some here else bad_from belongs (here + 1) items)
in_setup here item items true size e =
    let n = setup_length items in
    let more : size ≡ suc n = omega (arith, e) in
    let same : suc n + here ≡ n + (here + 1) = omega arith in
    rw more (ap (λ k. first_bad k (drop n items)) same)
in_setup here item items false size e = rw e (past_setup here (0 + here) items (is_accepted item) (omega arith))

pub bad_step : (b : Bool) (here : ℕ) (item : Item) (items : List Item)
    → bad_from b here (item ∷ items) ≡ (if not (b && is_setup item) && not (is_accepted item) then Some here else bad_from (b && is_setup item) (here + 1) items)
bad_step true here item items = in_setup here item items (is_setup item) (setup_length (item ∷ items)) refl
bad_step false here item items = past_setup here here items (is_accepted item) refl

-- the item is bad
pub bad_here : (b : Bool) (here : ℕ) (item : Item) (items : List Item) (bad : Bool) → bad ≡ (not (b && is_setup item) && not (is_accepted item)) → bad ≡ true
    → bad_from b here (item ∷ items) ≡ Some here
bad_here b here item items bad is holds =
    bad_step b here item items ∙ ap (λ k. if k then Some here else bad_from (b && is_setup item) (here + 1) items) (sym is ∙ holds)

-- it is not
pub bad_later : (b : Bool) (here : ℕ) (item : Item) (items : List Item) (bad : Bool) → bad ≡ (not (b && is_setup item) && not (is_accepted item)) → bad ≡ false
    → bad_from b here (item ∷ items) ≡ bad_from (b && is_setup item) (here + 1) items
bad_later b here item items bad is fails =
    bad_step b here item items ∙ ap (λ k. if k then Some here else bad_from (b && is_setup item) (here + 1) items) (sym is ∙ fails)
