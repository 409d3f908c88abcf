-- A run, item by item.
use Rattle.std.proofs.Common.{◌≡◌, ◌++◌, ℕ, List, ◌∷◌, ◌∙◌, ap, sym, append_assoc}
use Rattle.chf_core.specs.State.{State}
use Rattle.charging.specs.declared.item.Item.{Item}
use Rattle.charging.specs.Answering.{after_item, line_of, printed}

-- once an item is answered, what is left goes on as all would have
pub goes_on_printing : (s next : State) (item : Item) (before left : List Item) (out more all : List ℕ) → before ≡ item ∷ left → more ≡ out ++ line_of s item → next ≡ after_item s item
    → out ++ printed s before ≡ all → more ++ printed next left ≡ all
goes_on_printing s next item before left out more all taken line state run =
    ap (λ k. k ++ printed next left) line
    ∙ ap (λ t. (out ++ line_of s item) ++ printed t left) state
    ∙ append_assoc out (line_of s item) (printed (after_item s item) left)
    ∙ ap (λ k. out ++ printed s k) (sym taken)
    ∙ run
