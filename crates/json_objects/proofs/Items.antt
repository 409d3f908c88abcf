-- The tokens of a list are those of its items.
use Rattle.std.proofs.Common.{◌≡◌, List, [], ◌∷◌, ◌++◌, Result, Ok, Err, OnOk, refl, ◌∙◌, ap, append_assoc}
use Rattle.json.specs.Token.{Token, begin_array, end_array}
use Rattle.json.specs.Tree.{items_tokens}
use Rattle.serde_json.specs.Data.{Data, array}
use Rattle.serde_json.specs.View.{items_of}
use Rattle.serde_json.specs.Written.{items_outline}
use Rattle.json_objects.specs.Tokens.{tokens_of, values_after}

items_ordered : (values : List Data) (ts : List Token) → values_after ts values ++ end_array ∷ [] ≡ ts ++ items_tokens (items_outline (items_of values))
unfolding tokens_of
items_ordered [] ts = refl
items_ordered (v ∷ values) ts = items_ordered values (ts ++ tokens_of v) ∙ append_assoc ts (tokens_of v) (items_tokens (items_outline (items_of values)))

pub array_tokens : (ts : List Token) (values : List Data) → values_after (ts ++ begin_array ∷ []) values ++ end_array ∷ [] ≡ ts ++ tokens_of (array (items_of values))
unfolding tokens_of
array_tokens ts values = items_ordered values (ts ++ begin_array ∷ []) ∙ append_assoc ts (begin_array ∷ []) (items_tokens (items_outline (items_of values)))

pub list_ends : {E : Type 0} (r : Result (Unit {0}) E) (old new before : List Token) (values : List Data) → OnOk r (new ≡ old ++ end_array ∷ []) → old ≡ values_after (before ++ begin_array ∷ []) values
    → OnOk r (new ≡ before ++ tokens_of (array (items_of values)))
list_ends (Ok x) old new before values ends is = ends ∙ ap (λ (ts : List Token). ts ++ end_array ∷ []) is ∙ array_tokens before values
list_ends (Err e) old new before values ends is = tt
