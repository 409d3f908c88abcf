-- Reading a list, an item at a time.
use Rattle.std.proofs.Common.{◌≡◌, ◌<◌, ◌+◌, ℕ, List, [], ◌∷◌, ◌++◌, length, get_or, drop, Option, Some, None, refl, ap, sym, ◌∙◌, append_assoc}
use Rattle.std.proofs.lemmas.List.{at_drop_more}
use Rattle.serde_json.specs.Data.{Data}
use Rattle.serde_json.specs.View.{view, items_view}
use Rattle.serde_json.specs.declared.value.Value.{Value}
use Rattle.json_objects.specs.Fields.{joined, each}

-- what was found, and then the rest
abbrev pub then_more : {T : Type 0} → List T → Option (List T) → Option (List T)
then_more found None = None
then_more found (Some more) = Some (found ++ more)

abbrev pub each_of : {T : Type 0} → (Data → Option T) → List Value → Option (List T)
each_of reads values = each reads (items_view values)

one_more : {T : Type 0} (found : List T) (x : T) (rest : Option (List T)) → then_more found (joined (Some x) rest) ≡ then_more (found ++ x ∷ []) rest
one_more found x None = refl
one_more found x (Some more) = ap Some (sym (append_assoc found (x ∷ []) more))

goes_on : {T : Type 0} (reads : Data → Option T) (values : List Value) (i : ℕ) (d : Value) (found : List T) (x : T) → i < length values → reads (view (get_or values i d)) ≡ Some x
    → each_of reads values ≡ then_more found (each_of reads (drop i values)) → each_of reads values ≡ then_more (found ++ x ∷ []) (each_of reads (drop (i + 1) values))
goes_on reads values i d found x lt is h =
    h ∙ ap (then_more found) (at_drop_more (each_of reads) values i d lt ∙ ap (λ r. joined r (each_of reads (drop (i + 1) values))) is) ∙ one_more found x (each_of reads (drop (i + 1) values))

-- a loop's step, which pushes what the item reads as
pub pushes : {T : Type 0} (reads : Data → Option T) (values : List Value) (i : ℕ) (d : Value) (found new : List T) (o : Option T) (x : T) → i < length values → d ≡ get_or values i d → o ≡ reads (view d) → o ≡ Some x → new ≡ found ++ x ∷ []
    → each_of reads values ≡ then_more found (each_of reads (drop i values)) → each_of reads values ≡ then_more new (each_of reads (drop (i + 1) values))
pushes reads values i d found new o x lt here is some pushed h =
    goes_on reads values i d found x lt (ap (λ v. reads (view v)) (sym here) ∙ sym is ∙ some) h
    ∙ ap (λ xs. then_more xs (each_of reads (drop (i + 1) values))) (sym pushed)
