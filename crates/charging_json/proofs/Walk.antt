-- Reading a list, an item at a time.
use Rattle.std.proofs.Common.{◌≡◌, ◌<◌, ◌≤◌, ◌+◌, ℕ, List, [], ◌∷◌, ◌++◌, length, get_or, drop, Option, Some, None, refl, ap, sym, ◌∙◌, append_assoc, append-nil, nat_le, true, false, arith}
use Rattle.std.proofs.lemmas.List.{at_drop_more, at_drop_all}
use Rattle.serde_json.specs.Data.{Data}
use Rattle.serde_json.specs.View.{view, items_view}
use Rattle.serde_json.specs.declared.value.Value.{Value}
use Rattle.std.proofs.lemmas.Bool.Decides.{nat_tests}
use Rattle.json_objects.specs.Fields.{joined, each}
use Rattle.charging_json.specs.Usage.{count, short}

-- what was found, and then the rest
abbrev pub then_more : {T : Type 0} → List T → Option (List T) → Option (List T)
then_more found None = None
then_more found (Some more) = Some (found ++ more)

abbrev pub each_of : {T : Type 0} → (Data → Option T) → List Value → Option (List T)
each_of reads values = each reads (items_view values)

nothing_found : {T : Type 0} (rest : Option (List T)) → then_more [] rest ≡ rest
nothing_found None = refl
nothing_found (Some more) = refl

pub begins : {T : Type 0} (reads : Data → Option T) (values : List Value) → each_of reads values ≡ then_more [] (each_of reads (drop 0 values))
begins reads values = sym (nothing_found (each_of reads values))

one_more : {T : Type 0} (found : List T) (x : T) (rest : Option (List T)) → then_more found (joined (Some x) rest) ≡ then_more (found ++ x ∷ []) rest
one_more found x None = refl
one_more found x (Some more) = ap Some (sym (append_assoc found (x ∷ []) more))

pub goes_on : {T : Type 0} (reads : Data → Option T) (values : List Value) (i : ℕ) (d : Value) (found : List T) (x : T) → i < length values → reads (view (get_or values i d)) ≡ Some x
    → each_of reads values ≡ then_more found (each_of reads (drop i values)) → each_of reads values ≡ then_more (found ++ x ∷ []) (each_of reads (drop (i + 1) values))
goes_on reads values i d found x lt is h =
    h ∙ ap (then_more found) (at_drop_more (each_of reads) values i d lt ∙ ap (λ r. joined r (each_of reads (drop (i + 1) values))) is) ∙ one_more found x (each_of reads (drop (i + 1) values))

pub stops : {T : Type 0} (reads : Data → Option T) (values : List Value) (i : ℕ) (d : Value) (found : List T) → i < length values → reads (view (get_or values i d)) ≡ None
    → each_of reads values ≡ then_more found (each_of reads (drop i values)) → each_of reads values ≡ None
stops reads values i d found lt is h = h ∙ ap (then_more found) (at_drop_more (each_of reads) values i d lt ∙ ap (λ r. joined r (each_of reads (drop (i + 1) values))) is)

pub ends : {T : Type 0} (reads : Data → Option T) (values : List Value) (i : ℕ) (found : List T) → length values ≤ i → each_of reads values ≡ then_more found (each_of reads (drop i values)) → each_of reads values ≡ Some found
ends reads values i found le h = h ∙ ap (then_more found) (at_drop_all (each_of reads) values i le) ∙ ap Some (append-nil found)

-- a loop's step, which pushes what the item reads as
pub pushes : {T : Type 0} (reads : Data → Option T) (values : List Value) (i : ℕ) (d : Value) (found new : List T) (o : Option T) (x : T) → i < length values → d ≡ get_or values i d → o ≡ reads (view d) → o ≡ Some x → new ≡ found ++ x ∷ []
    → each_of reads values ≡ then_more found (each_of reads (drop i values)) → each_of reads values ≡ then_more new (each_of reads (drop (i + 1) values))
pushes reads values i d found new o x lt here is some pushed h =
    goes_on reads values i d found x lt (ap (λ v. reads (view v)) (sym here) ∙ sym is ∙ some) h
    ∙ ap (λ xs. then_more xs (each_of reads (drop (i + 1) values))) (sym pushed)

count_of : (values : List Value) → count (items_view values) ≡ length values
count_of [] = refl
count_of (v ∷ values) = let rest = count_of values in omega arith

pub is_short : (values : List Value) (size : ℕ) → size ≡ length values → size ≤ 1000 → Some (items_view values) ≡ short (items_view values)
is_short values size is le = let same = count_of values in let test : nat_le (count (items_view values)) 1000 ≡ true = grind (arith, nat_tests, same, is, le) in rw test refl

pub is_long : (values : List Value) (size : ℕ) → size ≡ length values → 1000 < size → None ≡ short (items_view values)
is_long values size is lt = let same = count_of values in let test : nat_le (count (items_view values)) 1000 ≡ false = grind (arith, nat_tests, same, is, lt) in rw test refl
