-- Reading the members of an object, one at a time.
use Rattle.std.proofs.Common.{◌≡◌, List, [], ◌∷◌, ◌++◌, Option, Some, None, String, string_bytes, refl, ap, sym, ◌∙◌, append_assoc}
use Rattle.std.specs.declared.alloc.Global.{Global}
use Rattle.serde_json.specs.View.{view, members_view}
use Rattle.serde_json.specs.declared.value.Value.{Value}
use Rattle.units.specs.declared.spending.CounterStatus.{CounterStatus}
use Rattle.json_objects.specs.Fields.{joined}
use Rattle.spend_json.specs.Status.{info_of, infos_in}

-- what was found, and then the rest
abbrev pub then_more : List CounterStatus → Option (List CounterStatus) → Option (List CounterStatus)
then_more found None = None
then_more found (Some more) = Some (found ++ more)

one_more : (found : List CounterStatus) (x : CounterStatus) (rest : Option (List CounterStatus)) → then_more found (joined (Some x) rest) ≡ then_more (found ++ x ∷ []) rest
one_more found x None = refl
one_more found x (Some more) = ap Some (sym (append_assoc found (x ∷ []) more))

-- a member that is right is one status more
pub goes_on : (all left rest : List (String Global × Value)) (key : String Global) (value : Value) (found new : List CounterStatus) (x : CounterStatus) → left ≡ (key, value) ∷ rest → info_of (string_bytes key) (view value) ≡ Some x → new ≡ found ++ x ∷ []
    → infos_in (members_view all) ≡ then_more found (infos_in (members_view left)) → infos_in (members_view all) ≡ then_more new (infos_in (members_view rest))
goes_on all left rest key value found new x e is pushed h =
    h ∙ ap (λ (ms : List (String Global × Value)). then_more found (infos_in (members_view ms))) e ∙ ap (λ o. then_more found (joined o (infos_in (members_view rest)))) is
    ∙ one_more found x (infos_in (members_view rest)) ∙ ap (λ (xs : List CounterStatus). then_more xs (infos_in (members_view rest))) (sym pushed)
