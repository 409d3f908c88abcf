-- The statuses of counters, written one after another.
use Rattle.std.proofs.Common.{◌≡◌, ℕ, ◌+◌, ◌<◌, List, [], ◌∷◌, ◌++◌, length, get_or, take, Option, refl, sym, ap, ◌∙◌}
use Rattle.std.proofs.lemmas.List.{map-append, take_more}
use Rattle.json.specs.Token.{Token}
use Rattle.serde_json.specs.Data.{Data}
use Rattle.units.specs.declared.spending.CounterStatus.{CounterStatus}
use Rattle.json_objects.specs.Tokens.{field_after, fields_after}
use Rattle.spend_json.specs.StatusWritten.{info_field, infos_fields}

after_both : (ts : List Token) (fs gs : List (List ℕ × Option Data)) → fields_after ts (fs ++ gs) ≡ fields_after (fields_after ts fs) gs
after_both ts [] gs = refl
after_both ts (f ∷ fs) gs = after_both (field_after ts f.0 f.1) fs gs

pub one_more : (ts now new : List Token) (infos : List CounterStatus) (i : ℕ) (info : CounterStatus) → i < length infos → info ≡ get_or infos i info
    → now ≡ fields_after ts (infos_fields (take i infos)) → new ≡ fields_after now (info_field info ∷ []) → new ≡ fields_after ts (infos_fields (take (i + 1) infos))
one_more ts now new infos i info within is before e =
    e ∙ ap (λ (t : List Token). fields_after t (info_field info ∷ [])) before
    ∙ sym (ap (λ (xs : List CounterStatus). fields_after ts (infos_fields xs)) (take_more infos i info within ∙ ap (λ (x : CounterStatus). take i infos ++ x ∷ []) (sym is))
    ∙ ap (fields_after ts) (map-append info_field (take i infos) (info ∷ [])) ∙ after_both ts (infos_fields (take i infos)) (info_field info ∷ []))
