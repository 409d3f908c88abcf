-- Reading a list of trigger rules, an item at a time.
use Rattle.std.proofs.Common.{◌≡◌, ◌<◌, ◌≤◌, ◌+◌, ℕ, List, [], ◌∷◌, ◌++◌, length, get_or, drop, Option, Some, None, refl, ap, sym, ◌∙◌, append_assoc, append-nil}
use Rattle.std.proofs.lemmas.List.{at_drop_more, at_drop_all}
use Rattle.serde_json.specs.View.{view, items_view}
use Rattle.serde_json.specs.declared.value.Value.{Value}
use Rattle.units.specs.declared.trigger.TriggerRule.{TriggerRule}
use Rattle.json_objects.specs.Fields.{joined}
use Rattle.charging_json.specs.Rules.{kept, rule_of, rules_in}
pub use Rattle.charging_json.proofs.Walk.{then_more}

abbrev pub rules_from : List Value → Option (List TriggerRule)
rules_from values = rules_in (items_view values)

nothing_found : (rest : Option (List TriggerRule)) → then_more [] rest ≡ rest
nothing_found None = refl
nothing_found (Some more) = refl

pub begins : (values : List Value) → rules_from values ≡ then_more [] (rules_from (drop 0 values))
begins values = sym (nothing_found (rules_from values))

one_more : (found : List TriggerRule) (x : TriggerRule) (rest : Option (List TriggerRule)) → then_more found (joined (Some x) rest) ≡ then_more (found ++ x ∷ []) rest
one_more found x None = refl
one_more found x (Some more) = ap Some (sym (append_assoc found (x ∷ []) more))

step : (values : List Value) (i : ℕ) (d : Value) (found : List TriggerRule) (r : Option (Option TriggerRule)) → i < length values → d ≡ get_or values i d → rule_of (view d) ≡ r
    → rules_from values ≡ then_more found (rules_from (drop i values)) → rules_from values ≡ then_more found (kept r (rules_from (drop (i + 1) values)))
step values i d found r lt here is h =
    h ∙ ap (then_more found) (at_drop_more rules_from values i d lt ∙ ap (λ v. kept (rule_of (view v)) (rules_from (drop (i + 1) values))) (sym here) ∙ ap (λ r. kept r (rules_from (drop (i + 1) values))) is)

pub pushes : (values : List Value) (i : ℕ) (d : Value) (found new : List TriggerRule) (x : TriggerRule) → i < length values → d ≡ get_or values i d → rule_of (view d) ≡ Some (Some x) → new ≡ found ++ x ∷ []
    → rules_from values ≡ then_more found (rules_from (drop i values)) → rules_from values ≡ then_more new (rules_from (drop (i + 1) values))
pushes values i d found new x lt here is pushed h =
    step values i d found (Some (Some x)) lt here is h ∙ one_more found x (rules_from (drop (i + 1) values)) ∙ ap (λ xs. then_more xs (rules_from (drop (i + 1) values))) (sym pushed)

pub passes : (values : List Value) (i : ℕ) (d : Value) (found : List TriggerRule) → i < length values → d ≡ get_or values i d → rule_of (view d) ≡ Some None
    → rules_from values ≡ then_more found (rules_from (drop i values)) → rules_from values ≡ then_more found (rules_from (drop (i + 1) values))
passes values i d found lt here is h = step values i d found (Some None) lt here is h

pub stops : (values : List Value) (i : ℕ) (d : Value) (found : List TriggerRule) → i < length values → d ≡ get_or values i d → rule_of (view d) ≡ None
    → rules_from values ≡ then_more found (rules_from (drop i values)) → rules_from values ≡ None
stops values i d found lt here is h = step values i d found None lt here is h

pub ends : (values : List Value) (i : ℕ) (found : List TriggerRule) → length values ≤ i → rules_from values ≡ then_more found (rules_from (drop i values)) → rules_from values ≡ Some found
ends values i found le h = h ∙ ap (then_more found) (at_drop_all rules_from values i le) ∙ ap Some (append-nil found)
