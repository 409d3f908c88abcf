-- A context in range reads back from what is written.
use Rattle.std.proofs.Common.{◌≡◌, ℕ, List, map, Option, Some, None, Ok, option_map, codes, refl, ap, ◌∙◌}
use Rattle.serde_json.specs.Data.{Data, string}
use Rattle.units.specs.Names.{spells_name}
use Rattle.units.specs.declared.spending.SpendContext.{SpendContext}
use Rattle.json_objects.specs.Fields.{given, name, allowed}
use Rattle.json_objects.specs.ReadBack.{CanBeRead, ReadBackLaws}
use Rattle.spend_json.specs.Address.{is_address}
use Rattle.spend_json.specs.Context.{address_of, context_of, counters_of, with_context}
use Rattle.spend_json.specs.ContextWritten.{context_data, context_fields}
use Rattle.spend_json.specs.Ranges.{FitsContext}
use Rattle.spend_json.proofs.Lists.{unless_empty, empty_again, not_null, text_back, counters_back, texts_readable}

pub context_readable : ReadBackLaws → (context : SpendContext) → CanBeRead 2 (context_data context)
context_readable laws context = laws.objects 1 (context_fields context) refl (laws.texts 1 context.notify, (laws.lists 0 (map string context.counters) (texts_readable laws 0 context.counters), (laws.texts 1 context.supi, tt)))

allowed_is : (label : List ℕ) (found : Option (Option (List (List ℕ)))) (o : Option (List (List ℕ))) → found ≡ option_map Some o → allowed label found ≡ Ok o
allowed_is label found None e = rw e refl
allowed_is label found (Some x) e = rw e refl

context_from : (value : Data) (supi notify : List ℕ) (counters : Option (List (List ℕ)))
    → option_map name (given (codes "supi") value) ≡ Some (Some supi)
    → allowed (codes "policyCounterIds") (option_map counters_of (given (codes "policyCounterIds") value)) ≡ Ok counters
    → option_map address_of (given (codes "notifUri") value) ≡ Some (Some notify)
    → context_of value ≡ Ok (with_context supi counters notify)
context_from value supi notify counters e1 e2 e3 = rw (e1, e2, e3) refl

pub context_back : ReadBackLaws → (context : SpendContext) → FitsContext context → context_of (context_data context) ≡ Ok context
context_back laws context fits =
    let value = context_data context in
    let fields = context_fields context in
    context_from value context.supi context.notify (unless_empty context.counters)
    (ap (option_map name) (laws.look_up (codes "supi") fields) ∙ ap Some (text_back spells_name context.supi fits.subscribed))
    (allowed_is (codes "policyCounterIds") (option_map counters_of (given (codes "policyCounterIds") value)) (unless_empty context.counters)
    (ap (option_map counters_of) (laws.look_up (codes "policyCounterIds") fields ∙ not_null (map string context.counters)) ∙ counters_back context.counters fits.named fits.few))
    (ap (option_map address_of) (laws.look_up (codes "notifUri") fields) ∙ ap Some (text_back is_address context.notify fits.notified))
    ∙ ap (λ counters. Ok (record context { counters = counters })) (empty_again context.counters)
