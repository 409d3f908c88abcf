-- What is read of a context is in the ranges of its format.
use Rattle.std.proofs.Common.{◌≡◌, ◌≤◌, inl, inr, ℕ, Bool, true, false, List, length, nat_le, Option, Some, None, Result, Ok, Err, IfOk, if◌then◌else◌, option_map, option_and_then, codes, refl, sym, subst, arith}
use Rattle.std.specs.List.{AllByRecursion}
use Rattle.std.proofs.lemmas.Bool.Decides.{nat_tests}
use Rattle.serde_json.specs.Data.{Data, Items, no_items, item}
use Rattle.serde_json.specs.Find.{as_str, as_array}
use Rattle.units.specs.Answers.{IsOrNoMemory}
use Rattle.units.specs.Names.{spells_name}
use Rattle.units.specs.declared.spending.SpendContext.{SpendContext}
use Rattle.units.specs.declared.refusal.JsonRefusal.{JsonRefusal}
use Rattle.units.specs.declared.refusal.JsonRefusal.TheVariants.{OutOfMemory}
use Rattle.json_objects.specs.Fields.{given, that_passes, text_that, name, joined, each, list_of, required, allowed, after}
use Rattle.spend_json.specs.Address.{is_address}
use Rattle.spend_json.specs.Context.{few, counters_of, address_of, with_context, context_of}
use Rattle.spend_json.specs.Ranges.{IsName, FitsContext}

-- of a value that was read, where it is right
abbrev Right : {T : Type 0} → (T → Type 0) → Option T → Type 0
Right P None = Unit {0}
Right P (Some x) = P x

-- of a field that may be absent, where it is right
abbrev RightField : {T : Type 0} → (T → Type 0) → Option (Option T) → Type 0
RightField P None = Unit {0}
RightField P (Some o) = Right P o

text_right : (test : List ℕ → Bool) (value : Data) → Right (λ text. test text ≡ true) (text_that test value)
text_right test value = by (as_str value)
  where
    passes : (text : List ℕ) (b : Bool) → test text ≡ b → Right (λ t. test t ≡ true) (if b then Some text else None)
    passes text true e = e
    passes text false e = tt

    by : (o : Option (List ℕ)) → Right (λ text. test text ≡ true) (option_and_then (that_passes test) o)
    by None = tt
    by (Some text) = passes text (test text) refl

-- names, one after another
names_right : (items : Items) → Right (AllByRecursion IsName) (each name items)
names_right no_items = tt
names_right (item value rest) = by (name value) (text_right spells_name value) (each name rest) (names_right rest)
  where
    by : (o : Option (List ℕ)) → Right IsName o → (os : Option (List (List ℕ))) → Right (AllByRecursion IsName) os → Right (AllByRecursion IsName) (joined o os)
    by None h os hs = tt
    by (Some x) h None hs = tt
    by (Some x) h (Some xs) hs = (h, hs)

-- at most 100 of them
abbrev AreFew : List (List ℕ) → Type 0
AreFew names = AllByRecursion IsName names × (length names ≤ 100)

few_right : (o : Option (List (List ℕ))) → Right (AllByRecursion IsName) o → Right AreFew (option_and_then few o)
few_right None h = tt
few_right (Some names) h = by (nat_le (length names) 100) refl
  where
    by : (b : Bool) → nat_le (length names) 100 ≡ b → Right AreFew (if b then Some names else None)
    by true e = (h, grind (arith, nat_tests, e))
    by false e = tt

counters_right : (value : Data) → Right AreFew (counters_of value)
counters_right value = few_right (list_of name value) (by (as_array value))
  where
    by : (o : Option Items) → Right (AllByRecursion IsName) (option_and_then (each name) o)
    by None = tt
    by (Some items) = names_right items

field_right : {T : Type 0} (P : T → Type 0) (reads : Data → Option T) → ((value : Data) → Right P (reads value)) → (o : Option Data) → RightField P (option_map reads o)
field_right P reads h None = tt
field_right P reads h (Some value) = h value

fits_by : (supi : Option (Option (List ℕ))) (counters : Option (Option (List (List ℕ)))) (notify : Option (Option (List ℕ))) (context : SpendContext)
    → RightField IsName supi → RightField AreFew counters → RightField (λ text. is_address text ≡ true) notify
    → after (required (codes "supi") supi) (λ s. after (allowed (codes "policyCounterIds") counters) (λ cs. after (required (codes "notifUri") notify) (λ n. Ok (with_context s cs n)))) ≡ Ok context
    → FitsContext context
fits_by None counters notify context hs hc hn e = cc
fits_by (Some None) counters notify context hs hc hn e = cc
fits_by (Some (Some s)) (Some None) notify context hs hc hn e = cc
fits_by (Some (Some s)) None None context hs hc hn e = cc
fits_by (Some (Some s)) None (Some None) context hs hc hn e = cc
fits_by (Some (Some s)) None (Some (Some n)) context hs hc hn e =
    let is : with_context s None n ≡ context = cc in
    subst FitsContext is (record { subscribed = hs; named = tt; few = omega arith; notified = hn })
fits_by (Some (Some s)) (Some (Some cs)) None context hs hc hn e = cc
fits_by (Some (Some s)) (Some (Some cs)) (Some None) context hs hc hn e = cc
fits_by (Some (Some s)) (Some (Some cs)) (Some (Some n)) context hs hc hn e =
    let is : with_context s (Some cs) n ≡ context = cc in
    subst FitsContext is (record { subscribed = hs; named = hc.0; few = hc.1; notified = hn })

fits : (value : Data) (context : SpendContext) → context_of value ≡ Ok context → FitsContext context
fits value context e =
    fits_by (option_map name (given (codes "supi") value)) (option_map counters_of (given (codes "policyCounterIds") value)) (option_map address_of (given (codes "notifUri") value)) context
    (field_right IsName name (text_right spells_name) (given (codes "supi") value))
    (field_right AreFew counters_of counters_right (given (codes "policyCounterIds") value))
    (field_right (λ text. is_address text ≡ true) address_of (text_right is_address) (given (codes "notifUri") value)) e

pub in_range : (value : Data) (r : Result SpendContext JsonRefusal) → IsOrNoMemory OutOfMemory r (context_of value) → IfOk r FitsContext
in_range value (Err e) h = tt
in_range value (Ok context) (inl e) = fits value context (sym e)
in_range value (Ok context) (inr e) = cc
