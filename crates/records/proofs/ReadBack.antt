-- What is written of a record in range has the values of the record.
use Rattle.std.proofs.Common.{◌≡◌, ℕ, ◌-◌, ◌^◌, ◌<◌, ◌≤◌, List, [], ◌∷◌, ◌++◌, refl, sym, ap, ◌∙◌, append_assoc, arith}
use Rattle.std.specs.List.{AllByRecursion}
use Rattle.std.proofs.lemmas.List.{append-nil}
use Rattle.units.specs.declared.request.Used.{Used}
use Rattle.units.specs.declared.request.UnitUsage.{UnitUsage}
use Rattle.units.specs.Limits.{greatest_moment}
use Rattle.ber.specs.Element.{constructed, none, more, joined}
use Rattle.ber.specs.Spelling.{Spells}
use Rattle.records.specs.declared.record.Record.{Record}
use Rattle.records.specs.Usage.{unit_usage}
use Rattle.records.specs.Reading.{number_in, text_in, moment_in, over, with_trigger, no_used_of, with_used, with_container, with_containers, with_usage_field, with_unit_usage, with_field, with_usages, read_in, SpellsRecord}
use Rattle.records.specs.Written.{number_field, text_field, stamp_field, each, trigger_element, triggers_field, amount_fields, time_fields, trigger_fields, used_element, usage_element, usage_field, other_fields, record_element}
use Rattle.records.specs.Fitting.{IsText, FitsContainer, FitsUsage, FitsRecord}
use Rattle.records.proofs.Integers.{integer_again}
use Rattle.records.proofs.Admitted.{StampsReadBack, stamp_again, text_again, admits_written}

number_is : (limit n k : ℕ) → n ≤ limit → n < 2 ^ 64 → number_in limit (number_field k n) ≡ n
number_is limit n k fits lt = rw (integer_again limit n fits lt) refl

small_is : (n k : ℕ) → n < 2 ^ 32 → number_in (2 ^ 32 - 1) (number_field k n) ≡ n
small_is n k lt = number_is (2 ^ 32 - 1) n k (omega arith) (omega arith)

text_is : (text : List ℕ) (k : ℕ) → IsText text → text_in (text_field k text) ≡ text
text_is text k h = rw (text_again text h) refl

moment_is : StampsReadBack → (moment k : ℕ) → moment ≤ greatest_moment → moment_in (stamp_field k moment) ≡ moment
moment_is law moment k fits = rw (stamp_again law moment fits) refl

-- ---- a container

triggers_again : (ts done : List (List ℕ)) → AllByRecursion IsText ts → over with_trigger done (each trigger_element ts) ≡ done ++ ts
triggers_again [] done h = sym (append-nil done)
triggers_again (t ∷ ts) done h =
    let first : text_in (trigger_element t) ≡ t = rw (text_again t h.0) refl in
    ap (λ (x : List ℕ). over with_trigger (done ++ x ∷ []) (each trigger_element ts)) first ∙ triggers_again ts (done ++ t ∷ []) h.1 ∙ append_assoc done (t ∷ []) ts

-- a container without triggers and trigger time stamp, as it is read, and with these
abbrev plain : Used → Used
plain u = record { lsn = u.lsn; group = u.group; up = u.up; down = u.down; seconds = u.seconds; first = u.first; last = u.last; triggers = []; moment = 0 }

abbrev pair : {A : Type 0} → A → ℕ → A × ℕ
pair x n = (x, n)

ending_again : StampsReadBack → (ts : List (List ℕ)) (u : Used) (n : ℕ) → AllByRecursion IsText ts → u.moment ≤ greatest_moment
    → over with_used (pair (plain u) n) (joined (triggers_field ts) (more (stamp_field 7 u.moment) none)) ≡ pair (record { lsn = u.lsn; group = u.group; up = u.up; down = u.down; seconds = u.seconds; first = u.first; last = u.last; triggers = ts; moment = u.moment }) n
ending_again law [] u n h fits =
    let closed = moment_is law u.moment 7 fits in
    λ i. pair (record { lsn = u.lsn; group = u.group; up = u.up; down = u.down; seconds = u.seconds; first = u.first; last = u.last; triggers = []; moment = closed i }) n
ending_again law (t ∷ ts) u n h fits =
    let kinds = triggers_again (t ∷ ts) [] h in
    let closed = moment_is law u.moment 7 fits in
    λ i. pair (record { lsn = u.lsn; group = u.group; up = u.up; down = u.down; seconds = u.seconds; first = u.first; last = u.last; triggers = kinds i; moment = closed i }) n

container_again : StampsReadBack → (group : ℕ) (u : Used) (n : ℕ) → FitsContainer group u
    → over with_used (pair (no_used_of group) n) (joined (amount_fields u) (joined (time_fields u) (trigger_fields u))) ≡ pair u n
container_again law group u n h =
    let lsn = small_is u.lsn 0 h.number in
    let seconds = small_is u.seconds 1 h.seconds in
    let up = number_is (2 ^ 64 - 1) u.up 2 (omega (arith, h.up)) h.up in
    let down = number_is (2 ^ 64 - 1) u.down 3 (omega (arith, h.down)) h.down in
    let first = moment_is law u.first 4 h.first in
    let last = moment_is law u.last 5 h.last in
    let of_group = sym h.of_group in
    let begun : over with_used (pair (no_used_of group) n) (joined (amount_fields u) (joined (time_fields u) (trigger_fields u))) ≡ over with_used (pair (plain u) n) (trigger_fields u)
    = λ i. over with_used (pair (record { lsn = lsn i; group = of_group i; up = up i; down = down i; seconds = seconds i; first = first i; last = last i; triggers = []; moment = 0 }) n) (trigger_fields u) in
    begun ∙ ending_again law u.triggers u n h.kinds h.closed

containers_again : StampsReadBack → (group : ℕ) (us done : List Used) (n : ℕ) → AllByRecursion (FitsContainer group) us
    → over (with_container group) (pair done n) (each used_element us) ≡ pair (done ++ us) n
containers_again law group [] done n h = ap (λ (us : List Used). pair us n) (sym (append-nil done))
containers_again law group (u ∷ us) done n h =
    ap (λ (x : Used × ℕ). over (with_container group) (pair (done ++ x.0 ∷ []) x.1) (each used_element us)) (container_again law group u n h.0)
    ∙ containers_again law group us (done ++ u ∷ []) n h.1
    ∙ ap (λ (all : List Used). pair all n) (append_assoc done (u ∷ []) us)

-- ---- a unit usage

usage_again : StampsReadBack → (u : UnitUsage) (n : ℕ) → FitsUsage u
    → over with_usage_field (pair (unit_usage 0 []) n) (more (number_field 0 u.group) (more (constructed 2 1 (each used_element u.used)) none)) ≡ pair u n
usage_again law u n h =
    let asked = sym h.asks_nothing in
    ap (λ (g : ℕ). with_containers (unit_usage g []) (over (with_container g) (pair [] n) (each used_element u.used))) (small_is u.group 0 h.number)
    ∙ ap (λ (y : List Used × ℕ). with_containers (unit_usage u.group []) y) (containers_again law u.group u.used [] n h.containers)
    ∙ (λ i. pair (record { group = u.group; ask = asked i; used = u.used }) n)

usages_again : StampsReadBack → (us done : List UnitUsage) (n : ℕ) → AllByRecursion FitsUsage us → over with_unit_usage (pair done n) (each usage_element us) ≡ pair (done ++ us) n
usages_again law [] done n h = ap (λ (us : List UnitUsage). pair us n) (sym (append-nil done))
usages_again law (u ∷ us) done n h =
    ap (λ (x : UnitUsage × ℕ). over with_unit_usage (pair (done ++ x.0 ∷ []) x.1) (each usage_element us)) (usage_again law u n h.0)
    ∙ usages_again law us (done ++ u ∷ []) n h.1
    ∙ ap (λ (all : List UnitUsage). pair all n) (append_assoc done (u ∷ []) us)

-- ---- a record

-- a record with names and unit usages alone
abbrev named : List ℕ → List ℕ → List ℕ → List UnitUsage → Record
named f s c us = record { function = f; subscriber = s; consumer = c; charging_id = 0; usage = us; opening = 0; duration = 0; sequence = 0; cause = 0; local = 0 }

-- the record, with unit usages of its own
abbrev with_all : Record → List UnitUsage → Record
with_all r us = record { function = r.function; subscriber = r.subscriber; consumer = r.consumer; charging_id = r.charging_id; usage = us; opening = r.opening; duration = r.duration; sequence = r.sequence; cause = r.cause; local = r.local }

others_again : StampsReadBack → (r : Record) (us : List UnitUsage) → FitsRecord r
    → over with_field (pair (named r.function r.subscriber r.consumer us) 0) (other_fields r) ≡ pair (with_all r us) 0
others_again law r us h =
    let opening = moment_is law r.opening 6 h.opening in
    let duration = small_is r.duration 7 h.lasting in
    let sequence = small_is r.sequence 8 h.number in
    let cause = number_is 255 r.cause 9 (omega (arith, h.reason)) (omega (arith, h.reason)) in
    let local = small_is r.local 11 h.local_number in
    let session = small_is r.charging_id 0 h.session in
    λ i. pair (record { function = r.function; subscriber = r.subscriber; consumer = r.consumer; charging_id = session i; usage = us; opening = opening i; duration = duration i; sequence = sequence i; cause = cause i; local = local i }) 0

later_again : StampsReadBack → (r : Record) (us : List UnitUsage) → FitsRecord r → AllByRecursion FitsUsage us
    → over with_field (pair (named r.function r.subscriber r.consumer []) 0) (joined (usage_field us) (other_fields r)) ≡ pair (with_all r us) 0
later_again law r [] h all = others_again law r [] h
later_again law r (u ∷ us) h all =
    ap (λ (y : List UnitUsage × ℕ). over with_field (with_usages (named r.function r.subscriber r.consumer []) y) (other_fields r)) (usages_again law (u ∷ us) [] 0 all)
    ∙ others_again law r (u ∷ us) h

pub values_written : StampsReadBack → (r : Record) → FitsRecord r → read_in (record_element r) ≡ pair r 0
values_written law r h =
    let function = text_is r.function 1 h.function in
    let subscriber = text_is r.subscriber 2 h.subscriber in
    let consumer = text_is r.consumer 3 h.consumer in
    let begun : read_in (record_element r) ≡ over with_field (pair (named r.function r.subscriber r.consumer []) 0) (joined (usage_field r.usage) (other_fields r))
    = λ i. over with_field (pair (named (function i) (subscriber i) (consumer i) []) 0) (joined (usage_field r.usage) (other_fields r)) in
    begun ∙ later_again law r r.usage h h.entries

-- what is spelled as the element of a record spells the record
pub record_spelled : StampsReadBack → (r : Record) (bytes : List ℕ) → FitsRecord r → Spells 16 bytes (record_element r) → SpellsRecord bytes (pair r 0)
record_spelled law r bytes h spells = (record_element r, spells, admits_written law r h, sym (values_written law r h))
