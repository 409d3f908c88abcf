-- Records whose fields ascend, all known and of definite lengths: from the pieces to the whole.
use Rattle.std.proofs.Common.{◌≡◌, ℕ, ◌-◌, ◌^◌, ◌<◌, ◌≤◌, inl, inr, Bool, true, false, cond, eqb, List, [], ◌∷◌, ◌++◌, length, take, Option, Some, None, Result, Ok, refl, sym, ap, ◌∙◌, subst, append_assoc, arith}
use Rattle.std.specs.Prelude.{is_some, unwrap_or, IfSome}
use Rattle.std.proofs.lemmas.Bool.{eqb-true}
use Rattle.std.proofs.lemmas.Bool.Decides.{nat_tests}
use Rattle.std.proofs.lemmas.List.{append-nil, take_at, length-append}
use Rattle.units.specs.declared.request.Used.{Used}
use Rattle.units.specs.declared.request.UnitUsage.{UnitUsage}
use Rattle.ber.specs.declared.tag.Tag.{Tag}
use Rattle.ber.specs.declared.grammar.Step.TheVariants as steps
use Rattle.ber.specs.Element.{Element, primitive, constructed, Elements, none, more, tag_is}
use Rattle.ber.specs.Spelling.{IsIdentifier, IsSplit, SpellsAll, Spells}
use Rattle.ber.specs.Grammar.{AllConform, Admits}
use Rattle.ber.specs.Reading.{◌>>=◌, element_at}
use Rattle.records.specs.declared.place.Place.{Place}
use Rattle.records.specs.declared.place.Place.TheVariants as places
use Rattle.records.specs.declared.record.Record.{Record}
use Rattle.records.specs.Fields.{integer_of, text_of, stamp_of}
use Rattle.records.specs.Grammar.{records, enter_place, takes_at, whole_at, is_kind, no_field, no_used}
use Rattle.records.specs.Usage.{unit_usage}
use Rattle.records.specs.Reading.{over, with_trigger, no_used_of, with_used, behind_used, with_container, with_containers, with_usage_field, behind_usage, with_unit_usage, with_usages, with_id, with_session, with_field, no_record, read_in, SpellsRecord, record_at}
use Rattle.records.specs.Ordered.{behind_kind, Makes, Has, used_of, six_seen, BeginsTriggers, EndsUsed, BeginsUsages, record_named, record_of, named_seen, EndsRecord}

-- ---- elements one before the other

abbrev some : {A : Type 0} → A → Option A
some x = Some x

some_is : {A : Type 0} (x y : A) → some x ≡ some y → x ≡ y
some_is x y e = cc

abbrev tag_with : Bool → ℕ → ℕ → Tag
tag_with form class number = record { class = class; constructed = form; number = number }

empty : (xs : List ℕ) → eqb (length xs) 0 ≡ true → xs ≡ []
empty [] is = refl
empty (x ∷ xs) is = absurd (grind (arith, nat_tests))

-- the end
pub nothing_left : {A : Type 0} (levels : ℕ) (place : Place) (f : A → Element → A) (a : A) (rest : List ℕ) → whole_at place ≡ true → eqb (length rest) 0 ≡ true → Makes levels place f a a rest
nothing_left levels place f a rest whole no_more = record { elements = none; spells = empty rest no_more; conform = whole; value = refl }

-- a primitive element in front of others
pub first_field : {A V : Type 0} (levels : ℕ) (place outer inner : Place) (f : A → Element → A) (a b c : A) (of : List ℕ → Option V) (identifier class number : ℕ) (v : V) (bytes rest : List ℕ)
    → 1 ≤ levels → IsIdentifier (identifier ∷ []) (tag_with false class number) → enter_place place (tag_with false class number) ≡ steps.Into outer inner
    → ((contents : List ℕ) → of contents ≡ Some v → takes_at inner contents ≡ true)
    → ((contents : List ℕ) → of contents ≡ Some v → f a (primitive class number contents) ≡ b)
    → Has of identifier bytes v rest → Makes levels outer f b c rest → Makes levels place f a c bytes
first_field levels place outer inner f a b c of identifier class number v bytes rest some is_tag enters takes value has behind =
    let contents = has.0 in
    let split = has.1 in
    record {
      elements = more (primitive class number contents) behind.elements;
      spells = (identifier ∷ [], split.0 ++ contents, rest, is_tag, (some, split.0, split.1, refl), behind.spells, split.2 ∙ ap (λ (z : List ℕ). identifier ∷ z) (sym (append_assoc split.0 contents rest)));
      conform = (outer, inner, enters, takes contents has.2, behind.conform);
      value = ap (λ x. over f x behind.elements) (value contents has.2) ∙ behind.value;
    }

-- a constructed one
pub first_group : {A B : Type 0} (levels : ℕ) (place outer inner : Place) (f : A → Element → A) (g : B → Element → B) (a b c : A) (x y : B) (identifier class number : ℕ) (bytes contents rest : List ℕ)
    → 1 ≤ levels → IsIdentifier (identifier ∷ []) (tag_with true class number) → enter_place place (tag_with true class number) ≡ steps.Into outer inner
    → IsSplit identifier bytes contents rest → Makes (levels - 1) inner g x y contents
    → ((es : Elements) → over g x es ≡ y → f a (constructed class number es) ≡ b)
    → Makes levels outer f b c rest → Makes levels place f a c bytes
first_group levels place outer inner f g a b c x y identifier class number bytes contents rest some is_tag enters split within value behind =
    let inside : split.0 ++ contents ≡ split.0 ++ (contents ++ []) = ap (λ (z : List ℕ). split.0 ++ z) (sym (append-nil contents)) in
    record {
      elements = more (constructed class number within.elements) behind.elements;
      spells = (
        identifier ∷ [],
        split.0 ++ contents,
        rest,
        is_tag,
        (some, split.0, contents, [], inl (split.1, refl), within.spells, inside),
        behind.spells,
        split.2 ∙ ap (λ (z : List ℕ). identifier ∷ z) (sym (append_assoc split.0 contents rest)),
      );
      conform = (outer, inner, enters, within.conform, behind.conform);
      value = ap (λ z. over f z behind.elements) (value within.elements within.value) ∙ behind.value;
    }

from_parts : {A : Type 0} (levels : ℕ) (p q : Place) (f : A → Element → A) (a c : A) (bytes : List ℕ) (es : Elements) → ((t : Tag) → enter_place p t ≡ enter_place q t) → eqb (length bytes) 0 ≡ false
    → SpellsAll levels bytes es → AllConform records p es → over f a es ≡ c → Makes levels q f a c bytes
from_parts levels p q f a c bytes none same some spells conform value = absurd (let len : length bytes ≡ 0 = ap length spells in grind (arith, nat_tests))
from_parts levels p q f a c bytes (more e es) same some spells conform value =
    record { elements = more e es; spells = spells; conform = (conform.0, conform.1, sym (same (tag_is e)) ∙ conform.2, conform.3, conform.4); value = value }

-- a list that has an element, from its start
pub from_start : {A : Type 0} (levels : ℕ) (p q : Place) (f : A → Element → A) (a c : A) (bytes : List ℕ) → ((t : Tag) → enter_place p t ≡ enter_place q t) → eqb (length bytes) 0 ≡ false → Makes levels p f a c bytes → Makes levels q f a c bytes
from_start levels p q f a c bytes same some made = from_parts levels p q f a c bytes made.elements same some made.spells made.conform made.value

-- ---- a container

abbrev pair : {A : Type 0} → A → ℕ → A × ℕ
pair x n = (x, n)

pub trigger_made : (all ts : List (List ℕ)) (t bytes rest : List ℕ) → Has text_of 12 bytes t rest → Makes 10 (places.Triggers true) with_trigger (all ++ t ∷ []) ts rest → Makes 10 (places.Triggers true) with_trigger all ts bytes
trigger_made all ts t bytes rest has behind =
    first_field 10 (places.Triggers true) (places.Triggers true) places.Text with_trigger all (all ++ t ∷ []) ts text_of 12 0 12 t bytes rest (omega arith) (12, refl, inl (refl, refl, omega arith, refl)) refl
    (λ contents h. ap is_some h) (λ contents h. ap (λ (o : Option (List ℕ)). all ++ unwrap_or o [] ∷ []) h) has behind

pub triggers_made : (ts : List (List ℕ)) (bytes : List ℕ) → eqb (length bytes) 0 ≡ false → Makes 10 (places.Triggers true) with_trigger [] ts bytes → Makes 10 (places.Triggers false) with_trigger [] ts bytes
triggers_made ts bytes some made = from_start 10 (places.Triggers true) (places.Triggers false) with_trigger [] ts bytes (λ t. refl) some made

-- the first six fields, the triggers and the trigger time stamp
abbrev ended_seen : Bool → Bool → List Bool
ended_seen triggers stamp = true ∷ true ∷ true ∷ true ∷ true ∷ true ∷ triggers ∷ stamp ∷ []

stamp_ends : (seen : Bool) (next lsn group up down seconds first last moment : ℕ) (triggers : List (List ℕ)) (bytes rest : List ℕ)
    → enter_place (places.Used (ended_seen seen false) next) (tag_with false 2 7) ≡ steps.Into (places.Used (ended_seen seen true) 8) places.Stamp
    → Has stamp_of 135 bytes moment rest → eqb (length rest) 0 ≡ true
    → Makes 11 (places.Used (ended_seen seen false) next) with_used (used_of lsn group up down seconds first last triggers 0, 0) (used_of lsn group up down seconds first last triggers moment, 0) bytes
stamp_ends seen next lsn group up down seconds first last moment triggers bytes rest enters has no_more =
    first_field 11 (places.Used (ended_seen seen false) next) (places.Used (ended_seen seen true) 8) places.Stamp with_used (pair (used_of lsn group up down seconds first last triggers 0) 0)
    (pair (used_of lsn group up down seconds first last triggers moment) 0) (pair (used_of lsn group up down seconds first last triggers moment) 0) stamp_of 135 2 7 moment bytes rest (omega arith)
    (7, refl, inl (refl, refl, omega arith, refl)) enters (λ contents h. ap is_some h) (λ contents h. ap (λ (o : Option ℕ). pair (used_of lsn group up down seconds first last triggers (unwrap_or o 0)) 0) h) has
    (nothing_left 11 (places.Used (ended_seen seen true) 8) with_used (pair (used_of lsn group up down seconds first last triggers moment) 0) rest refl no_more)

ends_without : (moment : ℕ) (bytes rest : List ℕ) → Has stamp_of 135 bytes moment rest → eqb (length rest) 0 ≡ true → EndsUsed bytes [] moment
ends_without moment bytes rest has no_more = λ lsn group up down seconds first last. stamp_ends false 6 lsn group up down seconds first last moment [] bytes rest refl has no_more

ends_with : (triggers : List (List ℕ)) (moment : ℕ) (bytes contents behind rest : List ℕ) → IsSplit 166 bytes contents behind → Makes 10 (places.Triggers false) with_trigger [] triggers contents
    → Has stamp_of 135 behind moment rest → eqb (length rest) 0 ≡ true → EndsUsed bytes triggers moment
ends_with triggers moment bytes contents behind rest split within has no_more = λ lsn group up down seconds first last.
    first_group 11 (places.Used six_seen 6) (places.Used (ended_seen true false) 7) (places.Triggers false) with_used with_trigger (pair (used_of lsn group up down seconds first last [] 0) 0)
    (pair (used_of lsn group up down seconds first last triggers 0) 0) (pair (used_of lsn group up down seconds first last triggers moment) 0) [] triggers 166 2 6 bytes contents behind (omega arith)
    (6, refl, inl (refl, refl, omega arith, refl)) refl split within (λ es h. ap (λ (ts : List (List ℕ)). pair (used_of lsn group up down seconds first last ts 0) 0) h)
    (stamp_ends true 7 lsn group up down seconds first last moment triggers behind rest refl has no_more)

pub used_ends : (triggers : List (List ℕ)) (moment : ℕ) (bytes behind rest : List ℕ) → BeginsTriggers bytes triggers behind → Has stamp_of 135 behind moment rest → eqb (length rest) 0 ≡ true → EndsUsed bytes triggers moment
used_ends triggers moment bytes behind rest (inl h) has no_more =
    subst (λ (ts : List (List ℕ)). EndsUsed bytes ts moment) (sym h.0) (ends_without moment bytes rest (subst (λ (z : List ℕ). Has stamp_of 135 z moment rest) h.1 has) no_more)
used_ends triggers moment bytes behind rest (inr h) has no_more = ends_with triggers moment bytes h.0 behind rest h.1 h.2 has no_more

-- so many of the first six fields were seen
abbrev first_seen : Bool → Bool → Bool → Bool → Bool → List Bool
first_seen b c d e f = true ∷ b ∷ c ∷ d ∷ e ∷ f ∷ false ∷ false ∷ []

pub container_made : (group lsn seconds up down first last moment : ℕ) (triggers : List (List ℕ)) (b0 b1 b2 b3 b4 b5 b6 : List ℕ)
    → Has (integer_of (2 ^ 32 - 1)) 128 b0 lsn b1 → Has (integer_of (2 ^ 32 - 1)) 129 b1 seconds b2 → Has (integer_of (2 ^ 64 - 1)) 130 b2 up b3 → Has (integer_of (2 ^ 64 - 1)) 131 b3 down b4
    → Has stamp_of 132 b4 first b5 → Has stamp_of 133 b5 last b6 → EndsUsed b6 triggers moment
    → Makes 11 (places.Used no_used 0) with_used (no_used_of group, 0) (used_of lsn group up down seconds first last triggers moment, 0) b0
container_made group lsn seconds up down first last moment triggers b0 b1 b2 b3 b4 b5 b6 h0 h1 h2 h3 h4 h5 ends =
    let all = pair (used_of lsn group up down seconds first last triggers moment) 0 in
    let m5 = first_field 11 (places.Used (first_seen true true true true false) 5) (places.Used six_seen 6) places.Stamp with_used (pair (used_of lsn group up down seconds first 0 [] 0) 0)
    (pair (used_of lsn group up down seconds first last [] 0) 0) all stamp_of 133 2 5 last b5 b6 (omega arith) (5, refl, inl (refl, refl, omega arith, refl)) refl (λ contents h. ap is_some h)
    (λ contents h. ap (λ (o : Option ℕ). pair (used_of lsn group up down seconds first (unwrap_or o 0) [] 0) 0) h) h5 (ends lsn group up down seconds first last) in
    let m4 = first_field 11 (places.Used (first_seen true true true false false) 4) (places.Used (first_seen true true true true false) 5) places.Stamp with_used (pair (used_of lsn group up down seconds 0 0 [] 0) 0)
    (pair (used_of lsn group up down seconds first 0 [] 0) 0) all stamp_of 132 2 4 first b4 b5 (omega arith) (4, refl, inl (refl, refl, omega arith, refl)) refl (λ contents h. ap is_some h)
    (λ contents h. ap (λ (o : Option ℕ). pair (used_of lsn group up down seconds (unwrap_or o 0) 0 [] 0) 0) h) h4 m5 in
    let m3 = first_field 11 (places.Used (first_seen true true false false false) 3) (places.Used (first_seen true true true false false) 4) (places.Number (2 ^ 64 - 1)) with_used (pair (used_of lsn group up 0 seconds 0 0 [] 0) 0)
    (pair (used_of lsn group up down seconds 0 0 [] 0) 0) all (integer_of (2 ^ 64 - 1)) 131 2 3 down b3 b4 (omega arith) (3, refl, inl (refl, refl, omega arith, refl)) refl (λ contents h. ap is_some h)
    (λ contents h. ap (λ (o : Option ℕ). pair (used_of lsn group up (unwrap_or o 0) seconds 0 0 [] 0) 0) h) h3 m4 in
    let m2 = first_field 11 (places.Used (first_seen true false false false false) 2) (places.Used (first_seen true true false false false) 3) (places.Number (2 ^ 64 - 1)) with_used (pair (used_of lsn group 0 0 seconds 0 0 [] 0) 0)
    (pair (used_of lsn group up 0 seconds 0 0 [] 0) 0) all (integer_of (2 ^ 64 - 1)) 130 2 2 up b2 b3 (omega arith) (2, refl, inl (refl, refl, omega arith, refl)) refl (λ contents h. ap is_some h)
    (λ contents h. ap (λ (o : Option ℕ). pair (used_of lsn group (unwrap_or o 0) 0 seconds 0 0 [] 0) 0) h) h2 m3 in
    let m1 = first_field 11 (places.Used (first_seen false false false false false) 1) (places.Used (first_seen true false false false false) 2) (places.Number (2 ^ 32 - 1)) with_used (pair (used_of lsn group 0 0 0 0 0 [] 0) 0)
    (pair (used_of lsn group 0 0 seconds 0 0 [] 0) 0) all (integer_of (2 ^ 32 - 1)) 129 2 1 seconds b1 b2 (omega arith) (1, refl, inl (refl, refl, omega arith, refl)) refl (λ contents h. ap is_some h)
    (λ contents h. ap (λ (o : Option ℕ). pair (used_of lsn group 0 0 (unwrap_or o 0) 0 0 [] 0) 0) h) h1 m2 in
    first_field 11 (places.Used no_used 0) (places.Used (first_seen false false false false false) 1) (places.Number (2 ^ 32 - 1)) with_used (pair (used_of 0 group 0 0 0 0 0 [] 0) 0)
    (pair (used_of lsn group 0 0 0 0 0 [] 0) 0) all (integer_of (2 ^ 32 - 1)) 128 2 0 lsn b0 b1 (omega arith) (0, refl, inl (refl, refl, omega arith, refl)) refl (λ contents h. ap is_some h)
    (λ contents h. ap (λ (o : Option ℕ). pair (used_of (unwrap_or o 0) group 0 0 0 0 0 [] 0) 0) h) h0 m1

pub used_made : (group : ℕ) (all us : List Used) (u : Used) (bytes contents rest : List ℕ) → IsSplit 48 bytes contents rest → Makes 11 (places.Used no_used 0) with_used (no_used_of group, 0) (u, 0) contents
    → Makes 12 places.Containers (with_container group) (all ++ u ∷ [], 0) (us, 0) rest → Makes 12 places.Containers (with_container group) (all, 0) (us, 0) bytes
used_made group all us u bytes contents rest split within behind =
    first_group 12 places.Containers places.Containers (places.Used no_used 0) (with_container group) with_used (pair all 0) (pair (all ++ u ∷ []) 0) (pair us 0) (pair (no_used_of group) 0) (pair u 0) 48 0 16 bytes contents rest
    (omega arith) (16, refl, inl (refl, refl, omega arith, refl)) refl split within (λ es h. ap (λ (y : Used × ℕ). behind_used all y) h) behind

-- ---- a unit usage

pub usage_made : (group : ℕ) (used : List Used) (bytes list contents rest : List ℕ) → Has (integer_of (2 ^ 32 - 1)) 128 bytes group list → IsSplit 161 list contents rest → eqb (length rest) 0 ≡ true
    → Makes 12 places.Containers (with_container group) ([], 0) (used, 0) contents → Makes 13 (places.Usage false false) with_usage_field (unit_usage 0 [], 0) (unit_usage group used, 0) bytes
usage_made group used bytes list contents rest has split no_more within =
    let end = nothing_left 13 (places.Usage true true) with_usage_field (pair (unit_usage group used) 0) rest refl no_more in
    let containers = first_group 13 (places.Usage true false) (places.Usage true true) places.Containers with_usage_field (with_container group) (pair (unit_usage group []) 0) (pair (unit_usage group used) 0)
    (pair (unit_usage group used) 0) (pair [] 0) (pair used 0) 161 2 1 list contents rest (omega arith) (1, refl, inl (refl, refl, omega arith, refl)) refl split within
    (λ es h. ap (λ (y : List Used × ℕ). with_containers (unit_usage group []) y) h) end in
    first_field 13 (places.Usage false false) (places.Usage true false) (places.Number (2 ^ 32 - 1)) with_usage_field (pair (unit_usage 0 []) 0) (pair (unit_usage group []) 0) (pair (unit_usage group used) 0)
    (integer_of (2 ^ 32 - 1)) 128 2 0 group bytes list (omega arith) (0, refl, inl (refl, refl, omega arith, refl)) refl (λ contents h. ap is_some h)
    (λ contents h. ap (λ (o : Option ℕ). pair (unit_usage (unwrap_or o 0) []) 0) h) has containers

pub unit_made : (all us : List UnitUsage) (u : UnitUsage) (bytes contents rest : List ℕ) → IsSplit 48 bytes contents rest → Makes 13 (places.Usage false false) with_usage_field (unit_usage 0 [], 0) (u, 0) contents
    → Makes 14 (places.Usages true) with_unit_usage (all ++ u ∷ [], 0) (us, 0) rest → Makes 14 (places.Usages true) with_unit_usage (all, 0) (us, 0) bytes
unit_made all us u bytes contents rest split within behind =
    first_group 14 (places.Usages true) (places.Usages true) (places.Usage false false) with_unit_usage with_usage_field (pair all 0) (pair (all ++ u ∷ []) 0) (pair us 0) (pair (unit_usage 0 []) 0) (pair u 0) 48 0 16
    bytes contents rest (omega arith) (16, refl, inl (refl, refl, omega arith, refl)) refl split within (λ es h. ap (λ (y : UnitUsage × ℕ). behind_usage all y) h) behind

pub usages_made : (us : List UnitUsage) (bytes : List ℕ) → eqb (length bytes) 0 ≡ false → Makes 14 (places.Usages true) with_unit_usage ([], 0) (us, 0) bytes → Makes 14 (places.Usages false) with_unit_usage ([], 0) (us, 0) bytes
usages_made us bytes some made = from_start 14 (places.Usages true) (places.Usages false) with_unit_usage (pair [] 0) (pair us 0) bytes (λ t. refl) some made

-- ---- a record

-- the fields of a record that were seen: the record type and the names, and these
abbrev fields_seen : Bool → Bool → Bool → Bool → Bool → Bool → Bool → List Bool
fields_seen f g h i j k l = true ∷ true ∷ true ∷ true ∷ false ∷ f ∷ g ∷ h ∷ i ∷ j ∷ false ∷ k ∷ false ∷ l ∷ []

pub others_made : (opening duration sequence cause local charging_id : ℕ) (b0 b1 b2 b3 b4 b5 session inner rest : List ℕ)
    → Has stamp_of 134 b0 opening b1 → Has (integer_of (2 ^ 32 - 1)) 135 b1 duration b2 → Has (integer_of (2 ^ 32 - 1)) 136 b2 sequence b3 → Has (integer_of 255) 137 b3 cause b4
    → Has (integer_of (2 ^ 32 - 1)) 139 b4 local b5 → IsSplit 173 b5 session rest → Has (integer_of (2 ^ 32 - 1)) 128 session charging_id inner → eqb (length inner) 0 ≡ true → eqb (length rest) 0 ≡ true
    → EndsRecord b0 opening duration sequence cause local charging_id
others_made opening duration sequence cause local charging_id b0 b1 b2 b3 b4 b5 session inner rest h6 h7 h8 h9 h11 split id no_inner no_more = λ seen f s c us.
    let all = pair (record_of f s c us opening duration sequence cause local charging_id) 0 in
    let within = first_field 14 (places.Session false) (places.Session true) (places.Number (2 ^ 32 - 1)) with_session (pair 0 0) (pair charging_id 0) (pair charging_id 0) (integer_of (2 ^ 32 - 1)) 128 2 0 charging_id session inner
    (omega arith) (0, refl, inl (refl, refl, omega arith, refl)) refl (λ contents h. ap is_some h) (λ contents h. ap (λ (o : Option ℕ). pair (unwrap_or o 0) 0) h) id
    (nothing_left 14 (places.Session true) with_session (pair charging_id 0) inner refl no_inner) in
    let m13 = first_group 15 (places.Record (fields_seen seen true true true true true false)) (places.Record (fields_seen seen true true true true true true)) (places.Session false) with_field with_session
    (pair (record_of f s c us opening duration sequence cause local 0) 0) all all (pair 0 0) (pair charging_id 0) 173 2 13 b5 session rest (omega arith) (13, refl, inl (refl, refl, omega arith, refl)) refl split within
    (λ es h. ap (λ (y : ℕ × ℕ). with_id (record_of f s c us opening duration sequence cause local 0) y) h)
    (nothing_left 15 (places.Record (fields_seen seen true true true true true true)) with_field all rest refl no_more) in
    let m11 = first_field 15 (places.Record (fields_seen seen true true true true false false)) (places.Record (fields_seen seen true true true true true false)) (places.Number (2 ^ 32 - 1)) with_field
    (pair (record_of f s c us opening duration sequence cause 0 0) 0) (pair (record_of f s c us opening duration sequence cause local 0) 0) all (integer_of (2 ^ 32 - 1)) 139 2 11 local b4 b5 (omega arith)
    (11, refl, inl (refl, refl, omega arith, refl)) refl (λ contents h. ap is_some h) (λ contents h. ap (λ (o : Option ℕ). pair (record_of f s c us opening duration sequence cause (unwrap_or o 0) 0) 0) h) h11 m13 in
    let m9 = first_field 15 (places.Record (fields_seen seen true true true false false false)) (places.Record (fields_seen seen true true true true false false)) (places.Number 255) with_field
    (pair (record_of f s c us opening duration sequence 0 0 0) 0) (pair (record_of f s c us opening duration sequence cause 0 0) 0) all (integer_of 255) 137 2 9 cause b3 b4 (omega arith)
    (9, refl, inl (refl, refl, omega arith, refl)) refl (λ contents h. ap is_some h) (λ contents h. ap (λ (o : Option ℕ). pair (record_of f s c us opening duration sequence (unwrap_or o 0) 0 0) 0) h) h9 m11 in
    let m8 = first_field 15 (places.Record (fields_seen seen true true false false false false)) (places.Record (fields_seen seen true true true false false false)) (places.Number (2 ^ 32 - 1)) with_field
    (pair (record_of f s c us opening duration 0 0 0 0) 0) (pair (record_of f s c us opening duration sequence 0 0 0) 0) all (integer_of (2 ^ 32 - 1)) 136 2 8 sequence b2 b3 (omega arith)
    (8, refl, inl (refl, refl, omega arith, refl)) refl (λ contents h. ap is_some h) (λ contents h. ap (λ (o : Option ℕ). pair (record_of f s c us opening duration (unwrap_or o 0) 0 0 0) 0) h) h8 m9 in
    let m7 = first_field 15 (places.Record (fields_seen seen true false false false false false)) (places.Record (fields_seen seen true true false false false false)) (places.Number (2 ^ 32 - 1)) with_field
    (pair (record_of f s c us opening 0 0 0 0 0) 0) (pair (record_of f s c us opening duration 0 0 0 0) 0) all (integer_of (2 ^ 32 - 1)) 135 2 7 duration b1 b2 (omega arith)
    (7, refl, inl (refl, refl, omega arith, refl)) refl (λ contents h. ap is_some h) (λ contents h. ap (λ (o : Option ℕ). pair (record_of f s c us opening (unwrap_or o 0) 0 0 0 0) 0) h) h7 m8 in
    first_field 15 (places.Record (named_seen seen)) (places.Record (fields_seen seen true false false false false false)) places.Stamp with_field
    (pair (record_named f s c us) 0) (pair (record_of f s c us opening 0 0 0 0 0) 0) all stamp_of 134 2 6 opening b0 b1 (omega arith)
    (6, refl, inl (refl, refl, omega arith, refl)) refl (λ contents h. ap is_some h) (λ contents h. ap (λ (o : Option ℕ). pair (record_of f s c us (unwrap_or o 0) 0 0 0 0 0) 0) h) h6 m7

later_made : (f s c : List ℕ) (us : List UnitUsage) (opening duration sequence cause local charging_id : ℕ) (bytes rest : List ℕ) → BeginsUsages bytes us rest → EndsRecord rest opening duration sequence cause local charging_id
    → Makes 15 (places.Record (named_seen false)) with_field (record_named f s c [], 0) (record_of f s c us opening duration sequence cause local charging_id, 0) bytes
later_made f s c us opening duration sequence cause local charging_id bytes rest (inl h) ends =
    subst (λ (z : List ℕ). Makes 15 (places.Record (named_seen false)) with_field (pair (record_named f s c []) 0) (pair (record_of f s c us opening duration sequence cause local charging_id) 0) z) h.1
    (subst (λ (xs : List UnitUsage). Makes 15 (places.Record (named_seen false)) with_field (pair (record_named f s c xs) 0) (pair (record_of f s c us opening duration sequence cause local charging_id) 0) rest) h.0
    (ends false f s c us))
later_made f s c us opening duration sequence cause local charging_id bytes rest (inr h) ends =
    first_group 15 (places.Record (named_seen false)) (places.Record (named_seen true)) (places.Usages false) with_field with_unit_usage (pair (record_named f s c []) 0) (pair (record_named f s c us) 0)
    (pair (record_of f s c us opening duration sequence cause local charging_id) 0) (pair [] 0) (pair us 0) 165 2 5 bytes h.0 rest (omega arith) (5, refl, inl (refl, refl, omega arith, refl)) refl h.1 h.2
    (λ es e. ap (λ (y : List UnitUsage × ℕ). with_usages (record_named f s c []) y) e) (ends true f s c us)

-- the record type was seen, and so many names
abbrev names_seen : Bool → Bool → List Bool
names_seen b c = true ∷ b ∷ c ∷ false ∷ false ∷ false ∷ false ∷ false ∷ false ∷ false ∷ false ∷ false ∷ false ∷ false ∷ []

kind_is : (contents : List ℕ) → integer_of 200 contents ≡ Some 200 → is_kind (integer_of 200 contents) ≡ true
kind_is contents h = ap is_kind h

pub fields_made : (f s c : List ℕ) (us : List UnitUsage) (opening duration sequence cause local charging_id : ℕ) (b0 b1 b2 b3 b4 b5 : List ℕ)
    → Has (integer_of 200) 128 b0 200 b1 → Has text_of 129 b1 f b2 → Has text_of 130 b2 s b3 → Has text_of 131 b3 c b4 → BeginsUsages b4 us b5 → EndsRecord b5 opening duration sequence cause local charging_id
    → Makes 15 (places.Record no_field) with_field (no_record, 0) (record_of f s c us opening duration sequence cause local charging_id, 0) b0
fields_made f s c us opening duration sequence cause local charging_id b0 b1 b2 b3 b4 b5 h0 h1 h2 h3 begins ends =
    let all = pair (record_of f s c us opening duration sequence cause local charging_id) 0 in
    let later = later_made f s c us opening duration sequence cause local charging_id b4 b5 begins ends in
    let m3 = first_field 15 (places.Record (names_seen true true)) (places.Record (named_seen false)) places.Text with_field (pair (record_named f s [] []) 0) (pair (record_named f s c []) 0) all text_of 131 2 3 c b3 b4
    (omega arith) (3, refl, inl (refl, refl, omega arith, refl)) refl (λ contents h. ap is_some h) (λ contents h. ap (λ (o : Option (List ℕ)). pair (record_named f s (unwrap_or o []) []) 0) h) h3 later in
    let m2 = first_field 15 (places.Record (names_seen true false)) (places.Record (names_seen true true)) places.Text with_field (pair (record_named f [] [] []) 0) (pair (record_named f s [] []) 0) all text_of 130 2 2 s b2 b3
    (omega arith) (2, refl, inl (refl, refl, omega arith, refl)) refl (λ contents h. ap is_some h) (λ contents h. ap (λ (o : Option (List ℕ)). pair (record_named f (unwrap_or o []) [] []) 0) h) h2 m3 in
    let m1 = first_field 15 (places.Record (names_seen false false)) (places.Record (names_seen true false)) places.Text with_field (pair (record_named [] [] [] []) 0) (pair (record_named f [] [] []) 0) all text_of 129 2 1 f b1 b2
    (omega arith) (1, refl, inl (refl, refl, omega arith, refl)) refl (λ contents h. ap is_some h) (λ contents h. ap (λ (o : Option (List ℕ)). pair (record_named (unwrap_or o []) [] [] []) 0) h) h1 m2 in
    first_field 15 (places.Record no_field) (places.Record (names_seen false false)) places.Kind with_field (pair no_record 0) (pair (record_named [] [] [] []) 0) all (integer_of 200) 128 2 0 200 b0 b1
    (omega arith) (0, refl, inl (refl, refl, omega arith, refl)) refl kind_is (λ contents h. refl) h0 m1

-- ---- the octets of a record

pub behind_is : (bytes tail : List ℕ) → behind_kind bytes ≡ Some tail → bytes ≡ 191 ∷ 129 ∷ tail
behind_is [] tail e = absurd cc
behind_is (b ∷ []) tail e = absurd cc
behind_is (b ∷ c ∷ rest) tail e = by (eqb b 191) (eqb c 129) refl refl e where
  by : (x y : Bool) → eqb b 191 ≡ x → eqb c 129 ≡ y → cond x (cond y (some rest) None) None ≡ Some tail → b ∷ c ∷ rest ≡ 191 ∷ 129 ∷ tail
  by true true p q h = λ i. eqb-true _ _ p i ∷ eqb-true _ _ q i ∷ some_is rest tail h i
  by true false p q h = absurd cc
  by false y p q h = absurd cc

kind_tag : IsIdentifier (191 ∷ 129 ∷ 72 ∷ []) (tag_with true 2 200)
kind_tag = (200, refl, inr (refl, omega arith, omega arith, refl, inr (omega arith, inl (omega arith, refl, refl))))

front_of : (front rest bytes : List ℕ) (n : ℕ) → bytes ≡ front ++ rest → n ≡ length bytes - length rest → (n ≤ length bytes) × (take n bytes ≡ front)
front_of front rest bytes n e n-is =
    let is : n ≡ length front = omega (arith, ap length e, length-append front rest) in
    (omega arith, rw (is, e) (take_at front rest (length front) refl))

pub record_made : (r : Record) (bytes tail contents rest : List ℕ) (n : ℕ) → bytes ≡ 191 ∷ 129 ∷ tail → IsSplit 72 tail contents rest → Makes 15 (places.Record no_field) with_field (no_record, 0) (r, 0) contents
    → n ≡ length bytes - length rest → (n ≤ length bytes) × SpellsRecord (take n bytes) (r, 0)
record_made r bytes tail contents rest n is split made n-is =
    let front : List ℕ = 191 ∷ 129 ∷ 72 ∷ (split.0 ++ contents) in
    let parts : bytes ≡ front ++ rest = is ∙ ap (λ (z : List ℕ). 191 ∷ 129 ∷ z) (split.2 ∙ ap (λ (z : List ℕ). 72 ∷ z) (sym (append_assoc split.0 contents rest))) in
    let taken = front_of front rest bytes n parts n-is in
    let inside : split.0 ++ contents ≡ split.0 ++ (contents ++ []) = ap (λ (z : List ℕ). split.0 ++ z) (sym (append-nil contents)) in (
      taken.0,
      (
        constructed 2 200 made.elements,
        (191 ∷ 129 ∷ 72 ∷ [], split.0 ++ contents, kind_tag, (omega arith, split.0, contents, [], inl (split.1, refl), made.spells, inside), taken.1),
        (places.Start, places.Record no_field, refl, made.conform),
        sym made.value,
      ),
    )

-- ---- what is spelled as a record is read so

-- the law of the crate `ber`
abbrev pub SpelledAreRead : Type 0
SpelledAreRead = (bytes : List ℕ) (e : Element) (n : ℕ) → length bytes < 2 ^ 63 → n ≤ length bytes → Spells 16 (take n bytes) e → Admits records places.Start e → element_at records places.Start bytes ≡ Ok (e, n)

pub record_read : SpelledAreRead → (bytes : List ℕ) (x : Record × ℕ) (n : ℕ) → length bytes < 2 ^ 63 → n ≤ length bytes → SpellsRecord (take n bytes) x → record_at bytes ≡ Ok (x.0, n, x.1)
unfolding record_at
record_read law bytes x n lt within spells =
    ap (λ (z : Result (Element × ℕ) ℕ). z >>= λ y. Ok ((read_in y.0).0, y.1, (read_in y.0).1)) (law bytes spells.0 n lt within spells.1 spells.2)
    ∙ ap (λ (y : Record × ℕ). let z : Result (Record × ℕ × ℕ) ℕ = Ok (y.0, n, y.1) in z) (sym spells.3)

pub if_read : SpelledAreRead → (bytes : List ℕ) (o : Option (Record × ℕ)) → length bytes < 2 ^ 63 → IfSome o (λ x. (x.1 ≤ length bytes) × SpellsRecord (take x.1 bytes) (x.0, 0)) → IfSome o (λ x. record_at bytes ≡ Ok (x.0, x.1, 0))
if_read law bytes None lt h = tt
if_read law bytes (Some x) lt h = record_read law bytes (x.0, 0) x.1 lt h.0 h.1
