-- The element of a record, with its fields ascending (TS 32.298, 5.1.5.0; the tags are this product's profile).
use Rattle.std.specs.Prelude.{ℕ, List, [], ◌∷◌}
use Rattle.units.specs.declared.request.Used.{Used}
use Rattle.units.specs.declared.request.UnitUsage.{UnitUsage}
use Rattle.moments.specs.Stamp.{stamp_octets}
use Rattle.ber.specs.Element.{Element, primitive, constructed, Elements, none, more, joined}
use Rattle.records.specs.declared.record.Record.{Record}
use Rattle.records.specs.Fields.{integer_octets}

-- A field with an INTEGER (X.690 8.3).
abbrev pub number_field : ℕ → ℕ → Element
number_field tag n = primitive 2 tag (integer_octets n)

-- A field with a text (TS 32.298, 5.1.5).
abbrev pub text_field : ℕ → List ℕ → Element
text_field tag text = primitive 2 tag text

-- A field with a time stamp (TS 32.298, TimeStamp).
abbrev pub stamp_field : ℕ → ℕ → Element
stamp_field tag moment = primitive 2 tag (stamp_octets moment)

-- An element for each, in order.
abbrev pub each : {X : Type 0} → (X → Element) → List X → Elements
each f [] = none
each f (x ∷ xs) = more (f x) (each f xs)

-- A trigger, a UTF8String (X.690 8.23).
abbrev pub trigger_element : List ℕ → Element
trigger_element t = primitive 0 12 t

-- The field of the triggers is absent where there are none.
abbrev pub triggers_field : List (List ℕ) → Elements
triggers_field [] = none
triggers_field (t ∷ ts) = more (constructed 2 6 (each trigger_element (t ∷ ts))) none

-- The numbers of a container.
abbrev pub amount_fields : Used → Elements
amount_fields u = more (number_field 0 u.lsn) (more (number_field 1 u.seconds) (more (number_field 2 u.up) (more (number_field 3 u.down) none)))

-- Its time of first and of last usage.
abbrev pub time_fields : Used → Elements
time_fields u = more (stamp_field 4 u.first) (more (stamp_field 5 u.last) none)

-- Its triggers, and its trigger time stamp.
abbrev pub trigger_fields : Used → Elements
trigger_fields u = joined (triggers_field u.triggers) (more (stamp_field 7 u.moment) none)

-- A container (TS 32.298, used unit container).
abbrev pub used_element : Used → Element
used_element u = constructed 0 16 (joined (amount_fields u) (joined (time_fields u) (trigger_fields u)))

-- A unit usage: its rating group and its containers (TS 32.298, multiple unit usage).
abbrev pub usage_element : UnitUsage → Element
usage_element u = constructed 0 16 (more (number_field 0 u.group) (more (constructed 2 1 (each used_element u.used)) none))

-- The field of the unit usages is absent where there are none.
abbrev pub usage_field : List UnitUsage → Elements
usage_field [] = none
usage_field (u ∷ us) = more (constructed 2 5 (each usage_element (u ∷ us))) none

-- The record type, which is 200, and the names.
abbrev pub name_fields : Record → Elements
name_fields r = more (number_field 0 200) (more (text_field 1 r.function) (more (text_field 2 r.subscriber) (more (text_field 3 r.consumer) none)))

-- The session: its charging id.
abbrev pub session_field : ℕ → Element
session_field charging_id = constructed 2 13 (more (number_field 0 charging_id) none)

-- Opening time, duration, sequence number, cause for closing, local sequence number and session.
abbrev pub other_fields : Record → Elements
other_fields r =
    more (stamp_field 6 r.opening) (more (number_field 7 r.duration) (more (number_field 8 r.sequence) (more (number_field 9 r.cause)
    (more (number_field 11 r.local) (more (session_field r.charging_id) none)))))

-- A record (TS 32.298, 5.1.5.0).
abbrev pub record_element : Record → Element
record_element r = constructed 2 200 (joined (name_fields r) (joined (usage_field r.usage) (other_fields r)))
