-- The record that an element of the grammar has, and how many fields of it are not known (TS 32.298, 5.1.5.0).
use Rattle.std.specs.Prelude.{◌≡◌, ℕ, ◌+◌, ◌^◌, ◌-◌, min, Bool, ◌&&◌, ◌==◌, nat_le, List, [], ◌∷◌, ◌++◌, unwrap_or, option_and_then, Result, Ok, if◌then◌else◌}
use Rattle.units.specs.declared.request.Used.{Used}
use Rattle.units.specs.declared.request.UnitUsage.{UnitUsage}
use Rattle.ber.specs.Element.{Element, Elements, none, more, contents_of, inner_of, tag_is}
use Rattle.ber.specs.Spelling.{Spells}
use Rattle.ber.specs.Grammar.{Admits}
use Rattle.ber.specs.Reading.{◌>>=◌, element_at}
use Rattle.records.specs.declared.record.Record.{Record}
use Rattle.records.specs.declared.place.Place.TheVariants as places
use Rattle.records.specs.Fields.{integer_of, text_of, stamp_of}
use Rattle.records.specs.Usage.{unit_usage}
use Rattle.records.specs.Grammar.{records, is_field}

-- The number, the text, the moment and the elements of a field; what the grammar rules out has a default.
abbrev pub number_in : ℕ → Element → ℕ
number_in limit e = unwrap_or (option_and_then (integer_of limit) (contents_of e)) 0

-- Its text.
abbrev pub text_in : Element → List ℕ
text_in e = unwrap_or (option_and_then text_of (contents_of e)) []

-- Its moment.
abbrev pub moment_in : Element → ℕ
moment_in e = unwrap_or (option_and_then stamp_of (contents_of e)) 0

-- The elements within it.
abbrev pub elements_in : Element → Elements
elements_in e = unwrap_or (inner_of e) none

-- Whether a field has a number.
abbrev pub is_tag : ℕ → Element → Bool
is_tag n e = ((tag_is e).class == 2) && ((tag_is e).number == n)

-- One field more that is not known; the count stands still at its type's end.
abbrev pub counted : ℕ → ℕ
counted n = min (n + 1) (2 ^ 32 - 1)

-- What elements make of a value, one after the other.
abbrev pub over : {A : Type 0} → (A → Element → A) → A → Elements → A
over f a none = a
over f a (more e es) = over f (f a e) es

-- Triggers.
abbrev pub with_trigger : List (List ℕ) → Element → List (List ℕ)
with_trigger ts e = ts ++ text_in e ∷ []

-- A container of a rating group before its fields.
abbrev pub no_used_of : ℕ → Used
no_used_of group = record { lsn = 0; group = group; up = 0; down = 0; seconds = 0; first = 0; last = 0; triggers = []; moment = 0 }

-- A field of a container with a number or a moment.
abbrev pub with_amount : Used → Element → Used
with_amount u e =
    if is_tag 0 e then record u { lsn = number_in (2 ^ 32 - 1) e }
    else (if is_tag 1 e then record u { seconds = number_in (2 ^ 32 - 1) e }
    else (if is_tag 2 e then record u { up = number_in (2 ^ 64 - 1) e }
    else (if is_tag 3 e then record u { down = number_in (2 ^ 64 - 1) e }
    else (if is_tag 4 e then record u { first = moment_in e }
    else (if is_tag 5 e then record u { last = moment_in e }
    else (if is_tag 7 e then record u { moment = moment_in e } else u))))))

-- The triggers of a container.
abbrev pub with_triggers : Used → List (List ℕ) → Used
with_triggers u ts = record u { triggers = ts }

-- Whether a field of a container is known.
abbrev pub is_known_used : Element → Bool
is_known_used e = ((tag_is e).class == 2) && nat_le (tag_is e).number 7

-- A field of a container.
abbrev pub with_used : Used × ℕ → Element → Used × ℕ
with_used x e =
    if is_tag 6 e then (with_triggers x.0 (over with_trigger [] (elements_in e)), x.1)
    else (if is_known_used e then (with_amount x.0 e, x.1) else (x.0, counted x.1))

-- A container behind others.
abbrev pub behind_used : List Used → Used × ℕ → List Used × ℕ
behind_used us y = (us ++ y.0 ∷ [], y.1)

-- A container of a rating group.
abbrev pub with_container : ℕ → List Used × ℕ → Element → List Used × ℕ
with_container group x e = behind_used x.0 (over with_used (no_used_of group, x.1) (elements_in e))

-- The containers of a unit usage.
abbrev pub with_containers : UnitUsage → List Used × ℕ → UnitUsage × ℕ
with_containers u y = (unit_usage u.group y.0, y.1)

-- A field of a unit usage.
abbrev pub with_usage_field : UnitUsage × ℕ → Element → UnitUsage × ℕ
with_usage_field x e =
    if is_tag 0 e then (unit_usage (number_in (2 ^ 32 - 1) e) x.0.used, x.1)
    else (if is_tag 1 e then with_containers x.0 (over (with_container x.0.group) ([], x.1) (elements_in e))
    else (x.0, counted x.1))

-- A unit usage behind others.
abbrev pub behind_usage : List UnitUsage → UnitUsage × ℕ → List UnitUsage × ℕ
behind_usage us y = (us ++ y.0 ∷ [], y.1)

-- A unit usage.
abbrev pub with_unit_usage : List UnitUsage × ℕ → Element → List UnitUsage × ℕ
with_unit_usage x e = behind_usage x.0 (over with_usage_field (unit_usage 0 [], x.1) (elements_in e))

-- A field of the session.
abbrev pub with_session : ℕ × ℕ → Element → ℕ × ℕ
with_session x e = if is_tag 0 e then (number_in (2 ^ 32 - 1) e, x.1) else (x.0, counted x.1)

-- The unit usages of a record, and its session.
abbrev pub with_usages : Record → List UnitUsage × ℕ → Record × ℕ
with_usages r y = (record r { usage = y.0 }, y.1)

-- Its charging id.
abbrev pub with_id : Record → ℕ × ℕ → Record × ℕ
with_id r y = (record r { charging_id = y.0 }, y.1)

-- A field of a record with a number, a moment or a name.
abbrev pub with_plain : Record → Element → Record
with_plain r e =
    if is_tag 1 e then record r { function = text_in e }
    else (if is_tag 2 e then record r { subscriber = text_in e }
    else (if is_tag 3 e then record r { consumer = text_in e }
    else (if is_tag 6 e then record r { opening = moment_in e }
    else (if is_tag 7 e then record r { duration = number_in (2 ^ 32 - 1) e }
    else (if is_tag 8 e then record r { sequence = number_in (2 ^ 32 - 1) e }
    else (if is_tag 9 e then record r { cause = number_in 255 e }
    else (if is_tag 11 e then record r { local = number_in (2 ^ 32 - 1) e } else r)))))))

-- Whether a field of a record is known.
abbrev pub is_known : Element → Bool
is_known e = ((tag_is e).class == 2) && is_field (tag_is e).number

-- A field of a record.
abbrev pub with_field : Record × ℕ → Element → Record × ℕ
with_field x e =
    if is_tag 5 e then with_usages x.0 (over with_unit_usage ([], x.1) (elements_in e))
    else (if is_tag 13 e then with_id x.0 (over with_session (0, x.1) (elements_in e))
    else (if is_known e then (with_plain x.0 e, x.1) else (x.0, counted x.1)))

-- A record before its fields.
abbrev pub no_record : Record
no_record = record { function = []; subscriber = []; consumer = []; charging_id = 0; usage = []; opening = 0; duration = 0; sequence = 0; cause = 0; local = 0 }

-- The record of an element, and how many of its fields are not known: of the record, of its unit usages, containers and session.
abbrev pub read_in : Element → Record × ℕ
read_in e = over with_field (no_record, 0) (elements_in e)

-- The octets spell an element that the grammar of records admits, which has these values.
abbrev pub SpellsRecord : List ℕ → Record × ℕ → Type 0
SpellsRecord bytes x = (e : Element) × Spells 16 bytes e × Admits records places.Start e × (x ≡ read_in e)

-- The record at the front, how many octets it takes and how many fields are not known, or the octet of the fault that is met first in reading from the left.
unfoldable pub record_at : List ℕ → Result (Record × ℕ × ℕ) ℕ
record_at bytes = element_at records places.Start bytes >>= λ x. Ok ((read_in x.0).0, x.1, (read_in x.0).1)
