-- Which elements stand where in a record (TS 32.298, 5.1.5.0; the tags are this product's profile).
use Rattle.std.specs.Prelude.{ℕ, ◌+◌, ◌^◌, ◌-◌, Bool, true, false, not, ◌&&◌, ◌||◌, ◌==◌, nat_lt, nat_le, List, [], ◌∷◌, slice_set, slice_index_or, Option, Some, None, is_some, if◌then◌else◌}
use Rattle.ber.specs.declared.tag.Tag.{Tag}
use Rattle.ber.specs.declared.grammar.Step.{Step}
use Rattle.ber.specs.declared.grammar.Step.TheVariants as steps
use Rattle.ber.specs.Grammar.{Rules}
use Rattle.records.specs.declared.place.Place.{Place}
use Rattle.records.specs.declared.place.Place.TheVariants as places
use Rattle.records.specs.Fields.{integer_of, text_of, stamp_of}

-- Whether an element of one form stands where the other is due (X.690 8.1.2.5).
abbrev pub forms_differ : Bool → Bool → Bool
forms_differ true due = not due
forms_differ false due = due

-- Whether a field was seen (this product's own).
abbrev pub was_seen : List Bool → ℕ → Bool
was_seen seen n = slice_index_or seen n false

-- The known fields of a record.
abbrev pub is_field : ℕ → Bool
is_field n = nat_le n 3 || (nat_le 5 n && nat_le n 9 || (n == 11 || n == 13))

-- Those that consist of elements.
abbrev pub is_group : ℕ → Bool
is_group n = (n == 5) || (n == 13)

-- What is within each.
abbrev pub field_place : ℕ → Place
field_place n =
    if n == 0 then places.Kind
    else (if nat_le n 3 then places.Text
    else (if n == 5 then places.Usages false
    else (if n == 6 then places.Stamp
    else (if n == 9 then places.Number 255
    else (if n == 13 then places.Session false
    else places.Number (2 ^ 32 - 1))))))

-- What is within each known field of a container, 0 to 7.
abbrev pub used_place : ℕ → Place
used_place n =
    if nat_le n 1 then places.Number (2 ^ 32 - 1)
    else (if nat_le n 3 then places.Number (2 ^ 64 - 1)
    else (if n == 6 then places.Triggers false
    else places.Stamp))

-- Nothing seen of a record.
abbrev pub no_field : List Bool
no_field = false ∷ false ∷ false ∷ false ∷ false ∷ false ∷ false ∷ false ∷ false ∷ false ∷ false ∷ false ∷ false ∷ false ∷ []

-- Nothing seen of a container.
abbrev pub no_used : List Bool
no_used = false ∷ false ∷ false ∷ false ∷ false ∷ false ∷ false ∷ false ∷ []

-- A SET: fields in any order, each at most once; a repeated one is the fault of the element around.
abbrev pub in_record : List Bool → Tag → Step Place
in_record seen t =
    if not ((t.class == 2) && is_field t.number) then steps.Into (places.Record seen) places.Unknown
    else (if was_seen seen t.number then steps.Around
    else (if forms_differ t.constructed (is_group t.number) then steps.Here
    else steps.Into (places.Record (slice_set seen t.number true)) (field_place t.number)))

-- A SEQUENCE: known fields ascend. A unit usage has its rating group, then its containers.
abbrev pub in_usage : Bool → Bool → Tag → Step Place
in_usage group used t =
    if not ((t.class == 2) && nat_le t.number 1) then steps.Into (places.Usage group used) places.Unknown
    else (if (if t.number == 0 then group else used) then steps.Around
    else (if forms_differ t.constructed (t.number == 1) || ((t.number == 0) && used) then steps.Here
    else (if t.number == 0 then steps.Into (places.Usage true used) (places.Number (2 ^ 32 - 1)) else steps.Into (places.Usage group true) places.Containers)))

-- A container; `next` is one more than the greatest known field that was seen.
abbrev pub in_used : List Bool → ℕ → Tag → Step Place
in_used seen next t =
    if not ((t.class == 2) && nat_le t.number 7) then steps.Into (places.Used seen next) places.Unknown
    else (if was_seen seen t.number then steps.Around
    else (if forms_differ t.constructed (t.number == 6) || nat_lt t.number next then steps.Here
    else steps.Into (places.Used (slice_set seen t.number true) (t.number + 1)) (used_place t.number)))

-- The session has its charging id.
abbrev pub in_session : Bool → Tag → Step Place
in_session seen t =
    if not ((t.class == 2) && (t.number == 0)) then steps.Into (places.Session seen) places.Unknown
    else (if seen then steps.Around else (if t.constructed then steps.Here else steps.Into (places.Session true) (places.Number (2 ^ 32 - 1))))

-- A list has elements of one tag: SEQUENCE (X.690 8.9), or UTF8String (8.23).
abbrev pub in_list : ℕ → Bool → Place → Place → Tag → Step Place
in_list number form around inner t = if (t.class == 0) && ((t.number == number) && not (forms_differ t.constructed form)) then steps.Into around inner else steps.Here

abbrev pub enter_place : Place → Tag → Step Place
enter_place places.Start t = if (t.class == 2) && ((t.number == 200) && t.constructed) then steps.Into places.Start (places.Record no_field) else steps.Here
enter_place (places.Record seen) t = in_record seen t
enter_place (places.Usages some) t = in_list 16 true (places.Usages true) (places.Usage false false) t
enter_place (places.Usage group used) t = in_usage group used t
enter_place places.Containers t = in_list 16 true places.Containers (places.Used no_used 0) t
enter_place (places.Used seen next) t = in_used seen next t
enter_place (places.Triggers some) t = in_list 12 false (places.Triggers true) places.Text t
enter_place (places.Session seen) t = in_session seen t
enter_place p t = steps.Into p places.Unknown

-- The record type is 200.
abbrev pub is_kind : Option ℕ → Bool
is_kind None = false
is_kind (Some n) = n == 200

-- Whether primitive contents may stand in a place.
abbrev pub takes_at : Place → List ℕ → Bool
takes_at places.Kind contents = is_kind (integer_of 200 contents)
takes_at (places.Number limit) contents = is_some (integer_of limit contents)
takes_at places.Stamp contents = is_some (stamp_of contents)
takes_at places.Text contents = is_some (text_of contents)
takes_at p contents = true

-- The required fields of a record: all known ones but the unit usages.
abbrev pub has_required : List Bool → Bool
has_required seen =
    was_seen seen 0 && (was_seen seen 1 && (was_seen seen 2 && (was_seen seen 3 && (was_seen seen 6 && (was_seen seen 7 && (was_seen seen 8 && (was_seen seen 9 && (was_seen seen 11 && was_seen seen 13))))))))

-- Those of a container: all known ones but the triggers.
abbrev pub has_all_used : List Bool → Bool
has_all_used seen = was_seen seen 0 && (was_seen seen 1 && (was_seen seen 2 && (was_seen seen 3 && (was_seen seen 4 && (was_seen seen 5 && was_seen seen 7)))))

-- Whether a constructed element may end; a list of unit usages or of triggers has one at least.
abbrev pub whole_at : Place → Bool
whole_at (places.Record seen) = has_required seen
whole_at (places.Usages some) = some
whole_at (places.Usage group used) = group && used
whole_at (places.Used seen next) = has_all_used seen
whole_at (places.Triggers some) = some
whole_at (places.Session seen) = seen
whole_at p = true

-- The grammar of records.
abbrev pub records : Rules Place
records = record { enter = enter_place; takes = takes_at; whole = whole_at }
