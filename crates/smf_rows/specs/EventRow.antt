-- The rows of events that come to a charging trigger function (this product's own; TS 32.255, 5.2.1 has the events).
use Rattle.std.specs.Prelude.{ℕ, ◌-◌, ◌^◌, nat_eq, nat_le, bytes_eq, Bool, true, false, List, [], ◌∷◌, Option, Some, None, if◌then◌else◌, option_and_then, option_map, codes}
use Rattle.std.specs.List.{list_any}
use Rattle.rows.specs.Number.{number_of}
use Rattle.row_fields.specs.Fields.{groups_of, name_of, row_size}
use Rattle.units.specs.Words.{type_named}
use Rattle.units.specs.declared.report.Report.{Report}
use Rattle.units.specs.declared.trigger.TriggerType.{TriggerType}
use Rattle.units.specs.declared.trigger.TriggerType.TheVariants.{ForcedReauthorisation, QosChange, RatChange, PlmnChange, UserLocationChange, UeTimezoneChange, SessionAmbrChange, ServingNodeChange, ManagementIntervention}
use Rattle.smf_model.specs.declared.event.SmfEvent.{SmfEvent}
use Rattle.smf_model.specs.declared.event.SmfEvent.TheVariants.{Attach, Start, Count, Change, Tick, Detach}

-- a number of 32 bits
abbrev pub small_of : List ℕ → Option ℕ
small_of field = number_of (2 ^ 32 - 1) field

-- a moment in seconds since 1970
abbrev pub moment_of : List ℕ → Option ℕ
moment_of field = number_of 3155759999 field

-- no group stands among those seen or before it
abbrev pub differ_after : List ℕ → List ℕ → Bool
differ_after seen [] = true
differ_after seen (group ∷ groups) = if list_any (nat_eq group) seen then false else differ_after (group ∷ seen) groups

-- groups that differ
abbrev pub new_groups : List ℕ → Option (List ℕ)
new_groups field = option_and_then (λ groups. if differ_after [] groups then Some groups else None) (groups_of field)

-- the types of a change row: the changes of charging conditions of this product's trigger table
abbrev pub is_change : TriggerType → Bool
is_change ForcedReauthorisation = true
is_change QosChange = true
is_change RatChange = true
is_change PlmnChange = true
is_change UserLocationChange = true
is_change UeTimezoneChange = true
is_change SessionAmbrChange = true
is_change ServingNodeChange = true
is_change ManagementIntervention = true
is_change other = false

-- the type of a change, by its name
abbrev pub change_named : List ℕ → Option TriggerType
change_named field = option_and_then (λ kind. if is_change kind then Some kind else None) (type_named field)

-- `attach,S,SUPI,MOMENT,GROUPS`
abbrev pub attach_of : List (List ℕ) → Option SmfEvent
attach_of (session ∷ supi ∷ moment ∷ groups ∷ []) =
    option_and_then (λ s. option_and_then (λ n. option_and_then (λ m. option_map (λ g. Attach s n g m) (new_groups groups)) (moment_of moment)) (name_of supi)) (small_of session)
attach_of _ = None

-- `start,S,G,MOMENT`
abbrev pub start_of : List (List ℕ) → Option SmfEvent
start_of (session ∷ group ∷ moment ∷ []) = option_and_then (λ s. option_and_then (λ g. option_map (λ m. Start s g m) (moment_of moment)) (small_of group)) (small_of session)
start_of _ = None

-- the report of a row: its number, its group, octets up and down, seconds, its moment
abbrev pub report_with : List ℕ → List ℕ → List ℕ → List ℕ → List ℕ → List ℕ → Option Report
report_with group number up down seconds moment =
    option_and_then (λ g. option_and_then (λ n. option_and_then (λ u. option_and_then (λ d. option_and_then (λ t. option_and_then (λ m.
    Some (record { number = n; group = g; up = u; down = d; seconds = t; moment = m })) (moment_of moment)) (small_of seconds))
    (number_of (2 ^ 64 - 1) down)) (number_of (2 ^ 64 - 1) up)) (small_of number)) (small_of group)

-- `report,S,G,N,UP,DOWN,SECONDS,MOMENT`
abbrev pub report_of : List (List ℕ) → Option SmfEvent
report_of (session ∷ group ∷ number ∷ up ∷ down ∷ seconds ∷ moment ∷ []) =
    option_and_then (λ s. option_map (λ r. Count s r) (report_with group number up down seconds moment)) (small_of session)
report_of _ = None

-- `change,S,TYPE,MOMENT`
abbrev pub change_of : List (List ℕ) → Option SmfEvent
change_of (session ∷ kind ∷ moment ∷ []) = option_and_then (λ s. option_and_then (λ k. option_map (λ m. Change s k m) (moment_of moment)) (change_named kind)) (small_of session)
change_of _ = None

-- `tick,MOMENT`
abbrev pub tick_of : List (List ℕ) → Option SmfEvent
tick_of (moment ∷ []) = option_map (λ m. Tick m) (moment_of moment)
tick_of _ = None

-- `detach,S,MOMENT`, or `abort,S,MOMENT`, whose end is abnormal
abbrev pub detach_of : Bool → List (List ℕ) → Option SmfEvent
detach_of abnormal (session ∷ moment ∷ []) = option_and_then (λ s. option_map (λ m. Detach s abnormal m) (moment_of moment)) (small_of session)
detach_of abnormal _ = None

-- the event of a row, by its word
abbrev pub event_in : List (List ℕ) → Option SmfEvent
event_in [] = None
event_in (word ∷ fields) =
    if bytes_eq word (codes "attach") then attach_of fields else
    (if bytes_eq word (codes "start") then start_of fields else
    (if bytes_eq word (codes "report") then report_of fields else
    (if bytes_eq word (codes "change") then change_of fields else
    (if bytes_eq word (codes "tick") then tick_of fields else
    (if bytes_eq word (codes "detach") then detach_of false fields else
    (if bytes_eq word (codes "abort") then detach_of true fields else None))))))

-- the event that a row gives: its fields joined by commas have at most 1,048,576 bytes
abbrev pub event_of : List (List ℕ) → Option SmfEvent
event_of fields = if nat_le (row_size fields) 1048577 then event_in fields else None
