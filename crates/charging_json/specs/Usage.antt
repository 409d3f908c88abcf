-- Used units and requested units (TS 32.291, 6.1.6.2.1.2 to 6.1.6.2.1.5; the rules on totals and defaults are this product's own).
use Rattle.std.specs.Prelude.{ℕ, suc, ◌+◌, ◌-◌, ◌^◌, ◌==◌, ◌&&◌, nat_le, List, Option, Some, None, if◌then◌else◌, option_map, option_and_then, unwrap_or, codes}
use Rattle.serde_json.specs.Data.{Data, Items, no_items, item}
use Rattle.serde_json.specs.Find.{as_array}
use Rattle.units.specs.Limits.{most_entries}
use Rattle.units.specs.declared.request.Ask.{Ask}
use Rattle.units.specs.declared.request.Used.{Used}
use Rattle.units.specs.declared.request.UnitUsage.{UnitUsage}
use Rattle.charging_json.specs.declared.container.Counts.{Counts}
use Rattle.charging_json.specs.declared.container.Times.{Times}
use Rattle.json_objects.specs.Fields.{given, is_object, number_to, number_32, volume, time, optional, needed, each, list_of, or_empty}
use Rattle.charging_json.specs.Triggers.{sound_kind}

-- ---- volumes

-- the other direction: the total less the one that is given, up to 2^60
abbrev pub rest_of : ℕ → ℕ → Option ℕ
rest_of total part = if nat_le part total && nat_le (total - part) (2 ^ 60) then Some (total - part) else None

-- octets up and down of what is given of up, down and total. A total is the sum of both directions; it stands for the one that is not given, and alone it is all downlink
abbrev pub directions : Option ℕ → Option ℕ → Option ℕ → Option (ℕ × ℕ)
directions (Some up) (Some down) (Some total) = if total == up + down then Some (up, down) else None
directions (Some up) (Some down) None = Some (up, down)
directions (Some up) None (Some total) = option_map (λ down. (up, down)) (rest_of total up)
directions (Some up) None None = Some (up, 0)
directions None (Some down) (Some total) = option_map (λ up. (up, down)) (rest_of total down)
directions None (Some down) None = Some (0, down)
directions None None (Some total) = if nat_le total (2 ^ 60) then Some (0, total) else None
directions None None None = Some (0, 0)

-- octets up and down of a container
abbrev pub volumes_of : Data → Option (ℕ × ℕ)
volumes_of value =
    option_and_then (λ up. option_and_then (λ down. option_and_then (λ total. directions up down total)
    (optional (number_to (2 ^ 61)) (given (codes "totalVolume") value)))
    (optional volume (given (codes "downlinkVolume") value)))
    (optional volume (given (codes "uplinkVolume") value))

-- ---- times

-- the times of first and last usage that a container's information gives
abbrev pub usage_times : Option Data → Option (Option ℕ × Option ℕ)
usage_times None = Some (None, None)
usage_times (Some info) =
    if is_object info
    then option_and_then (λ first. option_map (λ last. (first, last)) (optional time (given (codes "timeofLastUsage") info))) (optional time (given (codes "timeofFirstUsage") info))
    else None

-- first and last usage in order
abbrev pub in_order : ℕ → ℕ → ℕ → Option Times
in_order moment first last = if nat_le first last then Some (record { moment = moment; first = first; last = last }) else None

-- a usage time that is absent is the trigger time stamp
abbrev pub from_moment : ℕ → (Option ℕ × Option ℕ) → Option Times
from_moment moment times = in_order moment (unwrap_or times.0 moment) (unwrap_or times.1 moment)

-- a container's times; a trigger time stamp that is absent is the request's time stamp
abbrev pub times_of : ℕ → Data → Option Times
times_of stamp value =
    option_and_then (λ moment. option_and_then (from_moment (unwrap_or moment stamp)) (usage_times (given (codes "pDUContainerInformation") value))) (optional time (given (codes "triggerTimestamp") value))

-- ---- containers

-- counts with these members; seconds that are absent are 0
abbrev pub with_counts : ℕ → Option ℕ → (ℕ × ℕ) → Counts
with_counts lsn seconds volumes = record { lsn = lsn; seconds = unwrap_or seconds 0; up = volumes.0; down = volumes.1 }

-- a container's number, seconds and octets
abbrev pub counts_of : Data → Option Counts
counts_of value =
    option_and_then (λ lsn. option_and_then (λ seconds. option_map (λ volumes. with_counts lsn seconds volumes) (volumes_of value))
    (optional number_32 (given (codes "time") value))) (needed number_32 (given (codes "localSequenceNumber") value))

-- a container with these members
abbrev pub with_used : ℕ → Counts → Times → List (List ℕ) → Used
with_used group counts times triggers = record { lsn = counts.lsn; group = group; up = counts.up; down = counts.down; seconds = counts.seconds; first = times.first; last = times.last; triggers = triggers; moment = times.moment }

-- a used unit container of a rating group, in a request with this time stamp
abbrev pub used_of : ℕ → ℕ → Data → Option Used
used_of group stamp value =
    option_and_then (λ counts. option_and_then (λ times. option_map (λ triggers. with_used group counts times (or_empty triggers))
    (optional (list_of sound_kind) (given (codes "triggers") value))) (times_of stamp value)) (counts_of value)

-- ---- entries

-- a requested unit with these members
abbrev pub with_ask : Option ℕ → Option ℕ → Ask
with_ask volume seconds = record { volume = volume; seconds = seconds }

-- a requested unit
abbrev pub ask_of : Data → Option Ask
ask_of value =
    if is_object value
    then option_and_then (λ octets. option_map (λ seconds. with_ask octets seconds) (optional number_32 (given (codes "time") value))) (optional volume (given (codes "totalVolume") value))
    else None

-- how many items there are
abbrev pub count : Items → ℕ
count no_items = 0
count (item value rest) = suc (count rest)

-- a list of at most 1,000 items (this product's own)
abbrev pub short : Items → Option Items
short items = if nat_le (count items) most_entries then Some items else None

-- a short list of values that are right
abbrev pub short_list_of : {T : Type 0} → (Data → Option T) → Data → Option (List T)
short_list_of reads value = option_and_then (each reads) (option_and_then short (as_array value))

-- an entry with these members; containers that are absent are none
abbrev pub with_usage : ℕ → Option Ask → Option (List Used) → UnitUsage
with_usage group ask used = record { group = group; ask = ask; used = or_empty used }

-- the containers of an entry of this rating group
abbrev pub containers_of : ℕ → ℕ → Data → Option (Option (List Used))
containers_of stamp group value = optional (short_list_of (used_of group stamp)) (given (codes "usedUnitContainer") value)

-- a multiple unit usage
abbrev pub entry_of : ℕ → Data → Option UnitUsage
entry_of stamp value =
    option_and_then (λ group. option_and_then (λ ask. option_map (λ used. with_usage group ask used) (containers_of stamp group value))
    (optional ask_of (given (codes "requestedUnit") value))) (needed number_32 (given (codes "ratingGroup") value))
