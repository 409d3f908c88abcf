-- What is read of a charging data request is in range.
use Rattle.std.proofs.Common.{◌≡◌, ◌≤◌, ◌+◌, ◌-◌, ◌^◌, ◌==◌, ℕ, ℤ, pos, negsuc, ◌+ℤ◌, ◌-ℤ◌, ◌*ℤ◌, Bool, true, false, not, ◌&&◌, ◌||◌, List, length, nat_le, Option, Some, None, Result, Ok, Err, IfSome, IfOk, option_map, option_and_then, unwrap_or, refl, sym, arith, codes, if◌then◌else◌}
use Rattle.std.proofs.lemmas.Bool.Decides.{nat_tests}
use Rattle.std.proofs.lemmas.Bool.{true≢false}
use Rattle.std.specs.Prelude.{⊤}
use Rattle.std.specs.Option.{is_some}
use Rattle.std.specs.List.{AllByRecursion}
use Rattle.serde_json.specs.Data.{Data, Items, no_items, item}
use Rattle.serde_json.specs.Find.{as_number, as_u64, as_str, as_array, as_bool}
use Rattle.moments.specs.declared.calendar.LocalTime.{LocalTime}
use Rattle.jiff_core.specs.Calendar.{days_from_civil}
use Rattle.moments.specs.Calendar.{in_range, moment_of, is_date, is_clock, clock_seconds}
use Rattle.moments.specs.Text.{time_of, written_in}
use Rattle.units.specs.Limits.{most_entries}
use Rattle.units.specs.Names.{spells_name, is_kind, is_address}
use Rattle.units.specs.Ranges.{Is32, IsMoment, IsVolume, IsKind, IsName, IsAddress, IfGiven, FitsContainer, FitsAsk, FitsUsage, FitsRequest, is_create}
use Rattle.units.specs.declared.refusal.JsonRefusal.{JsonRefusal}
use Rattle.units.specs.declared.request.Operation.{Operation}
use Rattle.charging_json.specs.declared.container.Counts.{Counts}
use Rattle.charging_json.specs.declared.container.Times.{Times}
use Rattle.json_objects.specs.Fields.{given, is_object, within, number_to, number_32, volume, time, that_passes, text_that, name, optional, needed, joined, each, list_of, or_empty, required, allowed, required_if, after}
use Rattle.charging_json.specs.Triggers.{kind_of, limits_of, sound_kind}
use Rattle.charging_json.specs.Usage.{rest_of, directions, volumes_of, usage_times, in_order, from_moment, times_of, counts_of, used_of, ask_of, count, short, short_list_of, containers_of, entry_of}
use Rattle.charging_json.specs.Request.{consumer_place, named, consumer_of, charging_id_place, request_of}

-- ---- steps

-- what holds of a value leads to what holds of what follows it
pub chain : {A B : Type 0} (Q : A → Type 0) (P : B → Type 0) (o : Option A) (f : A → Option B) → IfSome o Q → ((x : A) → Q x → IfSome (f x) P) → IfSome (option_and_then f o) P
chain Q P None f h k = tt
chain Q P (Some x) f h k = k x h

pub step : {A B : Type 0} (P : B → Type 0) (o : Option A) (f : A → Option B) → ((x : A) → IfSome (f x) P) → IfSome (option_and_then f o) P
step P None f k = tt
step P (Some x) f k = k x

pub mapped : {A B : Type 0} (Q : A → Type 0) (P : B → Type 0) (o : Option A) (f : A → B) → IfSome o Q → ((x : A) → Q x → P (f x)) → IfSome (option_map f o) P
mapped Q P None f h k = tt
mapped Q P (Some x) f h k = k x h

pub if_in : {A : Type 0} (P : A → Type 0) (b : Bool) (o : Option A) → IfSome o P → IfSome (if b then o else None) P
if_in P true o h = h
if_in P false o h = tt

-- ---- values

within_most : (most n : ℕ) → IfSome (within most n) (λ m. m ≤ most)
within_most most n = by (nat_le n most) refl
  where
    by : (b : Bool) → nat_le n most ≡ b → IfSome (if b then Some n else None) (λ m. m ≤ most)
    by true e = let l : n ≤ most = grind (arith, nat_tests, e) in l
    by false e = tt

number_most : (most : ℕ) (value : Data) → IfSome (number_to most value) (λ n. n ≤ most)
number_most most value = step (λ n. n ≤ most) (option_and_then as_u64 (as_number value)) (within most) (within_most most)

pub number_32_in : (value : Data) → IfSome (number_32 value) Is32
number_32_in = number_most 4294967295

pub volume_in : (value : Data) → IfSome (volume value) IsVolume
volume_in = number_most (2 ^ 60)

range_in : (z : ℤ) → IfSome (in_range z) IsMoment
range_in (pos n) = by (nat_le n 3155759999) refl
  where
    by : (b : Bool) → nat_le n 3155759999 ≡ b → IfSome (if b then Some n else None) IsMoment
    by true e = let l : n ≤ 3155759999 = grind (arith, nat_tests, e) in l
    by false e = tt
range_in (negsuc n) = tt

moment_in : (t : LocalTime) → IfSome (moment_of t) IsMoment
moment_in t = if_in IsMoment (is_date t.year t.month t.day && is_clock t.hour t.minute t.second) _ (range_in ((days_from_civil (pos t.year) t.month t.day *ℤ pos 86_400 +ℤ pos (clock_seconds t + t.behind)) -ℤ pos t.ahead))

pub time_in : (value : Data) → IfSome (time value) IsMoment
time_in value = step IsMoment (as_str value) time_of (λ text. step IsMoment (written_in text) moment_of moment_in)

pub text_in : (test : List ℕ → Bool) (value : Data) → IfSome (text_that test value) (λ t. test t ≡ true)
text_in test value = step (λ t. test t ≡ true) (as_str value) (that_passes test) (λ text. by text (test text) refl)
  where
    by : (text : List ℕ) (b : Bool) → test text ≡ b → IfSome (if b then Some text else None) (λ t. test t ≡ true)
    by text true e = e
    by text false e = tt

wrapped : {T : Type 0} (P : T → Type 0) (o : Option T) → IfSome o P → IfSome (option_map Some o) (IfGiven P)
wrapped P None h = tt
wrapped P (Some x) h = h

pub optional_in : {T : Type 0} (P : T → Type 0) (reads : Data → Option T) → ((v : Data) → IfSome (reads v) P) → (found : Option Data) → IfSome (optional reads found) (IfGiven P)
optional_in P reads all None = tt
optional_in P reads all (Some v) = wrapped P (reads v) (all v)

-- ---- lists

pub joined_in : {T : Type 0} (P : T → Type 0) (o : Option T) (os : Option (List T)) → IfSome o P → IfSome os (AllByRecursion P) → IfSome (joined o os) (AllByRecursion P)
joined_in P None os h k = tt
joined_in P (Some x) None h k = tt
joined_in P (Some x) (Some xs) h k = (h, k)

each_in : {T : Type 0} (P : T → Type 0) (reads : Data → Option T) → ((v : Data) → IfSome (reads v) P) → (items : Items) → IfSome (each reads items) (AllByRecursion P)
each_in P reads all no_items = tt
each_in P reads all (item v rest) = joined_in P (reads v) (each reads rest) (all v) (each_in P reads all rest)

pub list_in : {T : Type 0} (P : T → Type 0) (reads : Data → Option T) → ((v : Data) → IfSome (reads v) P) → (value : Data) → IfSome (list_of reads value) (AllByRecursion P)
list_in P reads all value = step (AllByRecursion P) (as_array value) (each reads) (each_in P reads all)

pub all_or_empty : {T : Type 0} (P : T → Type 0) (o : Option (List T)) → IfGiven (AllByRecursion P) o → AllByRecursion P (or_empty o)
all_or_empty P None h = tt
all_or_empty P (Some xs) h = h

-- a list of few values, each of which holds
abbrev Few : {T : Type 0} → (T → Type 0) → List T → Type 0
Few P xs = (length xs ≤ most_entries) × AllByRecursion P xs

abbrev AsMany : {T : Type 0} → ℕ → (T → Type 0) → List T → Type 0
AsMany n P xs = (length xs ≡ n) × AllByRecursion P xs

joined_many : {T : Type 0} (n : ℕ) (P : T → Type 0) (o : Option T) (os : Option (List T)) → IfSome o P → IfSome os (AsMany n P) → IfSome (joined o os) (AsMany (n + 1) P)
joined_many n P None os h k = tt
joined_many n P (Some x) None h k = tt
joined_many n P (Some x) (Some xs) h k = let e = k.0 in (omega (arith, e), (h, k.1))

more_many : {T : Type 0} (P : T → Type 0) (n m : ℕ) → n + 1 ≡ m → (o : Option (List T)) → IfSome o (AsMany (n + 1) P) → IfSome o (AsMany m P)
more_many P n m e None h = tt
more_many P n m e (Some xs) h = let l = h.0 in (omega (arith, e, l), h.1)

each_many : {T : Type 0} (P : T → Type 0) (reads : Data → Option T) → ((v : Data) → IfSome (reads v) P) → (items : Items) → IfSome (each reads items) (AsMany (count items) P)
each_many P reads all no_items = (refl, tt)
each_many P reads all (item v rest) = more_many P (count rest) (count (item v rest)) (omega arith) (joined (reads v) (each reads rest)) (joined_many (count rest) P (reads v) (each reads rest) (all v) (each_many P reads all rest))

short_in : (items : Items) → IfSome (short items) (λ xs. count xs ≤ most_entries)
short_in items = by (nat_le (count items) most_entries) refl
  where
    by : (b : Bool) → nat_le (count items) most_entries ≡ b → IfSome (if b then Some items else None) (λ xs. count xs ≤ most_entries)
    by true e = let l : count items ≤ most_entries = grind (arith, nat_tests, e) in l
    by false e = tt

within_few : {T : Type 0} (P : T → Type 0) (o : Option (List T)) (n : ℕ) → n ≤ most_entries → IfSome o (AsMany n P) → IfSome o (Few P)
within_few P None n l h = tt
within_few P (Some xs) n l h = let e = h.0 in (omega (arith, e, l), h.1)

few_in : {T : Type 0} (P : T → Type 0) (reads : Data → Option T) → ((v : Data) → IfSome (reads v) P) → (value : Data) → IfSome (short_list_of reads value) (Few P)
few_in P reads all value = chain (λ items. count items ≤ most_entries) (Few P) (option_and_then short (as_array value)) (each reads)
    (step (λ items. count items ≤ most_entries) (as_array value) short short_in)
    (λ items few. within_few P (each reads items) (count items) few (each_many P reads all items))

few_or_empty : {T : Type 0} (P : T → Type 0) (o : Option (List T)) → IfGiven (Few P) o → Few P (or_empty o)
few_or_empty P None h = (omega arith, tt)
few_or_empty P (Some xs) h = h

-- ---- containers

kind_in : (value : Data) → IfSome (kind_of value) IsKind
kind_in value = step IsKind (given (codes "triggerType") value) (text_that is_kind) (text_in is_kind)

sound_in : (value : Data) → IfSome (sound_kind value) IsKind
sound_in value = chain IsKind IsKind (kind_of value) _ (kind_in value) (λ kind h. mapped (λ limits. ⊤) IsKind (limits_of value) _ (given_any (limits_of value)) (λ limits any. h))
  where
    given_any : {A : Type 0} (o : Option A) → IfSome o (λ x. ⊤)
    given_any None = tt
    given_any (Some x) = tt

abbrev AreVolumes : (ℕ × ℕ) → Type 0
AreVolumes v = IsVolume v.0 × IsVolume v.1

rest_in : (total part : ℕ) → IfSome (rest_of total part) IsVolume
rest_in total part = by (nat_le part total) (nat_le (total - part) (2 ^ 60)) refl
  where
    by : (a b : Bool) → nat_le (total - part) (2 ^ 60) ≡ b → IfSome (if a && b then Some (total - part) else None) IsVolume
    by true true e = let l : total - part ≤ 2 ^ 60 = grind (arith, nat_tests, e) in l
    by true false e = tt
    by false b e = tt

all_down : (total : ℕ) → IfSome (if nat_le total (2 ^ 60) then Some (0, total) else None) AreVolumes
all_down total = by (nat_le total (2 ^ 60)) refl
  where
    by : (b : Bool) → nat_le total (2 ^ 60) ≡ b → IfSome (if b then Some (0, total) else None) AreVolumes
    by true e = (omega arith, (let l : total ≤ 2 ^ 60 = grind (arith, nat_tests, e) in l))
    by false e = tt

directions_in : (up down total : Option ℕ) → IfGiven IsVolume up → IfGiven IsVolume down → IfSome (directions up down total) AreVolumes
directions_in (Some up) (Some down) (Some total) hu hd = if_in AreVolumes (total == up + down) (Some (up, down)) (hu, hd)
directions_in (Some up) (Some down) None hu hd = (hu, hd)
directions_in (Some up) None (Some total) hu hd = mapped IsVolume AreVolumes (rest_of total up) (λ down. (up, down)) (rest_in total up) (λ down h. (hu, h))
directions_in (Some up) None None hu hd = (hu, omega arith)
directions_in None (Some down) (Some total) hu hd = mapped IsVolume AreVolumes (rest_of total down) (λ up. (up, down)) (rest_in total down) (λ up h. (h, hd))
directions_in None (Some down) None hu hd = (omega arith, hd)
directions_in None None (Some total) hu hd = all_down total
directions_in None None None hu hd = (omega arith, omega arith)

volumes_in : (value : Data) → IfSome (volumes_of value) AreVolumes
volumes_in value =
    chain (IfGiven IsVolume) AreVolumes (optional volume (given (codes "uplinkVolume") value)) _ (optional_in IsVolume volume volume_in (given (codes "uplinkVolume") value)) (λ up hu.
    chain (IfGiven IsVolume) AreVolumes (optional volume (given (codes "downlinkVolume") value)) _ (optional_in IsVolume volume volume_in (given (codes "downlinkVolume") value)) (λ down hd.
    step AreVolumes (optional (number_to (2 ^ 61)) (given (codes "totalVolume") value)) _ (λ total. directions_in up down total hu hd)))

abbrev FitsCounts : Counts → Type 0
FitsCounts c = Is32 c.lsn × Is32 c.seconds × IsVolume c.up × IsVolume c.down

or_zero : (o : Option ℕ) → IfGiven Is32 o → Is32 (unwrap_or o 0)
or_zero None h = omega arith
or_zero (Some n) h = h

counts_in : (value : Data) → IfSome (counts_of value) FitsCounts
counts_in value =
    chain Is32 FitsCounts (needed number_32 (given (codes "localSequenceNumber") value)) _ (step Is32 (given (codes "localSequenceNumber") value) number_32 number_32_in) (λ lsn hl.
    chain (IfGiven Is32) FitsCounts (optional number_32 (given (codes "time") value)) _ (optional_in Is32 number_32 number_32_in (given (codes "time") value)) (λ seconds hs.
    mapped AreVolumes FitsCounts (volumes_of value) _ (volumes_in value) (λ volumes hv. (hl, or_zero seconds hs, hv.0, hv.1))))

abbrev AreMoments : (Option ℕ × Option ℕ) → Type 0
AreMoments t = IfGiven IsMoment t.0 × IfGiven IsMoment t.1

abbrev FitsTimes : Times → Type 0
FitsTimes t = (t.first ≤ t.last) × IsMoment t.last × IsMoment t.moment

or_moment : (o : Option ℕ) (moment : ℕ) → IfGiven IsMoment o → IsMoment moment → IsMoment (unwrap_or o moment)
or_moment None moment h m = m
or_moment (Some n) moment h m = h

usage_in : (found : Option Data) → IfSome (usage_times found) AreMoments
usage_in None = (tt, tt)
usage_in (Some info) = if_in AreMoments (is_object info) _
    (chain (IfGiven IsMoment) AreMoments (optional time (given (codes "timeofFirstUsage") info)) _ (optional_in IsMoment time time_in (given (codes "timeofFirstUsage") info)) (λ first hf.
    mapped (IfGiven IsMoment) AreMoments (optional time (given (codes "timeofLastUsage") info)) _ (optional_in IsMoment time time_in (given (codes "timeofLastUsage") info)) (λ last hl. (hf, hl))))

order_in : (moment first last : ℕ) → IsMoment moment → IsMoment last → IfSome (in_order moment first last) FitsTimes
order_in moment first last hm hl = by (nat_le first last) refl
  where
    by : (b : Bool) → nat_le first last ≡ b → IfSome (if b then Some (record { moment = moment; first = first; last = last }) else None) FitsTimes
    by true e = let l : first ≤ last = grind (arith, nat_tests, e) in (l, hl, hm)
    by false e = tt

times_in : (stamp : ℕ) → IsMoment stamp → (value : Data) → IfSome (times_of stamp value) FitsTimes
times_in stamp hs value =
    chain (IfGiven IsMoment) FitsTimes (optional time (given (codes "triggerTimestamp") value)) _ (optional_in IsMoment time time_in (given (codes "triggerTimestamp") value)) (λ moment hm.
    chain AreMoments FitsTimes (usage_times (given (codes "pDUContainerInformation") value)) (from_moment (unwrap_or moment stamp)) (usage_in (given (codes "pDUContainerInformation") value)) (λ times ht.
    let m : IsMoment (unwrap_or moment stamp) = or_moment moment stamp hm hs in
    order_in (unwrap_or moment stamp) (unwrap_or times.0 (unwrap_or moment stamp)) (unwrap_or times.1 (unwrap_or moment stamp)) m (or_moment times.1 (unwrap_or moment stamp) ht.1 m)))

used_in : (group stamp : ℕ) → IsMoment stamp → (value : Data) → IfSome (used_of group stamp value) (FitsContainer group)
used_in group stamp hs value =
    chain FitsCounts (FitsContainer group) (counts_of value) _ (counts_in value) (λ counts hc.
    chain FitsTimes (FitsContainer group) (times_of stamp value) _ (times_in stamp hs value) (λ times ht.
    mapped (IfGiven (AllByRecursion IsKind)) (FitsContainer group) (optional (list_of sound_kind) (given (codes "triggers") value)) _
    (optional_in (AllByRecursion IsKind) (list_of sound_kind) (list_in IsKind sound_kind sound_in) (given (codes "triggers") value)) (λ triggers hk. record {
      number = hc.0;
      seconds = hc.1;
      up = hc.2;
      down = hc.3;
      of_group = refl;
      in_order = ht.0;
      last = ht.1;
      closed = ht.2;
      kinds = all_or_empty IsKind triggers hk;
    })))

-- ---- entries

ask_in : (value : Data) → IfSome (ask_of value) FitsAsk
ask_in value = if_in FitsAsk (is_object value) _
    (chain (IfGiven IsVolume) FitsAsk (optional volume (given (codes "totalVolume") value)) _ (optional_in IsVolume volume volume_in (given (codes "totalVolume") value)) (λ octets ho.
    mapped (IfGiven Is32) FitsAsk (optional number_32 (given (codes "time") value)) _ (optional_in Is32 number_32 number_32_in (given (codes "time") value)) (λ seconds hs. record { octets = ho; time = hs })))

entry_in : (stamp : ℕ) → IsMoment stamp → (value : Data) → IfSome (entry_of stamp value) FitsUsage
entry_in stamp hs value =
    chain Is32 FitsUsage (needed number_32 (given (codes "ratingGroup") value)) _ (step Is32 (given (codes "ratingGroup") value) number_32 number_32_in) (λ group hg.
    chain (IfGiven FitsAsk) FitsUsage (optional ask_of (given (codes "requestedUnit") value)) _ (optional_in FitsAsk ask_of ask_in (given (codes "requestedUnit") value)) (λ ask ha.
    mapped (IfGiven (Few (FitsContainer group))) FitsUsage (containers_of stamp group value) _
    (optional_in (Few (FitsContainer group)) (short_list_of (used_of group stamp)) (few_in (FitsContainer group) (used_of group stamp) (used_in group stamp hs)) (given (codes "usedUnitContainer") value)) (λ used hu.
    let few = few_or_empty (FitsContainer group) used hu in record { number = hg; asked = ha; few = few.0; containers = few.1 })))

-- ---- messages

pub then_in : {A B : Type 0} (Q : A → Type 0) (P : B → Type 0) (r : Result A JsonRefusal) (rest : A → Result B JsonRefusal) → IfOk r Q → ((x : A) → Q x → IfOk (rest x) P) → IfOk (after r rest) P
then_in Q P (Ok x) rest h k = k x h
then_in Q P (Err e) rest h k = tt

required_one : {T : Type 0} (P : T → Type 0) (label : List ℕ) (o : Option T) → IfSome o P → IfOk (required label (Some o)) P
required_one P label None h = tt
required_one P label (Some x) h = h

pub required_in : {T : Type 0} (P : T → Type 0) (label : List ℕ) (reads : Data → Option T) → ((v : Data) → IfSome (reads v) P) → (found : Option Data) → IfOk (required label (option_map reads found)) P
required_in P label reads all None = tt
required_in P label reads all (Some v) = required_one P label (reads v) (all v)

allowed_one : {T : Type 0} (P : T → Type 0) (label : List ℕ) (o : Option T) → IfSome o P → IfOk (allowed label (Some o)) (IfGiven P)
allowed_one P label None h = tt
allowed_one P label (Some x) h = h

pub allowed_in : {T : Type 0} (P : T → Type 0) (label : List ℕ) (reads : Data → Option T) → ((v : Data) → IfSome (reads v) P) → (found : Option Data) → IfOk (allowed label (option_map reads found)) (IfGiven P)
allowed_in P label reads all None = tt
allowed_in P label reads all (Some v) = allowed_one P label (reads v) (all v)

-- a value in range, which is there where it has to be
abbrev IsThere : {T : Type 0} → Bool → (T → Type 0) → Option T → Type 0
IsThere must P o = IfGiven P o × (must ≡ true → is_some o ≡ true)

required_if_one : {T : Type 0} (must : Bool) (P : T → Type 0) (label : List ℕ) (o : Option T) → IfSome o P → IfOk (required_if must label (Some o)) (IsThere must P)
required_if_one must P label None h = tt
required_if_one must P label (Some x) h = (h, λ e. refl)

required_if_in : {T : Type 0} (must : Bool) (P : T → Type 0) (label : List ℕ) (reads : Data → Option T) → ((v : Data) → IfSome (reads v) P) → (found : Option Data) → IfOk (required_if must label (option_map reads found)) (IsThere must P)
required_if_in true P label reads all None = tt
required_if_in false P label reads all None = (tt, λ e. absurd (true≢false (sym e)))
required_if_in must P label reads all (Some v) = required_if_one must P label (reads v) (all v)

name_in : (value : Data) → IfSome (name value) IsName
name_in = text_in spells_name

consumer_in : (value : Data) → IfSome (consumer_of value) IsName
consumer_in value = by (consumer_place value)
  where
    by : (place : Option Data) → IfSome (named place) IsName
    by None = tt
    by (Some v) = name_in v

bool_in : (value : Data) → IfSome (as_bool value) (λ b. ⊤)
bool_in value = by (as_bool value)
  where
    by : (o : Option Bool) → IfSome o (λ b. ⊤)
    by None = tt
    by (Some b) = tt

complete : (create subscriber charged : Bool) → (create ≡ true → subscriber ≡ true) → (create ≡ true → charged ≡ true) → (not create || (subscriber && charged)) ≡ true
complete true subscriber charged hs hc = rw (hs refl, hc refl) refl
complete false subscriber charged hs hc = refl

pub request_of_fits : (operation : Operation) (value : Data) → IfOk (request_of operation value) FitsRequest
request_of_fits operation value =
    then_in IsName FitsRequest (required (codes "nfConsumerIdentification") (option_map consumer_of (given (codes "nfConsumerIdentification") value))) _ (required_in IsName (codes "nfConsumerIdentification") consumer_of consumer_in (given (codes "nfConsumerIdentification") value)) (λ consumer h1.
    then_in IsMoment FitsRequest (required (codes "invocationTimeStamp") (option_map time (given (codes "invocationTimeStamp") value))) _ (required_in IsMoment (codes "invocationTimeStamp") time time_in (given (codes "invocationTimeStamp") value)) (λ stamp h2.
    then_in Is32 FitsRequest (required (codes "invocationSequenceNumber") (option_map number_32 (given (codes "invocationSequenceNumber") value))) _ (required_in Is32 (codes "invocationSequenceNumber") number_32 number_32_in (given (codes "invocationSequenceNumber") value)) (λ number h3.
    then_in (IsThere (is_create operation) IsName) FitsRequest (required_if (is_create operation) (codes "subscriberIdentifier") (option_map name (given (codes "subscriberIdentifier") value))) _ (required_if_in (is_create operation) IsName (codes "subscriberIdentifier") name name_in (given (codes "subscriberIdentifier") value)) (λ subscriber h4.
    then_in (IsThere (is_create operation) Is32) FitsRequest (required_if (is_create operation) (codes "chargingId") (option_map number_32 (charging_id_place value))) _ (required_if_in (is_create operation) Is32 (codes "chargingId") number_32 number_32_in (charging_id_place value)) (λ charging_id h5.
    then_in (IfGiven (λ b. ⊤)) FitsRequest (allowed (codes "retransmissionIndicator") (option_map as_bool (given (codes "retransmissionIndicator") value))) _ (allowed_in (λ b. ⊤) (codes "retransmissionIndicator") as_bool bool_in (given (codes "retransmissionIndicator") value)) (λ again h6.
    then_in (IfGiven IsAddress) FitsRequest (allowed (codes "notifyUri") (option_map (text_that is_address) (given (codes "notifyUri") value))) _ (allowed_in IsAddress (codes "notifyUri") (text_that is_address) (text_in is_address) (given (codes "notifyUri") value)) (λ notify h7.
    then_in (IfGiven (Few FitsUsage)) FitsRequest (allowed (codes "multipleUnitUsage") (option_map (short_list_of (entry_of stamp)) (given (codes "multipleUnitUsage") value))) _ (allowed_in (Few FitsUsage) (codes "multipleUnitUsage") (short_list_of (entry_of stamp)) (few_in FitsUsage (entry_of stamp) (entry_in stamp h2)) (given (codes "multipleUnitUsage") value)) (λ usage h8.
    then_in (IfGiven (AllByRecursion IsKind)) FitsRequest (allowed (codes "triggers") (option_map (list_of sound_kind) (given (codes "triggers") value))) _ (allowed_in (AllByRecursion IsKind) (codes "triggers") (list_of sound_kind) (list_in IsKind sound_kind sound_in) (given (codes "triggers") value)) (λ triggers h9.
    let few = few_or_empty FitsUsage usage h8 in record {
      name = h1;
      stamped = h2;
      numbered = h3;
      subscribed = h4.0;
      charged = h5.0;
      complete = complete (is_create operation) (is_some subscriber) (is_some charging_id) h4.1 h5.1;
      notified = h7;
      few = few.0;
      entries = few.1;
      kinds = all_or_empty IsKind triggers h9;
    })))))))))
