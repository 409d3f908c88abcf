-- What is written of a record in range is admitted, and within the bounds on tags and depth.
use Rattle.std.proofs.Common.{◌≡◌, ℕ, ◌-◌, ◌^◌, ◌<◌, ◌≤◌, Bool, true, false, eqb, List, [], ◌∷◌, Some, refl, arith}
use Rattle.std.specs.Prelude.{is_some, ◌&&◌}
use Rattle.std.proofs.lemmas.Bool.Decides.{nat_tests}
use Rattle.std.specs.List.{AllByRecursion}
use Rattle.moments.specs.Stamp.{stamp_time, stamp_octets}
use Rattle.units.specs.declared.request.Used.{Used}
use Rattle.units.specs.declared.request.UnitUsage.{UnitUsage}
use Rattle.units.specs.Limits.{greatest_moment}
use Rattle.ber.specs.Element.{primitive, constructed, Elements, none, more, joined}
use Rattle.ber.specs.Grammar.{AllConform, Admits}
use Rattle.ber.specs.Written.{IsBounded, AreBounded}
use Rattle.records.specs.declared.record.Record.{Record}
use Rattle.records.specs.declared.place.Place.TheVariants as places
use Rattle.records.specs.Fields.{text_of, stamp_of, integer_octets}
use Rattle.records.specs.Grammar.{records, no_field, no_used}
use Rattle.records.specs.Written.{number_field, stamp_field, each, trigger_element, triggers_field, amount_fields, time_fields, trigger_fields, used_element, usage_element, usage_field, name_fields, other_fields, record_element}
use Rattle.records.specs.Fitting.{IsText, FitsContainer, FitsUsage, FitsRecord}
use Rattle.records.proofs.Integers.{integer_taken}

-- the law of the crate `moments`
abbrev pub StampsReadBack : Type 0
StampsReadBack = (moment : ℕ) → moment ≤ greatest_moment → stamp_time (stamp_octets moment) ≡ Some moment

pub stamp_again : StampsReadBack → (moment : ℕ) → moment ≤ greatest_moment → stamp_of (stamp_octets moment) ≡ Some moment
unfolding stamp_octets
stamp_again law moment fits = law moment fits

stamp_taken : StampsReadBack → (moment : ℕ) → moment ≤ greatest_moment → is_some (stamp_of (stamp_octets moment)) ≡ true
stamp_taken law moment fits = rw (stamp_again law moment fits) refl

pub text_again : (text : List ℕ) → IsText text → text_of text ≡ Some text
text_again text h = rw h refl

text_taken : (text : List ℕ) → IsText text → is_some (text_of text) ≡ true
text_taken text h = rw (text_again text h) refl

-- ---- the grammar admits it

triggers_conform : (some : Bool) (ts : List (List ℕ)) → AllByRecursion IsText ts → AllConform records (places.Triggers true) (each trigger_element ts)
triggers_conform some [] h = refl
triggers_conform some (t ∷ ts) h = (places.Triggers true, places.Text, refl, text_taken t h.0, triggers_conform some ts h.1)

-- the fields of a container that were seen: all before the triggers, and these
abbrev used_seen : Bool → Bool → List Bool
used_seen triggers stamp = true ∷ true ∷ true ∷ true ∷ true ∷ true ∷ triggers ∷ stamp ∷ []

ending_conform : StampsReadBack → (ts : List (List ℕ)) (moment : ℕ) → AllByRecursion IsText ts → moment ≤ greatest_moment
    → AllConform records (places.Used (used_seen false false) 6) (joined (triggers_field ts) (more (stamp_field 7 moment) none))
ending_conform law [] moment h fits = (places.Used (used_seen false true) 8, places.Stamp, refl, stamp_taken law moment fits, refl)
ending_conform law (t ∷ ts) moment h fits = (
  places.Used (used_seen true false) 7,
  places.Triggers false,
  refl,
  (places.Triggers true, places.Text, refl, text_taken t h.0, triggers_conform true ts h.1),
  (places.Used (used_seen true true) 8, places.Stamp, refl, stamp_taken law moment fits, refl),
)

-- so many of the first six fields were seen
abbrev first_seen : Bool → Bool → Bool → Bool → Bool → List Bool
first_seen b c d e f = true ∷ b ∷ c ∷ d ∷ e ∷ f ∷ false ∷ false ∷ []

container_conforms : StampsReadBack → (group : ℕ) (u : Used) → FitsContainer group u
    → AllConform records (places.Used no_used 0) (joined (amount_fields u) (joined (time_fields u) (trigger_fields u)))
container_conforms law group u h = (
  places.Used (first_seen false false false false false) 1,
  places.Number (2 ^ 32 - 1),
  refl,
  integer_taken (2 ^ 32 - 1) u.lsn (omega (arith, h.number)) (omega (arith, h.number)),
  (
    places.Used (first_seen true false false false false) 2,
    places.Number (2 ^ 32 - 1),
    refl,
    integer_taken (2 ^ 32 - 1) u.seconds (omega (arith, h.seconds)) (omega (arith, h.seconds)),
    (
      places.Used (first_seen true true false false false) 3,
      places.Number (2 ^ 64 - 1),
      refl,
      integer_taken (2 ^ 64 - 1) u.up (omega (arith, h.up)) h.up,
      (
        places.Used (first_seen true true true false false) 4,
        places.Number (2 ^ 64 - 1),
        refl,
        integer_taken (2 ^ 64 - 1) u.down (omega (arith, h.down)) h.down,
        (
          places.Used (first_seen true true true true false) 5,
          places.Stamp,
          refl,
          stamp_taken law u.first h.first,
          (places.Used (first_seen true true true true true) 6, places.Stamp, refl, stamp_taken law u.last h.last, ending_conform law u.triggers u.moment h.kinds h.closed),
        ),
      ),
    ),
  ),
)

containers_conform : StampsReadBack → (group : ℕ) (us : List Used) → AllByRecursion (FitsContainer group) us → AllConform records places.Containers (each used_element us)
containers_conform law group [] h = refl
containers_conform law group (u ∷ us) h = (places.Containers, places.Used no_used 0, refl, container_conforms law group u h.0, containers_conform law group us h.1)

usage_conforms : StampsReadBack → (u : UnitUsage) → FitsUsage u → AllConform records (places.Usage false false) (more (number_field 0 u.group) (more (constructed 2 1 (each used_element u.used)) none))
usage_conforms law u h = (
  places.Usage true false,
  places.Number (2 ^ 32 - 1),
  refl,
  integer_taken (2 ^ 32 - 1) u.group (omega (arith, h.number)) (omega (arith, h.number)),
  (places.Usage true true, places.Containers, refl, containers_conform law u.group u.used h.containers, refl),
)

usages_conform : StampsReadBack → (us : List UnitUsage) → AllByRecursion FitsUsage us → AllConform records (places.Usages true) (each usage_element us)
usages_conform law [] h = refl
usages_conform law (u ∷ us) h = (places.Usages true, places.Usage false false, refl, usage_conforms law u h.0, usages_conform law us h.1)

-- the fields of a record that were seen: the record type and the names, and these
abbrev fields_seen : Bool → Bool → Bool → Bool → Bool → Bool → Bool → List Bool
fields_seen f g h i j k l = true ∷ true ∷ true ∷ true ∷ false ∷ f ∷ g ∷ h ∷ i ∷ j ∷ false ∷ k ∷ false ∷ l ∷ []

others_conform : StampsReadBack → (usage : Bool) (r : Record) → FitsRecord r → AllConform records (places.Record (fields_seen usage false false false false false false)) (other_fields r)
others_conform law usage r h = (
  places.Record (fields_seen usage true false false false false false),
  places.Stamp,
  refl,
  stamp_taken law r.opening h.opening,
  (
    places.Record (fields_seen usage true true false false false false),
    places.Number (2 ^ 32 - 1),
    refl,
    integer_taken (2 ^ 32 - 1) r.duration (omega (arith, h.lasting)) (omega (arith, h.lasting)),
    (
      places.Record (fields_seen usage true true true false false false),
      places.Number (2 ^ 32 - 1),
      refl,
      integer_taken (2 ^ 32 - 1) r.sequence (omega (arith, h.number)) (omega (arith, h.number)),
      (
        places.Record (fields_seen usage true true true true false false),
        places.Number 255,
        refl,
        integer_taken 255 r.cause (omega (arith, h.reason)) (omega (arith, h.reason)),
        (
          places.Record (fields_seen usage true true true true true false),
          places.Number (2 ^ 32 - 1),
          refl,
          integer_taken (2 ^ 32 - 1) r.local (omega (arith, h.local_number)) (omega (arith, h.local_number)),
          (
            places.Record (fields_seen usage true true true true true true),
            places.Session false,
            refl,
            (places.Session true, places.Number (2 ^ 32 - 1), refl, integer_taken (2 ^ 32 - 1) r.charging_id (omega (arith, h.session)) (omega (arith, h.session)), refl),
            refl,
          ),
        ),
      ),
    ),
  ),
)

later_conform : StampsReadBack → (us : List UnitUsage) (r : Record) → FitsRecord r → AllByRecursion FitsUsage us
    → AllConform records (places.Record (fields_seen false false false false false false false)) (joined (usage_field us) (other_fields r))
later_conform law [] r h all = others_conform law false r h
later_conform law (u ∷ us) r h all = (
  places.Record (fields_seen true false false false false false false),
  places.Usages false,
  refl,
  (places.Usages true, places.Usage false false, refl, usage_conforms law u all.0, usages_conform law us all.1),
  others_conform law true r h,
)

-- the record type was seen, and so many names
abbrev names_seen : Bool → Bool → List Bool
names_seen b c = true ∷ b ∷ c ∷ false ∷ false ∷ false ∷ false ∷ false ∷ false ∷ false ∷ false ∷ false ∷ false ∷ false ∷ []

pub admits_written : StampsReadBack → (r : Record) → FitsRecord r → Admits records places.Start (record_element r)
admits_written law r h = (
  places.Start,
  places.Record no_field,
  refl,
  (
    places.Record (names_seen false false),
    places.Kind,
    refl,
    refl,
    (
      places.Record (names_seen true false),
      places.Text,
      refl,
      text_taken r.function h.function,
      (
        places.Record (names_seen true true),
        places.Text,
        refl,
        text_taken r.subscriber h.subscriber,
        (places.Record (fields_seen false false false false false false false), places.Text, refl, text_taken r.consumer h.consumer, later_conform law r.usage r h h.entries),
      ),
    ),
  ),
)

-- ---- tags and depth

field_bounded : (levels number : ℕ) (contents : List ℕ) → number < 2 ^ 32 → 1 ≤ levels → IsBounded levels (primitive 2 number contents)
field_bounded levels number contents small some = ((omega arith, small, refl), some)

and_false : (b : Bool) → (b && false) ≡ false
and_false true = refl
and_false false = refl

group_bounded : (levels class number : ℕ) (inner : Elements) → class < 4 → 1 ≤ number → number < 2 ^ 32 → 1 ≤ levels → AreBounded (levels - 1) inner → IsBounded levels (constructed class number inner)
group_bounded levels class number inner small one fits some within =
    let no : eqb number 0 ≡ false = grind (arith, nat_tests) in
    ((small, fits, rw no (and_false (eqb class 0))), some, within)

triggers_bounded : (ts : List (List ℕ)) → AreBounded 10 (each trigger_element ts)
triggers_bounded [] = tt
triggers_bounded (t ∷ ts) = (((omega arith, omega arith, refl), omega arith), triggers_bounded ts)

ending_bounded : (ts : List (List ℕ)) (moment : ℕ) → AreBounded 11 (joined (triggers_field ts) (more (stamp_field 7 moment) none))
ending_bounded [] moment = (field_bounded 11 7 (stamp_octets moment) (omega arith) (omega arith), tt)
ending_bounded (t ∷ ts) moment = (
  group_bounded 11 2 6 (each trigger_element (t ∷ ts)) (omega arith) (omega arith) (omega arith) (omega arith) (triggers_bounded (t ∷ ts)),
  (field_bounded 11 7 (stamp_octets moment) (omega arith) (omega arith), tt),
)

container_bounded : (u : Used) → IsBounded 12 (used_element u)
container_bounded u =
    group_bounded 12 0 16 (joined (amount_fields u) (joined (time_fields u) (trigger_fields u))) (omega arith) (omega arith) (omega arith) (omega arith) (
      field_bounded 11 0 (integer_octets u.lsn) (omega arith) (omega arith),
      (
        field_bounded 11 1 (integer_octets u.seconds) (omega arith) (omega arith),
        (
          field_bounded 11 2 (integer_octets u.up) (omega arith) (omega arith),
          (
            field_bounded 11 3 (integer_octets u.down) (omega arith) (omega arith),
            (
              field_bounded 11 4 (stamp_octets u.first) (omega arith) (omega arith),
              (field_bounded 11 5 (stamp_octets u.last) (omega arith) (omega arith), ending_bounded u.triggers u.moment),
            ),
          ),
        ),
      ),
    )

containers_bounded : (us : List Used) → AreBounded 12 (each used_element us)
containers_bounded [] = tt
containers_bounded (u ∷ us) = (container_bounded u, containers_bounded us)

usage_bounded : (u : UnitUsage) → IsBounded 14 (usage_element u)
usage_bounded u =
    group_bounded 14 0 16 (more (number_field 0 u.group) (more (constructed 2 1 (each used_element u.used)) none)) (omega arith) (omega arith) (omega arith) (omega arith) (
      field_bounded 13 0 (integer_octets u.group) (omega arith) (omega arith),
      (group_bounded 13 2 1 (each used_element u.used) (omega arith) (omega arith) (omega arith) (omega arith) (containers_bounded u.used), tt),
    )

usages_bounded : (us : List UnitUsage) → AreBounded 14 (each usage_element us)
usages_bounded [] = tt
usages_bounded (u ∷ us) = (usage_bounded u, usages_bounded us)

others_bounded : (r : Record) → AreBounded 15 (other_fields r)
others_bounded r = (
  field_bounded 15 6 (stamp_octets r.opening) (omega arith) (omega arith),
  (
    field_bounded 15 7 (integer_octets r.duration) (omega arith) (omega arith),
    (
      field_bounded 15 8 (integer_octets r.sequence) (omega arith) (omega arith),
      (
        field_bounded 15 9 (integer_octets r.cause) (omega arith) (omega arith),
        (
          field_bounded 15 11 (integer_octets r.local) (omega arith) (omega arith),
          (
            group_bounded 15 2 13 (more (number_field 0 r.charging_id) none) (omega arith) (omega arith) (omega arith) (omega arith)
                (field_bounded 14 0 (integer_octets r.charging_id) (omega arith) (omega arith), tt),
            tt,
          ),
        ),
      ),
    ),
  ),
)

later_bounded : (us : List UnitUsage) (r : Record) → AreBounded 15 (joined (usage_field us) (other_fields r))
later_bounded [] r = others_bounded r
later_bounded (u ∷ us) r =
    (group_bounded 15 2 5 (each usage_element (u ∷ us)) (omega arith) (omega arith) (omega arith) (omega arith) (usages_bounded (u ∷ us)), others_bounded r)

pub bounded_written : (r : Record) → IsBounded 16 (record_element r)
bounded_written r =
    group_bounded 16 2 200 (joined (name_fields r) (joined (usage_field r.usage) (other_fields r))) (omega arith) (omega arith) (omega arith) (omega arith) (
      field_bounded 15 0 (integer_octets 200) (omega arith) (omega arith),
      (
        field_bounded 15 1 r.function (omega arith) (omega arith),
        (
          field_bounded 15 2 r.subscriber (omega arith) (omega arith),
          (field_bounded 15 3 r.consumer (omega arith) (omega arith), later_bounded r.usage r),
        ),
      ),
    )
