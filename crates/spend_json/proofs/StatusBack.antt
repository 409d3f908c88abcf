-- A status in range reads back from what is written.
use Rattle.std.proofs.Common.{◌≡◌, ℕ, true, IsTrue, List, [], ◌∷◌, ◌++◌, Option, Some, None, Ok, option_map, codes, refl, sym, ap, ◌∙◌, append_assoc, append-nil, bytes_eq}
use Rattle.std.specs.List.{AllByRecursion}
use Rattle.std.specs.Ordering.{nat_cmp, match_ordering, is_gt}
use Rattle.std.specs.declared.cmp.Ordering.{Ordering}
use Rattle.std.specs.declared.cmp.Ordering.TheVariants.{Less, Equal, Greater}
use Rattle.std.specs.Cmp.Lexicographic.{slice_cmp}
use Rattle.std.proofs.lemmas.Bool.{and_parts, true≢false}
use Rattle.std.proofs.lemmas.Slice.Eq.{bytes_eq-Decides}
use Rattle.serde_json.specs.Data.{Data, Members, no_members, member, put, string}
use Rattle.units.specs.Names.{spells_name}
use Rattle.units.specs.declared.spending.CounterStatus.{CounterStatus}
use Rattle.units.specs.declared.spending.SpendStatus.{SpendStatus}
use Rattle.json_objects.specs.Fields.{given, name, joined}
use Rattle.json_objects.specs.Objects.{object_of, with_fields}
use Rattle.json_objects.specs.Tokens.{are_above, do_ascend}
use Rattle.json_objects.specs.ReadBack.{CanBeRead, FieldsCanBeRead, ReadBackLaws}
use Rattle.spend_json.specs.Status.{info_of, infos_in, infos_of, status_of}
use Rattle.spend_json.specs.StatusWritten.{info_fields, infos_fields, infos_data, status_fields, status_data}
use Rattle.spend_json.specs.Ranges.{FitsInfo, FitsStatus}
use Rattle.spend_json.proofs.Lists.{text_back}

-- ---- depth

info_readable : ReadBackLaws → (info : CounterStatus) → CanBeRead 1 (object_of (info_fields info))
info_readable laws info = laws.objects 0 (info_fields info) refl (laws.texts 0 info.status, (laws.texts 0 info.counter, tt))

infos_readable : ReadBackLaws → (infos : List CounterStatus) → FieldsCanBeRead 1 (infos_fields infos)
infos_readable laws [] = tt
infos_readable laws (info ∷ infos) = (info_readable laws info, infos_readable laws infos)

pub status_readable : ReadBackLaws → (status : SpendStatus) → IsTrue (do_ascend (infos_fields status.infos)) → CanBeRead 3 (status_data status)
status_readable laws status up = laws.objects 2 (status_fields status) refl (laws.objects 1 (infos_fields status.infos) up (infos_readable laws status.infos), (laws.texts 2 status.supi, tt))

-- ---- one status

info_from : (value : Data) (info : CounterStatus) → given (codes "currentStatus") value ≡ Some (string info.status) → given (codes "policyCounterId") value ≡ Some (string info.counter) → FitsInfo info → info_of info.counter value ≡ Some info
info_from value info e1 e2 fits =
    let same : bytes_eq info.counter info.counter ≡ true = (bytes_eq-Decides info.counter info.counter).1 refl in
    rw (e1, text_back spells_name info.status fits.status, e2, text_back spells_name info.counter fits.counter, same) refl

info_back : ReadBackLaws → (info : CounterStatus) → FitsInfo info → info_of info.counter (object_of (info_fields info)) ≡ Some info
info_back laws info fits = info_from (object_of (info_fields info)) info (laws.look_up (codes "currentStatus") (info_fields info)) (laws.look_up (codes "policyCounterId") (info_fields info)) fits

-- ---- all, one after another

-- a name is above those of members
abbrev IsAbove : List ℕ → Members → Type 0
IsAbove key no_members = Unit {0}
IsAbove key (member other value rest) = (slice_cmp nat_cmp key other ≡ Greater) × IsAbove key rest

above_put : (key other : List ℕ) (value : Data) (members : Members) → IsAbove key members → slice_cmp nat_cmp key other ≡ Greater → IsAbove key (put other value members)
above_put key other value no_members h l = (l, tt)
above_put key other value (member first d rest) h l = by (slice_cmp nat_cmp other first) (above_put key other value rest h.1 l)
  where
    by : (o : Ordering) → IsAbove key (put other value rest) → IsAbove key (match_ordering o (member other value (member first d rest)) (member first value rest) (member first d (put other value rest)))
    by Less more = (l, h)
    by Equal more = h
    by Greater more = (h.0, more)

joined_last : (o : Option CounterStatus) (r : Option (List CounterStatus)) (x : CounterStatus) → joined o (option_map (λ xs. xs ++ x ∷ []) r) ≡ option_map (λ xs. xs ++ x ∷ []) (joined o r)
joined_last None r x = refl
joined_last (Some y) None x = refl
joined_last (Some y) (Some ys) x = refl

-- a member above all is the last
put_last : (key : List ℕ) (value : Data) (x : CounterStatus) (members : Members) → info_of key value ≡ Some x → IsAbove key members → infos_in (put key value members) ≡ option_map (λ xs. xs ++ x ∷ []) (infos_in members)
put_last key value x no_members is h = ap (λ o. joined o (Some [])) is
put_last key value x (member first d rest) is h =
    ap (λ o. infos_in (match_ordering o (member key value (member first d rest)) (member first value rest) (member first d (put key value rest)))) h.0
    ∙ ap (joined (info_of first d)) (put_last key value x rest is h.1) ∙ joined_last (info_of first d) (infos_in rest) x

-- each counter is above those of members
abbrev AllAbove : List CounterStatus → Members → Type 0
AllAbove [] ms = Unit {0}
AllAbove (info ∷ infos) ms = IsAbove info.counter ms × AllAbove infos ms

greater_is : (o : Ordering) → is_gt o ≡ true → o ≡ Greater
greater_is Less h = absurd (true≢false (sym h))
greater_is Equal h = absurd (true≢false (sym h))
greater_is Greater h = refl

all_above_put : (key : List ℕ) (value : Data) (infos : List CounterStatus) (ms : Members) → are_above key (infos_fields infos) ≡ true → AllAbove infos ms → AllAbove infos (put key value ms)
all_above_put key value [] ms h all = tt
all_above_put key value (info ∷ infos) ms h all =
    let both = and_parts (is_gt (slice_cmp nat_cmp info.counter key)) (are_above key (infos_fields infos)) h in
    (above_put info.counter key value ms all.0 (greater_is (slice_cmp nat_cmp info.counter key) both.0), all_above_put key value infos ms both.1 all.1)

back_on : ReadBackLaws → (infos done : List CounterStatus) (ms : Members) → infos_in ms ≡ Some done → AllAbove infos ms → AllByRecursion FitsInfo infos → do_ascend (infos_fields infos) ≡ true
    → infos_in (with_fields (infos_fields infos) ms) ≡ Some (done ++ infos)
back_on laws [] done ms is above fits up = is ∙ ap Some (sym (append-nil done))
back_on laws (info ∷ infos) done ms is above fits up =
    let both = and_parts (are_above info.counter (infos_fields infos)) (do_ascend (infos_fields infos)) up in
    let value : Data = object_of (info_fields info) in
    let last = put_last info.counter value info ms (info_back laws info fits.0) above.0 ∙ ap (option_map (λ xs. xs ++ info ∷ [])) is in
    back_on laws infos (done ++ info ∷ []) (put info.counter value ms) last (all_above_put info.counter value infos ms both.0 above.1) fits.1 both.1
    ∙ ap Some (append_assoc done (info ∷ []) infos)

none_above : (infos : List CounterStatus) → AllAbove infos no_members
none_above [] = tt
none_above (info ∷ infos) = (tt, none_above infos)

infos_back : ReadBackLaws → (infos : List CounterStatus) → AllByRecursion FitsInfo infos → IsTrue (do_ascend (infos_fields infos)) → infos_of (infos_data infos) ≡ Some infos
infos_back laws infos fits up = back_on laws infos [] no_members refl (none_above infos) fits up

status_from : (value : Data) (supi : List ℕ) (infos : List CounterStatus)
    → option_map name (given (codes "supi") value) ≡ Some (Some supi) → option_map infos_of (given (codes "statusInfos") value) ≡ Some (Some infos) → status_of value ≡ Ok (record { supi = supi; infos = infos })
status_from value supi infos e1 e2 = rw (e1, e2) refl

pub status_back : ReadBackLaws → (status : SpendStatus) → FitsStatus status → status_of (status_data status) ≡ Ok status
status_back laws status fits =
    let fields = status_fields status in
    status_from (status_data status) status.supi status.infos
    (ap (option_map name) (laws.look_up (codes "supi") fields) ∙ ap Some (text_back spells_name status.supi fits.subscribed))
    (ap (option_map infos_of) (laws.look_up (codes "statusInfos") fields) ∙ ap Some (infos_back laws status.infos fits.infos fits.ascending))
