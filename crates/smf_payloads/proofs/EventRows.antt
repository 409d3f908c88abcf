-- The event of a row reads back.
use Rattle.std.proofs.Common.{◌≡◌, ◌∙◌, ◌-◌, ◌^◌, ◌<◌, ◌&&◌, ℕ, ap, sym, refl, subst, Bool, true, false, nat_le, bytes_eq, List, [], ◌∷◌, ◌++◌, Option, Some, None, if◌then◌else◌, codes, decimal, arith}
use Rattle.std.specs.Prelude.{option_and_then}
use Rattle.rows.specs.Number.{number_of}
use Rattle.row_fields.specs.Fields.{groups_of, name_of, row_size}
use Rattle.row_texts.specs.RowTexts.{groups_text, row_in, row_text}
use Rattle.row_texts.specs.ReadBack.{AreFields, AreSpelledOnce, RowsReadBack, is_field, is_row}
use Rattle.units.specs.Words.{name_of_type, type_named}
use Rattle.units.specs.declared.report.Report.{Report}
use Rattle.units.specs.declared.trigger.TriggerType.{TriggerType}
use Rattle.smf_rows.specs.EventRow.{attach_of, change_named, change_of, detach_of, differ_after, event_of, is_change, moment_of, new_groups, report_of, report_with, small_of, start_of, tick_of}
use Rattle.smf_rows.specs.EventRow as rows
use Rattle.smf_model.specs.declared.event.SmfEvent.{SmfEvent}
use Rattle.smf_model.specs.declared.event.SmfEvent.TheVariants.{Attach, Start, Count, Change, Tick, Detach}
use Rattle.smf_payloads.specs.Written.{detach_word, event_payload, event_row}
use Rattle.smf_payloads.specs.Read.{event_in}
use Rattle.smf_payloads.specs.Payloads.{ReadsBack}
use Rattle.smf_payloads.proofs.Options.{and_then, mapped, passed}
use Rattle.smf_payloads.proofs.Words.{named, same_text, type_word}

-- the laws of rows
pub record Laws : Type 0 where
  pub back : RowsReadBack
  pub fields : AreFields
  pub once : AreSpelledOnce

-- a field that was read as a number is written as it stands
pub record IsNumber (n : ℕ) (field : List ℕ) : Type 0 where
  pub same : decimal n ≡ field
  pub plain : is_field field ≡ true

pub number_is : Laws → (most n : ℕ) (field : List ℕ) → most < 2 ^ 64 → number_of most field ≡ Some n → IsNumber n field
number_is laws most n field small h = record { same = laws.once.number most n field small h; plain = laws.fields.number most n field h }

small : Laws → (n : ℕ) (field : List ℕ) → small_of field ≡ Some n → IsNumber n field
small laws n field h = number_is laws (2 ^ 32 - 1) n field (omega arith) h

moment : Laws → (n : ℕ) (field : List ℕ) → moment_of field ≡ Some n → IsNumber n field
moment laws n field h = number_is laws 3155759999 n field (omega arith) h

-- an event whose row is the one that gave it
record IsOfRow (row : List (List ℕ)) (e : SmfEvent) : Type 0 where
  written : event_payload e ≡ codes "e" ++ row_text (event_row e)
  same : event_row e ≡ row
  plain : is_row row ≡ true

back : Laws → (row : List (List ℕ)) (e given : SmfEvent) → event_of row ≡ Some given → e ≡ given → IsOfRow row e → ReadsBack given
back laws row e given h made is =
    subst ReadsBack made
    (ap event_in is.written ∙ ap (λ k. option_and_then event_of (row_in (row_text k))) is.same ∙ ap (λ k. option_and_then event_of k) (laws.back.row row is.plain) ∙ h ∙ ap Some (sym made))

-- ---- the rows, by their words

attach_back : Laws → (word : List ℕ) (fields : List (List ℕ)) (e : SmfEvent) → event_of (word ∷ fields) ≡ Some e → word ≡ codes "attach" → attach_of fields ≡ Some e → ReadsBack e
attach_back laws word (session ∷ supi ∷ when ∷ groups ∷ []) e given w h =
    let s = and_then _ (small_of session) e h in
    let n = and_then _ (name_of supi) e s.read_is in
    let m = and_then _ (moment_of when) e n.read_is in
    let g = mapped (λ g. Attach s.source n.source g m.source) (new_groups groups) e m.read_is in
    let all = and_then (λ groups. if differ_after [] groups then Some groups else None) (groups_of groups) g.source g.is in
    let differ = passed (differ_after [] all.source) (Some all.source) g.source all.read_is in
    let groups_same : all.source ≡ g.source = cc in
    let read : groups_of groups ≡ Some g.source = all.is ∙ ap Some groups_same in
    let session_is = small laws s.source session s.is in
    let supi_is = named supi n.source n.is in
    let moment_is = moment laws m.source when m.is in
    let groups_is : groups_text g.source ≡ groups = laws.once.groups groups g.source read in
    let one : is_field word ≡ true = ap is_field w in
    let two : is_field session ≡ true = session_is.plain in
    let three : is_field supi ≡ true = ap is_field (sym supi_is.same) ∙ laws.fields.name n.source supi_is.spells in
    let four : is_field when ≡ true = moment_is.plain in
    let five : is_field groups ≡ true = laws.fields.groups groups g.source read in
    back laws (word ∷ session ∷ supi ∷ when ∷ groups ∷ []) (Attach s.source n.source g.source m.source) e given g.made_is
    (record { written = refl; same = λ i. (sym w) i ∷ session_is.same i ∷ supi_is.same i ∷ moment_is.same i ∷ groups_is i ∷ []; plain = rw (one, two, three, four, five) refl })
attach_back laws word fields e given w h = absurd (cc)

start_back : Laws → (word : List ℕ) (fields : List (List ℕ)) (e : SmfEvent) → event_of (word ∷ fields) ≡ Some e → word ≡ codes "start" → start_of fields ≡ Some e → ReadsBack e
start_back laws word (session ∷ group ∷ when ∷ []) e given w h =
    let s = and_then _ (small_of session) e h in
    let g = and_then _ (small_of group) e s.read_is in
    let m = mapped (λ m. Start s.source g.source m) (moment_of when) e g.read_is in
    let session_is = small laws s.source session s.is in
    let group_is = small laws g.source group g.is in
    let moment_is = moment laws m.source when m.is in
    let one : is_field word ≡ true = ap is_field w in
    let two : is_field session ≡ true = session_is.plain in
    let three : is_field group ≡ true = group_is.plain in
    let four : is_field when ≡ true = moment_is.plain in
    back laws (word ∷ session ∷ group ∷ when ∷ []) (Start s.source g.source m.source) e given m.made_is
    (record { written = refl; same = λ i. (sym w) i ∷ session_is.same i ∷ group_is.same i ∷ moment_is.same i ∷ []; plain = rw (one, two, three, four) refl })
start_back laws word fields e given w h = absurd (cc)

-- a report that was read
record IsReport (group number up down seconds when : List ℕ) (r : Report) : Type 0 where
  group_is : IsNumber r.group group
  number_is : IsNumber r.number number
  up_is : IsNumber r.up up
  down_is : IsNumber r.down down
  seconds_is : IsNumber r.seconds seconds
  moment_is : IsNumber r.moment when

report_is : Laws → (group number up down seconds when : List ℕ) (r : Report) → report_with group number up down seconds when ≡ Some r → IsReport group number up down seconds when r
report_is laws group number up down seconds when r h =
    let g = and_then _ (small_of group) r h in
    let n = and_then _ (small_of number) r g.read_is in
    let u = and_then _ (number_of (2 ^ 64 - 1) up) r n.read_is in
    let d = and_then _ (number_of (2 ^ 64 - 1) down) r u.read_is in
    let t = and_then _ (small_of seconds) r d.read_is in
    let m = and_then _ (moment_of when) r t.read_is in
    let made : Some (record { number = n.source; group = g.source; up = u.source; down = d.source; seconds = t.source; moment = m.source }) ≡ Some r = m.read_is in
    let same : record { number = n.source; group = g.source; up = u.source; down = d.source; seconds = t.source; moment = m.source } ≡ r = cc in
    subst (λ k. IsReport group number up down seconds when k) same (record {
      group_is = small laws g.source group g.is;
      number_is = small laws n.source number n.is;
      up_is = number_is laws (2 ^ 64 - 1) u.source up (omega arith) u.is;
      down_is = number_is laws (2 ^ 64 - 1) d.source down (omega arith) d.is;
      seconds_is = small laws t.source seconds t.is;
      moment_is = moment laws m.source when m.is;
    })

report_back : Laws → (word : List ℕ) (fields : List (List ℕ)) (e : SmfEvent) → event_of (word ∷ fields) ≡ Some e → word ≡ codes "report" → report_of fields ≡ Some e → ReadsBack e
report_back laws word (session ∷ group ∷ number ∷ up ∷ down ∷ seconds ∷ when ∷ []) e given w h =
    let s = and_then _ (small_of session) e h in
    let r = mapped (λ r. Count s.source r) (report_with group number up down seconds when) e s.read_is in
    let session_is = small laws s.source session s.is in
    let is = report_is laws group number up down seconds when r.source r.is in
    let one : is_field word ≡ true = ap is_field w in
    let two : is_field session ≡ true = session_is.plain in
    let three : is_field group ≡ true = is.group_is.plain in
    let four : is_field number ≡ true = is.number_is.plain in
    let five : is_field up ≡ true = is.up_is.plain in
    let six : is_field down ≡ true = is.down_is.plain in
    let seven : is_field seconds ≡ true = is.seconds_is.plain in
    let eight : is_field when ≡ true = is.moment_is.plain in
    back laws (word ∷ session ∷ group ∷ number ∷ up ∷ down ∷ seconds ∷ when ∷ []) (Count s.source r.source) e given r.made_is
    (record {
      written = refl;
      same = λ i. (sym w) i ∷ session_is.same i ∷ is.group_is.same i ∷ is.number_is.same i ∷ is.up_is.same i ∷ is.down_is.same i ∷ is.seconds_is.same i ∷ is.moment_is.same i ∷ [];
      plain = rw (one, two, three, four, five, six, seven, eight) refl;
    })
report_back laws word fields e given w h = absurd (cc)

change_back : Laws → (word : List ℕ) (fields : List (List ℕ)) (e : SmfEvent) → event_of (word ∷ fields) ≡ Some e → word ≡ codes "change" → change_of fields ≡ Some e → ReadsBack e
change_back laws word (session ∷ kind ∷ when ∷ []) e given w h =
    let s = and_then _ (small_of session) e h in
    let k = and_then _ (change_named kind) e s.read_is in
    let m = mapped (λ m. Change s.source k.source m) (moment_of when) e k.read_is in
    let named = and_then (λ kind. if is_change kind then Some kind else None) (type_named kind) k.source k.is in
    let change = passed (is_change named.source) (Some named.source) k.source named.read_is in
    let kind_same : named.source ≡ k.source = cc in
    let kind_is = type_word kind k.source (named.is ∙ ap Some kind_same) in
    let session_is = small laws s.source session s.is in
    let moment_is = moment laws m.source when m.is in
    let one : is_field word ≡ true = ap is_field w in
    let two : is_field session ≡ true = session_is.plain in
    let three : is_field kind ≡ true = kind_is.plain in
    let four : is_field when ≡ true = moment_is.plain in
    back laws (word ∷ session ∷ kind ∷ when ∷ []) (Change s.source k.source m.source) e given m.made_is
    (record { written = refl; same = λ i. (sym w) i ∷ session_is.same i ∷ kind_is.same i ∷ moment_is.same i ∷ []; plain = rw (one, two, three, four) refl })
change_back laws word fields e given w h = absurd (cc)

tick_back : Laws → (word : List ℕ) (fields : List (List ℕ)) (e : SmfEvent) → event_of (word ∷ fields) ≡ Some e → word ≡ codes "tick" → tick_of fields ≡ Some e → ReadsBack e
tick_back laws word (when ∷ []) e given w h =
    let m = mapped (λ m. Tick m) (moment_of when) e h in
    let moment_is = moment laws m.source when m.is in
    let one : is_field word ≡ true = ap is_field w in
    let two : is_field when ≡ true = moment_is.plain in
    back laws (word ∷ when ∷ []) (Tick m.source) e given m.made_is (record { written = refl; same = λ i. (sym w) i ∷ moment_is.same i ∷ []; plain = rw (one, two) refl })
tick_back laws word fields e given w h = absurd (cc)

detach_back : Laws → (abnormal : Bool) (word : List ℕ) (fields : List (List ℕ)) (e : SmfEvent) → event_of (word ∷ fields) ≡ Some e → word ≡ detach_word abnormal → is_field word ≡ true → detach_of abnormal fields ≡ Some e → ReadsBack e
detach_back laws abnormal word (session ∷ when ∷ []) e given w plain h =
    let s = and_then _ (small_of session) e h in
    let m = mapped (λ m. Detach s.source abnormal m) (moment_of when) e s.read_is in
    let session_is = small laws s.source session s.is in
    let moment_is = moment laws m.source when m.is in
    let two : is_field session ≡ true = session_is.plain in
    let three : is_field when ≡ true = moment_is.plain in
    back laws (word ∷ session ∷ when ∷ []) (Detach s.source abnormal m.source) e given m.made_is
    (record { written = refl; same = λ i. (sym w) i ∷ session_is.same i ∷ moment_is.same i ∷ []; plain = rw (plain, two, three) refl })
detach_back laws abnormal word fields e given w plain h = absurd (cc)

-- which word it is
by_word : Laws → (word : List ℕ) (fields : List (List ℕ)) (e : SmfEvent) → event_of (word ∷ fields) ≡ Some e → (a s r c t d b : Bool)
    → bytes_eq word (codes "attach") ≡ a → bytes_eq word (codes "start") ≡ s → bytes_eq word (codes "report") ≡ r → bytes_eq word (codes "change") ≡ c → bytes_eq word (codes "tick") ≡ t → bytes_eq word (codes "detach") ≡ d → bytes_eq word (codes "abort") ≡ b
    → (if a then attach_of fields else (if s then start_of fields else (if r then report_of fields else (if c then change_of fields else (if t then tick_of fields else (if d then detach_of false fields else (if b then detach_of true fields else None))))))) ≡ Some e
    → ReadsBack e
by_word laws word fields e given true s r c t d b aw sw rw_ cw tw dw bw h = attach_back laws word fields e given (same_text word (codes "attach") aw) h
by_word laws word fields e given false true r c t d b aw sw rw_ cw tw dw bw h = start_back laws word fields e given (same_text word (codes "start") sw) h
by_word laws word fields e given false false true c t d b aw sw rw_ cw tw dw bw h = report_back laws word fields e given (same_text word (codes "report") rw_) h
by_word laws word fields e given false false false true t d b aw sw rw_ cw tw dw bw h = change_back laws word fields e given (same_text word (codes "change") cw) h
by_word laws word fields e given false false false false true d b aw sw rw_ cw tw dw bw h = tick_back laws word fields e given (same_text word (codes "tick") tw) h
by_word laws word fields e given false false false false false true b aw sw rw_ cw tw dw bw h =
    detach_back laws false word fields e given (same_text word (codes "detach") dw) (ap is_field (same_text word (codes "detach") dw)) h
by_word laws word fields e given false false false false false false true aw sw rw_ cw tw dw bw h =
    detach_back laws true word fields e given (same_text word (codes "abort") bw) (ap is_field (same_text word (codes "abort") bw)) h
by_word laws word fields e given false false false false false false false aw sw rw_ cw tw dw bw h = absurd (cc)

pub event_back : Laws → (row : List (List ℕ)) (e : SmfEvent) → event_of row ≡ Some e → ReadsBack e
event_back laws [] e h = absurd (cc)
event_back laws (word ∷ fields) e h =
    let both = passed (nat_le (row_size (word ∷ fields)) 1048577) (rows.event_in (word ∷ fields)) e h in
    by_word laws word fields e h (bytes_eq word (codes "attach")) (bytes_eq word (codes "start")) (bytes_eq word (codes "report")) (bytes_eq word (codes "change")) (bytes_eq word (codes "tick")) (bytes_eq word (codes "detach")) (bytes_eq word (codes "abort"))
    refl refl refl refl refl refl refl both.1
