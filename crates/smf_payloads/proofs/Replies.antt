-- Answers read back where their replies do.
use Rattle.std.proofs.Common.{◌≡◌, ◌∙◌, ◌-◌, ◌^◌, ◌≤◌, ℕ, ap, sym, refl, true, List, [], ◌∷◌, ◌++◌, Option, Some, None, Result, Ok, Err, codes, decimal, arith, append_assoc, if◌then◌else◌}
use Rattle.std.specs.Prelude.{option_and_then, option_map}
use Rattle.std.specs.Result.{OnOk, result_ok}
use Rattle.std.specs.Str.{is_utf8}
use Rattle.units.specs.Ranges.{Is32}
use Rattle.units.specs.ReplyRanges.{FitsReply}
use Rattle.units.specs.declared.reply.Reply.{Reply}
use Rattle.units.specs.declared.reply.Reply.TheVariants.{Created, Updated, Released, Refused}
use Rattle.row_texts.specs.Words.{after_space, first_word}
use Rattle.row_texts.specs.ReadBack.{AreFields, NumbersReadBack, WordsReadBack, is_word}
use Rattle.charging_json.specs.Location.{location_text}
use Rattle.charging_json.specs.Reply.{reply_in}
use Rattle.charging_json.specs.ReplyWritten.{location_of, reply_text, status_of}
use Rattle.smf_model.specs.declared.event.SmfEvent.{SmfEvent}
use Rattle.smf_model.specs.declared.event.SmfEvent.TheVariants.{Answered}
use Rattle.smf_payloads.specs.Written.{part, part_of, reply_parts}
use Rattle.smf_payloads.specs.Read.{answer_in, answered, body_in, location_in, reply_by, reply_of}
use Rattle.smf_payloads.specs.Payloads.{ReadsBack}

-- the laws of words and numbers
pub record Laws : Type 0 where
  pub numbers : NumbersReadBack
  pub words : WordsReadBack
  pub fields : AreFields

-- the Location of a reply
record IsLocation (reply : Reply) : Type 0 where
  word : is_word (part_of (location_of reply)) ≡ true
  back : location_in (part_of (location_of reply)) ≡ Some (location_of reply)

made_location : Laws → (reference : ℕ) → Is32 reference → location_in (location_text reference) ≡ Some (Some (location_text reference))
made_location laws reference fits =
    let number = laws.numbers.field (2 ^ 32 - 1) reference (omega (arith, fits)) (omega (arith, fits)) in
    let utf8 : is_utf8 (location_text reference) ≡ true = laws.fields.utf8 (location_text reference) (laws.fields.number (2 ^ 32 - 1) reference (decimal reference) number) in
    ap (λ b. if b then Some (Some (location_text reference)) else None) utf8

location_is : Laws → (reply : Reply) → FitsReply reply → IsLocation reply
location_is laws (Created reference answer) fits = record { word = laws.words.number reference (omega (arith, fits.1)); back = made_location laws reference fits.1 }
location_is laws (Updated answer) fits = record { word = refl; back = refl }
location_is laws Released fits = record { word = refl; back = refl }
location_is laws (Refused problem) fits = record { word = refl; back = refl }

-- its body
body_back : (reply : Reply) → body_in (part (reply_text reply)) ≡ reply_text reply
body_back (Created reference answer) = refl
body_back (Updated answer) = refl
body_back Released = refl
body_back (Refused problem) = refl

-- a reply that reads back from its response, which it does where its parts stand in a text
record IsReply (reply : Reply) : Type 0 where
  status : status_of reply ≤ 65535
  fits : FitsReply reply
  back : reply_in (status_of reply) (location_of reply) (reply_text reply) ≡ Ok reply

by_location : Laws → (reply : Reply) → IsReply reply → reply_by (status_of reply) (part_of (location_of reply) ++ (codes " " ++ part (reply_text reply))) ≡ Some reply
by_location laws reply is =
    let word = part_of (location_of reply) in
    let body = part (reply_text reply) in
    let location = location_is laws reply is.fits in
    ap (reply_by (status_of reply)) (sym (append_assoc word (codes " ") body))
    ∙ ap (λ w. option_and_then (λ l. result_ok (reply_in (status_of reply) l (body_in (after_space (word ++ codes " " ++ body))))) (location_in w)) (laws.words.first word body location.word)
    ∙ ap (λ t. option_and_then (λ l. result_ok (reply_in (status_of reply) l (body_in t))) (location_in word)) (laws.words.rest word body location.word)
    ∙ ap (option_and_then (λ l. result_ok (reply_in (status_of reply) l (body_in body)))) location.back
    ∙ ap (λ t. result_ok (reply_in (status_of reply) (location_of reply) t)) (body_back reply)
    ∙ ap result_ok is.back

by_status : Laws → (reply : Reply) → IsReply reply → reply_of (reply_parts reply) ≡ Some reply
by_status laws reply is =
    let rest = part_of (location_of reply) ++ (codes " " ++ part (reply_text reply)) in
    ap reply_of (sym (append_assoc (decimal (status_of reply)) (codes " ") rest))
    ∙ ap (option_and_then (λ status. reply_by status (after_space (decimal (status_of reply) ++ codes " " ++ rest)))) (laws.numbers.before_space 65535 (status_of reply) rest is.status (omega (arith, is.status)))
    ∙ ap (reply_by (status_of reply)) (laws.numbers.after_space (status_of reply) rest (omega (arith, is.status)))
    ∙ by_location laws reply is

by_number : Laws → (session number : ℕ) (reply : Reply) → Is32 number → IsReply reply → answered session (decimal number ++ (codes " " ++ reply_parts reply)) ≡ Some (Answered session number reply)
by_number laws session number reply fits is =
    let rest = reply_parts reply in
    ap (answered session) (sym (append_assoc (decimal number) (codes " ") rest))
    ∙ ap (option_and_then (λ n. option_map (λ r. Answered session n r) (reply_of (after_space (decimal number ++ codes " " ++ rest))))) (laws.numbers.before_space (2 ^ 32 - 1) number rest (omega (arith, fits)) (omega (arith, fits)))
    ∙ ap (λ t. option_map (λ r. Answered session number r) (reply_of t)) (laws.numbers.after_space number rest (omega (arith, fits)))
    ∙ ap (option_map (λ r. Answered session number r)) (by_status laws reply is)

pub answer_back : Laws → (session number : ℕ) (reply : Reply) → Is32 session → Is32 number → FitsReply reply → status_of reply ≤ 65535 → reply_in (status_of reply) (location_of reply) (reply_text reply) ≡ Ok reply → ReadsBack (Answered session number reply)
answer_back laws session number reply session_fits number_fits fits status back =
    let rest = decimal number ++ (codes " " ++ reply_parts reply) in
    ap answer_in (sym (append_assoc (decimal session) (codes " ") rest))
    ∙ ap (option_and_then (λ s. answered s (after_space (decimal session ++ codes " " ++ rest)))) (laws.numbers.before_space (2 ^ 32 - 1) session rest (omega (arith, session_fits)) (omega (arith, session_fits)))
    ∙ ap (answered session) (laws.numbers.after_space session rest (omega (arith, session_fits)))
    ∙ by_number laws session number reply number_fits (record { status = status; fits = fits; back = back })

-- what holds anyway holds where a call went well
pub always : {T E P : Type 0} (r : Result T E) → P → OnOk r P
always (Ok x) p = p
always (Err e) p = tt
