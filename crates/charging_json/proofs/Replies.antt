-- The body of a reply is read as that reply.
use Rattle.std.proofs.Common.{◌≡◌, ℕ, Result, Ok, Err, OnOk, Some, None, sym, ◌∙◌, ap, subst, codes}
use Rattle.serde_json.specs.Written.{compact_text}
use Rattle.units.specs.declared.answer.Answer.{Answer}
use Rattle.units.specs.declared.reply.Problem.{Problem}
use Rattle.units.specs.declared.reply.Reply.{Reply}
use Rattle.units.specs.declared.reply.Reply.TheVariants.{Created, Updated, Refused}
use Rattle.units.specs.ReplyRanges.{FitsAnswer, FitsReply}
use Rattle.json_objects.specs.Fields.{required, after}
use Rattle.json_objects.specs.ReadBack.{ReadBackLaws}
use Rattle.charging_json.specs.Location.{location_text}
use Rattle.json_objects.specs.Body.{object_in}
use Rattle.charging_json.specs.Reply.{reference_given, reply_by, reply_in}
use Rattle.charging_json.specs.ReplyWritten.{answer_data, problem_data, reply_text, status_of, location_of}
use Rattle.charging_json.proofs.RequestBack.{TimesRead}
use Rattle.charging_json.proofs.ReplyBack.{answer_back, problem_back}
use Rattle.charging_json.proofs.LocationBack.{location_back}

-- its body is read so, with its status and its Location
abbrev ReadsBack : {E : Type 0} → Result (Unit {0}) E → Reply → Type 0
ReadsBack r reply = FitsReply reply → OnOk r (reply_in (status_of reply) (location_of reply) (reply_text reply) ≡ Ok reply)

created_case : {E : Type 0} (r : Result (Unit {0}) E) (reference : ℕ) (answer : Answer) → ReadBackLaws → TimesRead → (FitsAnswer answer → OnOk r (object_in (compact_text (answer_data answer)) ≡ Some (answer_data answer))) → ReadsBack r (Created reference answer)
created_case (Err e) reference answer laws times body fits = tt
created_case (Ok x) reference answer laws times body fits =
    ap (reply_by 201 (Some (location_text reference))) (body fits.2)
    ∙ ap (λ told. after told (λ a. after (reference_given (Some (location_text reference))) (λ n. Ok (Created n a)))) (answer_back laws times answer fits.2)
    ∙ ap (λ o. after (required (codes "Location") (Some o)) (λ n. Ok (Created n answer))) (location_back reference fits.0 fits.1)

updated_case : {E : Type 0} (r : Result (Unit {0}) E) (answer : Answer) → ReadBackLaws → TimesRead → (FitsAnswer answer → OnOk r (object_in (compact_text (answer_data answer)) ≡ Some (answer_data answer))) → ReadsBack r (Updated answer)
updated_case (Err e) answer laws times body fits = tt
updated_case (Ok x) answer laws times body fits = ap (reply_by 200 None) (body fits) ∙ ap (λ told. after told (λ a. Ok (Updated a))) (answer_back laws times answer fits)

refused_case : {E : Type 0} (r : Result (Unit {0}) E) (problem : Problem) → ReadBackLaws → OnOk r (object_in (compact_text (problem_data problem)) ≡ Some (problem_data problem)) → ReadsBack r (Refused problem)
refused_case (Err e) problem laws body fits = tt
refused_case (Ok x) problem laws body fits =
    rw fits.not_released (ap (reply_by problem.status None) body ∙ rw (fits.not_created, fits.not_updated) (ap (λ told. after told (λ p. Ok (Refused p))) (problem_back laws problem)))

pub created_back : {E : Type 0} (r : Result (Unit {0}) E) (reply : Reply) (reference : ℕ) (answer : Answer) → reply ≡ Created reference answer → ReadBackLaws → TimesRead
    → (FitsAnswer answer → OnOk r (object_in (compact_text (answer_data answer)) ≡ Some (answer_data answer))) → ReadsBack r reply
created_back r reply reference answer is laws times body = subst (ReadsBack r) (sym is) (created_case r reference answer laws times body)

pub updated_back : {E : Type 0} (r : Result (Unit {0}) E) (reply : Reply) (answer : Answer) → reply ≡ Updated answer → ReadBackLaws → TimesRead → (FitsAnswer answer → OnOk r (object_in (compact_text (answer_data answer)) ≡ Some (answer_data answer))) → ReadsBack r reply
updated_back r reply answer is laws times body = subst (ReadsBack r) (sym is) (updated_case r answer laws times body)

pub refused_back : {E : Type 0} (r : Result (Unit {0}) E) (reply : Reply) (problem : Problem) → reply ≡ Refused problem → ReadBackLaws → OnOk r (object_in (compact_text (problem_data problem)) ≡ Some (problem_data problem)) → ReadsBack r reply
refused_back r reply problem is laws body = subst (ReadsBack r) (sym is) (refused_case r problem laws body)
