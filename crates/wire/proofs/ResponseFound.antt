-- What the parser finds of a response is what the reader asks for.
use Rattle.std.proofs.Common.{◌≡◌, ℕ, ◌≤◌, List, ◌++◌, length, take, drop, map, Option, Some, None, Result, arith, refl, sym, ◌∙◌, ap, subst}
use Rattle.std.specs.Prelude.{IsUtf8}
use Rattle.std.proofs.lemmas.List.{length-take}
use Rattle.httparse.specs.Grammar.{print_response}
use Rattle.httparse.specs.Spans.{IsResponseOf, IsResponseWithin, header_bytes}
use Rattle.httparse.specs.declared.spans.HeaderSpan.{HeaderSpan}
use Rattle.httparse.specs.declared.spans.ResponseSpans.{ResponseSpans}
use Rattle.httparse.specs.declared.spans.Span.{Span}
use Rattle.wire.specs.Fields.{body_length}
use Rattle.wire.specs.ResponseParts.{AreResponseParts, IsText, text_at}
use Rattle.wire.specs.Responses.{IsResponseHeadAt, location_in, read_response_head}
use Rattle.wire.specs.Starts.{IsFound}
use Rattle.wire.specs.declared.refusal.WireRefusal.{WireRefusal}
use Rattle.wire.proofs.Found.{first_is}
use Rattle.wire.proofs.Spans.{span_first}

-- a place within the head has the same text in its own bytes
text_first : (bytes : List ℕ) (n : ℕ) (place : Option Span) → n ≤ length bytes → IsText n bytes place → IsText (length (take n bytes)) (take n bytes) place × (text_at (take n bytes) place ≡ text_at bytes place)
text_first bytes n None fits h = (tt, refl)
text_first bytes n (Some span) fits (within, text) =
    let same = span_first bytes n span within in
    (((within.0, omega (arith, within.1, length-take n bytes, fits)), subst IsUtf8 (sym same) text), ap Some same)

pub response_found : (bytes : List ℕ) (fields : List HeaderSpan) (head : ResponseSpans) (body : Result ℕ WireRefusal) (location : Option Span) → IsResponseWithin bytes fields head → IsResponseOf bytes fields head
    → body ≡ body_length (map (header_bytes bytes) (take head.headers fields))
    → IsText head.len bytes location → text_at bytes location ≡ location_in (map (header_bytes bytes) (take head.headers fields))
    → IsFound IsResponseHeadAt AreResponseParts bytes (record { size = head.len; body = body; parts = record { status = head.code; location = location } })
response_found bytes fields head body location within (h, at) body_is text first_text =
    let first = first_is bytes (print_response h) (drop head.len bytes) head.len at.reads.1 at.len in
    let fits = within.section.len_fits in
    record {
      head = read_response_head h;
      stands = λ more. record { head = h; rest = more; reads = (at.reads.0, ap (λ t. t ++ more) first); is = refl };
      within = fits;
      all = at.len;
      follows = body_is ∙ ap body_length at.fields;
      parts_are = record {
        head = h;
        is = refl;
        status = at.code;
        text = (text_first bytes head.len location fits text).0;
        location = (text_first bytes head.len location fits text).1 ∙ first_text ∙ ap location_in at.fields;
      };
    }
