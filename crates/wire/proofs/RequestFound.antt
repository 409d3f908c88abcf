-- What the parser finds of a request is what the reader asks for.
use Rattle.std.proofs.Common.{◌≡◌, ℕ, ◌==◌, ◌||◌, Bool, List, ◌++◌, take, drop, map, codes, Result, arith, refl, ◌∙◌, ap}
use Rattle.std.proofs.lemmas.List.{length-take}
use Rattle.httparse.specs.Grammar.{print_request}
use Rattle.httparse.specs.Spans.{IsRequestOf, IsRequestWithin, IsWithin, header_bytes}
use Rattle.httparse.specs.declared.spans.HeaderSpan.{HeaderSpan}
use Rattle.httparse.specs.declared.spans.RequestSpans.{RequestSpans}
use Rattle.wire.specs.Fields.{body_length, has_value}
use Rattle.wire.specs.RequestParts.{AreRequestParts}
use Rattle.wire.specs.Requests.{IsRequestHeadAt, read_request_head}
use Rattle.wire.specs.Starts.{IsFound}
use Rattle.wire.specs.declared.refusal.WireRefusal.{WireRefusal}
use Rattle.wire.proofs.Found.{first_is}
use Rattle.wire.proofs.Spans.{span_first}

pub request_found : (bytes : List ℕ) (fields : List HeaderSpan) (head : RequestSpans) (body : Result ℕ WireRefusal) (close : Bool) → IsRequestWithin bytes fields head → IsRequestOf bytes fields head
    → body ≡ body_length (map (header_bytes bytes) (take head.headers fields))
    → close ≡ (head.version == 0) || has_value (codes "connection") (codes "close") (map (header_bytes bytes) (take head.headers fields))
    → IsFound IsRequestHeadAt AreRequestParts bytes (record { size = head.len; body = body; parts = record { method = head.method; path = head.path; close = close } })
request_found bytes fields head body close within (h, at) body_is close_is =
    let first = first_is bytes (print_request h) (drop head.len bytes) head.len at.reads.1 at.len in
    let sized = length-take head.len bytes in
    let fits = within.section.len_fits in
    let method : IsWithin head.len head.method = within.method in
    let path : IsWithin head.len head.path = within.path in
    record {
      head = read_request_head h;
      stands = λ more. record { head = h; rest = more; reads = (at.reads.0, ap (λ t. t ++ more) first); is = refl };
      within = fits;
      all = at.len;
      follows = body_is ∙ ap body_length at.fields;
      parts_are = record {
        head = h;
        is = refl;
        method_within = (method.0, omega arith);
        method = span_first bytes head.len head.method method ∙ at.method;
        token = at.reads.0.method;
        path_within = (path.0, omega arith);
        path = span_first bytes head.len head.path path ∙ at.path;
        text = at.reads.0.target_text;
        close = close_is ∙ (λ i. (at.version i == 0) || has_value (codes "connection") (codes "close") (at.fields i));
      };
    }
