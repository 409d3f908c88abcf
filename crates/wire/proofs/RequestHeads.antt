-- Heads of requests are heads as the reader asks of them.
use Rattle.std.proofs.Common.{◌≡◌, ℕ, ◌<◌, ◌≤◌, List, [], ◌++◌, length, IsTrue, codes, arith, refl, sym, ◌∙◌, ap, subst, length-append}
use Rattle.std.proofs.lemmas.List.{append-nil}
use Rattle.std.proofs.lemmas.List.Elements.{All-nil, All-cons}
use Rattle.httparse.specs.Grammar.{IsToken, LineEnd, crlf, lf, ReadsRequest, RequestHead, is_token_byte, print_end, print_request, print_section}
use Rattle.httparse.proofs.GrammarLemmas.{ReadsRequest-append, request_unique}
use Rattle.httparse.proofs.OnLiterals.{httparse_on_literals}
use Rattle.wire.specs.Heads.{AreHeads, Head}
use Rattle.wire.specs.Requests.{IsHopelessRequest, IsRequestHeadAt, read_request_head}
use Rattle.wire.specs.declared.message.HttpRequest.{HttpRequest}
use Rattle.wire.proofs.Hopes.{hopeless_stays, may_become}

pub positive : (a b : List ℕ) → 0 < length b → 0 < length (a ++ b)
positive a b h = omega (arith, length-append a b)

pub end_positive : (end : LineEnd) → 0 < length (print_end end)
end_positive crlf = omega arith
end_positive lf = omega arith

size_positive : (h : RequestHead) → 0 < length (print_request h)
unfolding print_request
size_positive h = positive _ (print_section h.fields h.last) (positive _ (print_end h.last) (end_positive h.last))

size_within : (bytes : List ℕ) (h : RequestHead) (rest : List ℕ) → ReadsRequest bytes h rest → length (print_request h) ≤ length bytes
size_within bytes h rest reads = omega (arith, ap length reads.1, length-append (print_request h) rest)

a_token : IsToken (codes "A")
unfolding httparse_on_literals
a_token = (omega arith, All-cons (λ b. IsTrue (is_token_byte b)) 65 [] refl (All-nil (λ b. IsTrue (is_token_byte b))))

pub request_heads : AreHeads IsRequestHeadAt IsHopelessRequest
request_heads = record {
  once = λ bytes a b x y. x.is ∙ ap read_request_head (request_unique bytes x.head y.head x.rest y.rest x.reads y.reads).0 ∙ sym y.is;
  within = λ bytes a x. let e : a.size ≡ length (print_request x.head) = ap (λ (h : Head HttpRequest). h.size) x.is in
      (omega (arith, e, size_positive x.head), omega (arith, e, size_within bytes x.head x.rest x.reads));
  stays = λ bytes more a x. record { head = x.head; rest = x.rest ++ more; reads = ReadsRequest-append bytes x.head x.rest more x.reads; is = x.is };
  none = λ bytes a h x. h.never [] x.head x.rest (subst (λ b. ReadsRequest b x.head x.rest) (sym (append-nil bytes)) x.reads);
  hopeless = hopeless_stays;
  nothing = λ h. may_become [] (codes "A") [] (codes "A") a_token refl h.never;
}
