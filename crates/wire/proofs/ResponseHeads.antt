-- Heads of responses are heads as the reader asks of them.
use Rattle.std.proofs.Common.{◌≡◌, ℕ, ◌<◌, ◌≤◌, List, [], ◌∷◌, ◌++◌, length, None, IsTrue, arith, refl, sym, ◌∙◌, ap, subst, append_assoc, length-append, lit≤}
use Rattle.std.proofs.lemmas.List.{append-nil}
use Rattle.std.proofs.lemmas.List.Elements.{All-nil, All-cons}
use Rattle.std.specs.Char.{is_ascii_digit}
use Rattle.httparse.specs.Grammar.{IsField, IsResponseHead, crlf, ReadsResponse, ResponseHead, is_value_byte, print_end, print_response, print_section}
use Rattle.httparse.proofs.GrammarLemmas.{ReadsResponse-append, response_unique}
use Rattle.wire.specs.Heads.{AreHeads, Head}
use Rattle.wire.specs.Responses.{IsHopelessResponse, IsResponseHeadAt, read_response_head}
use Rattle.wire.specs.declared.message.HttpResponse.{HttpResponse}
use Rattle.wire.proofs.RequestHeads.{end_positive, positive}

size_positive : (h : ResponseHead) → 0 < length (print_response h)
unfolding print_response
size_positive h = positive _ (print_section h.fields h.last) (positive _ (print_end h.last) (end_positive h.last))

size_within : (bytes : List ℕ) (h : ResponseHead) (rest : List ℕ) → ReadsResponse bytes h rest → length (print_response h) ≤ length bytes
size_within bytes h rest reads = omega (arith, ap length reads.1, length-append (print_response h) rest)

-- a head that any response may have
a_head : ResponseHead
a_head = record { blank = []; minor = 1; digits = 50 ∷ 48 ∷ 48 ∷ []; reason = None; line_end = crlf; fields = []; last = crlf }

is_digit : ℕ → Type 0
is_digit b = IsTrue (is_ascii_digit b)

a_head_is : IsResponseHead a_head
unfolding a_head is_digit
a_head_is = record {
  minor = lit≤ tt;
  digits = (refl, All-cons is_digit 50 (48 ∷ 48 ∷ []) refl (All-cons is_digit 48 (48 ∷ []) refl (All-cons is_digit 48 [] refl (All-nil is_digit))));
  reason = All-nil (λ b. IsTrue (is_value_byte b));
  fields = All-nil IsField;
}

pub response_heads : AreHeads IsResponseHeadAt IsHopelessResponse
response_heads = record {
  once = λ bytes a b x y. x.is ∙ ap read_response_head (response_unique bytes x.head y.head x.rest y.rest x.reads y.reads).0 ∙ sym y.is;
  within = λ bytes a x. let e : a.size ≡ length (print_response x.head) = ap (λ (h : Head HttpResponse). h.size) x.is in
      (omega (arith, e, size_positive x.head), omega (arith, e, size_within bytes x.head x.rest x.reads));
  stays = λ bytes more a x. record { head = x.head; rest = x.rest ++ more; reads = ReadsResponse-append bytes x.head x.rest more x.reads; is = x.is };
  none = λ bytes a h x. h [] x.head x.rest (subst (λ b. ReadsResponse b x.head x.rest) (sym (append-nil bytes)) x.reads);
  hopeless = λ bytes more h further head rest reads. h (more ++ further) head rest (subst (λ b. ReadsResponse b head rest) (append_assoc bytes more further) reads);
  nothing = λ h. h (print_response a_head) a_head [] (a_head_is, sym (append-nil (print_response a_head)));
}
