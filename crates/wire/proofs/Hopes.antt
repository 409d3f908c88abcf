-- A hopeless front of a request stays hopeless.
use Rattle.std.proofs.Common.{◌≡◌, ℕ, ◌⊎◌, inl, inr, ⊎_elim, List, [], ◌∷◌, ◌++◌, IsTrue, codes, refl, sym, ◌∙◌, ap, subst, append_assoc, lit≤}
use Rattle.std.proofs.lemmas.List.{append-nil}
use Rattle.std.proofs.lemmas.List.Elements.{All-nil, All-cons, All-head, All-tail}
use Rattle.httparse.specs.Grammar.{AllPass, EndsInTarget, IsField, IsRequestHead, IsToken, LineEnd, crlf, NeverHasRequest, RequestHead, is_uri_byte, print_blank, print_request}
use Rattle.httparse.specs.Ascii.{space}
use Rattle.httparse.proofs.OnLiterals.{httparse_on_literals}
use Rattle.wire.specs.Requests.{IsHopelessRequest}

-- one of two ways in which joined lists may be cut elsewhere
pub split : (a x p q : List ℕ) → a ++ x ≡ p ++ q → ((r : List ℕ) × (p ≡ a ++ r) × (x ≡ r ++ q)) ⊎ ((r : List ℕ) × (a ≡ p ++ r) × (r ++ x ≡ q))
split [] x p q e = inl (p, refl, e)
split (b ∷ a) x [] q e = inr (b ∷ a, refl, e)
split (b ∷ a) x (c ∷ p) q e =
    let head : b ≡ c = cc in
    let tail : a ++ x ≡ p ++ q = cc in
    ⊎_elim (λ h. inl (h.0, (λ i. (sym head) i ∷ h.1 i), h.2)) (λ h. inr (h.0, (λ i. head i ∷ h.1 i), h.2)) (split a x p q tail)

-- blank lines and a method become a head
own_head : List LineEnd → List ℕ → RequestHead
own_head blank method = record { blank = blank; method = method; target = codes "/"; minor = 1; line_end = crlf; fields = []; last = crlf }

regroup : (p a b c d : List ℕ) → (((p ++ a) ++ b) ++ c) ++ d ≡ p ++ (a ++ (b ++ (c ++ d)))
regroup p a b c d = simp append_assoc

own_text : (blank : List LineEnd) (method : List ℕ) → (tail : List ℕ) × (print_request (own_head blank method) ≡ (print_blank blank ++ method) ++ tail)
unfolding print_request own_head
own_text blank method =
    (_, regroup (print_blank blank ++ method) (space ∷ codes "/") (space ∷ (codes "HTTP/1.1")) (13 ∷ 10 ∷ []) (13 ∷ 10 ∷ []))

own_is_head : (blank : List LineEnd) (method : List ℕ) → IsToken method → IsRequestHead (own_head blank method)
unfolding httparse_on_literals own_head lib.Utf8.encode
own_is_head blank method token = record {
  method = token;
  target = (lit≤ tt, All-cons (λ b. IsTrue (is_uri_byte b)) 47 [] refl (All-nil (λ b. IsTrue (is_uri_byte b))));
  target_text = (47 ∷ [], (refl, refl));
  minor = lit≤ tt;
  fields = All-nil IsField;
}

-- what ends within or before a method may become a head
pub may_become : (a r : List ℕ) (blank : List LineEnd) (method : List ℕ) → IsToken method → print_blank blank ++ method ≡ a ++ r → NeverHasRequest a → ⊥
may_become a r blank method token is never =
    let text = own_text blank method in
    let all : a ++ (r ++ text.0) ≡ print_request (own_head blank method) ++ [] =
    sym (append_assoc a r text.0) ∙ ap (λ t. t ++ text.0) (sym is) ∙ sym text.1 ∙ sym (append-nil (print_request (own_head blank method))) in
    never (r ++ text.0) (own_head blank method) [] (own_is_head blank method token, all)

front_all : (t x : List ℕ) → AllPass is_uri_byte (t ++ x) → AllPass is_uri_byte t
front_all [] x h = All-nil (λ b. IsTrue (is_uri_byte b))
front_all (b ∷ t) x h = All-cons (λ b. IsTrue (is_uri_byte b)) b t (All-head (λ b. IsTrue (is_uri_byte b)) b (t ++ x) h) (front_all t x (All-tail (λ b. IsTrue (is_uri_byte b)) b (t ++ x) h))

front_of : (t x target : List ℕ) → t ++ x ≡ target → AllPass is_uri_byte target → AllPass is_uri_byte t
front_of t x target e all = front_all t x (subst (AllPass is_uri_byte) (sym e) all)

within : (a x : List ℕ) (blank : List LineEnd) (method target : List ℕ) → IsToken method → AllPass is_uri_byte target → NeverHasRequest a
    → (r : List ℕ) → a ≡ (print_blank blank ++ method) ++ r → r ++ x ≡ space ∷ target → EndsInTarget a
within a x blank method target token pass never [] is rest = absurd (may_become a [] blank method token (sym (append-nil _) ∙ sym is ∙ sym (append-nil a)) never)
within a x blank method target token pass never (b ∷ t) is rest =
    let here : b ≡ space = cc in
    let tail : t ++ x ≡ target = cc in
    (blank, method, t, token, front_of t x target tail pass, is ∙ ap (λ c. (print_blank blank ++ method) ++ c ∷ t) here)

-- bytes that end within a target and never have a head ended within it before
pub target_before : (a x : List ℕ) → NeverHasRequest a → EndsInTarget (a ++ x) → EndsInTarget a
target_before a x never (blank, method, target, token, pass, is) =
    ⊎_elim (λ h. absurd (may_become a h.0 blank method token h.1 never))
    (λ h. within a x blank method target token pass never h.0 h.1 h.2)
    (split a x (print_blank blank ++ method) (space ∷ target) is)

pub hopeless_stays : (a x : List ℕ) → IsHopelessRequest a → IsHopelessRequest (a ++ x)
hopeless_stays a x h = record {
  never = λ more head rest reads. h.never (x ++ more) head rest (reads.0, sym (append_assoc a x more) ∙ reads.1);
  elsewhere = λ ends. h.elsewhere (target_before a x h.never ends);
}
