-- A response that ends within the line of a field has no head so far, and may become one.
use Rattle.std.proofs.Common.{◌≡◌, ◌≢◌, ℕ, ◌+◌, ◌-◌, ◌≤◌, zero, suc, Option, Some, None, ⊎_elim, List, [], ◌∷◌, ◌++◌, length, take, drop, get_or, refl, sym, ◌∙◌, ap, subst, arith, append_assoc}
use Rattle.std.specs.List.{flat_map}
use Rattle.std.specs.Char.{is_ascii_digit}
use Rattle.std.proofs.lemmas.List.{append-nil, take-append-drop}
use Rattle.std.proofs.Math.Seq.{take-add}
use Rattle.std.proofs.lemmas.List.Elements.{All-nil, All-cons}
use Rattle.httparse.specs.Grammar.{AllPass, HasNoResponse, IsResponseHead, lf, ReadsResponse, ResponseHead, is_value_byte, print_blank, print_field, print_response, print_reason, print_section, print_version, reason_phrase}
use Rattle.wire.specs.FieldLines.{IsFieldPart}
use Rattle.wire.specs.Responses.{IsHopelessResponse, IsResponseHeadAt, read_response_head}
use Rattle.wire.specs.Starts.{IsOpen}
use Rattle.wire.proofs.Going.{EndsInField, NoFeed, Ended, after_line, before_feed, completed, end_is, ended_at, line_before, no_blank, no_feed_append, none_before, part_no_feed, pass_no_feed, value_no_feed, version_no_feed, within_fields}
use Rattle.wire.proofs.Hopes.{split}

-- the first line before its line feed
abbrev start_line : ResponseHead → List ℕ
start_line h = ((print_version h.minor ++ 32 ∷ h.digits) ++ print_reason h.reason) ++ before_feed h.line_end

response_is : (h : ResponseHead) → print_response h ≡ print_blank h.blank ++ (start_line h ++ 10 ∷ print_section h.fields h.last)
unfolding print_response
response_is h =
    ap (λ e. ((((print_blank h.blank ++ print_version h.minor) ++ 32 ∷ h.digits) ++ print_reason h.reason) ++ e) ++ print_section h.fields h.last) (end_is h.line_end)
    ∙ regroup (print_blank h.blank) (print_version h.minor) (32 ∷ h.digits) (print_reason h.reason) (before_feed h.line_end) (10 ∷ []) (print_section h.fields h.last)
  where
    regroup : (a b c d e f g : List ℕ) → ((((a ++ b) ++ c) ++ d) ++ (e ++ f)) ++ g ≡ a ++ ((((b ++ c) ++ d) ++ e) ++ (f ++ g))
    regroup a b c d e f g = simp append_assoc

reason_no_feed : (reason : Option (List ℕ)) → AllPass is_value_byte (reason_phrase reason) → NoFeed (print_reason reason)
reason_no_feed None all = All-nil (λ b. b ≢ 10)
reason_no_feed (Some phrase) all = All-cons (λ b. b ≢ 10) 32 phrase (λ e. cc) (value_no_feed phrase all)

start_no_feed : (h : ResponseHead) → IsResponseHead h → NoFeed (start_line h)
start_no_feed h is =
    no_feed_append ((print_version h.minor ++ 32 ∷ h.digits) ++ print_reason h.reason) (before_feed h.line_end)
    (no_feed_append (print_version h.minor ++ 32 ∷ h.digits) (print_reason h.reason)
    (no_feed_append (print_version h.minor) (32 ∷ h.digits) (version_no_feed h.minor) (All-cons (λ b. b ≢ 10) 32 h.digits (λ e. cc) (pass_no_feed is_ascii_digit h.digits refl is.digits.1)))
    (reason_no_feed h.reason is.reason)) (none_before h.line_end)

-- behind whole lines of a head, with some of a field's line, stands what may become a head
becomes : (h : ResponseHead) (p : ℕ) (P X line : List ℕ) → IsResponseHead h → p ≢ 13 → p ≢ 10 → Ended (p ∷ P) → X ≢ [] → IsFieldPart line → (p ∷ P) ++ X ≡ print_response h
    → (more : List ℕ) × (now : ResponseHead) × ReadsResponse (((p ∷ P) ++ line) ++ more) now []
becomes h p P X line is return feed ended some part e =
    let none = no_blank h.blank p (P ++ X) (start_line h ++ 10 ∷ print_section h.fields h.last) return feed (e ∙ response_is h) in
    let plain : (p ∷ P) ++ X ≡ start_line h ++ 10 ∷ print_section h.fields h.last = e ∙ response_is h ∙ ap (λ b. print_blank b ++ (start_line h ++ 10 ∷ print_section h.fields h.last)) none in
    let r = after_line (start_line h) (print_section h.fields h.last) p P X (start_no_feed h is) ended plain in
    let fields = within_fields h.fields h.last r.0 X is.fields r.2 some r.3 in
    let done = completed fields.0 line fields.1 part in
    let now : ResponseHead = record h { blank = []; fields = done.0; last = lf } in
    let whole : ((p ∷ P) ++ line) ++ done.1 ≡ print_response now ++ [] =
    ap (λ t. (t ++ line) ++ done.1) (r.1 ∙ ap (λ t. start_line h ++ 10 ∷ t) fields.2) ∙ regroup (start_line h) (10 ∷ []) (flat_map print_field fields.0) line done.1
    ∙ ap (λ t. start_line h ++ 10 ∷ t) (sym done.3) ∙ sym (response_is now) ∙ sym (append-nil (print_response now)) in
    (done.1, now, (record { minor = is.minor; digits = is.digits; reason = is.reason; fields = done.2 }, whole))
  where
    regroup : (a b c d e : List ℕ) → ((a ++ (b ++ c)) ++ d) ++ e ≡ a ++ (b ++ ((c ++ d) ++ e))
    regroup a b c d e = simp append_assoc

-- a head of more than so many bytes that begins with them
longer : (bytes more rest : List ℕ) (h : ResponseHead) → IsResponseHead h → HasNoResponse bytes → bytes ++ more ≡ print_response h ++ rest → (r : List ℕ) × (r ≢ []) × (bytes ++ r ≡ print_response h)
longer bytes more rest h is none e = ⊎_elim
    (λ (w : (r : List ℕ) × (print_response h ≡ bytes ++ r) × (more ≡ r ++ rest)).
    (w.0, (λ empty. none h [] (is, sym (w.1 ∙ ap (λ r. bytes ++ r) empty ∙ append-nil bytes) ∙ sym (append-nil (print_response h)))), sym w.1))
    (λ w. absurd (none h w.0 (is, w.1)))
    (split bytes more (print_response h) rest e)

none_before_more : (bytes more : List ℕ) → HasNoResponse (bytes ++ more) → HasNoResponse bytes
none_before_more bytes more none h rest reads = none h (rest ++ more) (reads.0, ap (λ t. t ++ more) reads.1 ∙ append_assoc (print_response h) rest more)

-- a head before the line feed that ends it
abbrev front_of : ResponseHead → List ℕ
front_of h = print_blank h.blank ++ (start_line h ++ 10 ∷ flat_map print_field h.fields)

ends_with : (h : ResponseHead) → print_response h ≡ (front_of h ++ before_feed h.last) ++ 10 ∷ []
ends_with h =
    response_is h ∙ ap (λ t. print_blank h.blank ++ (start_line h ++ 10 ∷ (flat_map print_field h.fields ++ t))) (end_is h.last)
    ∙ regroup (print_blank h.blank) (start_line h) (flat_map print_field h.fields) (before_feed h.last) (10 ∷ [])
  where
    regroup : (a b c d e : List ℕ) → a ++ (b ++ (10 ∷ (c ++ (d ++ e)))) ≡ ((a ++ (b ++ 10 ∷ c)) ++ d) ++ e
    regroup a b c d e = simp append_assoc

-- bytes that go on with some of a field's line begin no head
none_now : (P line : List ℕ) → NoFeed line → HasNoResponse P → HasNoResponse (P ++ line)
none_now P line feedless none h rest (is, e) =
    let last : print_response h ≡ (front_of h ++ before_feed h.last) ++ 10 ∷ [] = ends_with h in
    let r = line_before (front_of h ++ before_feed h.last) P line rest feedless (e ∙ ap (λ t. t ++ rest) last) in
    none h r.0 (is, r.1 ∙ ap (λ t. t ++ r.0) (sym last))

-- bytes that end within the line of a field are open where the first of them are
pub response_goes_on : (near : List ℕ) (had at : ℕ) → had ≤ length near → at ≤ had → EndsInField near at → IsOpen IsResponseHeadAt IsHopelessResponse (take had near) → IsOpen IsResponseHeadAt IsHopelessResponse near
response_goes_on [] had at within le ends open_before = absurd (omega (arith, ends.some))
response_goes_on (b ∷ bytes) had zero within le ends open_before = absurd (omega (arith, ends.some))
response_goes_on (b ∷ bytes) had (suc at) within le ends open_before =
    let P = take at bytes in
    let line = drop at bytes in
    let L = take (had - suc at) line in
    let here : (b ∷ P) ++ line ≡ b ∷ bytes = take-append-drop (suc at) (b ∷ bytes) in
    let before : take had (b ∷ bytes) ≡ (b ∷ P) ++ L = ap (λ n. take n (b ∷ bytes)) (let sum : had ≡ suc at + (had - suc at) = omega (arith, le) in sum) ∙ take-add (suc at) (had - suc at) (b ∷ bytes) in
    let ended : Ended (b ∷ P) = ended_at (b ∷ bytes) at (omega (arith, le, within)) (ap (λ n. get_or (b ∷ bytes) n 0) (let one : at ≡ suc at - 1 = omega arith in one) ∙ ends.feed) in
    let none_had : HasNoResponse ((b ∷ P) ++ L) = λ h rest reads. open_before.0 (read_response_head h) (record { head = h; rest = rest; reads = subst (λ t. ReadsResponse t h rest) (sym before) reads; is = refl }) in
    let none : HasNoResponse (b ∷ P) = none_before_more (b ∷ P) L none_had in (
      λ head x. none_now (b ∷ P) line (part_no_feed line ends.part) none x.head x.rest (subst (λ t. ReadsResponse t x.head x.rest) (sym here) x.reads),
      λ hopeless. open_before.1 (λ more h rest reads.
          let e : (b ∷ P) ++ (L ++ more) ≡ print_response h ++ rest = sym (append_assoc (b ∷ P) L more) ∙ ap (λ t. t ++ more) (sym before) ∙ reads.1 in
          let r = longer (b ∷ P) (L ++ more) rest h reads.0 none e in
          let now = becomes h b P r.0 line reads.0 ends.return ends.blank ended r.1 ends.part r.2 in
          hopeless now.0 now.1 [] (subst (λ t. ReadsResponse (t ++ now.0) now.1 []) here now.2)),
    )
