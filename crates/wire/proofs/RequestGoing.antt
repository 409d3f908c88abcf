-- A request that ends within the line of a field has no head so far, and may become one.
use Rattle.std.proofs.Common.{◌≡◌, ◌≢◌, ℕ, ◌+◌, ◌-◌, ◌≤◌, zero, suc, ⊎_elim, List, [], ◌∷◌, ◌++◌, length, take, drop, get_or, refl, sym, ◌∙◌, ap, subst, arith, append_assoc}
use Rattle.std.specs.List.{flat_map}
use Rattle.std.proofs.lemmas.List.{append-nil, take-append-drop}
use Rattle.std.proofs.Math.Seq.{take-add}
use Rattle.std.proofs.lemmas.List.Elements.{All-nil, All-cons, All-head, All-tail}
use Rattle.httparse.specs.Grammar.{EndsInTarget, HasNoRequest, IsRequestHead, lf, ReadsRequest, RequestHead, is_uri_byte, print_blank, print_field, print_request, print_section, print_version}
use Rattle.wire.specs.FieldLines.{IsFieldPart}
use Rattle.wire.specs.Requests.{IsHopelessRequest, IsRequestHeadAt, read_request_head}
use Rattle.wire.specs.Starts.{IsOpen}
use Rattle.wire.proofs.Going.{EndsInField, NoFeed, Ended, after_line, before_feed, completed, end_is, ended_at, line_before, no_blank, no_feed_append, none_before, part_no_feed, pass_no_feed, token_no_feed, version_no_feed, within_fields}
use Rattle.wire.proofs.Hopes.{split}

-- the first line before its line feed
abbrev start_line : RequestHead → List ℕ
start_line h = ((h.method ++ 32 ∷ h.target) ++ 32 ∷ print_version h.minor) ++ before_feed h.line_end

request_is : (h : RequestHead) → print_request h ≡ print_blank h.blank ++ (start_line h ++ 10 ∷ print_section h.fields h.last)
unfolding print_request
request_is h =
    ap (λ e. ((((print_blank h.blank ++ h.method) ++ 32 ∷ h.target) ++ 32 ∷ print_version h.minor) ++ e) ++ print_section h.fields h.last) (end_is h.line_end)
    ∙ regroup (print_blank h.blank) h.method (32 ∷ h.target) (32 ∷ print_version h.minor) (before_feed h.line_end) (10 ∷ []) (print_section h.fields h.last)
  where
    regroup : (a b c d e f g : List ℕ) → ((((a ++ b) ++ c) ++ d) ++ (e ++ f)) ++ g ≡ a ++ ((((b ++ c) ++ d) ++ e) ++ (f ++ g))
    regroup a b c d e f g = simp append_assoc

start_no_feed : (h : RequestHead) → IsRequestHead h → NoFeed (start_line h)
start_no_feed h is =
    no_feed_append _ (before_feed h.line_end) (no_feed_append (h.method ++ 32 ∷ h.target) (32 ∷ print_version h.minor) (no_feed_append h.method (32 ∷ h.target) (token_no_feed h.method is.method.1) (All-cons (λ b. b ≢ 10) 32 h.target (λ e. cc) (pass_no_feed is_uri_byte h.target refl is.target.1))) (All-cons (λ b. b ≢ 10) 32 (print_version h.minor) (λ e. cc) (version_no_feed h.minor))) (none_before h.line_end)

-- behind whole lines of a head, with some of a field's line, stands what may become a head
becomes : (h : RequestHead) (p : ℕ) (P X line : List ℕ) → IsRequestHead h → p ≢ 13 → p ≢ 10 → Ended (p ∷ P) → X ≢ [] → IsFieldPart line → (p ∷ P) ++ X ≡ print_request h
    → (more : List ℕ) × (now : RequestHead) × ReadsRequest (((p ∷ P) ++ line) ++ more) now []
becomes h p P X line is return feed ended some part e =
    let none = no_blank h.blank p (P ++ X) (start_line h ++ 10 ∷ print_section h.fields h.last) return feed (e ∙ request_is h) in
    let plain : (p ∷ P) ++ X ≡ start_line h ++ 10 ∷ print_section h.fields h.last = e ∙ request_is h ∙ ap (λ b. print_blank b ++ (start_line h ++ 10 ∷ print_section h.fields h.last)) none in
    let r = after_line (start_line h) (print_section h.fields h.last) p P X (start_no_feed h is) ended plain in
    let fields = within_fields h.fields h.last r.0 X is.fields r.2 some r.3 in
    let done = completed fields.0 line fields.1 part in
    let now : RequestHead = record h { blank = []; fields = done.0; last = lf } in
    let whole : ((p ∷ P) ++ line) ++ done.1 ≡ print_request now ++ [] =
    ap (λ t. (t ++ line) ++ done.1) (r.1 ∙ ap (λ t. start_line h ++ 10 ∷ t) fields.2) ∙ regroup (start_line h) (10 ∷ []) (flat_map print_field fields.0) line done.1
    ∙ ap (λ t. start_line h ++ 10 ∷ t) (sym done.3) ∙ sym (request_is now) ∙ sym (append-nil (print_request now)) in
    (done.1, now, (record { method = is.method; target = is.target; target_text = is.target_text; minor = is.minor; fields = done.2 }, whole))
  where
    regroup : (a b c d e : List ℕ) → ((a ++ (b ++ c)) ++ d) ++ e ≡ a ++ (b ++ ((c ++ d) ++ e))
    regroup a b c d e = simp append_assoc

-- a head of more than so many bytes that begins with them
longer : (bytes more rest : List ℕ) (h : RequestHead) → IsRequestHead h → HasNoRequest bytes → bytes ++ more ≡ print_request h ++ rest → (r : List ℕ) × (r ≢ []) × (bytes ++ r ≡ print_request h)
longer bytes more rest h is none e = ⊎_elim
    (λ (w : (r : List ℕ) × (print_request h ≡ bytes ++ r) × (more ≡ r ++ rest)).
    (w.0, (λ empty. none h [] (is, sym (w.1 ∙ ap (λ r. bytes ++ r) empty ∙ append-nil bytes) ∙ sym (append-nil (print_request h)))), sym w.1))
    (λ w. absurd (none h w.0 (is, w.1)))
    (split bytes more (print_request h) rest e)

none_before_more : (bytes more : List ℕ) → HasNoRequest (bytes ++ more) → HasNoRequest bytes
none_before_more bytes more none h rest reads = none h (rest ++ more) (reads.0, ap (λ t. t ++ more) reads.1 ∙ append_assoc (print_request h) rest more)

-- a head before the line feed that ends it
abbrev front_of : RequestHead → List ℕ
front_of h = print_blank h.blank ++ (start_line h ++ 10 ∷ flat_map print_field h.fields)

ends_with : (h : RequestHead) → print_request h ≡ (front_of h ++ before_feed h.last) ++ 10 ∷ []
ends_with h =
    request_is h ∙ ap (λ t. print_blank h.blank ++ (start_line h ++ 10 ∷ (flat_map print_field h.fields ++ t))) (end_is h.last)
    ∙ regroup (print_blank h.blank) (start_line h) (flat_map print_field h.fields) (before_feed h.last) (10 ∷ [])
  where
    regroup : (a b c d e : List ℕ) → a ++ (b ++ (10 ∷ (c ++ (d ++ e)))) ≡ ((a ++ (b ++ 10 ∷ c)) ++ d) ++ e
    regroup a b c d e = simp append_assoc

-- bytes that go on with some of a field's line begin no head
none_now : (P line : List ℕ) → NoFeed line → HasNoRequest P → HasNoRequest (P ++ line)
none_now P line feedless none h rest (is, e) =
    let last : print_request h ≡ (front_of h ++ before_feed h.last) ++ 10 ∷ [] = ends_with h in
    let r = line_before (front_of h ++ before_feed h.last) P line rest feedless (e ∙ ap (λ t. t ++ rest) last) in
    none h r.0 (is, r.1 ∙ ap (λ t. t ++ r.0) (sym last))

ended_feed : (p : ℕ) (P : List ℕ) → Ended (p ∷ P) → NoFeed (p ∷ P) → ⊥
ended_feed p [] ended none = All-head (λ b. b ≢ 10) p [] none ended
ended_feed p (q ∷ P) ended none = ended_feed q P ended (All-tail (λ b. b ≢ 10) p (q ∷ P) none)

no_feed_front : (a b : List ℕ) → NoFeed (a ++ b) → NoFeed a
no_feed_front [] b none = All-nil (λ b. b ≢ 10)
no_feed_front (x ∷ a) b none = All-cons (λ b. b ≢ 10) x a (All-head (λ b. b ≢ 10) x (a ++ b) none) (no_feed_front a b (All-tail (λ b. b ≢ 10) x (a ++ b) none))

-- bytes with a whole line do not end within a target
no_target : (p : ℕ) (P L : List ℕ) → p ≢ 13 → p ≢ 10 → Ended (p ∷ P) → EndsInTarget ((p ∷ P) ++ L) → ⊥
no_target p P L return feed ended (blank, method, target, token, uris, is) =
    let none = no_blank blank p (P ++ L) (method ++ 32 ∷ target) return feed (is ∙ append_assoc (print_blank blank) method (32 ∷ target)) in
    let plain : (p ∷ P) ++ L ≡ method ++ 32 ∷ target = is ∙ append_assoc (print_blank blank) method (32 ∷ target) ∙ ap (λ b. print_blank b ++ (method ++ 32 ∷ target)) none in
    ended_feed p P ended (no_feed_front (p ∷ P) L (subst NoFeed (sym plain) (no_feed_append method (32 ∷ target) (token_no_feed method token.1) (All-cons (λ b. b ≢ 10) 32 target (λ e. cc) (pass_no_feed is_uri_byte target refl uris)))))

-- bytes that end within the line of a field are open where the first of them are
pub request_goes_on : (near : List ℕ) (had at : ℕ) → had ≤ length near → at ≤ had → EndsInField near at → IsOpen IsRequestHeadAt IsHopelessRequest (take had near) → IsOpen IsRequestHeadAt IsHopelessRequest near
request_goes_on [] had at within le ends open_before = absurd (omega (arith, ends.some))
request_goes_on (b ∷ bytes) had zero within le ends open_before = absurd (omega (arith, ends.some))
request_goes_on (b ∷ bytes) had (suc at) within le ends open_before =
    let P = take at bytes in
    let line = drop at bytes in
    let L = take (had - suc at) line in
    let here : (b ∷ P) ++ line ≡ b ∷ bytes = take-append-drop (suc at) (b ∷ bytes) in
    let before : take had (b ∷ bytes) ≡ (b ∷ P) ++ L = ap (λ n. take n (b ∷ bytes)) (let sum : had ≡ suc at + (had - suc at) = omega (arith, le) in sum) ∙ take-add (suc at) (had - suc at) (b ∷ bytes) in
    let ended : Ended (b ∷ P) = ended_at (b ∷ bytes) at (omega (arith, le, within)) (ap (λ n. get_or (b ∷ bytes) n 0) (let one : at ≡ suc at - 1 = omega arith in one) ∙ ends.feed) in
    let none_had : HasNoRequest ((b ∷ P) ++ L) = λ h rest reads. open_before.0 (read_request_head h) (record { head = h; rest = rest; reads = subst (λ t. ReadsRequest t h rest) (sym before) reads; is = refl }) in
    let none : HasNoRequest (b ∷ P) = none_before_more (b ∷ P) L none_had in (
      λ head x. none_now (b ∷ P) line (part_no_feed line ends.part) none x.head x.rest (subst (λ t. ReadsRequest t x.head x.rest) (sym here) x.reads),
      λ hopeless. open_before.1 (record {
        never = λ more h rest reads.
            let e : (b ∷ P) ++ (L ++ more) ≡ print_request h ++ rest = sym (append_assoc (b ∷ P) L more) ∙ ap (λ t. t ++ more) (sym before) ∙ reads.1 in
            let r = longer (b ∷ P) (L ++ more) rest h reads.0 none e in
            let now = becomes h b P r.0 line reads.0 ends.return ends.blank ended r.1 ends.part r.2 in
            hopeless.never now.0 now.1 [] (subst (λ t. ReadsRequest (t ++ now.0) now.1 []) here now.2);
        elsewhere = λ target. no_target b P L ends.return ends.blank ended (subst EndsInTarget before target);
      }),
    )
