-- Spans that lie in the first bytes cover the same bytes there.
use Rattle.std.proofs.Common.{◌≡◌, ℕ, ◌+◌, ◌-◌, ◌≤◌, List, take, drop, arith, sym, ◌∙◌, ap}
use Rattle.std.proofs.lemmas.List.{drop-take, take-take}
use Rattle.httparse.specs.Spans.{IsWithin, span_bytes}
use Rattle.httparse.specs.declared.spans.Span.{Span}

cut : (bytes : List ℕ) (n i j : ℕ) → i ≤ j → j ≤ n → take (j - i) (drop i (take n bytes)) ≡ take (j - i) (drop i bytes)
cut bytes n i j le within =
    let e : i + (n - i) ≡ n = omega arith in
    ap (λ k. take (j - i) (drop i (take k bytes))) (sym e) ∙ ap (take (j - i)) (drop-take i (n - i) bytes) ∙ take-take (j - i) (n - i) (drop i bytes) (omega arith)

pub span_first : (bytes : List ℕ) (n : ℕ) (span : Span) → IsWithin n span → span_bytes (take n bytes) span ≡ span_bytes bytes span
span_first bytes n span within = cut bytes n span.start span.end within.0 within.1
