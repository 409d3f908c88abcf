-- When two terms are the same: a law of comparison, field by field (this product's own).
use Rattle.std.specs.Prelude.{◌≡◌, Bool, nat_eq, ◌&&◌}
use Rattle.std.specs.Bool.{Decides}
use Rattle.units.specs.Same.{and_decides, decides_to, nat_decides}
use Rattle.rating.specs.declared.terms.Terms.{Terms}

-- terms of the same fields are the same
pub terms_is : (a b : Terms) → a.kind ≡ b.kind → a.chunk ≡ b.chunk → a.threshold ≡ b.threshold → a.validity ≡ b.validity → a.holding ≡ b.holding → a.action ≡ b.action → a ≡ b
terms_is a b kind chunk threshold validity holding action = λ i. record { kind = kind i; chunk = chunk i; threshold = threshold i; validity = validity i; holding = holding i; action = action i }

-- the fields tell whether two terms are the same
pub terms_decides : (kind_same action_same : Bool) (a b : Terms) → Decides kind_same (a.kind ≡ b.kind) → Decides action_same (a.action ≡ b.action) → Decides (kind_same && ((nat_eq a.chunk b.chunk) && ((nat_eq a.threshold b.threshold) && ((nat_eq a.validity b.validity) && ((nat_eq a.holding b.holding) && action_same))))) (a ≡ b)
terms_decides kind_same action_same a b kind action =
    decides_to _ (and_decides _ _ kind (and_decides _ _ (nat_decides a.chunk b.chunk) (and_decides _ _ (nat_decides a.threshold b.threshold) (and_decides _ _ (nat_decides a.validity b.validity) (and_decides _ _ (nat_decides a.holding b.holding) action)))))
    (λ e. terms_is a b e.0 e.1.0 e.1.1.0 e.1.1.1.0 e.1.1.1.1.0 e.1.1.1.1.1)
    (λ e. (λ i. (e i).kind, (λ i. (e i).chunk, (λ i. (e i).threshold, (λ i. (e i).validity, (λ i. (e i).holding, λ i. (e i).action))))))
