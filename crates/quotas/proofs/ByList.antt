-- What a whole list of steps says of what is due and of the gate.
use Rattle.std.proofs.Common.{◌≡◌, ℕ, ◌+◌, ◌==◌, ◌&&◌, max, Bool, cond, List, [], ◌∷◌, refl, ap, arith}
use Rattle.std.specs.Prelude.{is_some, nat_lt, nat_le, not}
use Rattle.units.specs.declared.trigger.TriggerType.TheVariants.{Final, QuotaExhausted, QuotaThreshold, ValidityTime, QuotaHoldingTime, TariffTimeChange, VolumeLimit, TimeLimit}
use Rattle.units.specs.declared.answer.Action.TheVariants.{Terminate, Redirect, RestrictAccess}
use Rattle.units.specs.declared.answer.Amount.{Amount}
use Rattle.units.specs.declared.answer.Amount.TheVariants.{Volume, Seconds}
use Rattle.quotas.specs.declared.state.Gate.TheVariants.{Passing, Waiting, Closed}
use Rattle.quotas.specs.declared.standing.Standing.{Standing}
use Rattle.quotas.specs.declared.standing.Terms.{Terms}
use Rattle.quotas.specs.declared.standing.Standing.TheVariants.{Nothing, Granted, Unlimited, Denied, Spent, Free}
use Rattle.quotas.specs.Standing.{left_of}
use Rattle.quotas.specs.Gate.{gate_at}
use Rattle.quotas.specs.Quota.{capped, is_asked}
use Rattle.quotas.specs.Due.{on_terms, first_due}
use Rattle.quotas.specs.Laws.{Fits, FitsGranted, DueByTheList}
use Rattle.quotas.specs.declared.step.Step.{Step}
use Rattle.quotas.specs.Steps.{quota_after}
use Rattle.quotas.specs.History.{octets_used, seconds_used}
use Rattle.quotas.proofs.Sums.{sums}

-- what is left of an amount is the same whether the sum stands still at its type's end
left_capped : (amount : Amount) (o s m n : ℕ) → Fits amount → o ≡ capped m → s ≡ capped n → left_of amount o s ≡ left_of amount m n
left_capped (Volume volume) o s m n fits ho hs = omega (arith, fits, ho)
left_capped (Seconds time) o s m n fits ho hs = omega (arith, fits, hs)

-- a test of granted units, by another that is the same there
on_same : (standing : Standing) (f g : Terms → Bool) → ((t : Terms) → standing ≡ Granted t → f t ≡ g t) → on_terms standing f ≡ on_terms standing g
on_same (Granted t) f g h = h t refl
on_same Nothing f g h = refl
on_same Unlimited f g h = refl
on_same Denied f g h = refl
on_same (Spent action) f g h = refl
on_same Free f g h = refl

-- and the gate
gate_same : (standing : Standing) (o s m n : ℕ) → ((t : Terms) → standing ≡ Granted t → left_of t.amount o s ≡ left_of t.amount m n) → gate_at standing o s ≡ gate_at standing m n
gate_same (Granted t) o s m n h = ap (λ k. cond (k == 0) Waiting Passing) (h t refl)
gate_same Nothing o s m n h = refl
gate_same Unlimited o s m n h = refl
gate_same Denied o s m n h = refl
gate_same (Spent Terminate) o s m n h = refl
gate_same (Spent Redirect) o s m n h = refl
gate_same (Spent RestrictAccess) o s m n h = refl
gate_same Free o s m n h = refl

-- the first due line where four conditions are the same
lines_same : (a b c d e f g h a' b' c' e' : Bool) → a ≡ a' → b ≡ b' → c ≡ c' → e ≡ e'
    → first_due ((a, Final) ∷ (b, QuotaExhausted) ∷ (c, QuotaThreshold) ∷ (d, ValidityTime) ∷ (e, QuotaHoldingTime) ∷ (f, TariffTimeChange) ∷ (g, VolumeLimit) ∷ (h, TimeLimit) ∷ [])
    ≡ first_due ((a', Final) ∷ (b', QuotaExhausted) ∷ (c', QuotaThreshold) ∷ (d, ValidityTime) ∷ (e', QuotaHoldingTime) ∷ (f, TariffTimeChange) ∷ (g, VolumeLimit) ∷ (h, TimeLimit) ∷ [])
lines_same a b c d e f g h a' b' c' e' ha hb hc he = λ i. first_due ((ha i, Final) ∷ (hb i, QuotaExhausted) ∷ (hc i, QuotaThreshold) ∷ (d, ValidityTime) ∷ (he i, QuotaHoldingTime) ∷ (f, TariffTimeChange) ∷ (g, VolumeLimit) ∷ (h, TimeLimit) ∷ [])

pub due_by_list : (steps : List Step) → FitsGranted (quota_after steps).standing → DueByTheList steps
due_by_list steps fits = record {
  due = λ open_container unsafe_hour now limits. lines_same _ _ _ _ _ _ _ _ _ _ _ _
      (on (λ t h. ap (λ k. is_some t.last_units && (k == 0)) (rest t h)))
      (on (λ t h. ap (λ k. not (is_some t.last_units) && (k == 0)) (rest t h)))
      (on (λ t h. ap (λ k. not (is_some t.last_units) && (nat_lt 0 t.threshold && nat_le k t.threshold)) (rest t h)))
      (on (λ t h. ap (λ k. nat_lt 0 t.holding && nat_le (max t.stamp k + t.holding) now) (sums steps).last_use));
  gate = ap (λ g. cond (quota_after steps).shut Closed g) (gate_same (quota_after steps).standing _ _ _ _ rest);
}
  where
    rest : (t : Terms) → (quota_after steps).standing ≡ Granted t → left_of t.amount (quota_after steps).octets (quota_after steps).seconds ≡ left_of t.amount (octets_used steps) (seconds_used steps)
    rest t h = left_capped t.amount _ _ _ _ (fits t h) (sums steps).octets (sums steps).seconds

    on : {f g : Terms → Bool} → ((t : Terms) → (quota_after steps).standing ≡ Granted t → f t ≡ g t) → (not (is_asked (quota_after steps)) && on_terms (quota_after steps).standing f) ≡ (not (is_asked (quota_after steps)) && on_terms (quota_after steps).standing g)
    on h = ap (λ b. not (is_asked (quota_after steps)) && b) (on_same (quota_after steps).standing _ _ h)
