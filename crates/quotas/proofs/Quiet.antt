-- A trigger that fired is not due again at its moment.
use Rattle.std.proofs.Common.{◌≡◌, ℕ, ◌==◌, ◌&&◌, Bool, true, false, [], ◌∷◌, refl, ap, subst, ◌∙◌}
use Rattle.std.specs.Prelude.{Option, Some, None, is_some, not}
use Rattle.units.specs.declared.report.Container.{Container}
use Rattle.units.specs.declared.trigger.TriggerType.{TriggerType}
use Rattle.units.specs.declared.trigger.TriggerType.TheVariants.{Final, QuotaExhausted, QuotaThreshold, ValidityTime, QuotaHoldingTime, TariffTimeChange, VolumeLimit, TimeLimit}
use Rattle.units.specs.declared.answer.Action.{Action}
use Rattle.quotas.specs.declared.state.Limits.{Limits}
use Rattle.quotas.specs.declared.standing.Terms.{Terms}
use Rattle.quotas.specs.declared.standing.Standing.{Standing}
use Rattle.quotas.specs.declared.standing.Standing.TheVariants.{Nothing, Granted, Unlimited, Denied, Spent, Free}
use Rattle.quotas.specs.Standing.{spent_by, spent}
use Rattle.quotas.specs.Quota.{Quota, is_asked, left, fired}
use Rattle.quotas.specs.Due.{on_terms, in_terms, due_of, first_due}
use Rattle.quotas.specs.Laws.{IsQuietAfter}

-- five conditions that are all false give none
none_of : (a b c d e : Bool) → a ≡ false → b ≡ false → c ≡ false → d ≡ false → e ≡ false
    → first_due ((a, Final) ∷ (b, QuotaExhausted) ∷ (c, QuotaThreshold) ∷ (d, ValidityTime) ∷ (e, QuotaHoldingTime) ∷ (false, TariffTimeChange) ∷ (false, VolumeLimit) ∷ (false, TimeLimit) ∷ []) ≡ None
none_of true b c d e ha hb hc hd he = cc
none_of false true c d e ha hb hc hd he = cc
none_of false false true d e ha hb hc hd he = cc
none_of false false false true e ha hb hc hd he = cc
none_of false false false false true ha hb hc hd he = cc
none_of false false false false false ha hb hc hd he = refl

not_and : (b : Bool) → (b && false) ≡ false
not_and true = refl
not_and false = refl

-- a group that is asked, or stands without terms, has no due quota trigger
is_asked_quiet : (b : Bool) (x : Bool) → b ≡ true → (not b && x) ≡ false
is_asked_quiet true x h = refl
is_asked_quiet false x h = cc

-- no quota trigger is due in a group that stands without terms
bare : (q : Quota) (now : ℕ) (limits : Limits) → ((test : Terms → Bool) → on_terms q.standing test ≡ false) → due_of q None false now limits ≡ None
bare q now limits h = none_of _ _ _ _ _ (off _) (off _) (off _) (off _) (off _)
  where
    off : (test : Terms → Bool) → in_terms q test ≡ false
    off test = ap (λ b. not (is_asked q) && b) (h test) ∙ not_and (not (is_asked q))

asked_quiet : (q : Quota) (now : ℕ) (limits : Limits) → is_asked q ≡ true → due_of q None false now limits ≡ None
asked_quiet q now limits h = none_of _ _ _ _ _ (off _) (off _) (off _) (off _) (off _)
  where
    off : (test : Terms → Bool) → in_terms q test ≡ false
    off test = is_asked_quiet (is_asked q) (on_terms q.standing test) h

-- which line was the first
by_line : (a b c d e f g h : Bool) (t : TriggerType) (P : TriggerType → Type 0)
    → first_due ((a, Final) ∷ (b, QuotaExhausted) ∷ (c, QuotaThreshold) ∷ (d, ValidityTime) ∷ (e, QuotaHoldingTime) ∷ (f, TariffTimeChange) ∷ (g, VolumeLimit) ∷ (h, TimeLimit) ∷ []) ≡ Some t
    → (a ≡ true → P Final) → P QuotaExhausted → P QuotaThreshold → P ValidityTime → P QuotaHoldingTime
    → (a ≡ false → b ≡ false → c ≡ false → d ≡ false → e ≡ false → P TariffTimeChange × P VolumeLimit × P TimeLimit) → P t
by_line true b c d e f g h t P due k1 k2 k3 k4 k5 k6 = let same : Final ≡ t = cc in subst P same (k1 refl)
by_line false true c d e f g h t P due k1 k2 k3 k4 k5 k6 = let same : QuotaExhausted ≡ t = cc in subst P same k2
by_line false false true d e f g h t P due k1 k2 k3 k4 k5 k6 = let same : QuotaThreshold ≡ t = cc in subst P same k3
by_line false false false true e f g h t P due k1 k2 k3 k4 k5 k6 = let same : ValidityTime ≡ t = cc in subst P same k4
by_line false false false false true f g h t P due k1 k2 k3 k4 k5 k6 = let same : QuotaHoldingTime ≡ t = cc in subst P same k5
by_line false false false false false true g h t P due k1 k2 k3 k4 k5 k6 = let same : TariffTimeChange ≡ t = cc in subst P same (k6 refl refl refl refl refl).0
by_line false false false false false false true h t P due k1 k2 k3 k4 k5 k6 = let same : VolumeLimit ≡ t = cc in subst P same (k6 refl refl refl refl refl).1
by_line false false false false false false false true t P due k1 k2 k3 k4 k5 k6 = let same : TimeLimit ≡ t = cc in subst P same (k6 refl refl refl refl refl).2
by_line false false false false false false false false t P due k1 k2 k3 k4 k5 k6 = cc

-- last units that are used up leave no terms
spent_bare : (last : Option Action) (t : Terms) (x : Bool) (test : Terms → Bool) → (is_some last && x) ≡ true → on_terms (spent_by last t) test ≡ false
spent_bare None t x test h = cc
spent_bare (Some a) t x test h = refl

final_bare : (s : Standing) (f test : Terms → Bool) → on_terms s (λ t. is_some t.last_units && f t) ≡ true → on_terms (spent s) test ≡ false
final_bare (Granted t) f test h = spent_bare t.last_units t (f t) test h
final_bare Nothing f test h = refl
final_bare Unlimited f test h = refl
final_bare Denied f test h = refl
final_bare (Spent a) f test h = refl
final_bare Free f test h = refl

second : (a b : Bool) → (a && b) ≡ true → b ≡ true
second true b h = h
second false b h = cc

pub quiet : (q : Quota) (open_container : Option Container) (unsafe_hour : Bool) (now : ℕ) (limits : Limits) (trigger : TriggerType) → due_of q open_container unsafe_hour now limits ≡ Some trigger → IsQuietAfter q now limits trigger
quiet q open_container unsafe_hour now limits trigger due =
    by_line _ _ _ _ _ _ _ _ trigger (IsQuietAfter q now limits) due
    (λ h. bare (fired Final q) now limits (λ test. final_bare q.standing (λ u. left u q == 0) test (second (not (is_asked q)) _ h)))
    (asked_quiet (fired QuotaExhausted q) now limits refl)
    (asked_quiet (fired QuotaThreshold q) now limits refl)
    (asked_quiet (fired ValidityTime q) now limits refl)
    (bare (fired QuotaHoldingTime q) now limits (λ test. refl))
    (λ ha hb hc hd he. (none_of _ _ _ _ _ ha hb hc hd he, none_of _ _ _ _ _ ha hb hc hd he, none_of _ _ _ _ _ ha hb hc hd he))
