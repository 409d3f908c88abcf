-- From which moment on a trigger of time is due, and that nothing is due before where nothing is at the first moment.
use Rattle.std.proofs.Common.{◌≡◌, ℕ, ◌+◌, ◌≤◌, ◌==◌, ◌&&◌, ◌||◌, not, nat_lt, nat_le, Bool, true, false, cond, List, [], ◌∷◌, min, max, refl, sym, ap, ◌∙◌, arith}
use Rattle.std.specs.Prelude.{Option, Some, None, is_some}
use Rattle.std.proofs.lemmas.Bool.{ltb-true, leb-true, leb-false, le-leb, lt-leb}
use Rattle.units.specs.declared.trigger.TriggerType.{TriggerType}
use Rattle.units.specs.declared.trigger.TriggerType.TheVariants.{Final, QuotaExhausted, QuotaThreshold, ValidityTime, QuotaHoldingTime, TariffTimeChange, VolumeLimit, TimeLimit}
use Rattle.units.specs.Limits.{greatest_moment}
use Rattle.quotas.specs.declared.standing.Standing.{Standing}
use Rattle.quotas.specs.declared.standing.Standing.TheVariants.{Nothing, Granted, Unlimited, Denied, Spent, Free}
use Rattle.quotas.specs.Quota.{Quota, is_asked, left}
use Rattle.quotas.specs.Due.{on_terms, in_open, first_due}
use Rattle.quotas.specs.Deadline.{earlier, has_come, end_of, granted_deadline, deadline, is_timed, IsDeadline, RestsUntilDeadline}

-- the table by its conditions
abbrev table : Bool → Bool → Bool → Bool → Bool → Bool → Bool → Bool → List (Bool × TriggerType)
table a b c d e f g h = (a, Final) ∷ (b, QuotaExhausted) ∷ (c, QuotaThreshold) ∷ (d, ValidityTime) ∷ (e, QuotaHoldingTime) ∷ (f, TariffTimeChange) ∷ (g, VolumeLimit) ∷ (h, TimeLimit) ∷ []

abbrev terms_table : Bool → Bool → Bool → Bool → Bool → List (Bool × TriggerType)
terms_table a b c d e = (a, Final) ∷ (b, QuotaExhausted) ∷ (c, QuotaThreshold) ∷ (d, ValidityTime) ∷ (e, QuotaHoldingTime) ∷ []

-- the table of a group that is asked or not, and stands so
abbrev table_of : Bool → Standing → Quota → ℕ → Bool → Bool → Bool → List (Bool × TriggerType)
table_of asked st q now f g h = table
    (not asked && on_terms st (λ t. is_some t.last_units && (left t q == 0)))
    (not asked && on_terms st (λ t. not (is_some t.last_units) && (left t q == 0)))
    (not asked && on_terms st (λ t. not (is_some t.last_units) && (nat_lt 0 t.threshold && nat_le (left t q) t.threshold)))
    (not asked && on_terms st (λ t. nat_lt 0 t.validity && nat_le (t.stamp + t.validity) now))
    (not asked && on_terms st (λ t. nat_lt 0 t.holding && nat_le (max t.stamp q.last_use + t.holding) now))
    f g h

-- ends of times

or_false : (b : Bool) → b ≡ (b || false)
or_false true = refl
or_false false = refl

come_earlier : (now : ℕ) (x y : Option ℕ) → has_come now (earlier x y) ≡ (has_come now x || has_come now y)
come_earlier now None y = refl
come_earlier now (Some a) None = or_false (nat_le a now)
come_earlier now (Some a) (Some b) = at (nat_le a now) (nat_le b now) refl refl
  where
    at : (p q : Bool) → nat_le a now ≡ p → nat_le b now ≡ q → nat_le (min a b) now ≡ (p || q)
    at true q e f = le-leb (min a b) now (omega (arith, leb-true a now e))
    at false true e f = le-leb (min a b) now (omega (arith, leb-true b now f))
    at false false e f = lt-leb (min a b) now (omega (arith, leb-false a now e, leb-false b now f))

come_end : (from time now : ℕ) → now ≤ greatest_moment → (nat_lt 0 time && nat_le (from + time) now) ≡ has_come now (end_of from time)
come_end from time now l = at (nat_lt 0 time) (nat_le (from + time) greatest_moment) refl
  where
    at : (p q : Bool) → nat_le (from + time) greatest_moment ≡ q → (p && nat_le (from + time) now) ≡ has_come now (cond (p && q) (Some (from + time)) None)
    at false q e = refl
    at true true e = refl
    at true false e = lt-leb (from + time) now (omega (arith, l, leb-false (from + time) greatest_moment e))

-- no time is over at the first moment
never_first : (from time : ℕ) → (nat_lt 0 time && nat_le (from + time) 0) ≡ false
never_first from time = at (nat_lt 0 time) refl
  where
    at : (p : Bool) → nat_lt 0 time ≡ p → (p && nat_le (from + time) 0) ≡ false
    at false e = refl
    at true e = lt-leb (from + time) 0 (omega (arith, ltb-true 0 time e))

-- a trigger of time is due exactly from the deadline on

timed_two : (d e : Bool) → is_timed (first_due (table false false false d e false false false)) ≡ (d || e)
timed_two true e = refl
timed_two false true = refl
timed_two false false = refl

timed_lines : (now : ℕ) (a b c d e d0 e0 : Bool) (x y : Option ℕ) → d0 ≡ false → e0 ≡ false → d ≡ has_come now x → e ≡ has_come now y
    → is_timed (first_due (table a b c d e false false false)) ≡ has_come now (cond (is_some (first_due (terms_table a b c d0 e0))) None (earlier x y))
timed_lines now true b c d e d0 e0 x y h i j k = refl
timed_lines now false true c d e d0 e0 x y h i j k = refl
timed_lines now false false true d e d0 e0 x y h i j k = refl
timed_lines now false false false d e true e0 x y h i j k = cc
timed_lines now false false false d e false true x y h i j k = cc
timed_lines now false false false d e false false x y h i j k = timed_two d e ∙ ap (λ b. b || e) j ∙ ap (λ b. has_come now x || b) k ∙ sym (come_earlier now x y)

timed : (asked : Bool) (st : Standing) (q : Quota) (now : ℕ) → now ≤ greatest_moment → is_timed (first_due (table_of asked st q now false false false)) ≡ has_come now (cond asked None (granted_deadline q st))
timed true st q now l = refl
timed false Nothing q now l = refl
timed false Unlimited q now l = refl
timed false Denied q now l = refl
timed false (Spent action) q now l = refl
timed false Free q now l = refl
timed false (Granted t) q now l =
    timed_lines now _ _ _ _ _ _ _ (end_of t.stamp t.validity) (end_of (max t.stamp q.last_use) t.holding)
    (never_first t.stamp t.validity) (never_first (max t.stamp q.last_use) t.holding)
    (come_end t.stamp t.validity now l) (come_end (max t.stamp q.last_use) t.holding now l)

pub is_deadline : (q : Quota) → IsDeadline q (deadline q)
is_deadline q now limits l = timed (is_asked q) q.standing q now l

-- nothing is due before

or_parts : (a b : Bool) → (a || b) ≡ false → (a ≡ false) × (b ≡ false)
or_parts true b e = cc
or_parts false b e = (refl, e)

none_of : (d e f g h : Bool) → d ≡ false → e ≡ false → f ≡ false → g ≡ false → h ≡ false → first_due (table false false false d e f g h) ≡ None
none_of true e f g h i j k m n = cc
none_of false true f g h i j k m n = cc
none_of false false true g h i j k m n = cc
none_of false false false true h i j k m n = cc
none_of false false false false true i j k m n = cc
none_of false false false false false i j k m n = refl

rest_lines : (now : ℕ) (a b c d e d0 e0 f f0 g h : Bool) (x y : Option ℕ) → d ≡ has_come now x → e ≡ has_come now y → first_due (table a b c d0 e0 f0 g h) ≡ None
    → has_come now (cond (is_some (first_due (terms_table a b c d0 e0))) None (earlier x y)) ≡ false → f ≡ false → first_due (table a b c d e f g h) ≡ None
rest_lines now true b c d e d0 e0 f f0 g h x y j k first late calm = cc
rest_lines now false true c d e d0 e0 f f0 g h x y j k first late calm = cc
rest_lines now false false true d e d0 e0 f f0 g h x y j k first late calm = cc
rest_lines now false false false d e true e0 f f0 g h x y j k first late calm = cc
rest_lines now false false false d e false true f f0 g h x y j k first late calm = cc
rest_lines now false false false d e false false f true g h x y j k first late calm = cc
rest_lines now false false false d e false false f false true h x y j k first late calm = cc
rest_lines now false false false d e false false f false false true x y j k first late calm = cc
rest_lines now false false false d e false false f false false false x y j k first late calm =
    let both = or_parts (has_come now x) (has_come now y) (sym (come_earlier now x y) ∙ late) in
    none_of d e f false false (j ∙ both.0) (k ∙ both.1) calm refl refl

-- where no terms are granted, or quota is asked for
rest_open : (f f0 g h : Bool) → first_due (table false false false false false f0 g h) ≡ None → f ≡ false → first_due (table false false false false false f g h) ≡ None
rest_open f true g h first calm = cc
rest_open f false true h first calm = cc
rest_open f false false true first calm = cc
rest_open f false false false first calm = none_of false false f false false refl refl calm refl refl

rests : (asked : Bool) (st : Standing) (q : Quota) (now : ℕ) (f f0 g h : Bool) → now ≤ greatest_moment → first_due (table_of asked st q 0 f0 g h) ≡ None
    → has_come now (cond asked None (granted_deadline q st)) ≡ false → f ≡ false → first_due (table_of asked st q now f g h) ≡ None
rests true st q now f f0 g h l first late calm = rest_open f f0 g h first calm
rests false Nothing q now f f0 g h l first late calm = rest_open f f0 g h first calm
rests false Unlimited q now f f0 g h l first late calm = rest_open f f0 g h first calm
rests false Denied q now f f0 g h l first late calm = rest_open f f0 g h first calm
rests false (Spent action) q now f f0 g h l first late calm = rest_open f f0 g h first calm
rests false Free q now f f0 g h l first late calm = rest_open f f0 g h first calm
rests false (Granted t) q now f f0 g h l first late calm =
    rest_lines now _ _ _ _ _ _ _ f f0 g h (end_of t.stamp t.validity) (end_of (max t.stamp q.last_use) t.holding)
    (come_end t.stamp t.validity now l) (come_end (max t.stamp q.last_use) t.holding now l) first late calm

pub rests_until_deadline : (q : Quota) → RestsUntilDeadline q
rests_until_deadline q open_container unsafe_hour now limits l first late calm =
    rests (is_asked q) q.standing q now (in_open open_container (λ c. unsafe_hour)) (in_open open_container (λ c. false))
    (in_open open_container (λ c. nat_lt 0 limits.volume && nat_le limits.volume (c.up + c.down)))
    (in_open open_container (λ c. nat_lt 0 limits.seconds && nat_le limits.seconds c.seconds)) l first late calm
