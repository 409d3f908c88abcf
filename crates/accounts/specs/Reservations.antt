-- What is set aside, by session and rating group (this product's own).
use Rattle.std.specs.Prelude.{◌≡◌, ℕ, ◌==◌, ◌&&◌, Bool, Option, Some, None, refl}
use Rattle.std.proofs.Common.{ap, ◌∙◌}
use Rattle.std.specs.declared.cmp.Ordering.{Ordering}
use Rattle.std.specs.declared.cmp.Ordering.TheVariants.{Less, Equal, Greater}
use Rattle.std.specs.Ordering.{nat_cmp, ordering_then, eq_by_cmp, is_eq}
use Rattle.std.specs.Coded.{Coded, code_by, coded×, coded_ℕ, coded_option}
use Rattle.std.specs.FinMap as map
use Rattle.std.specs.Cmp.{IsTotalOrder, nat_cmp_total, unsigned_tied}
use Rattle.std.proofs.lemmas.Cmp.{on_total, then_total}
use Rattle.std.proofs.lemmas.Map.Lookups.{CmpEqualImpliesEq, exact_pairs, exact_unsigned}
use Rattle.accounts.specs.declared.reservation.Key.{Key}
use Rattle.accounts.specs.declared.reservation.Reservation.{Reservation}

-- the key of a session and rating group
abbrev pub at : ℕ → ℕ → Key
at session group = record { session = session; group = group }

-- whether two keys are the same
abbrev pub key_eq : Key → Key → Bool
key_eq a b = a.session == b.session && a.group == b.group

-- the order of keys: by session, then by rating group
abbrev pub key_cmp : Key → Key → Ordering
key_cmp a b = ordering_then (nat_cmp a.session b.session) (nat_cmp a.group b.group)

-- which is a total one
pub keys_total : IsTotalOrder key_cmp
keys_total = then_total (on_total (λ k. k.session) nat_cmp_total) (on_total (λ k. k.group) nat_cmp_total)

-- keys that it does not tell apart are one key
pub keys_exact : CmpEqualImpliesEq key_cmp
keys_exact a b h = ap (λ (p : ℕ × ℕ). record { session = p.0; group = p.1 }) (exact_pairs nat_cmp nat_cmp exact_unsigned exact_unsigned (a.session, a.group) (b.session, b.group) h)

-- two comparisons, one after the other, tell equal where both do
then_eq : (a b : Ordering) → is_eq (ordering_then a b) ≡ (is_eq a && is_eq b)
then_eq Less b = refl
then_eq Equal b = refl
then_eq Greater b = refl

-- and it tells them apart where the test does
pub keys_tied : (a b : Key) → eq_by_cmp key_cmp a b ≡ key_eq a b
keys_tied a b =
    then_eq (nat_cmp a.session b.session) (nat_cmp a.group b.group)
    ∙ ap (λ t. t && is_eq (nat_cmp a.group b.group)) (unsigned_tied a.session b.session)
    ∙ ap (λ t. a.session == b.session && t) (unsigned_tied a.group b.group)

-- the reservations, by key
abbrev pub ReservationMap : Type 0
ReservationMap = map.FinMap key_cmp Reservation

-- what is left of a reservation, 0 where there is none
abbrev pub left_of : Option Reservation → ℕ
left_of None = 0
left_of (Some r) = r.left

-- how these are coded, as a model asks: a key,
abbrev pub coded_key : Coded Key
coded_key = code_by (ℕ × ℕ) (coded× coded_ℕ coded_ℕ) (λ k. (k.session, k.group)) (λ p. record { session = p.0; group = p.1 }) (λ _. refl)

-- a reservation,
abbrev pub coded_reservation : Coded Reservation
coded_reservation = code_by (ℕ × (ℕ × Option ℕ)) (coded× coded_ℕ (coded× coded_ℕ (coded_option coded_ℕ))) (λ r. (r.account, (r.left, r.deadline))) (λ p. record { account = p.0; left = p.1.0; deadline = p.1.1 }) (λ _. refl)

-- the reservations, and for how many more there is a place
pub record Stored : Type 0 where
  pub of : ReservationMap
  pub spare : ℕ

-- and all of them
abbrev pub coded_stored : Coded Stored
coded_stored = code_by (ReservationMap × ℕ) (coded× (map.code coded_key coded_reservation) coded_ℕ) (λ s. (s.of, s.spare)) (λ p. record { of = p.0; spare = p.1 }) (λ _. refl)
