-- The least unsafe hour is the least.
use Rattle.std.proofs.Common.{◌≡◌, ℕ, ◌+◌, ◌*◌, ◌/◌, ◌%◌, ◌<◌, ◌≤◌, ◌&&◌, not, Bool, true, false, cond, nat_lt, Option, Some, None, refl, sym, ◌∙◌, arith, eq-eqb}
use Rattle.std.specs.Option.{option_map}
use Rattle.std.proofs.lemmas.Bool.Decides.{nat_tests}
use Rattle.std.proofs.lemmas.Bool.{eqb-true}
use Rattle.units.specs.Cut.{whole_hour, SwitchWithin, NoSwitchWithin}
use Rattle.meter.specs.declared.horizon.Horizon.{Horizon}
use Rattle.meter.specs.Horizons.{is_within, is_unsafe, IsNextSwitch, next_hour, hour_from, least_unsafe, is_at_most, has_unsafe}

-- nothing is unsafe after the moment
abbrev pub NoneAfter : Option Horizon → ℕ → Type 0
NoneAfter horizon after = (moment : ℕ) → after < moment → is_unsafe horizon moment ≡ false

abbrev pub IsLeast : Option Horizon → ℕ → Option ℕ → Type 0
IsLeast horizon after None = NoneAfter horizon after
IsLeast horizon after (Some hour) = IsNextSwitch (is_unsafe horizon) after hour

next_later : (after : ℕ) → after < next_hour after
next_later after = omega arith

next_whole : (n : ℕ) → whole_hour (3600 * n) ≡ true
next_whole n = eq-eqb ((3600 * n) % 3600) 0 (omega arith)

-- a whole hour after the moment is no earlier than the next one
next_least : (after moment : ℕ) → after < moment → whole_hour moment ≡ true → next_hour after ≤ moment
next_least after moment later whole = let zero = eqb-true (moment % 3600) 0 whole in omega (arith, zero)

-- a whole hour before the one at or after a moment is before that moment
before_end : (moment end : ℕ) → moment < hour_from end → whole_hour moment ≡ true → moment < end
before_end moment end before whole = let zero = eqb-true (moment % 3600) 0 whole in omega (arith, zero)

unsafe_by : (whole within : Bool) → (whole ≡ true → within ≡ true) → (whole && not within) ≡ false
unsafe_by true within h = rw (h refl) refl
unsafe_by false within h = refl

at_next : (horizon : Option Horizon) (after : ℕ) → is_within horizon (next_hour after) ≡ false → IsNextSwitch (is_unsafe horizon) after (next_hour after)
at_next horizon after out = record {
  later = next_later after;
  switch = rw (next_whole (after / 3600 + 1), out) refl;
  least = λ moment later before. unsafe_by (whole_hour moment) (is_within horizon moment) (λ whole. absurd (let le = next_least after moment later whole in omega arith));
}

parts : (a b : Bool) → (a && b) ≡ true → (a ≡ true) × (b ≡ true)
parts true b h = (refl, h)
parts false b h = cc

both : (a b : Bool) → a ≡ true → b ≡ true → (a && b) ≡ true
both a b h k = rw (h, k) refl

at_end : (from end group after : ℕ) → is_within (Some (record { group = group; from = from; until = Some end })) (next_hour after) ≡ true → IsNextSwitch (is_unsafe (Some (record { group = group; from = from; until = Some end }))) after (hour_from end)
at_end from end group after inside =
    let two = parts (nat_lt from (next_hour after)) (nat_lt (next_hour after) end) inside in
    let above : from < next_hour after = grind (arith, nat_tests, two.0) in
    let below : next_hour after < end = grind (arith, nat_tests, two.1) in
    let past : end ≤ hour_from end = omega arith in
    let out : nat_lt (hour_from end) end ≡ false = grind (arith, nat_tests) in
    record {
      later = let next = next_later after in omega arith;
      switch = rw (next_whole ((end + 3599) / 3600), out) (no_and (nat_lt from (hour_from end)));
      least = λ moment later before. unsafe_by (whole_hour moment) (nat_lt from moment && nat_lt moment end) (λ whole.
          let le = next_least after moment later whole in
          let less = before_end moment end before whole in
          both (nat_lt from moment) (nat_lt moment end) (grind (arith, nat_tests)) (grind (arith, nat_tests)));
    }
  where
    no_and : (a : Bool) → not (a && false) ≡ true
    no_and true = refl
    no_and false = refl

no_end : (from group after : ℕ) → is_within (Some (record { group = group; from = from; until = None })) (next_hour after) ≡ true → NoneAfter (Some (record { group = group; from = from; until = None })) after
no_end from group after inside moment later =
    let two = parts (nat_lt from (next_hour after)) true inside in
    let above : from < next_hour after = grind (arith, nat_tests, two.0) in
    unsafe_by (whole_hour moment) (nat_lt from moment && true) (λ whole. let le = next_least after moment later whole in both (nat_lt from moment) true (grind (arith, nat_tests)) refl)

pub least_is : (horizon : Option Horizon) (after : ℕ) → IsLeast horizon after (least_unsafe horizon after)
least_is None after = at_next None after refl
least_is (Some h) after = by (is_within (Some h) (next_hour after)) refl
  where
    ended : (until : Option ℕ) → is_within (Some (record { group = h.group; from = h.from; until = until })) (next_hour after) ≡ true → IsLeast (Some (record { group = h.group; from = h.from; until = until })) after (option_map hour_from until)
    ended None inside = no_end h.from h.group after inside
    ended (Some end) inside = at_end h.from end h.group after inside

    by : (b : Bool) → is_within (Some h) (next_hour after) ≡ b → IsLeast (Some h) after (cond b (option_map hour_from h.until) (Some (next_hour after)))
    by true inside = ended h.until inside
    by false out = at_next (Some h) after out

pub no_unsafe : (horizon : Option Horizon) (after until : ℕ) → has_unsafe horizon after until ≡ false → NoSwitchWithin (is_unsafe horizon) after until
no_unsafe horizon after until none = by (least_unsafe horizon after) (least_is horizon after) none
  where
    by : (o : Option ℕ) → IsLeast horizon after o → is_at_most o until ≡ false → NoSwitchWithin (is_unsafe horizon) after until
    by None least above moment later before = least moment later
    by (Some hour) least above moment later before = least.least moment later (grind (arith, nat_tests, above))

pub some_unsafe : (horizon : Option Horizon) (after until : ℕ) → has_unsafe horizon after until ≡ true → SwitchWithin (is_unsafe horizon) after until
some_unsafe horizon after until some = by (least_unsafe horizon after) (least_is horizon after) some
  where
    by : (o : Option ℕ) → IsLeast horizon after o → is_at_most o until ≡ true → SwitchWithin (is_unsafe horizon) after until
    by None least below = cc
    by (Some hour) least below = (hour, least.later, grind (arith, nat_tests, below), least.switch)

-- the test says which
pub unsafe_is_some : (horizon : Option Horizon) (after until : ℕ) → SwitchWithin (is_unsafe horizon) after until → has_unsafe horizon after until ≡ true
unsafe_is_some horizon after until (moment, later, before, switch) = by (has_unsafe horizon after until) refl
  where
    by : (b : Bool) → has_unsafe horizon after until ≡ b → b ≡ true
    by true e = refl
    by false e = sym (no_unsafe horizon after until e moment later before) ∙ switch

pub unsafe_is_none : (horizon : Option Horizon) (after until : ℕ) → NoSwitchWithin (is_unsafe horizon) after until → has_unsafe horizon after until ≡ false
unsafe_is_none horizon after until none = by (has_unsafe horizon after until) refl
  where
    by : (b : Bool) → has_unsafe horizon after until ≡ b → b ≡ false
    by false e = refl
    by true e = let some = some_unsafe horizon after until e in sym some.3 ∙ none some.0 some.1 some.2
