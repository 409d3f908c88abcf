-- A reading stays right with one row more.
use Rattle.std.proofs.Common.{◌≡◌, ℕ, ◌+◌, ◌<◌, ◌≤◌, ◌==◌, true, [], ◌∷◌, ◌++◌, length, nat_lt, nat_eq, Some, None, is_none, if◌then◌else◌, refl, sym, ◌∙◌, ap, subst, arith, length-append}
use Rattle.std.specs.HashMap.{get}
use Rattle.std.proofs.lemmas.Bool.Decides.{nat_tests}
use Rattle.rating.specs.declared.terms.Terms.{Terms}
use Rattle.rating.specs.declared.period.Period.{Period}
use Rattle.rating.specs.declared.row.TariffRow.TheVariants.{Group, Price}
use Rattle.rating.specs.declared.reading.Reading.TheInside.{Inside}
use Rattle.rating.specs.Row.{IsSmall}
use Rattle.rating.specs.Tariff.{extended, tariff_of, terms_of}
use Rattle.rating.specs.Grammar.{groups_of, may_extend_some, may_follow}
use Rattle.rating.specs.Caches.{AreSound, IsRead}
use Rattle.rating.proofs.Rows.{groups_push, append_none, tariff_group, tariff_price, no_terms}
use Rattle.rating.proofs.Sound.{sound_more}

-- with a new group
pub read_group : (r s : Inside) (g : ℕ) (t : Terms) → IsRead r → s.rows ≡ r.rows ++ Group g t ∷ [] → s.groups ≡ r.groups + 1 → s.groups ≤ 1000 → is_none (get nat_eq r.table g) ≡ true
    → ((q : ℕ) → get nat_eq s.table q ≡ (if g == q then Some (record { terms = t; periods = [] }) else get nat_eq r.table q)) → IsRead s
read_group r s g t read rows groups few new table =
    let count = read.groups in
    let room : nat_lt (length (groups_of r.rows)) 1000 ≡ true = let lt : length (groups_of r.rows) < 1000 = omega (arith, groups, few, count) in grind (arith, nat_tests) in
    let none : is_none (tariff_of r.rows g) ≡ true = ap is_none (sym (read.table g)) ∙ new in
    let nothing : terms_of r.rows g ≡ None = no_terms r.rows g none in
    let follows : may_follow r.rows (Group g t) ≡ true = rw (room, nothing) refl in
    record {
      sound = subst AreSound (sym rows) (sound_more r.rows (Group g t) read.sound tt follows);
      groups = let more = ap (λ rs. length (groups_of rs)) rows ∙ ap length (groups_push r.rows (Group g t)) ∙ length-append (groups_of r.rows) (g ∷ []) in omega (arith, groups, count, more);
      table = λ q. table q ∙ ap (λ o. if g == q then Some (record { terms = t; periods = [] }) else o) (read.table q) ∙ sym (tariff_group r.rows g t q read.sound nothing) ∙ ap (λ rs. tariff_of rs q) (sym rows);
    }

-- with a period more
pub read_price : (r s : Inside) (g : ℕ) (p : Period) → IsRead r → IsSmall p → s.rows ≡ r.rows ++ Price g p ∷ [] → s.groups ≡ r.groups → may_extend_some (get nat_eq r.table g) p ≡ true
    → ((q : ℕ) → get nat_eq s.table q ≡ (if g == q then extended (get nat_eq r.table g) p else get nat_eq r.table q)) → IsRead s
read_price r s g p read small rows groups may table =
    let follows : may_follow r.rows (Price g p) ≡ true = ap (λ o. may_extend_some o p) (sym (read.table g)) ∙ may in
    let count = read.groups in
    record {
      sound = subst AreSound (sym rows) (sound_more r.rows (Price g p) read.sound small follows);
      groups = let more = ap (λ rs. length (groups_of rs)) rows ∙ ap length (groups_push r.rows (Price g p) ∙ append_none (groups_of r.rows)) in omega (arith, groups, count, more);
      table = λ q. table q ∙ (λ i. if g == q then extended (read.table g i) p else read.table q i) ∙ sym (tariff_price r.rows g p q) ∙ ap (λ rs. tariff_of rs q) (sym rows);
    }
