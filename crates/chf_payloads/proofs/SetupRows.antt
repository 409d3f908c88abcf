-- The setup of rows reads back.
use Rattle.std.proofs.Common.{◌≡◌, ◌∙◌, ◌+◌, ◌-◌, ◌≤◌, ◌&&◌, ℕ, nat_lt, length, sum_by, arith, ap, sym, refl, Bool, true, false, nat_le, List, [], ◌∷◌, ◌++◌, take, drop, Option, Some, None, Result, Ok, Err, if◌then◌else◌, codes, append_assoc, take-append-drop, add-one}
use Rattle.std.specs.Prelude.{bytes_eq, option_and_then}
use Rattle.std.specs.List.{list_all}
use Rattle.std.specs.Cmp.Lexicographic.{bytes_decides}
use Rattle.std.proofs.lemmas.Bool.{and_from, ltb-false}
use Rattle.std.proofs.lemmas.List.Sums.{sum_by-cons}
use Rattle.row_fields.specs.Fields.{row_size}
use Rattle.std.proofs.lemmas.List.Folds.{list_all-append}
use Rattle.rating.specs.Grammar.{first_bad}
use Rattle.counters.specs.Grammar as counter
use Rattle.row_texts.specs.RowTexts.{rows_in, rows_text}
use Rattle.row_texts.specs.ReadBack.{is_field, is_row}
use Rattle.chf_rows.specs.declared.limits.Limits.{Limits}
use Rattle.chf_rows.specs.Size.{first_past}
use Rattle.chf_rows.specs.Setup.{alone, counters_of, counters_place, ending, front_of, is_limits_row, lacking, limits_answer, limits_place, limits_row, naming_row, setup_answer, setup_with, tariff_of, with_counters, with_size, with_tariff}
use Rattle.chf_core.specs.declared.setup.ChfSetup.{ChfSetup}
use Rattle.chf_core.specs.declared.command.Command.TheVariants.{Setup}
use Rattle.chf_payloads.specs.Written as written
use Rattle.chf_payloads.specs.Written.{payload_of}
use Rattle.chf_payloads.specs.Read as read
use Rattle.chf_payloads.specs.Payloads.{ReadsBack}
use Rattle.chf_payloads.proofs.OperatorRows.{Laws}
use Rattle.chf_payloads.proofs.TariffRows.{counter_rows, tariff_rows}
use Rattle.chf_payloads.proofs.LimitsRow.{limits_row_is}

-- ---- what an accepted setup says of its parts

some_size : (n : ℕ) (x : Result Limits ℕ) (limits : Limits) → with_size (Some n) x ≡ Ok limits → ⊥
some_size n (Ok other) limits h = cc
some_size n (Err other) limits h = cc

sized : (past : Option ℕ) (x : Result Limits ℕ) (limits : Limits) → with_size past x ≡ Ok limits → (past ≡ None) × (x ≡ Ok limits)
sized None x limits h = (refl, h)
sized (Some n) x limits h = absurd (some_size n x limits h)

-- rows none of which is past a size have no more bytes
within_size : (most number : ℕ) (rows : List (List (List ℕ))) → first_past most number rows ≡ None → sum_by row_size rows ≤ most
within_size most number [] h = omega arith
within_size most number (row ∷ rows) h = by (nat_lt most (row_size row)) refl (within_size (most - row_size row) (number + 1) rows) h
  where
    by : (b : Bool) → nat_lt most (row_size row) ≡ b → (first_past (most - row_size row) (number + 1) rows ≡ None → sum_by row_size rows ≤ most - row_size row) → (if b then Some number else first_past (most - row_size row) (number + 1) rows) ≡ None → sum_by row_size (row ∷ rows) ≤ most
    by true b_is more e = absurd (cc)
    by false b_is more e = omega (arith, more e, ltb-false most (row_size row) b_is, sum_by-cons row_size row rows)

lacks_nothing : (front : ℕ) (x : Result Limits ℕ) (limits : Limits) → lacking front x ≡ Ok limits → ⊥
lacks_nothing front (Ok other) limits h = cc
lacks_nothing front (Err other) limits h = cc

record GoodTariff (bad : Option ℕ) (end : Result Limits ℕ) (limits : Limits) : Type 0 where
  good : bad ≡ None
  rest : end ≡ Ok limits

good_tariff : (tariff front : ℕ) (bad : Option ℕ) (end : Result Limits ℕ) (limits : Limits) → with_tariff tariff front bad end ≡ Ok limits → GoodTariff bad end limits
good_tariff tariff front None end limits h = record { good = refl; rest = h }
good_tariff tariff front (Some n) end limits h = absurd (by (nat_le n tariff) h)
  where
    by : (b : Bool) → (if b then Err n else lacking front end) ≡ Ok limits → ⊥
    by true e = cc
    by false e = lacks_nothing front end limits e

good_counters : (tariff : ℕ) (bad : Option ℕ) (end : Result Limits ℕ) (limits : Limits) → with_counters tariff bad end ≡ Ok limits → GoodTariff bad end limits
good_counters tariff None end limits h = record { good = refl; rest = h }
good_counters tariff (Some n) end limits h = absurd (cc)

-- the last row is the limits row
record IsLast (rest : List (List (List ℕ))) (limits : Limits) : Type 0 where
  row : List (List ℕ)
  is : rest ≡ row ∷ []
  says : limits_row row ≡ Some limits

last_row : (front : ℕ) (rest : List (List (List ℕ))) (limits : Limits) → ending front rest ≡ Ok limits → IsLast rest limits
last_row front [] limits h = absurd (cc)
last_row front (row ∷ []) limits h = by (limits_row row) refl h
  where
    by : (o : Option Limits) → limits_row row ≡ o → alone o (front + 1) [] ≡ Ok limits → IsLast (row ∷ []) limits
    by None o_is e = absurd (cc)
    by (Some other) o_is e = record { row = row; is = refl; says = o_is ∙ ap Some cc }
last_row front (row ∷ next ∷ rows) limits h = absurd (by (limits_row row) h)
  where
    by : (o : Option Limits) → alone o (front + 1) (next ∷ rows) ≡ Ok limits → ⊥
    by None e = cc
    by (Some other) e = cc

-- it stands at the place of the limits row
at_place : (rows : List (List (List ℕ))) (row : List (List ℕ)) → drop (limits_place rows) rows ≡ row ∷ [] → is_limits_row row ≡ true
at_place [] row h = absurd (cc)
at_place (r ∷ rows) row h = by (is_limits_row r) refl h (at_place rows row)
  where
    by : (b : Bool) → is_limits_row r ≡ b → drop (if b then 0 else limits_place rows + 1) (r ∷ rows) ≡ row ∷ [] → (drop (limits_place rows) rows ≡ row ∷ [] → is_limits_row row ≡ true) → is_limits_row row ≡ true
    by true b_is e more = let same : r ≡ row = cc in ap is_limits_row (sym same) ∙ b_is
    by false b_is e more = more (rw add-one at e)

-- ---- the rows of the setup

record AreRows (rows : List (List (List ℕ))) (setup : ChfSetup) : Type 0 where
  same : written.setup_rows setup ≡ rows
  plain : list_all is_row rows ≡ true
  size : sum_by row_size rows ≤ 65536

rows_in_parts : (rows tariff counters front : List (List (List ℕ))) (row : List (List ℕ)) → tariff ++ counters ≡ front → front ++ row ∷ [] ≡ rows → tariff ++ (counters ++ row ∷ []) ≡ rows
rows_in_parts rows tariff counters front row parts whole = sym (append_assoc tariff counters (row ∷ [])) ∙ ap (λ k. k ++ row ∷ []) parts ∙ whole

plain_parts : (tariff counters : List (List (List ℕ))) (row : List (List ℕ)) → list_all is_row tariff ≡ true → list_all is_row counters ≡ true → is_row row ≡ true → list_all is_row (tariff ++ (counters ++ row ∷ [])) ≡ true
plain_parts tariff counters row t c r =
    let last : list_all is_row (row ∷ []) ≡ true = and_from (is_row row) true r refl in
    let later : list_all is_row (counters ++ row ∷ []) ≡ true = list_all-append is_row counters (row ∷ []) ∙ and_from (list_all is_row counters) (list_all is_row (row ∷ [])) c last in
    list_all-append is_row tariff (counters ++ row ∷ []) ∙ and_from (list_all is_row tariff) (list_all is_row (counters ++ row ∷ [])) t later

-- a limits row is written as it was read
record IsWritten (row : List (List ℕ)) (setup : ChfSetup) : Type 0 where
  same : written.limits_row setup ≡ row
  plain : is_row row ≡ true

limits_written : Laws → (row : List (List ℕ)) (limits : Limits) (setup : ChfSetup) → is_limits_row row ≡ true → limits_row row ≡ Some limits → setup.limits ≡ limits.records → setup.grace ≡ limits.grace → setup.failover ≡ limits.failover → IsWritten row setup
limits_written laws [] limits setup word says records_is grace_is failover_is = absurd (cc)
limits_written laws (word_text ∷ fields) limits setup word says records_is grace_is failover_is =
    let is = limits_row_is laws fields limits setup says records_is grace_is failover_is in
    let same : word_text ≡ codes "limits" = (bytes_decides word_text (codes "limits")).0 word in
    record {
      same = is.same ∙ ap (λ k. k ∷ fields) (sym same);
      plain = and_from (is_field word_text) (list_all is_field fields) (ap is_field same) is.plain;
    }

are_rows : Laws → (rows : List (List (List ℕ))) (limits : Limits) (setup : ChfSetup) → limits_answer rows ≡ Ok limits → setup_with (front_of rows) (Ok limits) ≡ Ok setup → AreRows rows setup
are_rows laws rows limits setup h made =
    let front = front_of rows in
    let end = ending (limits_place rows) (drop (limits_place rows) rows) in
    let bad_tariff = first_bad [] (tariff_of front) in
    let bad_counters = counter.first_bad [] (counters_of front) in
    let counted = with_counters (counters_place front) bad_counters end in
    let past = sized (first_past 65536 1 rows) (with_tariff (counters_place front) (limits_place rows) bad_tariff counted) limits h in
    let t = good_tariff (counters_place front) (limits_place rows) bad_tariff counted limits past.1 in
    let c = good_counters (counters_place front) bad_counters end limits t.rest in
    let last = last_row (limits_place rows) (drop (limits_place rows) rows) limits c.rest in
    let word = at_place rows last.row last.is in
    let setup_is : record { tariffs = tariff_of front; counters = counters_of front; limits = limits.records; grace = limits.grace; failover = limits.failover } ≡ setup = cc in
    let row = limits_written laws last.row limits setup word last.says (ap (λ s. s.limits) (sym setup_is)) (ap (λ s. s.grace) (sym setup_is)) (ap (λ s. s.failover) (sym setup_is)) in
    let parts : tariff_of front ++ counters_of front ≡ front = take-append-drop (counters_place front) front in
    let whole : front ++ last.row ∷ [] ≡ rows = ap (λ k. front ++ k) (sym last.is) ∙ take-append-drop (limits_place rows) rows in
    let joined = rows_in_parts rows (tariff_of front) (counters_of front) front last.row parts whole in
    record {
      same = ap (λ s. s.tariffs ++ (s.counters ++ written.limits_row setup ∷ [])) (sym setup_is) ∙ ap (λ k. tariff_of front ++ (counters_of front ++ k ∷ [])) row.same ∙ joined;
      plain = ap (list_all is_row) (sym joined) ∙ plain_parts (tariff_of front) (counters_of front) last.row (tariff_rows laws.fields [] (tariff_of front) t.good) (counter_rows laws.fields [] (counters_of front) c.good) row.plain;
      size = within_size 65536 1 rows past.0;
    }

-- a setup reads back, and its payload is small
pub record IsBack (setup : ChfSetup) : Type 0 where
  pub reads : ReadsBack (Setup setup)
  pub small : length (payload_of (Setup setup)) ≤ 65537

pub setup_back : Laws → (rows : List (List (List ℕ))) (setup : ChfSetup) → setup_answer rows ≡ Ok setup → IsBack setup
setup_back laws rows setup h = by (limits_answer rows) refl h
  where
    by : (answer : Result Limits ℕ) → limits_answer rows ≡ answer → setup_with (front_of rows) answer ≡ Ok setup → IsBack setup
    by (Err n) is e = absurd (cc)
    by (Ok limits) is e =
        let are = are_rows laws rows limits setup is e in
        record {
          reads = ap (λ k. option_and_then read.setup_by (rows_in (rows_text k))) are.same ∙ ap (λ k. option_and_then read.setup_by k) (laws.back.rows rows are.plain) ∙ ap (λ k. read.set_up (naming_row k)) h;
          small = omega (arith, ap (λ k. length (rows_text k)) are.same, laws.sizes.rows rows are.plain, are.size);
        }
