-- A line that is one row.
use Rattle.std.proofs.Common.{◌≡◌, ℕ, List, [], ◌∷◌, refl, sym, ap, ◌∙◌, Some, None}
use Rattle.csv.specs.Machine.{Read, next_record}
use Rattle.csv.specs.Reading.{Reached, default_config, strip_bom}
use Rattle.csv.specs.declared.parser.State.TheVariants as st
use Rattle.charging.specs.declared.item.Item.TheVariants.{Bad}
use Rattle.charging.specs.Items.{only_row, rows_in}
use Rattle.charging.proofs.Readings.{first_record, some_rows}
use Rattle.charging.proofs.Whole.{are_records}

pub no_row : (line : List ℕ) → next_record default_config st.StartRecord [] [] (strip_bom line) ≡ None → rows_in line ≡ []
unfolding Reached
no_row line e = sym (are_records default_config (strip_bom line) [] (st.StartRecord, strip_bom line, (refl, refl), e))

pub one_row : (line : List ℕ) (read : Read) → next_record default_config st.StartRecord [] [] (strip_bom line) ≡ Some read → next_record default_config read.1 [] [] read.2 ≡ None → rows_in line ≡ read.0 ∷ []
unfolding Reached
one_row line read e none = sym (are_records default_config (strip_bom line) (read.0 ∷ []) (read.1, read.2, (read, e, refl, (refl, refl)), none))

pub two_rows : (line : List ℕ) (read other : Read) → next_record default_config st.StartRecord [] [] (strip_bom line) ≡ Some read → next_record default_config read.1 [] [] read.2 ≡ Some other → only_row (rows_in line) ≡ Bad
two_rows line read other e more =
    let all = some_rows line in
    let first = first_record st.StartRecord (strip_bom line) read all.0 all.1 e in
    let second = first_record read.1 read.2 other first.0 first.2 more in
    let are : all.0 ≡ rows_in line = are_records default_config (strip_bom line) all.0 all.1 in
    ap only_row (sym are ∙ first.1 ∙ ap (λ k. read.0 ∷ k) second.1)
