-- The items that a reader of rows has left.
use Rattle.std.proofs.Common.{Bor, ◌≡◌, ◌+◌, ℕ, List, [], ◌∷◌, length, map, refl, sym, ap, ◌∙◌, arith, Some, None}
use Rattle.csv.specs.Machine.{Read, next_record}
use Rattle.csv.specs.Reading.{Reached, default_config, reader_state, source_of}
use Rattle.csv.specs.declared.parser.State.{State}
use Rattle.csv.specs.declared.reader.Reader.{Reader}
use Rattle.charging.specs.Items.{row_item}
use Rattle.charging.specs.Rows.{StandsAt}
use Rattle.charging.specs.Taking.{bytes_left, rows_left}
use Rattle.charging.proofs.Readings.{read_less, records_from_here}
use Rattle.charging.proofs.Whole.{are_left}

-- none where no record follows
pub none_left : (s : State) (xs : List ℕ) → next_record default_config s [] [] xs ≡ None → rows_left s xs ≡ []
unfolding Reached
none_left s xs e = ap (map row_item) (sym (are_left default_config s xs [] (s, xs, (refl, refl), e)))

-- else that of the next record, and those after it
pub some_left : (s : State) (xs : List ℕ) (read : Read) → next_record default_config s [] [] xs ≡ Some read
    → rows_left s xs ≡ row_item read.0 ∷ rows_left read.1 read.2
unfolding Reached
some_left s xs read e =
    let more = records_from_here (length read.2 + 1) read.1 read.2 (read_less s [] [] xs read e).0 (omega arith) in
    let all = are_left default_config s xs (read.0 ∷ more.0) (more.1.0, more.1.1, (read, e, refl, more.1.2), more.1.3) in
    let rest = are_left default_config read.1 read.2 more.0 more.1 in
    ap (map row_item) (sym all ∙ ap (λ k. read.0 ∷ k) rest)

-- what a reader has left, where it stands somewhere
pub left_here : (reader : Reader (Bor (List ℕ))) (s : State) (xs : List ℕ) → StandsAt reader s xs
    → rows_left (reader_state reader) (bytes_left (source_of (λ s. Some s.now) reader)) ≡ rows_left s xs
left_here reader s xs h = ap (λ k. rows_left k (bytes_left (source_of (λ s. Some s.now) reader))) h.state_is ∙ ap (λ k. rows_left s (bytes_left k)) h.left_is

-- and there it stands
pub stands_here : (reader : Reader (Bor (List ℕ))) (s : State) (xs : List ℕ) → StandsAt reader s xs
    → StandsAt reader (reader_state reader) (bytes_left (source_of (λ s. Some s.now) reader))
stands_here reader s xs h = record {
  trim = h.trim;
  ready = h.ready;
  config = h.config;
  state_is = refl;
  left_is = h.left_is ∙ ap (λ k. Some (bytes_left k)) (sym h.left_is);
}
