-- The rows of an input: what `csv` reads with its defaults, without a header row and with any number of fields (RFC 4180 in the csv crate's profile).
use Rattle.std.specs.Prelude.{ℕ, ◌≡◌, List, Some}
use Rattle.std.proofs.Common.{Bor}
use Rattle.csv.specs.Reading.{AreRecords, Ready, default_config, source_of, strip_bom, reader_config, reader_state, reader_trim}
use Rattle.csv.specs.declared.parser.State.{State}
use Rattle.csv.specs.declared.parser.State.TheVariants as st
use Rattle.csv.specs.declared.reader.Reader.{Reader}
use Rattle.csv.specs.declared.reader.Trim.TheVariants as trim

-- these are the rows of an input, each a list of fields
abbrev pub AreRows : List ℕ → List (List (List ℕ)) → Type 0
AreRows bytes rows = AreRecords default_config st.StartRecord (strip_bom bytes) rows

-- a reader that reads with the defaults stands in this state, with these bytes left
pub record StandsAt (reader : Reader (Bor (List ℕ))) (state : State) (left : List ℕ) : Type 0 where
  pub trim : reader_trim reader ≡ trim.None
  pub ready : Ready reader
  pub config : reader_config reader ≡ default_config
  pub state_is : reader_state reader ≡ state
  pub left_is : source_of (λ s. Some s.now) reader ≡ Some left
