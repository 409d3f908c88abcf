-- What each command does with an input: what it prints, which inputs it accepts, and at which row or line it refuses one (this product's own).
use Rattle.std.specs.Prelude.{ℕ, ◌≡◌, ◌^◌, ◌≤◌, List, length, Result, Ok, Err}
use Rattle.units.specs.Cut.{AreWidestCuts, whole_hour}
use Rattle.meter.specs.Contents.{AreNumbered, Contents}
use Rattle.chf_core.specs.declared.command.Command.TheVariants.{Setup}
use Rattle.chf_core.specs.declared.setup.ChfSetup.{ChfSetup}
use Rattle.chf_core.specs.State.{nothing_yet}
use Rattle.chf_core.specs.After.{after}
use Rattle.charging.specs.declared.words.Prices.{Prices}
use Rattle.charging.specs.declared.words.Task.{Task}
use Rattle.charging.specs.declared.words.Task.TheVariants.{Meter, Operator, Answer}
use Rattle.charging.specs.declared.item.Item.{Item}
use Rattle.charging.specs.MeterRows.{Comes, reports_from}
use Rattle.charging.specs.MeterLines.{table_of}
use Rattle.charging.specs.Items.{answer_items, operator_items}
use Rattle.charging.specs.Accepted.{outcome}
use Rattle.charging.specs.Answering.{printed}

-- the input is not too long, and the meter comes to this outcome over its rows
pub record Reads (bytes : List ℕ) (outcome : Result Contents ℕ) : Type 0 where
  pub within : length bytes ≤ 2 ^ 28
  pub comes : Comes bytes outcome

-- the table of an input: the lines of the containers that the meter makes of its rows, numbered from 1, which are the one hourly
-- cut of the rows' reports that the rule for joining makes
pub record IsTable (prices : Prices) (bytes text : List ℕ) : Type 0 where
  pub contents : Contents
  pub reads : Reads bytes (Ok contents)
  pub cut : AreWidestCuts whole_hour (reports_from 1 reads.comes.rows) contents.containers
  pub numbered : AreNumbered 1 contents.containers
  pub text_is : text ≡ table_of prices contents.containers

-- what a run over items prints that are all accepted: a line for each operator's row and each message, then the account lines
pub record IsPrinted (items : List Item) (text : List ℕ) : Type 0 where
  pub setup : ChfSetup
  pub accepted : outcome items ≡ Ok setup
  pub text_is : text ≡ printed (after nothing_yet (Setup setup)) items

-- the items of an input that is not too long come to this: they are all accepted, with this setup, or this is the number of the first that is not
pub record ComesTo (bytes : List ℕ) (items : List Item) (result : Result ChfSetup ℕ) : Type 0 where
  pub within : length bytes ≤ 2 ^ 28
  pub outcome_is : outcome items ≡ result

-- a run over an input that is not too long
pub record IsRun (bytes : List ℕ) (items : List Item) (text : List ℕ) : Type 0 where
  pub within : length bytes ≤ 2 ^ 28
  pub prints : IsPrinted items text

-- what a command prints on an input
abbrev pub Prints : Task → List ℕ → List ℕ → Type 0
Prints (Meter prices) bytes text = IsTable prices bytes text
Prints Operator bytes text = IsRun bytes (operator_items bytes) text
Prints Answer bytes text = IsRun bytes (answer_items bytes) text

-- a command accepts an input
abbrev pub Accepts : Task → List ℕ → Type 0
Accepts (Meter prices) bytes = (contents : Contents) × Reads bytes (Ok contents)
Accepts Operator bytes = (setup : ChfSetup) × ComesTo bytes (operator_items bytes) (Ok setup)
Accepts Answer bytes = (setup : ChfSetup) × ComesTo bytes (answer_items bytes) (Ok setup)

-- this row, or line in `answer`, is the first that a command does not accept
abbrev pub Refuses : Task → List ℕ → ℕ → Type 0
Refuses (Meter prices) bytes row = Reads bytes (Err row)
Refuses Operator bytes row = ComesTo bytes (operator_items bytes) (Err row)
Refuses Answer bytes row = ComesTo bytes (answer_items bytes) (Err row)
