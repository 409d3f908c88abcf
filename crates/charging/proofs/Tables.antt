-- The table of an input.
use Rattle.std.proofs.Common.{length, ◌≤◌, ◌^◌, ◌≡◌, ℕ, List}
use Rattle.meter.specs.Contents.{AreNumbered, Contents}
use Rattle.charging.specs.declared.words.Prices.{Prices}
use Rattle.charging.specs.Tasks.{IsTable}
use Rattle.charging.specs.MeterRows.{IsMetered}
use Rattle.charging.specs.MeterLines.{table_of}

pub is_table : (prices : Prices) (bytes text : List ℕ) (contents : Contents) → length bytes ≤ 2 ^ 28 → IsMetered bytes contents → AreNumbered 1 contents.containers → text ≡ table_of prices contents.containers → IsTable prices bytes text
is_table prices bytes text contents within metered numbered is = record {
  contents = contents;
  reads = record { within = within; comes = metered.comes };
  cut = metered.cut;
  numbered = numbered;
  text_is = is;
}

pub ruleset tables = (is_table)
