-- What the command `meter` prints: a line for each container, `lsn,first,last,up,down,seconds,charge`, and `total,T` (this product's own).
use Rattle.std.specs.Prelude.{ℕ, ◌+◌, ◌*◌, List, ◌++◌, codes, sum_by}
use Rattle.std.specs.List.{flat_map}
use Rattle.std.specs.Fmt.{decimal}
use Rattle.units.specs.declared.report.Container.{Container}
use Rattle.charging.specs.declared.words.Prices.{Prices}

-- what a container costs: each amount at its price, in grains (TS 32.290, rating; linear in this product)
abbrev pub charge_of : Prices → Container → ℕ
charge_of prices c = c.up * prices.up + c.down * prices.down + c.seconds * prices.seconds

-- `lsn,first,last,`
abbrev pub span_text : Container → List ℕ
span_text c = decimal c.lsn ++ (codes "," ++ (decimal c.first ++ (codes "," ++ (decimal c.last ++ codes ","))))

-- `up,down,seconds,charge` and the line's end
abbrev pub use_text : Prices → Container → List ℕ
use_text prices c = decimal c.up ++ (codes "," ++ (decimal c.down ++ (codes "," ++ (decimal c.seconds ++ (codes "," ++ (decimal (charge_of prices c) ++ codes "\n"))))))

-- the line of a container
abbrev pub line_of : Prices → Container → List ℕ
line_of prices c = span_text c ++ use_text prices c

-- `total,T`
abbrev pub total_line : ℕ → List ℕ
total_line total = codes "total," ++ (decimal total ++ codes "\n")

-- all lines
abbrev pub table_of : Prices → List Container → List ℕ
table_of prices containers = flat_map (line_of prices) containers ++ total_line (sum_by (charge_of prices) containers)
