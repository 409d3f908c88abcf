-- The ledger of a list of commands, the newest first: a line for each container of each accepted request, in their order (TS 32.290, 5.2.2; the ledger is this product's own).
use Rattle.std.specs.Prelude.{ℕ, List, [], ◌∷◌, ◌++◌, map, Option, Some, None}
use Rattle.std.specs.List.{flat_map}
use Rattle.units.specs.declared.request.Used.{Used}
use Rattle.units.specs.declared.request.UnitUsage.{UnitUsage}
use Rattle.units.specs.declared.request.Request.{Request}
use Rattle.rating.specs.Price.{price}
use Rattle.accounts.specs.declared.line.Line.{Line}
use Rattle.chf_core.specs.declared.target.Target.{Target}
use Rattle.chf_core.specs.declared.command.Command.{Command}
use Rattle.chf_core.specs.declared.command.Command.TheVariants.{Charge}
use Rattle.chf_core.specs.Operator.{setup_of}
use Rattle.chf_core.specs.Money.{rates_in, target_of}

-- the line of a container: its amounts at the prices of its first moment, on the account of its session's Create
abbrev pub line_of : List (List (List ℕ)) → Target → ℕ → Used → Line
line_of rates t group c = record { account = t.account; session = t.session; lsn = c.lsn; amount = price rates group c.up c.down c.seconds c.first }

-- the lines of a request: of each container of each entry
abbrev pub lines_of : List (List (List ℕ)) → Target → List UnitUsage → List Line
lines_of rates t usage = flat_map (λ u. map (line_of rates t u.group) u.used) usage

-- none where it is not accepted
abbrev pub lines_for : List (List (List ℕ)) → Request → Option Target → List Line
lines_for rates q None = []
lines_for rates q (Some t) = lines_of rates t q.usage

-- the lines of all requests, the oldest first
abbrev pub ledger : List Command → List Line
ledger [] = []
ledger (Charge q ∷ before) = ledger before ++ lines_for (rates_in (setup_of before)) q (target_of before q)
ledger (c ∷ before) = ledger before
