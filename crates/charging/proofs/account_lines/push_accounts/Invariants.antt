use Rattle.std.proofs.Common.{◌≡◌, ◌++◌}
use Rattle.std.specs.List.{flat_map}
use Rattle.charging.specs.AccountLines.{account_line, account_lines}
use Rattle.charging.proofs.account_lines.push_accounts.Given as goal

abbrev pub invariant-loop-name : goal.invariant-loop-name
invariant-loop-name l = l.out.items ++ flat_map (account_line l.chf.state.money) l.name-iterator ≡ l.fn.out.items ++ account_lines l.chf.state
