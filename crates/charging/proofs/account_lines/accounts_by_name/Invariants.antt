use Rattle.std.proofs.Common.{◌≡◌, drop, reverse}
use Rattle.charging.specs.AccountLines.{accounts_by_name, in_order}
use Rattle.charging.proofs.account_lines.accounts_by_name.Given as goal

abbrev pub invariant-loop-account : goal.invariant-loop-account
invariant-loop-account l = in_order l.entries.entries l.account (drop l.account (reverse l.chf.state.names)) ≡ accounts_by_name l.chf.state
