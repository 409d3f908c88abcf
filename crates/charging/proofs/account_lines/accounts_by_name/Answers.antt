use Rattle.std.proofs.Common.{◌≡◌, ◌+◌, ◌∙◌, ap, sym, rules, reverse, Some, drop, slice_get}
use Rattle.std.specs.Ordering.{nat_cmp}
use Rattle.std.specs.Cmp.Lexicographic.{slice_cmp}
use Rattle.std.specs.BTreeMap.{insert_entry}
use Rattle.charging.specs.AccountLines.{in_order}
use Rattle.charging.proofs.NamesInOrder.{one_name}
use Rattle.charging.proofs.account_lines.accounts_by_name.Goals as goal

pub loop-account-preserved : goal.loop-account-preserved
loop-account-preserved c =
    let names = reverse c.args.chf.now.state.names in
    let there : slice_get (reverse c.args.chf.now.state.names) c.loop-account.account ≡ Some c.in-Some.name.now = search rules in
    let inserted : c.insert.new.self.entries ≡ insert_entry (slice_cmp nat_cmp) c.loop-account.entries.entries c.in-Some.name.now c.loop-account.account = search rules in
    ap (λ k. in_order k (c.loop-account.account + 1) (drop (c.loop-account.account + 1) names)) inserted ∙ sym (one_name c.loop-account.entries.entries names c.loop-account.account c.in-Some.name.now there) ∙ c.loop-account.invariant
