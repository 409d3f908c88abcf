use Rattle.std.proofs.Common.{◌≡◌, ◌∙◌, ◌<◌, ℕ, List, [], length, None, sym, ap, subst, get_or, arith}
use Rattle.std.proofs.lemmas.List.{get_or_default}
use Rattle.counters.specs.declared.row.Limit.{Limit}
use Rattle.counters.specs.Row.{counter_rows}
use Rattle.counters.specs.Names.{names_of}
use Rattle.counters.specs.Status.{reached}
use Rattle.counters.proofs.Limits.{one_reached}
use Rattle.counters.proofs.counters.Counters.status_at.Goals as goal

pub unreachable-requires : goal.unreachable-requires
unreachable-requires c =
    let kept = c.self.invariant.kept in
    let within : c.args.at < length c.self.inside.names = subst (λ (ns : List (List ℕ)). c.args.at < length ns) (sym kept.named) (subst (λ (rows : List (List (List ℕ))). c.args.at < length (names_of (counter_rows rows))) (sym c.self.view_is) c.requires) in
    let same : c.index-limits-at.result ≡ get_or c.self.inside.limits c.args.at [] = c.index-limits-at.is ∙ get_or_default c.as_slice-limits.result.now c.args.at c.index-limits-at.result [] (subst (λ (ls : List (List Limit)). c.args.at < length ls) (sym c.as_slice-limits.ensures) (let sound = kept.sound.same in omega arith)) ∙ ap (λ (ls : List (List Limit)). get_or ls c.args.at []) c.as_slice-limits.ensures in
    let none : reached (get_or c.self.inside.limits c.args.at []) c.args.spent ≡ None = ap (λ (ls : List Limit). reached ls c.args.spent) (sym (c.as_slice.ensures ∙ same)) ∙ sym c.in-None.ensures in
    one_reached (get_or c.self.inside.limits c.args.at []) c.args.spent (kept.sound.each c.args.at [] (let sound = kept.sound.same in omega arith)) none
