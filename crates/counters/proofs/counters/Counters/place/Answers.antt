use Rattle.std.proofs.Common.{◌∙◌, ℕ, List, sym, ap, subst}
use Rattle.counters.specs.Row.{counter_rows}
use Rattle.counters.specs.Names.{IsThere, IsGap, names_of, is_among}
use Rattle.counters.proofs.Kept as kept
use Rattle.counters.proofs.counters.Counters.place.Goals as goal

pub returns-in-Err : goal.returns-in-Err
returns-in-Err c =
    let gap : IsGap c.self.inside.names c.args.counter.now c.in-Err.field-0 = subst (λ (ns : List (List ℕ)). IsGap ns c.args.counter.now c.in-Err.field-0) c.as_slice.ensures c.in-Err.ensures in
    let apart = kept.unknown (counter_rows c.self.inside.rows) c.self.inside.names c.self.inside.limits c.args.counter.now c.in-Err.field-0 c.self.invariant.kept gap in
    ap (λ (rows : List (List (List ℕ))). is_among c.args.counter.now (names_of (counter_rows rows))) (sym c.self.view_is) ∙ apart

pub returns-in-Ok : goal.returns-in-Ok
returns-in-Ok c = subst (λ (rows : List (List (List ℕ))). IsThere (names_of (counter_rows rows)) c.args.counter.now c.in-Ok.at) c.self.view_is (subst (λ (ns : List (List ℕ)). IsThere ns c.args.counter.now c.in-Ok.at) (c.as_slice.ensures ∙ c.self.invariant.kept.named) c.in-Ok.ensures)
