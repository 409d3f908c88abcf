use Rattle.std.proofs.Common.{◌≡◌, ◌==◌, ◌&&◌, ◌∙◌, ◌++◌, ◌∷◌, [], ℕ, Bool, List, Result, IfOk, length, nat_lt, get_or, sym, subst, arith, slice_get}
use Rattle.std.specs.List.{insert, list_all}
use Rattle.std.proofs.lemmas.Bool.Decides.{nat_tests}
use Rattle.units.specs.declared.memory.OutOfMemory.{OutOfMemory}
use Rattle.counters.specs.declared.row.Limit.{Limit}
use Rattle.counters.specs.Names.{IsThere, IsGap}
use Rattle.counters.specs.Grammar.{is_latest}
use Rattle.counters.specs.Caches.{AreOf}
use Rattle.counters.proofs.Order.{lt_is}
use Rattle.counters.proofs.Taken as taken
use Rattle.counters.proofs.table.take.Goals as goal

pub returns-in-Ok-clause-taken : goal.returns-in-Ok-clause-taken
returns-in-Ok-clause-taken c = λ rows of.
    let there : IsThere c.args.table.now.names.items c.args.row.counter c.in-Ok.at = subst (λ (ns : List (List ℕ)). IsThere ns c.args.row.counter c.in-Ok.at) c.deref.ensures.value (subst (λ (n : List ℕ). IsThere c.deref.result.now n c.in-Ok.at) c.as_str.ensures c.in-Ok.ensures) in
    let is = taken.goes_on rows c.args.row c.args.table.now.names.items c.args.table.now.limits.items c.args.table.now.latest c.in-Ok.at of.kept of.latest there in
    subst (λ (b : Bool). IfOk c.go_on.result (λ t. t ≡ b)) is c.go_on.ensures.taken

pub returns-in-Ok-clause-table : goal.returns-in-Ok-clause-table
returns-in-Ok-clause-table c = λ rows of ok.
    let t = c.args.table.now in
    let there : IsThere t.names.items c.args.row.counter c.in-Ok.at = subst (λ (ns : List (List ℕ)). IsThere ns c.args.row.counter c.in-Ok.at) c.deref.ensures.value (subst (λ (n : List ℕ). IsThere c.deref.result.now n c.in-Ok.at) c.as_str.ensures c.in-Ok.ensures) in
    let both = taken.taken_both (is_latest (slice_get t.names.items t.latest) c.args.row.counter) (list_all (λ (l : Limit). nat_lt l.amount c.args.row.limit.amount) (get_or t.limits.items c.in-Ok.at []))
    (subst (λ (r : Result Bool OutOfMemory). IfOk r (λ b. b ≡ (is_latest (slice_get t.names.items t.latest) c.args.row.counter && list_all (λ (l : Limit). nat_lt l.amount c.args.row.limit.amount) (get_or t.limits.items c.in-Ok.at [])))) ok c.go_on.ensures.taken) in
    let kept = taken.with_more rows c.args.row t.names.items t.limits.items c.in-Ok.at of.kept there both.1 in
    record {
      kept = subst (λ (ns : List (List ℕ)). AreOf (rows ++ c.args.row ∷ []) ns c.go_on.new.table.limits.items) (sym c.go_on.ensures.names) (subst (λ (ls : List (List Limit)). AreOf (rows ++ c.args.row ∷ []) t.names.items ls) (sym (c.go_on.ensures.limits ok)) kept);
      latest = taken.latest_there rows c.args.row t.names.items t.latest both.0 ∙ (λ i. slice_get (sym c.go_on.ensures.names i) (sym c.go_on.ensures.latest i));
    }

pub returns-in-Err-clause-taken : goal.returns-in-Err-clause-taken
returns-in-Err-clause-taken c = λ rows of.
    let gap : IsGap c.args.table.now.names.items c.args.row.counter c.in-Err.at = subst (λ (ns : List (List ℕ)). IsGap ns c.args.row.counter c.in-Err.at) c.deref.ensures.value (subst (λ (n : List ℕ). IsGap c.deref.result.now n c.in-Err.at) c.as_str.ensures c.in-Err.ensures) in
    let is = taken.begins rows c.args.row c.args.table.now.names.items c.args.table.now.limits.items c.in-Err.at of.kept gap in
    subst (λ (b : Bool). IfOk c.begin.result (λ t. t ≡ b)) is c.begin.ensures.taken

pub returns-in-Err-clause-table : goal.returns-in-Err-clause-table
returns-in-Err-clause-table c = λ rows of ok.
    let t = c.args.table.now in
    let gap : IsGap t.names.items c.args.row.counter c.in-Err.at = subst (λ (ns : List (List ℕ)). IsGap ns c.args.row.counter c.in-Err.at) c.deref.ensures.value (subst (λ (n : List ℕ). IsGap c.deref.result.now n c.in-Err.at) c.as_str.ensures c.in-Err.ensures) in
    let both = taken.taken_both (c.args.row.limit.amount == 0) (nat_lt (length t.names.items) 100)
    (subst (λ (r : Result Bool OutOfMemory). IfOk r (λ b. b ≡ ((c.args.row.limit.amount == 0) && nat_lt (length t.names.items) 100))) ok c.begin.ensures.taken) in
    let zero : c.args.row.limit.amount ≡ 0 = let h = both.0 in grind (arith, nat_tests) in
    let kept = taken.with_new rows c.args.row t.names.items t.limits.items c.in-Err.at of.kept gap zero (lt_is _ _ both.1) in
    record {
      kept = subst (λ (ns : List (List ℕ)). AreOf (rows ++ c.args.row ∷ []) ns c.begin.new.table.limits.items) (sym (c.begin.ensures.names ok)) (subst (λ (ls : List (List Limit)). AreOf (rows ++ c.args.row ∷ []) (insert t.names.items c.in-Err.at c.args.row.counter) ls) (sym (c.begin.ensures.limits ok)) kept);
      latest = taken.latest_new rows c.args.row t.names.items c.in-Err.at gap.within ∙ (λ i. slice_get (sym (c.begin.ensures.names ok) i) (sym (c.begin.ensures.latest ok) i));
    }
