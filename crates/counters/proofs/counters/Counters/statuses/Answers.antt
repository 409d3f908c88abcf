use Rattle.std.proofs.Common.{◌≡◌, ◌∙◌, ◌<◌, ◌++◌, ◌∷◌, ℕ, false, Some, List, [], length, get_or, sym, ap, subst}
use Rattle.std.proofs.lemmas.List.{get_or_default}
use Rattle.units.specs.declared.spending.CounterStatus.{CounterStatus}
use Rattle.counters.specs.Row.{counter_rows}
use Rattle.counters.specs.Names.{names_of}
use Rattle.counters.specs.Status.{status}
use Rattle.counters.specs.Watching.{is_watched, with_status}
use Rattle.counters.proofs.Turns as turn
use Rattle.counters.proofs.counters.Counters.statuses.Goals as goal
use Rattle.counters.proofs.counters.Counters.statuses.Goals.{then-flags-at+in_ok-push_status, else-flags-at}

pub loop-at-preserved : goal.loop-at-preserved
loop-at-preserved c =
    let names : c.as_slice-names.result.now ≡ names_of (counter_rows c.args.self.now) = c.as_slice-names.ensures ∙ c.self.invariant.kept.named ∙ ap (λ (rows : List (List (List ℕ))). names_of (counter_rows rows)) c.self.view_is in
    let within : c.loop-at.at < length (names_of (counter_rows c.args.self.now)) = subst (λ (ns : List (List ℕ)). c.loop-at.at < length ns) names c.loop-at-test.true in
    let mark : get_or c.watched-flags.result c.loop-at.at false ≡ is_watched c.args.named.now (get_or (names_of (counter_rows c.args.self.now)) c.loop-at.at []) =
    c.watched-flags.ensures c.loop-at.at c.loop-at-test.true ∙ (λ i. is_watched (c.as_slice.ensures i) (get_or (names i) c.loop-at.at [])) in
    let f = λ (counter : List ℕ). with_status counter (status c.args.self.now counter c.args.spent) in
    elim c.if-flags-at.branch [
      | then-flags-at+in_ok-push_status w ↦
          let name : w.as_str.result.now ≡ get_or (names_of (counter_rows c.args.self.now)) c.loop-at.at [] =
          w.as_str.ensures ∙ w.index-names-at.is ∙ get_or_default c.as_slice-names.result.now c.loop-at.at w.index-names-at.result [] c.loop-at-test.true ∙ ap (λ (ns : List (List ℕ)). get_or ns c.loop-at.at []) names in
          let info : f (get_or (names_of (counter_rows c.args.self.now)) c.loop-at.at []) ≡ Some (record { counter = w.as_str.result.now; status = w.status_at.result.now }) =
          (λ i. with_status (sym name i) (sym w.status_at.ensures i)) in
          w.infos-is ∙ w.in_ok-push_status.ensures ∙ ap (λ (infos : List CounterStatus). infos ++ record { counter = w.as_str.result.now; status = w.status_at.result.now } ∷ []) c.loop-at.invariant
          ∙ turn.given f (is_watched c.args.named.now) (names_of (counter_rows c.args.self.now)) c.loop-at.at [] (record { counter = w.as_str.result.now; status = w.status_at.result.now }) within (sym mark ∙ w.if-flags-at.true) info
      | else-flags-at w ↦
          w.infos-is ∙ c.loop-at.invariant
          ∙ turn.passed f (is_watched c.args.named.now) (names_of (counter_rows c.args.self.now)) c.loop-at.at [] within (sym mark ∙ w.if-flags-at.false)
    ]
