use Rattle.std.proofs.Common.{arith, ◌≡◌, ◌∙◌, ◌+◌, ℕ, List, Result, Err, ap, refl, sym, subst, true, false}
use Rattle.chf_core.specs.State.{State}
use Rattle.chf_replay.specs.declared.refusal.ReplayRefusal.{ReplayRefusal}
use Rattle.chf_replay.specs.declared.refusal.ReplayRefusal.TheVariants.{BadEntry}
use Rattle.chf_replay.specs.Entries.{IsAfterFirst, IsBadAt}
use Rattle.chf_replay.specs.Entering.{Enters}
use Rattle.chf_replay.proofs.Turns.{bad_turn, counted, end_within, entry_at, first_of_all, here_within, turn}
use Rattle.chf_replay.proofs.walk.enter_from.Goals as goal

named : (p q : ℕ) (r : Result (Unit {0}) ReplayRefusal) → r ≡ Err (BadEntry p) → r ≡ Err (BadEntry q) → p ≡ q
named p q r e f = cc

pub loop-entry-preserved : goal.loop-entry-preserved
loop-entry-preserved c =
    let n = c.args.start in
    let i = c.loop-entry.entry-index in
    let entries = c.args.entries.now in
    let entry = c.entry-item.result in
    let came = rw c.in-Ok-true.field-0-test at c.in-Ok-true.ensures.entered in
    turn c.histories_grow.ensures c.loop-entry.chf.state c.enter.new.chf.state entries n i entry (here_within entries n i c.requires.within c.loop-entry-test.true)
    (entry_at entries n i entry c.requires.within c.entry-item.is) c.loop-entry.invariant
    (subst (λ (x : List ℕ). Enters true c.loop-entry.chf.state c.enter.new.chf.state x) c.as_slice.ensures came)

pub returns-in-Ok-false-clause-err : goal.returns-in-Ok-false-clause-err
returns-in-Ok-false-clause-err c =
    let none = rw c.in-Ok-false.field-0-test at c.in-Ok-false.ensures.entered in
    subst (λ (s : State). IsAfterFirst s c.args.entries.now) (sym none.0)
    (first_of_all c.loop-entry.chf.state c.args.entries.now (c.args.start + c.loop-entry.entry-index) c.loop-entry.invariant)

pub returns-in-Ok-false-clause-kept : goal.returns-in-Ok-false-clause-kept
returns-in-Ok-false-clause-kept c =
    let none = rw c.in-Ok-false.field-0-test at c.in-Ok-false.ensures.entered in
    let n = c.args.start in
    let i = c.loop-entry.entry-index in
    let entries = c.args.entries.now in
    let count = counted c.states_are_joined.ensures.parts c.loop-entry.chf.state entries (n + i) (end_within entries n i c.requires.within c.loop-entry.auto.entry-index-end) c.loop-entry.invariant in
    omega (arith, count, ap (λ (s : State). s.count) none.0)

pub returns-in-Ok-false-clause-bad : goal.returns-in-Ok-false-clause-bad
returns-in-Ok-false-clause-bad c = λ place is.
    let none = rw c.in-Ok-false.field-0-test at c.in-Ok-false.ensures.entered in
    let n = c.args.start in
    let i = c.loop-entry.entry-index in
    let entries = c.args.entries.now in
    let entry = c.entry-item.result in
    let here : place ≡ c.enter.new.chf.state.count + 1 = sym (named _ place _ refl is) ∙ ap (λ (k : ℕ). k + 1) c.count.ensures in
    let bad = bad_turn c.states_are_joined.ensures.parts c.loop-entry.chf.state entries n i entry (here_within entries n i c.requires.within c.loop-entry-test.true)
    (entry_at entries n i entry c.requires.within c.entry-item.is) c.loop-entry.invariant
    (subst (λ (x : List ℕ). Enters false c.loop-entry.chf.state c.enter.new.chf.state x) c.as_slice.ensures none).1 in
    (subst (λ (k : ℕ). IsBadAt entries k) (ap (λ (s : State). s.count + 1) (sym none.0) ∙ sym here) bad, here)

pub returns-in-Err-clause-err : goal.returns-in-Err-clause-err
returns-in-Err-clause-err c =
    subst (λ (s : State). IsAfterFirst s c.args.entries.now) (sym c.in-Err.ensures.err)
    (first_of_all c.loop-entry.chf.state c.args.entries.now (c.args.start + c.loop-entry.entry-index) c.loop-entry.invariant)

pub returns-in-Err-clause-kept : goal.returns-in-Err-clause-kept
returns-in-Err-clause-kept c =
    let n = c.args.start in
    let i = c.loop-entry.entry-index in
    let entries = c.args.entries.now in
    let count = counted c.states_are_joined.ensures.parts c.loop-entry.chf.state entries (n + i) (end_within entries n i c.requires.within c.loop-entry.auto.entry-index-end) c.loop-entry.invariant in
    omega (arith, count, ap (λ (s : State). s.count) c.in-Err.ensures.err)

pub returns-clause-kept : goal.returns-clause-kept
returns-clause-kept c =
    let n = c.args.start in
    let i = c.loop-entry.entry-index in
    let entries = c.args.entries.now in
    let count = counted c.states_are_joined.ensures.parts c.loop-entry.chf.state entries (n + i) (end_within entries n i c.requires.within c.loop-entry.auto.entry-index-end) c.loop-entry.invariant in
    omega (arith, count)
