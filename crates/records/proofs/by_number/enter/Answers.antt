use Rattle.std.proofs.Common.{◌≡◌, ◌∙◌, ℕ, List, sym, ap, subst}
use Rattle.std.specs.List.{insert}
use Rattle.records.specs.Seen.{numbers_of, AreRising, IsThere}
use Rattle.records.proofs.Entered as e
use Rattle.records.proofs.Sessions as s
use Rattle.records.proofs.by_number.enter.Goals as goal

pub unreachable-requires : goal.unreachable-requires
unreachable-requires c =
    let zs = c.args.sessions.now.items in
    let same : c.deref.result.now ≡ numbers_of zs = c.deref.ensures.value ∙ c.requires.same in
    let there : IsThere (numbers_of zs) c.args.new.number c.in-Ok.field-0 = subst (λ (l : List ℕ). IsThere l c.args.new.number c.in-Ok.field-0) same c.in-Ok.ensures in
    let some = s.kept_there zs c.args.new.number c.in-Ok.field-0 c.args.new (subst AreRising c.requires.same c.requires.rising) there.within there.is in
    let none = c.requires.fresh in absurd (cc (some, none))

pub returns-clause-entered : goal.returns-clause-entered
returns-clause-entered c = rw c.in-Ok-insert-2.ensures.items (e.seen _ _ c.args.new (e.gap _ _ _ _ (c.deref.ensures.value ∙ c.requires.same) c.in-Err.ensures))

pub returns-clause-same : goal.returns-clause-same
returns-clause-same c =
    c.in-Ok-insert.ensures.items ∙ ap (λ (l : List ℕ). insert l c.in-Err.at c.args.new.number) c.requires.same ∙ sym (s.numbers-insert c.args.sessions.now.items c.in-Err.at c.args.new) ∙ ap numbers_of (sym c.in-Ok-insert-2.ensures.items)

pub returns-clause-rising : goal.returns-clause-rising
returns-clause-rising c =
    let zs = c.args.sessions.now.items in
    let up = e.rising zs c.in-Err.at c.args.new.number (e.gap _ _ _ _ (c.deref.ensures.value ∙ c.requires.same) c.in-Err.ensures) (subst AreRising c.requires.same c.requires.rising) in
    subst AreRising (ap (λ (l : List ℕ). insert l c.in-Err.at c.args.new.number) (sym c.requires.same) ∙ sym c.in-Ok-insert.ensures.items) up

pub returns-clause-kept : goal.returns-clause-kept
returns-clause-kept c =
    rw c.in-Ok-insert-2.ensures.items (e.kept _ _ c.args.new (e.gap _ _ _ _ (c.deref.ensures.value ∙ c.requires.same) c.in-Err.ensures) (subst AreRising c.requires.same c.requires.rising))

pub returns-clause-sequences : goal.returns-clause-sequences
returns-clause-sequences c = λ n h w. rw c.in-Ok-insert-2.ensures.items (s.within-insert c.args.sessions.now.items n c.in-Err.at c.args.new h w)
