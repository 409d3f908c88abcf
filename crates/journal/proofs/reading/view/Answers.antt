use Rattle.std.proofs.Common.{◌≡◌, ◌≤◌, ℕ, Some, sym, ◌∙◌, ap, subst, arith}
use Rattle.journal.specs.Bytes.{StandsFor}
use Rattle.journal.proofs.Steps.{stands_under}
use Rattle.journal.proofs.Exact.{not_both_under}
use Rattle.journal.proofs.Rooms.{quiet}
use Rattle.journal.proofs.reading.view.Goals as goal

pub returns-then-epoch-eq0-clause-list : goal.returns-then-epoch-eq0-clause-list
returns-then-epoch-eq0-clause-list g c = λ b told.
    let t = g.met.D.Disk.tells_with_epoch c.args.disk.now b (g.met.D.Disk.reads_as_image c.args.disk.now b told) in
    let zero_is : t.0 ≡ 0 = sym (c.in_ok-epoch.ensures.value t.0 t.1) ∙ c.if-epoch-eq0.true in
    subst (λ o. StandsFor o b c.new.result) (sym (t.1 ∙ ap (λ (e : ℕ). Some e) zero_is)) c.new.ensures

pub returns-clause-list : goal.returns-clause-list
returns-clause-list g c = λ b told.
    let t = g.met.D.Disk.tells_with_epoch c.args.disk.now b (g.met.D.Disk.reads_as_image c.args.disk.now b told) in
    let le : 1 ≤ t.0 = omega (arith, c.in_ok-epoch.ensures.value t.0 t.1, c.if-epoch-eq0.false) in
    stands_under (g.D.Disk.told_epoch c.args.disk.now) t.0 b c.in_ok-list.list t.1 le (c.in_ok-list.ensures.list b (c.in_ok-sync.ensures.same ∙ c.in_ok-epoch.ensures.same ∙ told))

pub returns-in_err-list-clause-room : goal.returns-in_err-list-clause-room
returns-in_err-list-clause-room g c = quiet _ _ _ _ _ _ (quiet _ _ _ _ _ _ c.epoch.ensures.room c.sync.ensures.room) c.load.ensures.room

pub returns-clause-room : goal.returns-clause-room
returns-clause-room g c = quiet _ _ _ _ _ _ (quiet _ _ _ _ _ _ c.epoch.ensures.room c.sync.ensures.room) c.load.ensures.room

pub returns-clause-no_journal : goal.returns-clause-no_journal
returns-clause-no_journal g c = λ e at b is told le why.
    let t = c.in_ok-epoch.ensures.value e is in
    let stands = stands_under (g.D.Disk.told_epoch c.args.disk.now) e b c.in_ok-list.list is le (c.in_ok-list.ensures.list b (c.in_ok-sync.ensures.same ∙ c.in_ok-epoch.ensures.same ∙ told)) in
    absurd (not_both_under (g.D.Disk.told_epoch c.args.disk.now) e b c.in_ok-list.list at is le stands why)
