use Rattle.std.proofs.Common.{◌≡◌, ◌≤◌, ℕ, Some, sym, ◌∙◌, ap, subst, arith}
use Rattle.journal.specs.Bytes.{StandsFor}
use Rattle.journal.proofs.Torn.{front_long}
use Rattle.journal.proofs.Steps.{stands_under}
use Rattle.journal.proofs.Exact.{not_both_under}
use Rattle.journal.proofs.Rooms.{quiet, weaken}
use Rattle.journal.proofs.journal.Journal.start.Goals as goal

pub returns-then-found-eq0-clause-list : goal.returns-then-found-eq0-clause-list
returns-then-found-eq0-clause-list g c = λ b told.
    let t = g.met.D.Disk.tells_with_epoch c.args.disk.now b (g.met.D.Disk.reads_as_image c.args.disk.now b told) in
    let zero_is : t.0 ≡ 0 = sym (c.in_ok-found.ensures.value t.0 t.1) ∙ c.if-found-eq0.true in
    subst (λ o. StandsFor o b c.new.result) (sym (t.1 ∙ ap (λ (e : ℕ). Some e) zero_is)) c.new.ensures

pub returns-in_err-sync-clause-room : goal.returns-in_err-sync-clause-room
returns-in_err-sync-clause-room g c = weaken _ _ _ _ _ (quiet _ _ _ _ _ _ (quiet _ _ _ _ _ _ c.epoch.ensures.room c.own_epoch.ensures.room) c.sync.ensures.room)

pub returns-in_err-list-clause-room : goal.returns-in_err-list-clause-room
returns-in_err-list-clause-room g c = weaken _ _ _ _ _ (quiet _ _ _ _ _ _ (quiet _ _ _ _ _ _ (quiet _ _ _ _ _ _ c.epoch.ensures.room c.own_epoch.ensures.room) c.sync.ensures.room) c.load.ensures.room)

pub returns-clause-room : goal.returns-clause-room
returns-clause-room g c = weaken _ _ _ _ _ (quiet _ _ _ _ _ _ (quiet _ _ _ _ _ _ (quiet _ _ _ _ _ _ c.epoch.ensures.room c.own_epoch.ensures.room) c.sync.ensures.room) c.load.ensures.room)

pub at-requires-2-clause-least : goal.at-requires-2-clause-least
at-requires-2-clause-least g c = omega (arith, c.in_ok-list.ensures.end, front_long c.in_ok-list.list)

pub returns-clause-list : goal.returns-clause-list
returns-clause-list g c = λ b told.
    let t = g.met.D.Disk.tells_with_epoch c.args.disk.now b (g.met.D.Disk.reads_as_image c.args.disk.now b told) in
    let le : 1 ≤ t.0 = omega (arith, c.in_ok-found.ensures.value t.0 t.1, c.if-found-eq0.false) in
    stands_under (g.D.Disk.told_epoch c.args.disk.now) t.0 b c.in_ok-list.list t.1 le (c.in_ok-list.ensures.list b (c.in_ok-sync.ensures.same ∙ c.in_ok-under.ensures.same ∙ c.in_ok-found.ensures.same ∙ told))

pub returns-clause-no_journal : goal.returns-clause-no_journal
returns-clause-no_journal g c = λ e at b is told le why.
    let stands = stands_under (g.D.Disk.told_epoch c.args.disk.now) e b c.in_ok-list.list is le (c.in_ok-list.ensures.list b (c.in_ok-sync.ensures.same ∙ c.in_ok-under.ensures.same ∙ c.in_ok-found.ensures.same ∙ told)) in
    absurd (not_both_under (g.D.Disk.told_epoch c.args.disk.now) e b c.in_ok-list.list at is le stands why)
