use Rattle.std.proofs.Common.{[], ◌∷◌, ◌++◌, List, ℕ, sym, ◌∙◌, arith, refl, ⊎_elim}
use Rattle.journal.specs.Bytes.{header}
use Rattle.journal.proofs.Make.{stays_zero, stays_empty, torn_from, on_disk, front_nil, zero_stands, one_stands, claimed_one}
use Rattle.journal.proofs.Rooms.{then, write_sync}
use Rattle.journal.proofs.starting.make.Goals as goal

pub returns-in_err-write-clause-every_exit : goal.returns-in_err-write-clause-every_exit
returns-in_err-write-clause-every_exit g c =
    stays_zero (g.D.Disk.told_epoch c.args.disk.now) (g.D.Disk.is_image c.args.disk.now) c.requires (g.met.D.Disk.tells_with_epoch c.args.disk.now) _ (g.D.Disk.is_image c.write.new.self) c.write.ensures.epoch
    (torn_from _ c.write.ensures.crash)

pub returns-in_err-sync-clause-every_exit : goal.returns-in_err-sync-clause-every_exit
returns-in_err-sync-clause-every_exit g c =
    stays_zero (g.D.Disk.told_epoch c.args.disk.now) (g.D.Disk.is_image c.args.disk.now) c.requires (g.met.D.Disk.tells_with_epoch c.args.disk.now) _ (g.D.Disk.is_image c.sync.new.self) (c.sync.ensures.epoch ∙ c.write.ensures.epoch)
    (λ b im. torn_from _ c.write.ensures.crash b (c.sync.ensures.crash b im))

pub returns-in_err-claim-clause-every_exit : goal.returns-in_err-claim-clause-every_exit
returns-in_err-claim-clause-every_exit g c =
    let same = c.sync.ensures.epoch ∙ c.write.ensures.epoch in
    let from = λ (b : List ℕ) (im : g.D.Disk.is_image c.claim.new.self b). torn_from _ c.write.ensures.crash b (c.sync.ensures.crash b (c.claim.ensures.crash b im)) in
    stays_empty (g.D.Disk.told_epoch c.args.disk.now) (g.D.Disk.is_image c.args.disk.now) c.requires (g.met.D.Disk.tells_with_epoch c.args.disk.now) _ (g.D.Disk.is_image c.claim.new.self) from
    (λ b im. ⊎_elim
    (λ kept. let t = g.met.D.Disk.tells_with_epoch c.claim.new.self b im in zero_stands (g.D.Disk.told_epoch c.claim.new.self) b t.0 t.1 (c.requires t.0 (sym same ∙ sym kept ∙ t.1)))
    (λ made. one_stands (g.D.Disk.told_epoch c.claim.new.self) b made.3 (on_disk (g.D.Disk.content c.args.disk.now) (g.D.Disk.content c.write.new.self) (header ++ 0 ∷ []) (g.D.Disk.is_image c.sync.new.self) refl
    c.write.ensures.tells c.in_ok-write.ensures.written c.in_ok-sync.ensures.durable b (c.claim.ensures.crash b im)))
    c.in_err-claim.ensures.made_or_not)

pub returns-clause-every_exit : goal.returns-clause-every_exit
returns-clause-every_exit g c =
    let same = c.sync.ensures.epoch ∙ c.write.ensures.epoch in
    let from = λ (b : List ℕ) (im : g.D.Disk.is_image c.claim.new.self b). torn_from _ c.write.ensures.crash b (c.sync.ensures.crash b (c.claim.ensures.crash b im)) in
    stays_empty (g.D.Disk.told_epoch c.args.disk.now) (g.D.Disk.is_image c.args.disk.now) c.requires (g.met.D.Disk.tells_with_epoch c.args.disk.now) _ (g.D.Disk.is_image c.claim.new.self) from
    (λ b im.
    let d = from b im in
    let t = g.met.D.Disk.tells_with_epoch c.args.disk.now d.0 d.1 in
    one_stands (g.D.Disk.told_epoch c.claim.new.self) b (c.in_ok-claim.ensures.claimed t.0 (same ∙ t.1)).1 (on_disk (g.D.Disk.content c.args.disk.now) (g.D.Disk.content c.write.new.self) (header ++ 0 ∷ []) (g.D.Disk.is_image c.sync.new.self) refl
    c.write.ensures.tells c.in_ok-write.ensures.written c.in_ok-sync.ensures.durable b (c.claim.ensures.crash b im)))

pub returns-clause-tied : goal.returns-clause-tied
returns-clause-tied g c =
    let spells = λ (b : List ℕ) (im : g.D.Disk.is_image c.claim.new.self b). on_disk (g.D.Disk.content c.args.disk.now) (g.D.Disk.content c.write.new.self) (header ++ 0 ∷ []) (g.D.Disk.is_image c.sync.new.self) refl
    c.write.ensures.tells c.in_ok-write.ensures.written c.in_ok-sync.ensures.durable b (c.claim.ensures.crash b im) in
    record {
      ends = front_nil;
      claimed = claimed_one (g.D.Disk.told_epoch c.sync.new.self) (g.D.Disk.told_epoch c.claim.new.self) c.claim.ensures.tells_epoch c.in_ok-claim.ensures.claimed;
      disk = λ e b is le told. spells b (g.met.D.Disk.reads_as_image c.claim.new.self b told);
      each = λ e b is le im. spells b im;
    }

pub returns-in_err-claim-clause-room : goal.returns-in_err-claim-clause-room
returns-in_err-claim-clause-room g c =
    then _ _ _ _ _ _ _ _ _ 1 0 1 (write_sync _ _ _ _ _ _ 17 17 (omega arith) c.write.ensures.room c.sync.ensures.room) c.claim.ensures.room (λ r is may. may) (λ r s ro sp same may. tt) (λ r s u ro sp uq a b. omega (arith, a, b))

pub returns-clause-room : goal.returns-clause-room
returns-clause-room g c =
    then _ _ _ _ _ _ _ _ _ 1 0 1 (write_sync _ _ _ _ _ _ 17 17 (omega arith) c.write.ensures.room c.sync.ensures.room) c.claim.ensures.room (λ r is may. may) (λ r s ro sp same may. tt) (λ r s u ro sp uq a b. omega (arith, a, b))
