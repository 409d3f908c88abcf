use Rattle.std.proofs.Common.{◌≡◌, ◌≤◌, ◌+◌, ◌-◌, ◌^◌, ◌++◌, ◌∷◌, [], List, ℕ, length, take, Some, sym, ◌∙◌, ap, subst, arith, take_at, length-take, true≢false, ⊎_elim}
use Rattle.journal.specs.Bytes.{front, sized, Spells}
use Rattle.journal.specs.Lists.{IsTied, MayStandFor}
use Rattle.journal.specs.Stages.{Staged}
use Rattle.journal.specs.State.{State}
use Rattle.journal.proofs.Append.{below_or_not, at_exit, behind, extends_before, staged, gate_torn, extends_staged, tied_after, extends_all, at_ok}
use Rattle.journal.proofs.Rooms.{write_sync, write_sync_write, and_sync}
use Rattle.journal.proofs.Steps.{Holds, keeps, stands_under}
use Rattle.journal.proofs.Torn.{length-front_push}
use Rattle.journal.proofs.journal.Journal.append.Goals as goal

pub returns-in_err-write-clause-every_exit : goal.returns-in_err-write-clause-every_exit
returns-in_err-write-clause-every_exit g c =
    let p = c.args.payload.now in
    let j : State = record { epoch = c.self.inside.under; length = c.self.inside.end; limit = c.self.inside.most; is_sound = c.self.inside.sound } in
    let list : List (List ℕ) = c.requires.tied.0 in
    let tied : IsTied j (g.D.Disk.content c.args.disk.now) (g.D.Disk.told_epoch c.args.disk.now) (g.D.Disk.is_image c.args.disk.now) list = subst (λ s. IsTied s (g.D.Disk.content c.args.disk.now) (g.D.Disk.told_epoch c.args.disk.now) (g.D.Disk.is_image c.args.disk.now) list) (sym c.self.view_is) c.requires.tied.1 in
    λ stand. at_exit c.self.inside.under _ _ _ _ (p ∷ []) (c.write.ensures.epoch) stand (g.met.D.Disk.tells_with_epoch c.write.new.self)
    (λ e is lt. (c.write.ensures.refuses e is lt).1.images)
    (λ e is le.
    let h1 : Holds (g.D.Disk.is_image c.args.disk.now) (g.D.Disk.is_image c.write.new.self) (λ b. Spells b list) (MayStandFor (g.D.Disk.told_epoch c.args.disk.now) (g.D.Disk.is_image c.args.disk.now) list) = behind j (g.D.Disk.content c.args.disk.now) (g.D.Disk.told_epoch c.args.disk.now) (g.D.Disk.is_image c.args.disk.now) list tied e is le (g.D.Disk.is_image c.write.new.self) _ c.write.ensures.crash in
    extends_before j (g.D.Disk.content c.args.disk.now) (g.D.Disk.told_epoch c.args.disk.now) (g.D.Disk.is_image c.args.disk.now) list tied e is le (g.D.Disk.is_image c.write.new.self) (p ∷ []) h1)

pub returns-in_err-sync-clause-every_exit : goal.returns-in_err-sync-clause-every_exit
returns-in_err-sync-clause-every_exit g c =
    let p = c.args.payload.now in
    let j : State = record { epoch = c.self.inside.under; length = c.self.inside.end; limit = c.self.inside.most; is_sound = c.self.inside.sound } in
    let list : List (List ℕ) = c.requires.tied.0 in
    let tied : IsTied j (g.D.Disk.content c.args.disk.now) (g.D.Disk.told_epoch c.args.disk.now) (g.D.Disk.is_image c.args.disk.now) list = subst (λ s. IsTied s (g.D.Disk.content c.args.disk.now) (g.D.Disk.told_epoch c.args.disk.now) (g.D.Disk.is_image c.args.disk.now) list) (sym c.self.view_is) c.requires.tied.1 in
    λ stand. at_exit c.self.inside.under _ _ _ _ (p ∷ []) (c.sync.ensures.epoch ∙ c.write.ensures.epoch) stand (g.met.D.Disk.tells_with_epoch c.sync.new.self)
    (λ e is lt. absurd (true≢false (sym (c.in_ok-write.ensures.refuses e is lt).0)))
    (λ e is le.
    let h1 : Holds (g.D.Disk.is_image c.args.disk.now) (g.D.Disk.is_image c.write.new.self) (λ b. Spells b list) (MayStandFor (g.D.Disk.told_epoch c.args.disk.now) (g.D.Disk.is_image c.args.disk.now) list) = behind j (g.D.Disk.content c.args.disk.now) (g.D.Disk.told_epoch c.args.disk.now) (g.D.Disk.is_image c.args.disk.now) list tied e is le (g.D.Disk.is_image c.write.new.self) _ c.write.ensures.crash in
    let h2 : Holds (g.D.Disk.is_image c.args.disk.now) (g.D.Disk.is_image c.sync.new.self) (λ b. Spells b list) (MayStandFor (g.D.Disk.told_epoch c.args.disk.now) (g.D.Disk.is_image c.args.disk.now) list) = keeps h1 c.sync.ensures.crash in
    extends_before j (g.D.Disk.content c.args.disk.now) (g.D.Disk.told_epoch c.args.disk.now) (g.D.Disk.is_image c.args.disk.now) list tied e is le (g.D.Disk.is_image c.sync.new.self) (p ∷ []) h2)

pub returns-in_err-write-2-clause-every_exit : goal.returns-in_err-write-2-clause-every_exit
returns-in_err-write-2-clause-every_exit g c =
    let p = c.args.payload.now in
    let j : State = record { epoch = c.self.inside.under; length = c.self.inside.end; limit = c.self.inside.most; is_sound = c.self.inside.sound } in
    let list : List (List ℕ) = c.requires.tied.0 in
    let tied : IsTied j (g.D.Disk.content c.args.disk.now) (g.D.Disk.told_epoch c.args.disk.now) (g.D.Disk.is_image c.args.disk.now) list = subst (λ s. IsTied s (g.D.Disk.content c.args.disk.now) (g.D.Disk.told_epoch c.args.disk.now) (g.D.Disk.is_image c.args.disk.now) list) (sym c.self.view_is) c.requires.tied.1 in
    let entry = take (length p + 5) c.deref.result.now in
    let entry_is : entry ≡ sized p ++ 0 ∷ [] = ap (λ (l : List ℕ). take (length p + 5) l) (c.deref.ensures.value ∙ take_at c.stage.new.buffer _ c.self.inside.buffer.len (c.stage.auto.buffer ∙ c.deref_mut.ensures.len)) ∙ c.stage.ensures in
    let a = c.self.inside.end - 1 in
    let front_is : length (front list) ≡ a = omega (arith, tied.ends) in
    let within : c.self.inside.end + (length p + 5) ≤ 2 ^ 30 = omega (arith, c.self.invariant, c.if-self-need.false) in
    λ stand. at_exit c.self.inside.under _ _ _ _ (p ∷ []) (c.write-2.ensures.epoch ∙ c.sync.ensures.epoch ∙ c.write.ensures.epoch) stand (g.met.D.Disk.tells_with_epoch c.write-2.new.self)
    (λ e is lt. absurd (true≢false (sym (c.in_ok-write.ensures.refuses e is lt).0)))
    (λ e is le.
    let h1 : Holds (g.D.Disk.is_image c.args.disk.now) (g.D.Disk.is_image c.write.new.self) (λ b. Spells b list) (MayStandFor (g.D.Disk.told_epoch c.args.disk.now) (g.D.Disk.is_image c.args.disk.now) list) = behind j (g.D.Disk.content c.args.disk.now) (g.D.Disk.told_epoch c.args.disk.now) (g.D.Disk.is_image c.args.disk.now) list tied e is le (g.D.Disk.is_image c.write.new.self) _ c.write.ensures.crash in
    let h3 : Holds (g.D.Disk.is_image c.args.disk.now) (g.D.Disk.is_image c.sync.new.self) (λ b. Staged b list (sized p ++ 0 ∷ [])) (MayStandFor (g.D.Disk.told_epoch c.args.disk.now) (g.D.Disk.is_image c.args.disk.now) list) = subst (λ en. Holds (g.D.Disk.is_image c.args.disk.now) (g.D.Disk.is_image c.sync.new.self) (λ b. Staged b list en) (MayStandFor (g.D.Disk.told_epoch c.args.disk.now) (g.D.Disk.is_image c.args.disk.now) list)) entry_is (staged j (g.D.Disk.content c.args.disk.now) (g.D.Disk.told_epoch c.args.disk.now) (g.D.Disk.is_image c.args.disk.now) list tied e is le (g.D.Disk.is_image c.write.new.self) (g.D.Disk.is_image c.sync.new.self) (g.D.Disk.content c.write.new.self) entry h1 c.write.ensures.tells c.in_ok-write.ensures.written c.in_ok-sync.ensures.durable c.sync.ensures.crash) in
    let h4 : Holds (g.D.Disk.is_image c.args.disk.now) (g.D.Disk.is_image c.write-2.new.self) (λ b. Staged b list (sized p ++ 0 ∷ [])) (MayStandFor (g.D.Disk.told_epoch c.args.disk.now) (g.D.Disk.is_image c.args.disk.now) list) = gate_torn j (g.D.Disk.content c.args.disk.now) (g.D.Disk.told_epoch c.args.disk.now) (g.D.Disk.is_image c.args.disk.now) list tied e is le (g.D.Disk.is_image c.sync.new.self) (g.D.Disk.is_image c.write-2.new.self) (sized p ++ 0 ∷ []) a front_is h3 c.write-2.ensures.crash in
    extends_staged j (g.D.Disk.content c.args.disk.now) (g.D.Disk.told_epoch c.args.disk.now) (g.D.Disk.is_image c.args.disk.now) list tied e is le p within (g.D.Disk.is_image c.write-2.new.self) h4)

pub returns-in_err-sync-2-clause-every_exit : goal.returns-in_err-sync-2-clause-every_exit
returns-in_err-sync-2-clause-every_exit g c =
    let p = c.args.payload.now in
    let j : State = record { epoch = c.self.inside.under; length = c.self.inside.end; limit = c.self.inside.most; is_sound = c.self.inside.sound } in
    let list : List (List ℕ) = c.requires.tied.0 in
    let tied : IsTied j (g.D.Disk.content c.args.disk.now) (g.D.Disk.told_epoch c.args.disk.now) (g.D.Disk.is_image c.args.disk.now) list = subst (λ s. IsTied s (g.D.Disk.content c.args.disk.now) (g.D.Disk.told_epoch c.args.disk.now) (g.D.Disk.is_image c.args.disk.now) list) (sym c.self.view_is) c.requires.tied.1 in
    let entry = take (length p + 5) c.deref.result.now in
    let entry_is : entry ≡ sized p ++ 0 ∷ [] = ap (λ (l : List ℕ). take (length p + 5) l) (c.deref.ensures.value ∙ take_at c.stage.new.buffer _ c.self.inside.buffer.len (c.stage.auto.buffer ∙ c.deref_mut.ensures.len)) ∙ c.stage.ensures in
    let a = c.self.inside.end - 1 in
    let front_is : length (front list) ≡ a = omega (arith, tied.ends) in
    let within : c.self.inside.end + (length p + 5) ≤ 2 ^ 30 = omega (arith, c.self.invariant, c.if-self-need.false) in
    λ stand. at_exit c.self.inside.under _ _ _ _ (p ∷ []) (c.sync-2.ensures.epoch ∙ c.write-2.ensures.epoch ∙ c.sync.ensures.epoch ∙ c.write.ensures.epoch) stand (g.met.D.Disk.tells_with_epoch c.sync-2.new.self)
    (λ e is lt. absurd (true≢false (sym (c.in_ok-write.ensures.refuses e is lt).0)))
    (λ e is le.
    let h1 : Holds (g.D.Disk.is_image c.args.disk.now) (g.D.Disk.is_image c.write.new.self) (λ b. Spells b list) (MayStandFor (g.D.Disk.told_epoch c.args.disk.now) (g.D.Disk.is_image c.args.disk.now) list) = behind j (g.D.Disk.content c.args.disk.now) (g.D.Disk.told_epoch c.args.disk.now) (g.D.Disk.is_image c.args.disk.now) list tied e is le (g.D.Disk.is_image c.write.new.self) _ c.write.ensures.crash in
    let h3 : Holds (g.D.Disk.is_image c.args.disk.now) (g.D.Disk.is_image c.sync.new.self) (λ b. Staged b list (sized p ++ 0 ∷ [])) (MayStandFor (g.D.Disk.told_epoch c.args.disk.now) (g.D.Disk.is_image c.args.disk.now) list) = subst (λ en. Holds (g.D.Disk.is_image c.args.disk.now) (g.D.Disk.is_image c.sync.new.self) (λ b. Staged b list en) (MayStandFor (g.D.Disk.told_epoch c.args.disk.now) (g.D.Disk.is_image c.args.disk.now) list)) entry_is (staged j (g.D.Disk.content c.args.disk.now) (g.D.Disk.told_epoch c.args.disk.now) (g.D.Disk.is_image c.args.disk.now) list tied e is le (g.D.Disk.is_image c.write.new.self) (g.D.Disk.is_image c.sync.new.self) (g.D.Disk.content c.write.new.self) entry h1 c.write.ensures.tells c.in_ok-write.ensures.written c.in_ok-sync.ensures.durable c.sync.ensures.crash) in
    let h4 : Holds (g.D.Disk.is_image c.args.disk.now) (g.D.Disk.is_image c.write-2.new.self) (λ b. Staged b list (sized p ++ 0 ∷ [])) (MayStandFor (g.D.Disk.told_epoch c.args.disk.now) (g.D.Disk.is_image c.args.disk.now) list) = gate_torn j (g.D.Disk.content c.args.disk.now) (g.D.Disk.told_epoch c.args.disk.now) (g.D.Disk.is_image c.args.disk.now) list tied e is le (g.D.Disk.is_image c.sync.new.self) (g.D.Disk.is_image c.write-2.new.self) (sized p ++ 0 ∷ []) a front_is h3 c.write-2.ensures.crash in
    extends_staged j (g.D.Disk.content c.args.disk.now) (g.D.Disk.told_epoch c.args.disk.now) (g.D.Disk.is_image c.args.disk.now) list tied e is le p within (g.D.Disk.is_image c.sync-2.new.self) (keeps h4 c.sync-2.ensures.crash))

pub returns-clause-every_exit : goal.returns-clause-every_exit
returns-clause-every_exit g c =
    let p = c.args.payload.now in
    let j : State = record { epoch = c.self.inside.under; length = c.self.inside.end; limit = c.self.inside.most; is_sound = c.self.inside.sound } in
    let list : List (List ℕ) = c.requires.tied.0 in
    let tied : IsTied j (g.D.Disk.content c.args.disk.now) (g.D.Disk.told_epoch c.args.disk.now) (g.D.Disk.is_image c.args.disk.now) list = subst (λ s. IsTied s (g.D.Disk.content c.args.disk.now) (g.D.Disk.told_epoch c.args.disk.now) (g.D.Disk.is_image c.args.disk.now) list) (sym c.self.view_is) c.requires.tied.1 in
    let entry = take (length p + 5) c.deref.result.now in
    let entry_is : entry ≡ sized p ++ 0 ∷ [] = ap (λ (l : List ℕ). take (length p + 5) l) (c.deref.ensures.value ∙ take_at c.stage.new.buffer _ c.self.inside.buffer.len (c.stage.auto.buffer ∙ c.deref_mut.ensures.len)) ∙ c.stage.ensures in
    let a = c.self.inside.end - 1 in
    let front_is : length (front list) ≡ a = omega (arith, tied.ends) in
    let within : c.self.inside.end + (length p + 5) ≤ 2 ^ 30 = omega (arith, c.self.invariant, c.if-self-need.false) in
    λ stand. at_exit c.self.inside.under _ _ _ _ (p ∷ []) (c.sync-2.ensures.epoch ∙ c.write-2.ensures.epoch ∙ c.sync.ensures.epoch ∙ c.write.ensures.epoch) stand (g.met.D.Disk.tells_with_epoch c.sync-2.new.self)
    (λ e is lt. absurd (true≢false (sym (c.in_ok-write.ensures.refuses e is lt).0)))
    (λ e is le.
    let h1 : Holds (g.D.Disk.is_image c.args.disk.now) (g.D.Disk.is_image c.write.new.self) (λ b. Spells b list) (MayStandFor (g.D.Disk.told_epoch c.args.disk.now) (g.D.Disk.is_image c.args.disk.now) list) = behind j (g.D.Disk.content c.args.disk.now) (g.D.Disk.told_epoch c.args.disk.now) (g.D.Disk.is_image c.args.disk.now) list tied e is le (g.D.Disk.is_image c.write.new.self) _ c.write.ensures.crash in
    let h3 : Holds (g.D.Disk.is_image c.args.disk.now) (g.D.Disk.is_image c.sync.new.self) (λ b. Staged b list (sized p ++ 0 ∷ [])) (MayStandFor (g.D.Disk.told_epoch c.args.disk.now) (g.D.Disk.is_image c.args.disk.now) list) = subst (λ en. Holds (g.D.Disk.is_image c.args.disk.now) (g.D.Disk.is_image c.sync.new.self) (λ b. Staged b list en) (MayStandFor (g.D.Disk.told_epoch c.args.disk.now) (g.D.Disk.is_image c.args.disk.now) list)) entry_is (staged j (g.D.Disk.content c.args.disk.now) (g.D.Disk.told_epoch c.args.disk.now) (g.D.Disk.is_image c.args.disk.now) list tied e is le (g.D.Disk.is_image c.write.new.self) (g.D.Disk.is_image c.sync.new.self) (g.D.Disk.content c.write.new.self) entry h1 c.write.ensures.tells c.in_ok-write.ensures.written c.in_ok-sync.ensures.durable c.sync.ensures.crash) in
    let h4 : Holds (g.D.Disk.is_image c.args.disk.now) (g.D.Disk.is_image c.write-2.new.self) (λ b. Staged b list (sized p ++ 0 ∷ [])) (MayStandFor (g.D.Disk.told_epoch c.args.disk.now) (g.D.Disk.is_image c.args.disk.now) list) = gate_torn j (g.D.Disk.content c.args.disk.now) (g.D.Disk.told_epoch c.args.disk.now) (g.D.Disk.is_image c.args.disk.now) list tied e is le (g.D.Disk.is_image c.sync.new.self) (g.D.Disk.is_image c.write-2.new.self) (sized p ++ 0 ∷ []) a front_is h3 c.write-2.ensures.crash in
    extends_staged j (g.D.Disk.content c.args.disk.now) (g.D.Disk.told_epoch c.args.disk.now) (g.D.Disk.is_image c.args.disk.now) list tied e is le p within (g.D.Disk.is_image c.sync-2.new.self) (keeps h4 c.sync-2.ensures.crash))

pub returns-clause-appended : goal.returns-clause-appended
returns-clause-appended g c = λ list tied_first.
    let p = c.args.payload.now in
    let j : State = record { epoch = c.self.inside.under; length = c.self.inside.end; limit = c.self.inside.most; is_sound = c.self.inside.sound } in
    let list : List (List ℕ) = list in
    let tied : IsTied j (g.D.Disk.content c.args.disk.now) (g.D.Disk.told_epoch c.args.disk.now) (g.D.Disk.is_image c.args.disk.now) list = subst (λ s. IsTied s (g.D.Disk.content c.args.disk.now) (g.D.Disk.told_epoch c.args.disk.now) (g.D.Disk.is_image c.args.disk.now) list) (sym c.self.view_is) tied_first in
    let entry = take (length p + 5) c.deref.result.now in
    let entry_is : entry ≡ sized p ++ 0 ∷ [] = ap (λ (l : List ℕ). take (length p + 5) l) (c.deref.ensures.value ∙ take_at c.stage.new.buffer _ c.self.inside.buffer.len (c.stage.auto.buffer ∙ c.deref_mut.ensures.len)) ∙ c.stage.ensures in
    let a = c.self.inside.end - 1 in
    let front_is : length (front list) ≡ a = omega (arith, tied.ends) in
    let within : c.self.inside.end + (length p + 5) ≤ 2 ^ 30 = omega (arith, c.self.invariant, c.if-self-need.false) in
    let same : (g.D.Disk.told_epoch c.sync-2.new.self) ≡ (g.D.Disk.told_epoch c.args.disk.now) = c.sync-2.ensures.epoch ∙ c.write-2.ensures.epoch ∙ c.sync.ensures.epoch ∙ c.write.ensures.epoch in
    let opened : (e : ℕ) (b : List ℕ) → (g.D.Disk.told_epoch c.sync-2.new.self) ≡ Some e → e ≤ c.self.inside.under → (g.D.Disk.is_image c.sync-2.new.self) b → Spells b (list ++ p ∷ []) =
    λ e b is_now le im. let is : (g.D.Disk.told_epoch c.args.disk.now) ≡ Some e = sym same ∙ is_now in
    let h1 : Holds (g.D.Disk.is_image c.args.disk.now) (g.D.Disk.is_image c.write.new.self) (λ b. Spells b list) (MayStandFor (g.D.Disk.told_epoch c.args.disk.now) (g.D.Disk.is_image c.args.disk.now) list) = behind j (g.D.Disk.content c.args.disk.now) (g.D.Disk.told_epoch c.args.disk.now) (g.D.Disk.is_image c.args.disk.now) list tied e is le (g.D.Disk.is_image c.write.new.self) _ c.write.ensures.crash in
    let h3 : Holds (g.D.Disk.is_image c.args.disk.now) (g.D.Disk.is_image c.sync.new.self) (λ b. Staged b list (sized p ++ 0 ∷ [])) (MayStandFor (g.D.Disk.told_epoch c.args.disk.now) (g.D.Disk.is_image c.args.disk.now) list) = subst (λ en. Holds (g.D.Disk.is_image c.args.disk.now) (g.D.Disk.is_image c.sync.new.self) (λ b. Staged b list en) (MayStandFor (g.D.Disk.told_epoch c.args.disk.now) (g.D.Disk.is_image c.args.disk.now) list)) entry_is (staged j (g.D.Disk.content c.args.disk.now) (g.D.Disk.told_epoch c.args.disk.now) (g.D.Disk.is_image c.args.disk.now) list tied e is le (g.D.Disk.is_image c.write.new.self) (g.D.Disk.is_image c.sync.new.self) (g.D.Disk.content c.write.new.self) entry h1 c.write.ensures.tells c.in_ok-write.ensures.written c.in_ok-sync.ensures.durable c.sync.ensures.crash) in
    tied_after j (g.D.Disk.content c.args.disk.now) (g.D.Disk.told_epoch c.args.disk.now) (g.D.Disk.is_image c.args.disk.now) list tied e is le p within (g.D.Disk.is_image c.sync.new.self) (g.D.Disk.is_image c.sync-2.new.self) a front_is h3 (g.D.Disk.content c.sync.new.self) (g.D.Disk.content c.write-2.new.self) (g.met.D.Disk.reads_as_image c.sync.new.self) c.write-2.ensures.tells c.in_ok-write-2.ensures.written c.in_ok-sync-2.ensures.durable b im in
    record {
      ends = omega (arith, tied.ends, length-front_push list p);
      claimed = λ e is. tied.claimed e (sym same ∙ is);
      disk = λ e b is le told. opened e b is le (g.met.D.Disk.reads_as_image c.sync-2.new.self b told);
      each = λ e b is le im. opened e b is le im;
    }

pub returns-clause-acknowledged : goal.returns-clause-acknowledged
returns-clause-acknowledged g c =
    let p = c.args.payload.now in
    let j : State = record { epoch = c.self.inside.under; length = c.self.inside.end; limit = c.self.inside.most; is_sound = c.self.inside.sound } in
    let list : List (List ℕ) = c.requires.tied.0 in
    let tied : IsTied j (g.D.Disk.content c.args.disk.now) (g.D.Disk.told_epoch c.args.disk.now) (g.D.Disk.is_image c.args.disk.now) list = subst (λ s. IsTied s (g.D.Disk.content c.args.disk.now) (g.D.Disk.told_epoch c.args.disk.now) (g.D.Disk.is_image c.args.disk.now) list) (sym c.self.view_is) c.requires.tied.1 in
    let entry = take (length p + 5) c.deref.result.now in
    let entry_is : entry ≡ sized p ++ 0 ∷ [] = ap (λ (l : List ℕ). take (length p + 5) l) (c.deref.ensures.value ∙ take_at c.stage.new.buffer _ c.self.inside.buffer.len (c.stage.auto.buffer ∙ c.deref_mut.ensures.len)) ∙ c.stage.ensures in
    let a = c.self.inside.end - 1 in
    let front_is : length (front list) ≡ a = omega (arith, tied.ends) in
    let within : c.self.inside.end + (length p + 5) ≤ 2 ^ 30 = omega (arith, c.self.invariant, c.if-self-need.false) in
    at_ok c.self.inside.under _ _ _ _ (p ∷ []) 1 (c.sync-2.ensures.epoch ∙ c.write-2.ensures.epoch ∙ c.sync.ensures.epoch ∙ c.write.ensures.epoch) (g.met.D.Disk.tells_with_epoch c.sync-2.new.self)
    (λ e is lt. true≢false (sym (c.in_ok-write.ensures.refuses e is lt).0))
    (λ e is le.
    let h1 : Holds (g.D.Disk.is_image c.args.disk.now) (g.D.Disk.is_image c.write.new.self) (λ b. Spells b list) (MayStandFor (g.D.Disk.told_epoch c.args.disk.now) (g.D.Disk.is_image c.args.disk.now) list) = behind j (g.D.Disk.content c.args.disk.now) (g.D.Disk.told_epoch c.args.disk.now) (g.D.Disk.is_image c.args.disk.now) list tied e is le (g.D.Disk.is_image c.write.new.self) _ c.write.ensures.crash in
    let h3 : Holds (g.D.Disk.is_image c.args.disk.now) (g.D.Disk.is_image c.sync.new.self) (λ b. Staged b list (sized p ++ 0 ∷ [])) (MayStandFor (g.D.Disk.told_epoch c.args.disk.now) (g.D.Disk.is_image c.args.disk.now) list) = subst (λ en. Holds (g.D.Disk.is_image c.args.disk.now) (g.D.Disk.is_image c.sync.new.self) (λ b. Staged b list en) (MayStandFor (g.D.Disk.told_epoch c.args.disk.now) (g.D.Disk.is_image c.args.disk.now) list)) entry_is (staged j (g.D.Disk.content c.args.disk.now) (g.D.Disk.told_epoch c.args.disk.now) (g.D.Disk.is_image c.args.disk.now) list tied e is le (g.D.Disk.is_image c.write.new.self) (g.D.Disk.is_image c.sync.new.self) (g.D.Disk.content c.write.new.self) entry h1 c.write.ensures.tells c.in_ok-write.ensures.written c.in_ok-sync.ensures.durable c.sync.ensures.crash) in
    let h4 : Holds (g.D.Disk.is_image c.args.disk.now) (g.D.Disk.is_image c.write-2.new.self) (λ b. Staged b list (sized p ++ 0 ∷ [])) (MayStandFor (g.D.Disk.told_epoch c.args.disk.now) (g.D.Disk.is_image c.args.disk.now) list) = gate_torn j (g.D.Disk.content c.args.disk.now) (g.D.Disk.told_epoch c.args.disk.now) (g.D.Disk.is_image c.args.disk.now) list tied e is le (g.D.Disk.is_image c.sync.new.self) (g.D.Disk.is_image c.write-2.new.self) (sized p ++ 0 ∷ []) a front_is h3 c.write-2.ensures.crash in
    let h5 : Holds (g.D.Disk.is_image c.args.disk.now) (g.D.Disk.is_image c.sync-2.new.self) (λ b. Staged b list (sized p ++ 0 ∷ [])) (MayStandFor (g.D.Disk.told_epoch c.args.disk.now) (g.D.Disk.is_image c.args.disk.now) list) = keeps h4 c.sync-2.ensures.crash in
    extends_all j (g.D.Disk.content c.args.disk.now) (g.D.Disk.told_epoch c.args.disk.now) (g.D.Disk.is_image c.args.disk.now) list tied e is le p within (g.D.Disk.is_image c.sync-2.new.self) (record { each = tied_after j (g.D.Disk.content c.args.disk.now) (g.D.Disk.told_epoch c.args.disk.now) (g.D.Disk.is_image c.args.disk.now) list tied e is le p within (g.D.Disk.is_image c.sync.new.self) (g.D.Disk.is_image c.sync-2.new.self) a front_is h3 (g.D.Disk.content c.sync.new.self) (g.D.Disk.content c.write-2.new.self) (g.met.D.Disk.reads_as_image c.sync.new.self) c.write-2.ensures.tells c.in_ok-write-2.ensures.written c.in_ok-sync-2.ensures.durable; first = h5.first }))

pub returns-in_err-sync-clause-room : goal.returns-in_err-sync-clause-room
returns-in_err-sync-clause-room g c =
    let p = c.args.payload.now in
    let limit = c.args.self.now.limit in
    let size = c.self.inside.end + length (take (length p + 5) c.deref.result.now) in
    let most_is : c.self.inside.most ≡ limit = ap (λ (s : State). s.limit) c.self.view_is in
    let below : size ≤ limit = omega (arith, c.if-self-need.false, most_is, length-take (length p + 5) c.deref.result.now) in
    let last : c.self.inside.end - 1 + 1 ≤ limit = omega (arith, c.if-self-need.false, most_is, c.self.invariant) in
    (write_sync (g.D.Counted.faults c.args.disk.now) (g.D.Counted.faults c.write.new.self) (g.D.Counted.faults c.sync.new.self) (g.D.Disk.room c.args.disk.now) (g.D.Disk.room c.write.new.self) (g.D.Disk.room c.sync.new.self) limit size below c.write.ensures.room c.sync.ensures.room)

pub returns-in_err-write-2-clause-room : goal.returns-in_err-write-2-clause-room
returns-in_err-write-2-clause-room g c =
    let p = c.args.payload.now in
    let limit = c.args.self.now.limit in
    let size = c.self.inside.end + length (take (length p + 5) c.deref.result.now) in
    let most_is : c.self.inside.most ≡ limit = ap (λ (s : State). s.limit) c.self.view_is in
    let below : size ≤ limit = omega (arith, c.if-self-need.false, most_is, length-take (length p + 5) c.deref.result.now) in
    let last : c.self.inside.end - 1 + 1 ≤ limit = omega (arith, c.if-self-need.false, most_is, c.self.invariant) in
    (write_sync_write (g.D.Counted.faults c.args.disk.now) (g.D.Counted.faults c.write.new.self) (g.D.Counted.faults c.sync.new.self) (g.D.Disk.room c.args.disk.now) (g.D.Disk.room c.write.new.self) (g.D.Disk.room c.sync.new.self) limit size (g.D.Counted.faults c.write-2.new.self) (g.D.Disk.room c.write-2.new.self) (c.self.inside.end - 1 + 1) last c.in_ok-sync.ensures.clean (write_sync (g.D.Counted.faults c.args.disk.now) (g.D.Counted.faults c.write.new.self) (g.D.Counted.faults c.sync.new.self) (g.D.Disk.room c.args.disk.now) (g.D.Disk.room c.write.new.self) (g.D.Disk.room c.sync.new.self) limit size below c.write.ensures.room c.sync.ensures.room) c.write-2.ensures.room)

pub returns-in_err-sync-2-clause-room : goal.returns-in_err-sync-2-clause-room
returns-in_err-sync-2-clause-room g c =
    let p = c.args.payload.now in
    let limit = c.args.self.now.limit in
    let size = c.self.inside.end + length (take (length p + 5) c.deref.result.now) in
    let most_is : c.self.inside.most ≡ limit = ap (λ (s : State). s.limit) c.self.view_is in
    let below : size ≤ limit = omega (arith, c.if-self-need.false, most_is, length-take (length p + 5) c.deref.result.now) in
    let last : c.self.inside.end - 1 + 1 ≤ limit = omega (arith, c.if-self-need.false, most_is, c.self.invariant) in
    (and_sync (g.D.Counted.faults c.args.disk.now) (g.D.Counted.faults c.write.new.self) (g.D.Counted.faults c.sync.new.self) (g.D.Disk.room c.args.disk.now) (g.D.Disk.room c.write.new.self) (g.D.Disk.room c.sync.new.self) limit size (g.D.Counted.faults c.write-2.new.self) (g.D.Disk.room c.write-2.new.self) (g.D.Counted.faults c.sync-2.new.self) (g.D.Disk.room c.sync-2.new.self) (write_sync_write (g.D.Counted.faults c.args.disk.now) (g.D.Counted.faults c.write.new.self) (g.D.Counted.faults c.sync.new.self) (g.D.Disk.room c.args.disk.now) (g.D.Disk.room c.write.new.self) (g.D.Disk.room c.sync.new.self) limit size (g.D.Counted.faults c.write-2.new.self) (g.D.Disk.room c.write-2.new.self) (c.self.inside.end - 1 + 1) last c.in_ok-sync.ensures.clean (write_sync (g.D.Counted.faults c.args.disk.now) (g.D.Counted.faults c.write.new.self) (g.D.Counted.faults c.sync.new.self) (g.D.Disk.room c.args.disk.now) (g.D.Disk.room c.write.new.self) (g.D.Disk.room c.sync.new.self) limit size below c.write.ensures.room c.sync.ensures.room) c.write-2.ensures.room) c.sync-2.ensures.room)

pub returns-clause-room : goal.returns-clause-room
returns-clause-room g c =
    let p = c.args.payload.now in
    let limit = c.args.self.now.limit in
    let size = c.self.inside.end + length (take (length p + 5) c.deref.result.now) in
    let most_is : c.self.inside.most ≡ limit = ap (λ (s : State). s.limit) c.self.view_is in
    let below : size ≤ limit = omega (arith, c.if-self-need.false, most_is, length-take (length p + 5) c.deref.result.now) in
    let last : c.self.inside.end - 1 + 1 ≤ limit = omega (arith, c.if-self-need.false, most_is, c.self.invariant) in
    (and_sync (g.D.Counted.faults c.args.disk.now) (g.D.Counted.faults c.write.new.self) (g.D.Counted.faults c.sync.new.self) (g.D.Disk.room c.args.disk.now) (g.D.Disk.room c.write.new.self) (g.D.Disk.room c.sync.new.self) limit size (g.D.Counted.faults c.write-2.new.self) (g.D.Disk.room c.write-2.new.self) (g.D.Counted.faults c.sync-2.new.self) (g.D.Disk.room c.sync-2.new.self) (write_sync_write (g.D.Counted.faults c.args.disk.now) (g.D.Counted.faults c.write.new.self) (g.D.Counted.faults c.sync.new.self) (g.D.Disk.room c.args.disk.now) (g.D.Disk.room c.write.new.self) (g.D.Disk.room c.sync.new.self) limit size (g.D.Counted.faults c.write-2.new.self) (g.D.Disk.room c.write-2.new.self) (c.self.inside.end - 1 + 1) last c.in_ok-sync.ensures.clean (write_sync (g.D.Counted.faults c.args.disk.now) (g.D.Counted.faults c.write.new.self) (g.D.Counted.faults c.sync.new.self) (g.D.Disk.room c.args.disk.now) (g.D.Disk.room c.write.new.self) (g.D.Disk.room c.sync.new.self) limit size below c.write.ensures.room c.sync.ensures.room) c.write-2.ensures.room) c.sync-2.ensures.room)

pub returns-clause-firm : goal.returns-clause-firm
returns-clause-firm g c = λ list tied_first b im.
    let t = g.met.D.Disk.tells_with_epoch c.sync-2.new.self b im in
    let now = returns-clause-appended g c list tied_first in
    let is : (g.D.Disk.told_epoch c.args.disk.now) ≡ Some t.0 = sym (c.sync-2.ensures.epoch ∙ c.write-2.ensures.epoch ∙ c.sync.ensures.epoch ∙ c.write.ensures.epoch) ∙ t.1 in
    ⊎_elim
    (λ le. stands_under (g.D.Disk.told_epoch c.sync-2.new.self) t.0 b (list ++ c.args.payload.now ∷ []) t.1 (now.claimed t.0 t.1) (now.each t.0 b t.1 le im))
    (λ lt. absurd (true≢false (sym (c.in_ok-write.ensures.refuses t.0 is lt).0)))
    (below_or_not t.0 c.self.inside.under)
