use Rattle.std.proofs.Common.{◌≡◌, ◌==◌, false, sym, subst}
use Rattle.chf_core.specs.State.{State}
use Rattle.charging.proofs.Begins.{goes_on}
use Rattle.charging.proofs.Printing.{goes_on_printing}
use Rattle.charging.proofs.answering.push_items.Goals as goal

pub loop-chf-preserved-in_ok-push_item-in-Some : goal.loop-chf-preserved-in_ok-push_item-in-Some
loop-chf-preserved-in_ok-push_item-in-Some g c =
    let l = c.loop-chf in
    let item = c.in-Some.item in
    let left = g.I.Items.left c.take.new.self in
    let pushed = c.in_ok-push_item-in-Some.ensures in
    let taken = rw c.in-Some.is at c.in_ok-take.ensures.taken in
    record {
      sound = rw c.in-Some.is at c.in_ok-take.ensures.sound;
      begun = subst (λ (t : State). (t.count == 0) ≡ false) (sym pushed.state) (goes_on l.chf.state item l.invariant.begun);
      run = goes_on_printing l.chf.state c.push_item.new.chf.state item (g.I.Items.left l.items) left l.out.items c.push_item.new.out.items _ taken pushed.line pushed.state l.invariant.run;
    }

pub loop-chf-preserved-in_ok-push_item-in-Some-2 : goal.loop-chf-preserved-in_ok-push_item-in-Some-2
loop-chf-preserved-in_ok-push_item-in-Some-2 g c =
    let l = c.loop-chf in
    let item = c.in-Some.item in
    let left = g.I.Items.left c.take.new.self in
    let pushed = c.in_ok-push_item-in-Some.ensures in
    let taken = rw c.in-Some.is at c.in_ok-take.ensures.taken in
    record {
      sound = rw c.in-Some.is at c.in_ok-take.ensures.sound;
      begun = subst (λ (t : State). (t.count == 0) ≡ false) (sym pushed.state) (goes_on l.chf.state item l.invariant.begun);
      run = goes_on_printing l.chf.state c.push_item.new.chf.state item (g.I.Items.left l.items) left l.out.items c.push_item.new.out.items _ taken pushed.line pushed.state l.invariant.run;
    }
