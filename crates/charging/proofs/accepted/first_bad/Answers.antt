use Rattle.std.proofs.Common.{◌+◌, ◌∙◌, ap, sym}
use Rattle.charging.specs.Accepted.{bad_from}
use Rattle.charging.proofs.AfterSetup.{bad_here, bad_later}
use Rattle.charging.proofs.accepted.first_bad.Goals as goal

pub returns-then-branch : goal.returns-then-branch
returns-then-branch g c =
    let l = c.loop-item in
    let left = g.I.Items.left c.take.new.self in
    let taken = rw c.in-Some.is at c.in_ok-take.ensures.taken in
    let bad = bad_here l.in_setup l.here c.in-Some.item left c.in_ok-is_bad-in-Some.field-0 c.in_ok-is_bad-in-Some.ensures.bad c.if-branch.true in
    sym (l.invariant.run ∙ ap (bad_from l.in_setup l.here) taken ∙ bad)

pub loop-item-preserved-in_ok-here-in-Some : goal.loop-item-preserved-in_ok-here-in-Some
loop-item-preserved-in_ok-here-in-Some g c =
    let l = c.loop-item in
    let left = g.I.Items.left c.take.new.self in
    let taken = rw c.in-Some.is at c.in_ok-take.ensures.taken in
    let later = bad_later l.in_setup l.here c.in-Some.item left c.in_ok-is_bad-in-Some.field-0 c.in_ok-is_bad-in-Some.ensures.bad c.if-branch.false in
    record {
      sound = rw c.in-Some.is at c.in_ok-take.ensures.sound;
      run =
          l.invariant.run ∙ ap (bad_from l.in_setup l.here) taken ∙ later
          ∙ ap (λ k. bad_from k (l.here + 1) left) (sym c.is_bad.ensures.setup)
          ∙ ap (λ k. bad_from c.is_bad.new.in_setup k left) (sym c.in_ok-here-in-Some.ensures);
    }
