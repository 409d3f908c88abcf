use Rattle.std.proofs.Common.{◌≡◌, ◌-◌, ◌++◌, ◌∷◌, [], List, length, take, drop, reverse, append_assoc, length-append, length-drop, sym, ap, subst, ◌∙◌, arith}
use Rattle.std.specs.Prelude.{vec_len}
use Rattle.std.specs.List.Sorted.{IsNonDecreasingBy}
use Rattle.std.proofs.lemmas.List.{length-take-le, length-reverse}
use Rattle.std.proofs.lemmas.List.Sorted.{IsNonDecreasingBy-take}
use Rattle.notices.specs.declared.notice.Notice.{Notice}
use Rattle.notices.specs.InOrder.{all_put}
use Rattle.notices.specs.Places.{IsCut}
use Rattle.notices.proofs.Merged.{upto_take, after_drop, upto_last, last_goes, turned}
use Rattle.notices.proofs.merging.merge.Goals as goal

pub loop-notice-preserved : goal.loop-notice-preserved
loop-notice-preserved c =
    let number = λ (n : Notice). n.id in
    let one = c.in-Some.notice in
    let old = c.loop-notice.notices.items in
    let into = c.loop-notice.into.items in
    let rest = c.pop.new.self.items in
    let at = c.later_from-at.result in
    let inv = c.loop-notice.invariant in
    let cut : IsCut number one.id old at = subst (λ (ns : List Notice). IsCut number one.id ns at) c.deref.ensures.value c.later_from-at.ensures in
    let last : c.loop-notice.more.items ≡ rest ++ one ∷ [] = c.in-Some.ensures.items in
    let goes = last_goes number old rest one at (upto_take number one.id old at cut.within cut.low) (after_drop number one.id old at cut.high) (upto_last number rest c.loop-notice.more.items one last inv.more) in
    record {
      order = subst (IsNonDecreasingBy number) (sym c.move_from.ensures.kept) (IsNonDecreasingBy-take number at old inv.order);
      more = subst (IsNonDecreasingBy number) (sym c.pop.ensures.rest) (IsNonDecreasingBy-take number (vec_len c.loop-notice.more - 1) c.loop-notice.more.items inv.more);
      room =
          let a = ap length c.move_from.ensures.kept ∙ length-take-le at old cut.within in
          let b = ap length c.move_from.ensures.moved ∙ length-append into (reverse (drop at old)) in
          let d = length-reverse (drop at old) in
          let e = length-drop at old in
          omega (arith, a, b, d, e, inv.room, cut.within, c.in-Some.ensures.len, c.push_reserved.ensures.len, c.push_reserved.ensures.capacity, c.move_from.ensures.capacity, c.move_from.new.notices.ok.0, c.move_from.new.into.ok.0, c.loop-notice.notices.ok.0, c.loop-notice.into.ok.0);
      merged =
          (λ i. all_put number (c.move_from.ensures.kept i) rest ++ reverse ((c.push_reserved.ensures.items ∙ ap (λ (ns : List Notice). ns ++ one ∷ []) c.move_from.ensures.moved) i))
          ∙ ap (λ (ns : List Notice). all_put number (take at old) rest ++ ns) (turned into (drop at old) one)
          ∙ sym (append_assoc (all_put number (take at old) rest) (one ∷ drop at old) (reverse into))
          ∙ ap (λ (ns : List Notice). ns ++ reverse into) (sym goes ∙ ap (all_put number old) (sym last))
          ∙ inv.merged;
    }
